-- The fold, lookups and the listing ask neither for the form of a head nor for places: they are the same for entries without them.
use Rattle.std.specs.Prelude.{◌≡◌, refl, Bool, true, false, ◌&&◌, List, [], ◌∷◌, ◌++◌, map, ℕ, eqb, length}
use Rattle.std.proofs.Common.{sym, ap₂, ◌∙◌}
use Rattle.std.proofs.Math.Path.{ap}
use Rattle.std.proofs.Math.Bool.{not}
use Rattle.std.proofs.Math.Option.{Option, none, some, some-ne-none}
use Rattle.std.proofs.lemmas.List.{length-map}
use Rattle.integers.specs.Decimal.{decimal}
use Rattle.integers.specs.First.{first_given}
use Rattle.lattices.specs.Greedy.{reduction}
use Rattle.text_layout.specs.Fields.{line}
use Rattle.catalogue_rules.specs.Catalogue.{See, Entry, see_number}
use Rattle.catalogue_rules.specs.Read.{is_numbered}
use Rattle.catalogue_rules.specs.Form.{see_at}
use Rattle.catalogue_rules.specs.Moving.{bare}
use Rattle.fold_rules.specs.Fold.{reduced_of, same_lattice, first_entry, Stood, first_by, standing_by, standing, stood_of, closed_list, stands, standing_in, lookup, unless_own, followed, leads, leads_from, or_else, carried, printed, printed_in}
use Rattle.fold_rules.specs.Listing.{vectors_shown, entry_lines, catalogue_lines}

abbrev pub bare_stood : Stood → Stood
bare_stood s = record { entry = bare s.entry; first = bare s.first; standing = bare s.standing }

-- ---- the standing entry

first_alike : (has hasBare : Entry → Bool) → ((e : Entry) → hasBare (bare e) ≡ has e) → (o : Entry) (es : List Entry) → first_entry hasBare (bare o) (map bare es) ≡ bare (first_entry has o es)
first_alike has hasBare same o [] = refl
first_alike has hasBare same o (e ∷ es) =
    ap₂ (λ (t : Bool) r. elim t [ true ↦ bare e | false ↦ r ]) (same e) (first_alike has hasBare same o es) ∙ go (has e)
  where
    go : (t : Bool) → elim t [ true ↦ bare e | false ↦ bare (first_entry has o es) ] ≡ bare (elim t [ true ↦ e | false ↦ first_entry has o es ])
    go true = refl
    go false = refl

same_alike : (e f : Entry) → same_lattice (bare f) (bare e) ≡ same_lattice f e
unfolding same_lattice
same_alike e f = refl

module _ (es : List Entry) (e : Entry) where
  first-of : first_by same_lattice (map bare es) (bare e) ≡ bare (first_by same_lattice es e)
  unfolding first_by
  first-of = first_alike (λ f. same_lattice f e) (λ f. same_lattice f (bare e)) (same_alike e) e es

  standing-alike : standing (map bare es) (bare e) ≡ bare (standing es e)
  unfolding standing_by
  standing-alike =
      ap (λ o. first_entry (λ f. same_lattice f (bare e) && not f.draft) o (map bare es)) first-of
      ∙ first_alike (λ f. same_lattice f e && not f.draft) (λ f. same_lattice f (bare e) && not f.draft) (λ f. ap (λ t. t && not f.draft) (same_alike e f)) (first_by same_lattice es e) es

  stood-alike : stood_of (map bare es) (bare e) ≡ bare_stood (stood_of es e)
  stood-alike = ap₂ (λ f s. record { entry = bare e; first = f; standing = s }) first-of standing-alike

closed-alike : (all es : List Entry) → map (stood_of (map bare all)) (map bare es) ≡ map bare_stood (map (stood_of all) es)
closed-alike all [] = refl
closed-alike all (e ∷ es) = ap₂ ◌∷◌ (stood-alike all e) (closed-alike all es)

pub closed-bare : (es : List Entry) → closed_list (map bare es) ≡ map bare_stood (closed_list es)
closed-bare es = closed-alike es es

standing_in_alike : (ss : List Stood) → standing_in (map bare_stood ss) ≡ map bare_stood (standing_in ss)
standing_in_alike [] = refl
standing_in_alike (s ∷ ss) = ap (λ l. elim (stands s) [ true ↦ bare_stood s ∷ l | false ↦ l ]) (standing_in_alike ss) ∙ go (stands s)
  where
    go : (t : Bool) → elim t as (λ t. List Stood) [ true ↦ bare_stood s ∷ map bare_stood (standing_in ss) | false ↦ map bare_stood (standing_in ss) ]
        ≡ map bare_stood (elim t as (λ t. List Stood) [ true ↦ s ∷ standing_in ss | false ↦ standing_in ss ])
    go true = refl
    go false = refl

pub lookup-alike : (ss : List Stood) (n : ℕ) → lookup (map bare_stood ss) n ≡ lookup ss n
lookup-alike [] n = refl
lookup-alike (s ∷ ss) n = ap (λ o. elim (is_numbered n s.entry) [ true ↦ some s.standing.head.number | false ↦ o ]) (lookup-alike ss n)

-- ---- see words

unless-alike : (b : Bool) (w v : See) (there : ℕ) → see_at 0 (unless_own b w there) ≡ see_at 0 (unless_own b v there)
unless-alike true w v there = refl
unless-alike false w v there = refl

module _ (ss : List Stood) where
  followed-alike : (own : ℕ) (o : Option See) → see_at 0 (followed (map bare_stood ss) own (see_at 0 o)) ≡ see_at 0 (followed ss own o)
  followed-alike own none = refl
  followed-alike own (some w) =
      ap (λ o. see_at 0 (elim o [ none ↦ none | some there ↦ unless_own (eqb there own) (record { number = w.number; place = 0 }) there ])) (lookup-alike ss w.number) ∙ go (lookup ss w.number)
    where
      go : (o : Option ℕ) → see_at 0 (elim o [ none ↦ none | some there ↦ unless_own (eqb there own) (record { number = w.number; place = 0 }) there ])
          ≡ see_at 0 (elim o [ none ↦ none | some there ↦ unless_own (eqb there own) w there ])
      go none = refl
      go (some there) = unless-alike (eqb there own) (record { number = w.number; place = 0 }) w there

  leads-alike : (s : Stood) → see_at 0 (leads (map bare_stood ss) (bare_stood s)) ≡ see_at 0 (leads ss s)
  leads-alike s = followed-alike s.standing.head.number s.entry.see

  from-alike : (own : ℕ) (s : Stood) → see_at 0 (leads_from (map bare_stood ss) own (bare_stood s)) ≡ see_at 0 (leads_from ss own s)
  from-alike own s = go (eqb s.standing.head.number own)
    where
      go : (t : Bool) → see_at 0 (elim t [ true ↦ leads (map bare_stood ss) (bare_stood s) | false ↦ none ]) ≡ see_at 0 (elim t [ true ↦ leads ss s | false ↦ none ])
      go true = leads-alike s
      go false = refl

-- the first that is given, of two functions that give alike
given-alike : (f g : Stood → Option See) → ((s : Stood) → see_at 0 (f (bare_stood s)) ≡ see_at 0 (g s)) → (ss : List Stood) → see_at 0 (first_given f (map bare_stood ss)) ≡ see_at 0 (first_given g ss)
given-alike f g same [] = refl
given-alike f g same (s ∷ ss) = or-alike (f (bare_stood s)) (g s) (same s) (first_given f (map bare_stood ss)) (first_given g ss) (given-alike f g same ss)
  where
    or-alike : (o p : Option See) → see_at 0 o ≡ see_at 0 p → (x y : Option See) → see_at 0 x ≡ see_at 0 y
        → see_at 0 (elim o [ some q ↦ some q | none ↦ x ]) ≡ see_at 0 (elim p [ some q ↦ some q | none ↦ y ])
    or-alike none none e x y h = h
    or-alike (some a) (some b) e x y h = e
    or-alike none (some b) e x y h = absurd (some-ne-none _ (sym e))
    or-alike (some a) none e x y h = absurd (some-ne-none _ e)

or_else_alike : (o p : Option See) → see_at 0 o ≡ see_at 0 p → (x y : Option See) → see_at 0 x ≡ see_at 0 y → see_at 0 (or_else o x) ≡ see_at 0 (or_else p y)
or_else_alike none none e x y h = h
or_else_alike (some a) (some b) e x y h = e
or_else_alike none (some b) e x y h = absurd (some-ne-none _ (sym e))
or_else_alike (some a) none e x y h = absurd (some-ne-none _ e)

carried-alike : (ss : List Stood) (s : Stood) → see_at 0 (carried (map bare_stood ss) (bare_stood s)) ≡ see_at 0 (carried ss s)
carried-alike ss s =
    let own = s.entry.head.number in
    or_else_alike (leads (map bare_stood ss) (bare_stood s)) (leads ss s) (leads-alike ss s) _ _
    (given-alike (leads_from (map bare_stood ss) own) (leads_from ss own) (from-alike ss own) ss)

-- ---- the folded catalogue

printed-alike : (all ss : List Stood) → map bare (map (printed (map bare_stood all)) (map bare_stood ss)) ≡ map bare (map (printed all) ss)
printed-alike all [] = refl
printed-alike all (s ∷ ss) =
    ap₂ (λ o l. record { head = (bare s.entry).head; vectors = reduced_of s.entry; draft = s.entry.draft; see = o } ∷ l) (carried-alike all s) (printed-alike all ss)

pub printed-bare : (es : List Entry) → map bare (printed_in (closed_list (map bare es))) ≡ map bare (printed_in (closed_list es))
printed-bare es =
    let ss = closed_list es in
    ap (λ l. map bare (printed_in l)) (closed-bare es)
    ∙ ap (λ l. map bare (map (printed (map bare_stood ss)) l)) (standing_in_alike ss)
    ∙ printed-alike ss (standing_in ss)

-- ---- the listing

see-number : (o p : Option See) → see_at 0 o ≡ see_at 0 p → see_number o ≡ see_number p
see-number none none e = refl
see-number (some a) (some b) e = ap see_number e
see-number none (some b) e = absurd (some-ne-none _ (sym e))
see-number (some a) none e = absurd (some-ne-none _ e)

lines_alike : (all ss : List Stood) → entry_lines (map bare_stood all) (map bare_stood ss) ≡ entry_lines all ss
lines_alike all [] = refl
lines_alike all (s ∷ ss) =
    ap₂ (λ n l. line (decimal s.entry.head.number) (decimal s.standing.head.number ∷ decimal n ∷ decimal (reduction s.entry.vectors).passes ∷ []) ++ (vectors_shown s ++ l))
    (see-number (leads (map bare_stood all) (bare_stood s)) (leads all s) (leads-alike all s)) (lines_alike all ss)

pub lines_bare : (es : List Entry) → catalogue_lines (closed_list (map bare es)) ≡ catalogue_lines (closed_list es)
lines_bare es =
    let ss = closed_list es in
    let few : length (standing_in (map bare_stood ss)) ≡ length (standing_in ss) = ap length (standing_in_alike ss) ∙ length-map (standing_in ss) bare_stood in
    ap catalogue_lines (closed-bare es)
    ∙ (λ i. line (decimal (length-map ss bare_stood i)) (decimal (few i) ∷ []) ++ lines_alike ss ss i)

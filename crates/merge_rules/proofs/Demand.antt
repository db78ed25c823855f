-- Demand 3 for merges: `Merges` (Meaning.antt) holds of every sequence of calls. The statement for every service is `every_service`
-- (promises/specs/Demand.antt).
use Rattle.std.specs.Prelude.{◌≡◌, refl, ◌≢◌, Bool, ◌||◌, List, [], ◌∷◌, map, ℕ}
use Rattle.std.proofs.Common.{sym, ap₂, ◌∙◌, subst, inl, inr, eq-eqb, ne_eqb}
use Rattle.std.proofs.Math.Path.{ap}
use Rattle.std.proofs.Math.Bool.{true, false}
use Rattle.std.proofs.Math.Option.{Option, none, some}
use Rattle.integers.specs.All.{All, Some}
use Rattle.integers.specs.AllLaws.{all_imp, all_map, some-map}
use Rattle.integers.specs.Every.{any}
use Rattle.integers.specs.First.{first_given}
use Rattle.catalogue_rules.specs.Catalogue.{new, See, Entry, Outcome, refused, accepted}
use Rattle.catalogue_rules.specs.Read.{lost_at, read}
use Rattle.catalogue_rules.specs.Form.{WellFormed, placed}
use Rattle.catalogue_rules.proofs.Laws.Moving.{bare-placed}
use Rattle.catalogue_rules.proofs.Laws.ReadBack.{read-written}
use Rattle.fold_rules.specs.Fold.{same_lattice, standing, closed_list, lookup}
use Rattle.fold_rules.specs.Services.{looked_up, lookup_of}
use Rattle.fold_rules.specs.Meaning.{Among, Sees}
use Rattle.fold_rules.proofs.Demand.{accepted-lookup, fold_theorem, lookup_theorem}
use Rattle.fold_rules.proofs.Laws.Alike.{closed-bare, lookup-alike}
use Rattle.fold_rules.proofs.Laws.First.{all_self}
use Rattle.fold_rules.proofs.Laws.FoldedForm.{folded-forms}
use Rattle.fold_rules.proofs.Laws.Lookup.{unused, lookup-finds, lookup_misses}
use Rattle.separation_rules.proofs.Demand.{separation_theorem}
use Rattle.merge_rules.specs.Addition.{addition}
use Rattle.merge_rules.specs.Merge as rules
use Rattle.merge_rules.specs.Merge.{Merge, start, file_of, Said, Answer, done, refused_at, provisional, final, not_yet, said, added, add_to, without_see, named_by, missing, looked_open, finally, look_in, closing, close_of, Call, add, look, close, call}
use Rattle.merge_rules.specs.Meaning.{aside_file, Provisional, Final, Merges}
use Rattle.merge_rules.proofs.Laws.Aside.{formed-aside}
use Rattle.merge_rules.proofs.Laws.Kept.{Kept, every_merge, closed-file}
use Rattle.merge_rules.proofs.Laws.File.{merge-file}

-- ---- see words

named_by-sees : (e : Entry) (n : ℕ) → Sees e n → named_by n e.see ≡ true
named_by-sees e n s = ap (named_by n) s.carried ∙ eq-eqb _ _ s.number

named_some : (n : ℕ) (es : List Entry) → Some (λ e. Sees e n) es → any (λ e. named_by n e.see) es ≡ true
named_some n [] s = absurd s
named_some n (e ∷ es) (inl s) = ap (λ t. t || any (λ e. named_by n e.see) es) (named_by-sees e n s)
named_some n (e ∷ es) (inr s) = ap (λ t. named_by n e.see || t) (named_some n es s) ∙ or_true (named_by n e.see)
  where
    or_true : (b : Bool) → (b || true) ≡ true
    or_true true = refl
    or_true false = refl

named_by-none : (e : Entry) (n : ℕ) → ¬ Sees e n → named_by n e.see ≡ false
named_by-none e n h = go e.see refl
  where
    go : (o : Option See) → e.see ≡ o → named_by n o ≡ false
    go none q = refl
    go (some w) q = ne_eqb w.number n (λ r. h (record { word = w; carried = q; number = r }))

named_none : (n : ℕ) (es : List Entry) → All (λ e. ¬ Sees e n) es → any (λ e. named_by n e.see) es ≡ false
named_none n [] h = refl
named_none n (e ∷ es) h = ap₂ ◌||◌ (named_by-none e n h.0) (named_none n es h.1)

-- ---- an open merge

-- where the words stand is not asked for
lookup-placed : (es : List Entry) (n : ℕ) → lookup (closed_list (placed 0 es)) n ≡ lookup (closed_list es) n
lookup-placed es n =
    sym (lookup-alike (closed_list (placed 0 es)) n)
    ∙ ap (λ l. lookup l n) (sym (closed-bare (placed 0 es)) ∙ ap closed_list (bare-placed 0 es) ∙ closed-bare es)
    ∙ lookup-alike (closed_list es) n

module _ (M : Merge) (k : Kept M) where
  abbrev aside : List Entry
  aside = map without_see M.entries

  formed : WellFormed aside
  formed = formed-aside M.entries k.entered k.independent

  aside-read : read (aside_file M) ≡ accepted (placed 0 aside)
  aside-read = read-written aside formed

  looked-aside : (n : ℕ) → lookup_of (aside_file M) n ≡ looked_up (lookup (closed_list aside) n)
  looked-aside n = accepted-lookup (aside_file M) (placed 0 aside) aside-read n ∙ ap looked_up (lookup-placed aside n)

  module _ (e : M.closed ≡ false) where
    looks : (n : ℕ) → look_in M n ≡ looked_open M.entries n
    unfolding look_in
    looks n = ap (λ b. elim b as (λ b. Answer) [ true ↦ finally (lookup_of (file_of M) n) | false ↦ looked_open M.entries n ]) e

    found : (f : Entry) → Among f M.entries → look_in M f.head.number ≡ provisional (lookup_of (aside_file M) f.head.number).standing
    found f a =
        let n = f.head.number in
        let there : lookup (closed_list aside) n ≡ some (standing aside (without_see f)).head.number =
        lookup-finds same_lattice aside aside formed.entered.distinct (without_see f) (some-map (λ g. g ≡ without_see f) without_see M.entries (among-aside M.entries a)) in
        looks n
        ∙ ap (λ o. elim o as (λ o. Answer) [ some s ↦ provisional s | none ↦ missing M.entries n ]) there
        ∙ ap provisional (sym (ap (λ r. r.standing) (looked-aside n ∙ ap looked_up there)))
      where
        among-aside : (es : List Entry) → Among f es → Some (λ g. without_see g ≡ without_see f) es
        among-aside [] a = a
        among-aside (g ∷ es) (inl q) = inl (ap without_see q)
        among-aside (g ∷ es) (inr q) = inr (among-aside es q)

    lost : (n : ℕ) → All (λ e. e.head.number ≢ n) M.entries → look_in M n ≡ missing M.entries n
    lost n h =
        looks n
        ∙ ap (λ o. elim o as (λ o. Answer) [ some s ↦ provisional s | none ↦ missing M.entries n ])
        (lookup_misses same_lattice aside aside n (unused n aside (all_map (λ e. e.head.number ≢ n) without_see M.entries h)))

    pub open_theorem : Provisional M
    open_theorem = record {
      aside = lookup_theorem (aside_file M) (placed 0 aside) aside-read;
      entries = all_imp found M.entries (all_self M.entries);
      named = λ n h s. lost n h ∙ ap (λ b. elim b as (λ b. Answer) [ true ↦ not_yet | false ↦ refused_at 17 0 ]) (named_some n M.entries s);
      others = λ n h s. lost n h ∙ ap (λ b. elim b as (λ b. Answer) [ true ↦ not_yet | false ↦ refused_at 17 0 ]) (named_none n M.entries s);
    }

  -- ---- a closed merge

  module _ (e : M.closed ≡ true) where
    file : read (file_of M) ≡ accepted M.entries
    file = closed-file k e

    answers : (n : ℕ) → look_in M n ≡ finally (lookup_of (file_of M) n)
    unfolding look_in
    answers n = ap (λ b. elim b as (λ b. Answer) [ true ↦ finally (lookup_of (file_of M) n) | false ↦ looked_open M.entries n ]) e

    no-addition : (bytes : List ℕ) → add_to M bytes ≡ said M (refused_at 21 0)
    unfolding add_to
    no-addition bytes = ap (λ b. elim b as (λ b. Said) [ true ↦ said M (refused_at 21 0) | false ↦ added M (addition M.entries bytes) ]) e

    no-closing : close_of M ≡ said M (refused_at 21 0)
    unfolding close_of
    no-closing = ap (λ b. elim b as (λ b. Said) [ true ↦ said M (refused_at 21 0) | false ↦ closing M (first_given (lost_at M.entries) M.entries) ]) e

    pub closed_theorem : Final M
    closed_theorem = record {
      accepted = file;
      folds = fold_theorem (file_of M) M.entries file;
      new-form = folded-forms M.entries new k.new;
      looks-up = lookup_theorem (file_of M) M.entries file;
      separates = separation_theorem (file_of M) M.entries file;
      answers = answers;
      no-addition = no-addition;
      no-closing = no-closing;
    }

-- ---- refused calls

-- what an answer of a call says of the merge handed back
Stays : Merge → Said → Type 0
Stays M r = (n p : ℕ) → r.answer ≡ refused_at n p → r.merge ≡ M

done-not : {A : Type 0} (n p : ℕ) → done ≡ refused_at n p → A
done-not n p e = absurd (subst (λ a. elim a as (λ a. Type 0) [ done ↦ Unit {0} | refused_at n p ↦ ⊥ | provisional s ↦ ⊥ | final s ↦ ⊥ | not_yet ↦ ⊥ ]) e tt)

add-stays : (M : Merge) (bytes : List ℕ) → Stays M (add_to M bytes)
unfolding add_to Stays
add-stays M bytes = go M.closed (addition M.entries bytes)
  where
    go : (b : Bool) (o : Outcome) → (n p : ℕ) → (elim b as (λ b. Said) [ true ↦ said M (refused_at 21 0) | false ↦ added M o ]).answer ≡ refused_at n p
        → (elim b as (λ b. Said) [ true ↦ said M (refused_at 21 0) | false ↦ added M o ]).merge ≡ M
    go true o n p e = refl
    go false (refused k q) n p e = refl
    go false (accepted es) n p e = done-not n p e

close-stays : (M : Merge) → Stays M (close_of M)
unfolding close_of Stays
close-stays M = go M.closed (first_given (lost_at M.entries) M.entries)
  where
    go : (b : Bool) (o : Option ℕ) → (n p : ℕ) → (elim b as (λ b. Said) [ true ↦ said M (refused_at 21 0) | false ↦ closing M o ]).answer ≡ refused_at n p
        → (elim b as (λ b. Said) [ true ↦ said M (refused_at 21 0) | false ↦ closing M o ]).merge ≡ M
    go true o n p e = refl
    go false (some q) n p e = refl
    go false none n p e = done-not n p e

refused-stays : (M : Merge) (c : Call) (n p : ℕ) → (call M c).answer ≡ refused_at n p → (call M c).merge ≡ M
unfolding Stays
refused-stays M (add bytes) n p e = add-stays M bytes n p e
refused-stays M (look k) n p e = refl
refused-stays M close n p e = close-stays M n p e

-- ---- the theorem

pub merge_theorem : (cs : List Call) → Merges cs
merge_theorem cs =
    let M = rules.after start cs in
    let k : Kept M = every_merge (record { calls = cs; by-calls = refl }) in
    record {
      file = merge-file cs;
      refused = refused-stays M;
      looked = λ n. refl;
      while_open = open_theorem M k;
      once_closed = closed_theorem M k;
    }

-- A folded catalogue is well formed, so it is accepted, and reading gives back the entries that were written.
use Rattle.std.specs.Prelude.{◌≡◌, refl, Bool, true, false, ◌||◌, List, [], ◌∷◌, map, ℕ, ◌≤◌, eqb, length}
use Rattle.std.proofs.Common.{sym, ap, ap₂, ◌∙◌, subst, inl, inr, true≢false, arith, eq-eqb}
use Rattle.std.proofs.Math.Option.{Option, none, some}
use Rattle.integers.specs.All.{All}
use Rattle.integers.specs.AllLaws.{all_imp, all_map}
use Rattle.integers.specs.FirstLaws.{given-has}
use Rattle.integers.specs.Order.{<ℤ-le_z}
use Rattle.integers.specs.Tests.{neither}
use Rattle.lattices.specs.Vector.{Vec}
use Rattle.lattices.specs.Volume.{is_dependent}
use Rattle.integers.specs.Every.{any}
use Rattle.lattices.specs.Refusal.{too_long}
use Rattle.greedy_reduction.specs.Start.{Coordinates}
use Rattle.greedy_reduction.specs.Lattice.{reduction-volume}
use Rattle.greedy_reduction.specs.Promise.{reduced-short}
use Rattle.catalogue_rules.specs.Catalogue.{Form, new, See, Entry, accepted, most_bytes}
use Rattle.catalogue_rules.specs.Read.{is_numbered, read}
use Rattle.catalogue_rules.specs.Write.{write}
use Rattle.catalogue_rules.specs.Form.{VectorFits, Distinct, Names, WellFormed}
use Rattle.catalogue_rules.proofs.Laws.Placed.{write-placed, all_placed}
use Rattle.catalogue_rules.proofs.Laws.WrittenSize.{length-written}
use Rattle.catalogue_rules.proofs.Laws.Opening.{bytes-room}
use Rattle.catalogue_rules.proofs.Laws.ReadBack.{read-written}
use Rattle.fold_rules.specs.Fold.{reduced_of, same_lattice, standing, Stood, stood_of, closed_list, stands, standing_in, unless_own, led, followed, leads, leads_from, or_else, carried, printed, printed_in, folded}
use Rattle.fold_rules.proofs.Laws.SameLattice.{Sound, sound-entries, entry-basis, entry-count, entry-full, one-lattice}
use Rattle.fold_rules.specs.Meaning.{Among}
use Rattle.fold_rules.proofs.Laws.Standing.{standing-among, standing-twice, stands-itself}
use Rattle.fold_rules.proofs.Laws.Lookup.{numbered}
use Rattle.fold_rules.proofs.Laws.See.{followed-to}

-- ---- an entry printed

vectors-fit : (m : ℕ) (vs : List Vec) → Coordinates m vs → All (λ v. too_long v ≡ false) vs → All (VectorFits m) vs
vectors-fit m [] c p = tt
vectors-fit m (v ∷ vs) c p = (record { full = c.0; short = p.0 }, vectors-fit m vs c.1 p.1)

-- an entry with its reduced vectors
abbrev pub reduced_entry : Entry → Option See → Entry
reduced_entry e o = record { head = e.head; vectors = reduced_of e; draft = e.draft; see = o }

pub reduced-sound : (e : Entry) → Sound e → (o : Option See) → Sound (reduced_entry e o)
unfolding is_dependent
reduced-sound e s o =
    let B = entry-basis e s in
    record {
      fits = record {
        head = s.fits.head;
        count = entry-count e s ∙ s.fits.count;
        vectors = vectors-fit e.head.m (reduced_of e) (entry-full e s) (reduced-short e.head.m e.vectors B);
      };
      independent = <ℤ-le_z (reduction-volume e.head.m e.vectors B.full B.some B.four B.volume);
    }

or_true : (a : Bool) {b : Bool} → b ≡ true → a || b ≡ true
or_true true e = refl
or_true false e = e

-- ---- the entries printed, of the entries es of the file `all`

module _ (all : List Entry) where
  abbrev ss : List Stood
  ss = closed_list all

  abbrev shown : List Entry → List Entry
  shown es = map (printed ss) (standing_in (map (stood_of all) es))

  -- the same question for a whole list and for the standing entries of it
  pub shown_ind : (P : List Entry → List Entry → Type 0) → P [] []
      → ((e : Entry) (es gs : List Entry) → stands (stood_of all e) ≡ true → P es gs → P (e ∷ es) (printed ss (stood_of all e) ∷ gs))
      → ((e : Entry) (es gs : List Entry) → stands (stood_of all e) ≡ false → P es gs → P (e ∷ es) gs)
      → (es : List Entry) → P es (shown es)
  shown_ind P n f g [] = n
  shown_ind P n f g (e ∷ es) = go (stands (stood_of all e)) refl (shown_ind P n f g es)
    where
      go : (b : Bool) → stands (stood_of all e) ≡ b → P es (shown es)
          → P (e ∷ es) (map (printed ss) (elim b as (λ b. List Stood) [ true ↦ stood_of all e ∷ standing_in (map (stood_of all) es) | false ↦ standing_in (map (stood_of all) es) ]))
      go true q r = f e es (shown es) q r
      go false q r = g e es (shown es) q r

  shown-few : (es : List Entry) → length (shown es) ≤ length es
  shown-few = shown_ind (λ es gs. length gs ≤ length es) (omega arith) (λ e es gs q h. omega arith) (λ e es gs q h. omega arith)

  shown-sound : (es : List Entry) → All Sound es → All Sound (shown es)
  shown-sound = shown_ind (λ es gs. All Sound es → All Sound gs) (λ p. tt) (λ e es gs q h p. (reduced-sound e p.0 _, h p.1)) (λ e es gs q h p. h p.1)

  shown-forms : (f : Form) (es : List Entry) → All (λ e. e.head.form ≡ f) es → All (λ e. e.head.form ≡ f) (shown es)
  shown-forms f = shown_ind (λ es gs. All (λ e. e.head.form ≡ f) es → All (λ e. e.head.form ≡ f) gs) (λ p. tt) (λ e es gs q h p. (p.0, h p.1)) (λ e es gs q h p. h p.1)

  shown-numbers : (n : ℕ) (es : List Entry) → All (λ e. e.head.number ≤ n) es → All (λ e. e.head.number ≤ n) (shown es)
  shown-numbers n = shown_ind (λ es gs. All (λ e. e.head.number ≤ n) es → All (λ e. e.head.number ≤ n) gs) (λ p. tt) (λ e es gs q h p. (p.0, h p.1)) (λ e es gs q h p. h p.1)

  -- numbers: none is new, none comes twice, and that of an entry that stands is there
  shown-distinct : (es : List Entry) → ((n : ℕ) → any (is_numbered n) es ≡ false → any (is_numbered n) (shown es) ≡ false) × (Distinct es → Distinct (shown es))
  shown-distinct = shown_ind (λ es gs. ((n : ℕ) → any (is_numbered n) es ≡ false → any (is_numbered n) gs ≡ false) × (Distinct es → Distinct gs)) (λ n h. h, λ d. d)
      (λ e es gs q h. (
        (λ n p. let r = neither (is_numbered n e) (any (is_numbered n) es) p in ap₂ ◌||◌ r.0 (h.0 n r.1)),
        (λ d. (h.0 e.head.number d.0, h.1 d.1)),
      ))
      (λ e es gs q h. ((λ n p. h.0 n (neither (is_numbered n e) (any (is_numbered n) es) p).1), (λ d. h.1 d.1)))

  shown-numbered : (es : List Entry) (f : Entry) → Among f es → stands (stood_of all f) ≡ true → any (is_numbered f.head.number) (shown es) ≡ true
  shown-numbered = shown_ind (λ es gs. (f : Entry) → Among f es → stands (stood_of all f) ≡ true → any (is_numbered f.head.number) gs ≡ true) (λ f a t. absurd a) printing passing
    where
      printing : (e : Entry) (es gs : List Entry) → stands (stood_of all e) ≡ true → ((f : Entry) → Among f es → stands (stood_of all f) ≡ true → any (is_numbered f.head.number) gs ≡ true)
          → (f : Entry) → Among f (e ∷ es) → stands (stood_of all f) ≡ true → any (is_numbered f.head.number) (printed ss (stood_of all e) ∷ gs) ≡ true
      printing e es gs q h f (inl r) t = ap (λ b. b || any (is_numbered f.head.number) gs) (eq-eqb _ _ (ap (λ x. x.head.number) r))
      printing e es gs q h f (inr a) t = or_true (is_numbered f.head.number e) (h f a t)

      passing : (e : Entry) (es gs : List Entry) → stands (stood_of all e) ≡ false → ((f : Entry) → Among f es → stands (stood_of all f) ≡ true → any (is_numbered f.head.number) gs ≡ true)
          → (f : Entry) → Among f (e ∷ es) → stands (stood_of all f) ≡ true → any (is_numbered f.head.number) gs ≡ true
      passing e es gs q h f (inl r) t = absurd (true≢false (sym t ∙ ap (λ x. stands (stood_of all x)) (sym r) ∙ q))
      passing e es gs q h f (inr a) t = h f a t

  module _ (w : WellFormed all) where
    sound : All Sound all
    sound = sound-entries all w

    -- the standing entry of every entry is printed
    pub standing-printed : (e : Entry) → Among e all → any (is_numbered (standing all e).head.number) (printed_in ss) ≡ true
    standing-printed e a = shown-numbered all (standing all e) (standing-among one-lattice all sound e a) (stands-itself one-lattice all sound (standing all e) (standing-twice one-lattice all sound e a))

    -- so a see word that is printed names an entry that is printed
    led_names : (own : ℕ) (v : See) (there : ℕ) → any (is_numbered there) (printed_in ss) ≡ true → Names (printed_in ss) (led own v there)
    led_names own v there h = go (eqb there own)
      where
        go : (b : Bool) → Names (printed_in ss) (unless_own b v there)
        go true = tt
        go false = h

    followed_names : (own : ℕ) (o : Option See) → Names all o → Names (printed_in ss) (followed ss own o)
    followed_names own none n = tt
    followed_names own (some v) n =
        let f = numbered v.number all n in
        subst (Names (printed_in ss)) (sym (followed-to same_lattice all w.entered.distinct own v f.entry f.among f.number))
        (led_names own v (standing all f.entry).head.number (standing-printed f.entry f.among))

    leads-from_names : (own : ℕ) (e : Entry) → Names all e.see → Names (printed_in ss) (leads_from ss own (stood_of all e))
    leads-from_names own e n = go (eqb (standing all e).head.number own)
      where
        go : (b : Bool) → Names (printed_in ss) (elim b as (λ b. Option See) [ true ↦ leads ss (stood_of all e) | false ↦ none ])
        go true = followed_names (standing all e).head.number e.see n
        go false = tt

    or_names : (o p : Option See) → Names (printed_in ss) o → Names (printed_in ss) p → Names (printed_in ss) (or_else o p)
    or_names none p n m = m
    or_names (some w) p n m = n

    carried_names : (e : Entry) → Names all e.see → Names (printed_in ss) (carried ss (stood_of all e))
    carried_names e own = or_names (leads ss (stood_of all e)) _ (followed_names (standing all e).head.number e.see own) (given-has (leads_from ss e.head.number) (Names (printed_in ss)) tt ss
        (all_map (λ s. Names (printed_in ss) (leads_from ss e.head.number s)) (stood_of all) all (all_imp (leads-from_names e.head.number) all w.named)))

    shown_names : (es : List Entry) → All (λ e. Names all e.see) es → All (λ e. Names (printed_in ss) e.see) (shown es)
    shown_names = shown_ind (λ es gs. All (λ e. Names all e.see) es → All (λ e. Names (printed_in ss) e.see) gs) (λ p. tt) (λ e es gs q h p. (carried_names e p.0, h p.1))
        (λ e es gs q h p. h p.1)

    pub prints-form : WellFormed (printed_in ss)
    prints-form =
        let s = shown-sound all sound in
        record {
          entered = record {
            one = record { form = w.entered.one.form; heads = shown-forms w.entered.one.form all w.entered.one.heads };
            few = omega (arith, shown-few all, w.entered.few);
            fits = all_imp (λ e p. p.fits) (printed_in ss) s;
            distinct = (shown-distinct all).1 w.entered.distinct;
          };
          independent = all_imp (λ e p. p.independent) (printed_in ss) s;
          named = shown_names all w.named;
        }

-- writing asks for no places
pub folded-written : (es : List Entry) → write (folded es) ≡ write (printed_in (closed_list es))
unfolding folded
folded-written es = write-placed 0 (printed_in (closed_list es))

-- the form of the heads is that of the file, and no number is larger
pub printed-forms : (es : List Entry) (f : Form) → All (λ e. e.head.form ≡ f) es → All (λ e. e.head.form ≡ f) (printed_in (closed_list es))
printed-forms es f p = shown-forms es f es p

pub folded-forms : (es : List Entry) (f : Form) → All (λ e. e.head.form ≡ f) es → All (λ e. e.head.form ≡ f) (folded es)
unfolding folded
folded-forms es f p = all_placed (λ e. e.head.form ≡ f) (λ e. e.head.form ≡ f) (λ i e h. h) 0 (printed_in (closed_list es)) (printed-forms es f p)

pub folded-numbers : (es : List Entry) (n : ℕ) → All (λ e. e.head.number ≤ n) es → All (λ e. e.head.number ≤ n) (folded es)
unfolding folded
folded-numbers es n p = all_placed (λ e. e.head.number ≤ n) (λ e. e.head.number ≤ n) (λ i e h. h) 0 (printed_in (closed_list es)) (shown-numbers es n es p)

-- and what is written is within the limit of a file in either form
pub folded-size : (es : List Entry) → WellFormed es → length (write (folded es)) ≤ most_bytes new
unfolding write
folded-size es w =
    let p = printed_in (closed_list es) in
    let v = (prints-form es w).entered in
    let f = v.one.form in
    subst (λ l. length l ≤ most_bytes new) (sym (folded-written es)) (omega (arith, length-written f p v.few v.one.heads v.fits, bytes-room f))

-- what is written for the folded catalogue is read as the folded catalogue
pub folded-accepted : (es : List Entry) → WellFormed es → read (write (folded es)) ≡ accepted (folded es)
unfolding folded
folded-accepted es w = ap read (folded-written es) ∙ read-written (printed_in (closed_list es)) (prints-form es w)

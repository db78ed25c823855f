-- The listing of an accepted catalogue has at most `most_text` bytes: for each entry a line of at most 42 and those of its vectors, and the first line.
use Rattle.std.specs.Prelude.{◌≡◌, refl, Bool, true, false, List, [], ◌∷◌, ◌++◌, map, ℕ, suc, ◌+◌, ◌*◌, ◌^◌, ◌≤◌, ◌<◌, ltb, eqb, pos, nat_abs, length}
use Rattle.std.proofs.Common.{sym, ap, subst, arith, length-append, ltb-false}
use Rattle.std.proofs.Math.Option.{Option, none, some, some-ne-none}
use Rattle.std.proofs.lemmas.List.{length-map}
use Rattle.std.specs.Int.Signed.{lt_z}
use Rattle.catalogue_rules.proofs.Laws.TextSize.{most_vector_line, most_shown, most_text}
use Rattle.integers.specs.All.{All}
use Rattle.integers.specs.AllLaws.{all_imp, all_map}
use Rattle.integers.specs.Decimal.{decimal, signed}
use Rattle.integers.specs.DecimalLaws.{decimal-length}
use Rattle.integers.specs.Tests.{neither}
use Rattle.text_layout.specs.Fields.{after, line}
use Rattle.text_layout.specs.Sizes.{signed-length}
use Rattle.lattices.specs.Vector.{Vec, N}
use Rattle.lattices.specs.Greedy.{units, start, reduction}
use Rattle.integers.specs.Every.{any}
use Rattle.lattices.specs.Refusal.{most_size, most_square, most_vectors, most_coordinates}
use Rattle.lattices.specs.Laws.Refusal.{one-to}
use Rattle.greedy_reduction.specs.Exactness.{length-begin, begin}
use Rattle.greedy_reduction.specs.Sizes.{no-longer_of}
use Rattle.greedy_reduction.specs.Passes.{passes-most}
use Rattle.catalogue_rules.specs.Catalogue.{most_number, See, Entry, accepted, see_number}
use Rattle.catalogue_rules.specs.Read.{is_numbered, read}
use Rattle.catalogue_rules.specs.Form.{VectorFits}
use Rattle.catalogue_rules.proofs.Laws.WellFormed.{well_formed}
use Rattle.catalogue_rules.proofs.Laws.Opening.{numbers-room}
use Rattle.fold_rules.specs.Fold.{reduced_of, standing, Stood, stood_of, closed_list, stands, standing_in, lookup, unless_own, followed, leads}
use Rattle.fold_rules.specs.Listing.{vector_lines, entry_line, vectors_shown, entry_lines}
use Rattle.fold_rules.specs.Services.{listing_text}
use Rattle.fold_rules.specs.Meaning.{Among}
use Rattle.fold_rules.proofs.Laws.SameLattice.{Sound, sound-entries, entry-basis, one-lattice}
use Rattle.fold_rules.proofs.Laws.First.{all_self, all_among}
use Rattle.fold_rules.proofs.Laws.Standing.{standing-among}
use Rattle.fold_rules.proofs.Laws.FoldedForm.{reduced-sound}

-- ---- fields
fields_length : (k : ℕ) (fields : List (List ℕ)) → All (λ f. length f ≤ k) fields → length (after fields) ≤ length fields * suc k + 1
fields_length k [] h = omega arith
fields_length k (f ∷ fields) h = omega (arith, length-append f (after fields), h.0, fields_length k fields h.1)

coordinates-length : (v : Vec) → any (λ x. ltb most_size (nat_abs x)) v ≡ false → All (λ f. length f ≤ 6) (map signed v)
coordinates-length [] h = tt
coordinates-length (x ∷ v) h =
    let p = neither (ltb most_size (nat_abs x)) (any (λ y. ltb most_size (nat_abs y)) v) h in
    (signed-length 5 x (omega arith) (omega (arith, ltb-false most_size (nat_abs x) p.0)), coordinates-length v p.1)

vector-lines : (m : ℕ) → m ≤ most_coordinates → (vs : List Vec) → All (VectorFits m) vs → length (vector_lines vs) ≤ length vs * most_vector_line
vector-lines m h [] p = omega arith
vector-lines m h (v ∷ vs) p =
    let near = neither (any (λ y. ltb most_size (nat_abs y)) v) (lt_z (pos most_square) (N v)) p.0.short in
    omega (
      arith,
      length-append (line (118 ∷ []) (map signed v)) (vector_lines vs),
      fields_length 6 (map signed v) (coordinates-length v near.0),
      length-map v signed,
      p.0.full,
      vector-lines m h vs p.1,
    )

-- ---- the numbers of a line
abbrev Short : ℕ → Type 0
Short n = n < 10 ^ 9

lookup-short : (ss : List Stood) → All (λ s. Short s.standing.head.number) ss → (n k : ℕ) → lookup ss n ≡ some k → Short k
lookup-short [] h n k e = absurd (some-ne-none k (sym e))
lookup-short (s ∷ ss) h n k e = go (is_numbered n s.entry) e (lookup-short ss h.1 n k)
  where
    go : (b : Bool) → ◌≡◌ {A = Option ℕ} (elim b [ true ↦ some s.standing.head.number | false ↦ lookup ss n ]) (some k) → (lookup ss n ≡ some k → Short k) → Short k
    go true e more = subst Short (ap (λ o. elim o as (λ o. ℕ) [ none ↦ 0 | some j ↦ j ]) e) h.0
    go false e more = more e

lead-short : (ss : List Stood) → All (λ s. Short s.standing.head.number) ss → (own : ℕ) (o : Option See) → Short (see_number (followed ss own o))
lead-short ss h own none = omega arith
lead-short ss h own (some w) = go (lookup ss w.number) refl
  where
    word : (b : Bool) (k : ℕ) → Short k → Short (see_number (unless_own b w k))
    word true k p = omega arith
    word false k p = p

    go : (o : Option ℕ) → lookup ss w.number ≡ o → Short (see_number (elim o [ none ↦ none | some there ↦ unless_own (eqb there own) w there ]))
    go none e = omega arith
    go (some k) e = word (eqb k own) k (lookup-short ss h w.number k e)

line-length : (a b c p : ℕ) → Short a → Short b → Short c → p < 10 ^ 11 → length (line (decimal a) (decimal b ∷ decimal c ∷ decimal p ∷ [])) ≤ 42
line-length a b c p x y z w = omega (
  arith,
  length-append (decimal a) (after (decimal b ∷ decimal c ∷ decimal p ∷ [])),
  length-append (decimal b) (after (decimal c ∷ decimal p ∷ [])),
  length-append (decimal c) (after (decimal p ∷ [])),
  length-append (decimal p) (after []),
  decimal-length 9 a (omega arith) x,
  decimal-length 9 b (omega arith) y,
  decimal-length 9 c (omega arith) z,
  decimal-length 11 p (omega arith) w,
)

-- ---- an entry and all entries
record Listed (s : Stood) : Type 0 where
  number : Short s.entry.head.number
  standing : Short s.standing.head.number
  passes : (reduction s.entry.vectors).passes < 10 ^ 11
  shown : length (vectors_shown s) ≤ most_shown

entry-lines : (ss : List Stood) → All (λ s. Short s.standing.head.number) ss → (more : List Stood) → All Listed more → length (entry_lines ss more) ≤ length more * (42 + most_shown)
entry-lines ss h [] p = omega arith
entry-lines ss h (s ∷ more) p =
    let l = line-length s.entry.head.number s.standing.head.number (see_number (leads ss s)) (reduction s.entry.vectors).passes
    p.0.number p.0.standing (lead-short ss h s.standing.head.number s.entry.see) p.0.passes in
    omega (arith, length-append (entry_line ss s) (vectors_shown s ++ entry_lines ss more), length-append (vectors_shown s) (entry_lines ss more), l, p.0.shown, entry-lines ss h more p.1)

few-passes : (e : Entry) → Sound e → (reduction e.vectors).passes < 10 ^ 11
unfolding begin
few-passes e s =
    let B = entry-basis e s in
    let vs = e.vectors in
    let p = passes-most (length vs) (start vs (units (length vs))) B.four (length-begin e.head.m vs B.full B.some) (no-longer_of (pos most_square) vs (units (length vs)) B.limit) in
    omega arith

number_short : (e : Entry) → Sound e → Short e.head.number
number_short e s = let r = one-to (most_number e.head.form) e.head.number s.fits.head.number in omega (arith, numbers-room e.head.form)

shown-length : (all : List Entry) (e : Entry) → Sound e → length (vectors_shown (stood_of all e)) ≤ most_shown
shown-length all e s = go (stands (stood_of all e))
  where
    go : (b : Bool) → length {A = ℕ} (elim b as (λ b. List ℕ) [ true ↦ vector_lines (reduced_of e) | false ↦ [] ]) ≤ most_shown
    go true =
        let r = reduced-sound e s none in
        let m = one-to most_coordinates e.head.m s.fits.head.m in
        let d = one-to most_vectors e.head.d s.fits.head.d in
        omega (arith, r.fits.count, vector-lines e.head.m m.1 (reduced_of e) r.fits.vectors)
    go false = omega arith

standing-fewer : (ss : List Stood) → length (standing_in ss) ≤ length ss
standing-fewer [] = omega arith
standing-fewer (s ∷ ss) = go (stands s) (standing-fewer ss)
  where
    go : (b : Bool) → length (standing_in ss) ≤ length ss → length {A = Stood} (elim b as (λ b. List Stood) [ true ↦ s ∷ standing_in ss | false ↦ standing_in ss ]) ≤ suc (length ss)
    go true h = omega arith
    go false h = omega arith

module _ (file : List ℕ) (es : List Entry) (e : read file ≡ accepted es) where
  sound : All Sound es
  sound = sound-entries es (well_formed file es e)

  standing-short : (f : Entry) → Among f es → Short (standing es f).head.number
  standing-short f a = number_short (standing es f) (all_among Sound es sound (standing es f) (standing-among one-lattice es sound f a))

  entry_listed : (f : Entry) → Among f es → Listed (stood_of es f)
  entry_listed f a =
      let s = all_among Sound es sound f a in
      record { number = number_short f s; standing = standing-short f a; passes = few-passes f s; shown = shown-length es f s }

  pub listing_size : length (listing_text es) ≤ most_text
  listing_size =
      let ss = closed_list es in
      let few = (well_formed file es e).entered.few in
      let listed-all = all_map Listed (stood_of es) es (all_imp entry_listed es (all_self es)) in
      let short-all = all_map (λ s. Short s.standing.head.number) (stood_of es) es (all_imp standing-short es (all_self es)) in
      let n : length ss ≡ length es = length-map es (stood_of es) in
      omega (
        arith,
        length-append (line (decimal (length ss)) (decimal (length (standing_in ss)) ∷ [])) (entry_lines ss ss),
        length-append (decimal (length ss)) (after (decimal (length (standing_in ss)) ∷ [])),
        length-append (decimal (length (standing_in ss))) (after []),
        decimal-length 3 (length ss) (omega arith) (omega arith),
        decimal-length 3 (length (standing_in ss)) (omega arith) (omega (arith, standing-fewer ss)),
        entry-lines ss short-all ss listed-all,
      )

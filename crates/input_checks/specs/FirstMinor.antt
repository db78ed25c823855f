-- A minor that is not zero, as code finds it, and that the list is dependent exactly when there is none.
use Rattle.std.specs.Prelude.{◌≡◌, refl, ◌≢◌, true, false, List, [], ◌∷◌, ◌++◌, map, ℕ, zero, suc, ◌+◌, ◌^◌, ◌≤◌, ◌<◌, ℤ, pos, length, get_or, set, take, drop, replicate, ◌≤ℤ◌, Option, Some, None, is_some, Bool, not}
use Rattle.std.proofs.Common.{sym, ap, ap₂, ◌∙◌, subst, add-one, arith, length-take, length-set, length-append, length-drop, get_or-take, get_or-drop}
use Rattle.std.proofs.Math.Decide.{ℕ_discrete, dec_lt}
use Rattle.std.proofs.lemmas.List.{length-map}
use Rattle.integers.specs.AllLaws.{get_d_map, take-map}
use Rattle.integers.specs.Filled.{filled}
use Rattle.integers.specs.FilledLaws.{take-filled}
use Rattle.integers.specs.Size.{Within}
use Rattle.integers.specs.Order.{≤ℤ-le_z, ≤ℤ_of_≡}
use Rattle.lattices.specs.Vector.{Vec, N, nth, dot}
use Rattle.lattices.specs.Volume.{Index, rest, volume, squared_volume, is_dependent}
use Rattle.lattices.specs.Answer.{padded}
use Rattle.lattices.specs.Laws.Answer.{length-padded}
use Rattle.lattices.specs.Refusal.{most_vectors, most_coordinates}
use Rattle.exterior_algebra.specs.Forms.{inner-zero}
use Rattle.exterior_algebra.specs.Minors.{marks, marks-≤, pick, full, volume_off, minor-picked, independent_of_minor}
use Rattle.input_checks.specs.declared.minors.Minor.{Minor}
use Rattle.input_checks.specs.Choice.{choice, places, firsts, four_at}
use Rattle.input_checks.specs.Choices.{number, number-<, choice-number, length-places, places-<, pick-from, marks-firsts}
use Rattle.input_checks.specs.Determinant.{pair_of, determinant_of, unit_rows, behind, pair-behind, cofactors_of, expands, Small}
use Rattle.input_checks.specs.Any.{within-limit}
use Rattle.input_checks.specs.Lengths.{short-within, short-from}

-- the minor of bs at some choice of as many coordinates, which stand in the first places of the list
pub record Chosen (bs : List Vec) (at : List ℕ) (z : ℤ) : Type 0 where
  pub index : Index
  pub wide : length index ≡ most_coordinates
  pub count : marks index ≡ length bs
  pub taken : take (length bs) at ≡ places 0 index
  pub below : (i : ℕ) → i < most_vectors → get_or at i 0 < most_coordinates
  pub minor : z ≡ volume bs index

-- a minor that is not zero, or none where all are
abbrev pub FirstMinor : List Vec → Option Minor → Type 0
FirstMinor bs None = (s : Index) → length s ≡ most_coordinates → volume bs s ≡ pos 0
FirstMinor bs (Some m) = (m.minor ≢ pos 0) × Chosen bs m.at m.minor

-- ---- the determinant of the picked coordinates is the minor

full_is : (s : Index) → full s ≡ replicate (marks s) true
full_is [] = refl
full_is (false ∷ s) = full_is s
full_is (true ∷ s) = ap (λ l. true ∷ l) (full_is s)

pick-none : (n : ℕ) (v : Vec) → pick (firsts n zero) v ≡ []
pick-none zero v = refl
pick-none (suc n) v = pick-none n (rest v)

pick-padded : (n d : ℕ) (l : List ℤ) → d ≤ length l → d ≤ n → pick (firsts n d) (padded n l) ≡ take d l
pick-padded n zero l h k = pick-none n (padded n l)
pick-padded zero (suc d) l h k = absurd (omega arith)
pick-padded (suc n) (suc d) [] h k = absurd (omega arith)
pick-padded (suc n) (suc d) (x ∷ l) h k = ap (λ r. x ∷ r) (pick-padded n d l (omega arith) (omega arith))

take-take : {A : Type 0} (n d : ℕ) (l : List A) → d ≤ n → take d (take n l) ≡ take d l
take-take n zero l h = refl
take-take zero (suc d) l h = absurd (omega arith)
take-take (suc n) (suc d) [] h = refl
take-take (suc n) (suc d) (x ∷ l) h = ap (λ r. x ∷ r) (take-take n d l (omega arith))

-- four rows of four
table-count : (at : List ℕ) (cs : List Vec) (d : ℕ) → d ≤ most_vectors → length cs ≡ d → length (map (four_at at) cs ++ drop d unit_rows) ≡ 4
table-count at cs d few e = length-append (map (four_at at) cs) (drop d unit_rows) ∙ omega (arith, length-map cs (four_at at), length-drop d unit_rows, e, few)

rows-wide : (at : List ℕ) (cs us : List Vec) → ((i : ℕ) → i < length us → length (get_or us i []) ≡ 4) → (i : ℕ) → i < length (map (four_at at) cs ++ us) → length (get_or (map (four_at at) cs ++ us) i []) ≡ 4
rows-wide at [] us w i h = w i h
rows-wide at (c ∷ cs) us w zero h = length-padded most_vectors (map (nth c) (take most_vectors at))
rows-wide at (c ∷ cs) us w (suc i) h = rows-wide at cs us w i (omega arith)

units-wide : (i : ℕ) → i < 4 → length (get_or unit_rows i []) ≡ 4
units-wide zero h = refl
units-wide (suc zero) h = refl
units-wide (suc (suc zero)) h = refl
units-wide (suc (suc (suc zero))) h = refl
units-wide (suc (suc (suc (suc i)))) h = absurd (omega arith)

table-wide : (at : List ℕ) (cs : List Vec) (d : ℕ) → length (map (four_at at) cs ++ drop d unit_rows) ≡ 4 → (i : ℕ) → i < 4 → length (get_or (map (four_at at) cs ++ drop d unit_rows) i []) ≡ 4
table-wide at cs d e i h = rows-wide at cs (drop d unit_rows) (λ k l. ap length (get_or-drop d unit_rows k []) ∙ units-wide (d + k) (omega (arith, l, length-drop d unit_rows))) i (omega (arith, e, h))

set-left : {A : Type 0} (u v : List A) (j : ℕ) (x : A) → j < length u → set (u ++ v) j x ≡ set u j x ++ v
set-left [] v j x h = absurd (omega arith)
set-left (y ∷ u) v zero x h = refl
set-left (y ∷ u) v (suc j) x h = ap (λ l. y ∷ l) (set-left u v j x (omega arith))

set-map : {A B : Type 0} (f : A → B) (l : List A) (j : ℕ) (x : A) → set (map f l) j (f x) ≡ map f (set l j x)
set-map f [] j x = refl
set-map f (y ∷ l) zero x = refl
set-map f (y ∷ l) (suc j) x = ap (λ k. f y ∷ k) (set-map f l j x)

two-rows : (at : List ℕ) (cs : List Vec) → length cs ≡ 2 → determinant_of (map (four_at at) cs ++ drop 2 unit_rows) ≡ pair_of (four_at at (get_or cs 0 [])) (four_at at (get_or cs 1 [])) 0 1
two-rows at [] e = absurd (omega arith)
two-rows at (p ∷ []) e = absurd (omega arith)
two-rows at (p ∷ q ∷ []) e = pair-behind (four_at at p) (four_at at q)
two-rows at (p ∷ q ∷ r ∷ cs) e = absurd (omega arith)

module _ (at : List ℕ) (d : ℕ) (few : d ≤ most_vectors) (long : most_vectors ≤ length at) (s : Index) (count : marks s ≡ d) (taken : take d at ≡ places 0 s) where
  picked : (v : Vec) → pick (firsts most_vectors d) (four_at at v) ≡ pick s v
  picked v =
      pick-padded most_vectors d (map (nth v) (take most_vectors at)) (omega (arith, length-map (take most_vectors at) (nth v), length-take most_vectors at, long, few)) few
      ∙ take-map (nth v) d (take most_vectors at) ∙ ap (map (nth v)) (take-take most_vectors d at few ∙ taken) ∙ pick-from 0 s v

  all-picked : (cs : List Vec) → map (pick (firsts most_vectors d)) (map (four_at at) cs) ≡ map (pick s) cs
  all-picked [] = refl
  all-picked (c ∷ cs) = ap₂ ◌∷◌ (picked c) (all-picked cs)

  minor-four : (cs : List Vec) → volume (map (four_at at) cs) (firsts most_vectors d) ≡ volume cs s
  minor-four cs =
      minor-picked (map (four_at at) cs) (firsts most_vectors d)
      ∙ ap₂ volume (all-picked cs) (full_is (firsts most_vectors d) ∙ ap (λ n. replicate n true) (marks-firsts most_vectors d few ∙ sym count) ∙ sym (full_is s))
      ∙ sym (minor-picked cs s)

  pub minor-is : (cs : List Vec) → length cs ≡ d → determinant_of (map (four_at at) cs ++ drop d unit_rows) ≡ volume cs s
  minor-is cs e =
      let rows = map (four_at at) cs in
      let n : length rows ≡ d = length-map cs (four_at at) ∙ e in
      ap (λ k. determinant_of (rows ++ drop k unit_rows)) (sym n)
      ∙ behind rows (omega (arith, n, few)) (λ i h. ap length (get_d_map (four_at at) cs [] [] i (omega (arith, n, e))) ∙ length-padded most_vectors (map (nth (get_or cs i [])) (take most_vectors at)))
      ∙ ap (λ k. volume rows (firsts most_vectors k)) n ∙ minor-four cs

  -- of two vectors it is a pair
  pub pair_is : d ≡ 2 → (b : List Vec) → length b ≡ 4 → pair_of (four_at at (get_or b 0 [])) (four_at at (get_or b 1 [])) 0 1 ≡ volume (take d b) s
  pair_is two b e =
      let n : length (take d b) ≡ d = omega (arith, length-take d b, few, e) in
      ap₂ (λ p q. pair_of (four_at at p) (four_at at q) 0 1) (sym (get_or-take d b 0 [] (omega (arith, two)))) (sym (get_or-take d b 1 [] (omega (arith, two))))
      ∙ sym (two-rows at (take d b) (n ∙ two)) ∙ ap (λ k. determinant_of (map (four_at at) (take d b) ++ drop k unit_rows)) (sym two) ∙ minor-is (take d b) n

  -- and with another vector in the place of vector j it is an inner product with cofactors
  pub cofactors-give : (cs : List Vec) → length cs ≡ d → (j : ℕ) → j < d → (v : Vec) → dot (cofactors_of (map (four_at at) cs ++ drop d unit_rows) j) (four_at at v) ≡ volume (set cs j v) s
  cofactors-give cs e j h v =
      let t = map (four_at at) cs ++ drop d unit_rows in
      let n : length (map (four_at at) cs) ≡ d = length-map cs (four_at at) ∙ e in
      expands t (table-count at cs d few e) (table-wide at cs d (table-count at cs d few e)) j (omega (arith, few)) (four_at at v) (length-padded most_vectors (map (nth v) (take most_vectors at)))
      ∙ ap determinant_of (set-left (map (four_at at) cs) (drop d unit_rows) j (four_at at v) (omega (arith, n)) ∙ ap (λ l. l ++ drop d unit_rows) (set-map (four_at at) cs j v))
      ∙ minor-is (set cs j v) (length-set cs j v ∙ e)

-- ---- the table of the picked coordinates, row by row

next_row : {A B : Type 0} (f : A → B) (x : A) (b : List A) (u : List B) (i : ℕ) → i < length b → i < length u → set (map f (take i b) ++ drop i u) i (f (get_or b i x)) ≡ map f (take (suc i) b) ++ drop (suc i) u
next_row f x [] u i h k = absurd (omega arith)
next_row f x (y ∷ b) [] i h k = absurd (omega arith)
next_row f x (y ∷ b) (v ∷ u) zero h k = refl
next_row f x (y ∷ b) (v ∷ u) (suc i) h k = ap (λ l. f y ∷ l) (next_row f x b u i (omega arith) (omega arith))

pub put_next : {A B : Type 0} (f : A → B) (x : A) (b : List A) (u : List B) (i : ℕ) → i < length b → i < length u → set (map f (take i b) ++ drop i u) i (f (get_or b i x)) ≡ map f (take (i + 1) b) ++ drop (i + 1) u
put_next f x b u i h k = next_row f x b u i h k ∙ ap (λ n. map f (take n b) ++ drop n u) (sym (add-one i))

-- its numbers are small
zero-small : Within 20000 (pos 0)
zero-small = record { within = omega arith }

pub picked-small : (v : Vec) → Small v → (n : ℕ) (l : List ℕ) → Small (padded n (map (nth v) l))
picked-small v h zero l c = zero-small
picked-small v h (suc n) [] zero = zero-small
picked-small v h (suc n) [] (suc c) = picked-small v h n [] c
picked-small v h (suc n) (k ∷ l) zero = h k
picked-small v h (suc n) (k ∷ l) (suc c) = picked-small v h n l c

pub four-small : (at : List ℕ) (v : Vec) → N v ≤ℤ pos 400000000 → Small (four_at at v)
four-small at v h = picked-small v (short-within v h) most_vectors (take most_vectors at)

rows-small : (at : List ℕ) (cs : List Vec) → ((r : ℕ) → Small (get_or cs r [])) → (r : ℕ) → Small (get_or (map (four_at at) cs) r [])
rows-small at [] f r = λ c. zero-small
rows-small at (v ∷ cs) f zero = picked-small v (f zero) most_vectors (take most_vectors at)
rows-small at (v ∷ cs) f (suc r) = rows-small at cs (λ r. f (suc r)) r

append-small : (u v : List Vec) → ((r : ℕ) → Small (get_or u r [])) → ((r : ℕ) → Small (get_or v r [])) → (r : ℕ) → Small (get_or (u ++ v) r [])
append-small [] v f g r = g r
append-small (x ∷ u) v f g zero = f zero
append-small (x ∷ u) v f g (suc r) = append-small u v (λ r. f (suc r)) g r

unit-small : (r : ℕ) → Small (get_or unit_rows r [])
unit-small zero = within-limit (get_or unit_rows 0 []) refl
unit-small (suc zero) = within-limit (get_or unit_rows 1 []) refl
unit-small (suc (suc zero)) = within-limit (get_or unit_rows 2 []) refl
unit-small (suc (suc (suc zero))) = within-limit (get_or unit_rows 3 []) refl
unit-small (suc (suc (suc (suc r)))) = λ c. zero-small

pub table-small : (at : List ℕ) (d : ℕ) (b : List Vec) → ((i : ℕ) → i < d → N (get_or b i []) ≤ℤ pos 400000000) → (r c : ℕ) → Within 20000 (nth (get_or (map (four_at at) (take d b) ++ drop d unit_rows) r []) c)
table-small at d b short r =
    append-small (map (four_at at) (take d b)) (drop d unit_rows) (rows-small at (take d b) (λ r. short-within (get_or (take d b) r []) (short-from 400000000 d 0 b short r)))
    (λ r. subst Small (sym (get_or-drop d unit_rows r [])) (unit-small (d + r))) r

-- ---- the places of a choice by number

-- a minor that is not zero takes as many coordinates as there are vectors
pub count_of : (bs : List Vec) (s : Index) → volume bs s ≢ pos 0 → marks s ≡ length bs
count_of bs s h = pick-one (ℕ_discrete (marks s) (length bs))
  where
    pick-one : Dec (marks s ≡ length bs) → marks s ≡ length bs
    pick-one (yes e) = e
    pick-one (no f) = absurd (h (volume_off bs s f))

filled-below : (k : ℕ) → 0 < k → (n : ℕ) (l : List ℕ) → ((i : ℕ) → i < length l → get_or l i 0 < k) → (i : ℕ) → get_or (filled 0 n l) i 0 < k
filled-below k p zero l h i = p
filled-below k p (suc n) [] h zero = p
filled-below k p (suc n) [] h (suc i) = filled-below k p n [] h i
filled-below k p (suc n) (x ∷ l) h zero = h 0 (omega arith)
filled-below k p (suc n) (x ∷ l) h (suc i) = filled-below k p n l (λ j q. h (suc j) (omega arith)) i

module _ (s : Index) (wide : length s ≡ most_coordinates) where
  pub places-below : (i : ℕ) → get_or (filled 0 most_coordinates (places 0 s)) i 0 < most_coordinates
  places-below = filled-below most_coordinates (omega arith) most_coordinates (places 0 s) (λ i h. places-< 0 most_coordinates s (omega arith) i (omega (arith, length-places 0 s)))

  pub places-taken : (d : ℕ) → marks s ≡ d → take d (filled 0 most_coordinates (places 0 s)) ≡ places 0 s
  places-taken d e =
      ap (λ n. take n (filled 0 most_coordinates (places 0 s))) (sym (length-places 0 s ∙ e)) ∙ take-filled 0 most_coordinates (places 0 s) (omega (arith, length-places 0 s, marks-≤ s))

-- ---- no choice is left out

pub every_choice : (bs : List Vec) → ((k : ℕ) → k < 2 ^ most_coordinates → volume bs (choice most_coordinates k) ≡ pos 0) → (s : Index) → length s ≡ most_coordinates → volume bs s ≡ pos 0
every_choice bs zeros s e =
    ap (volume bs) (sym (ap (λ m. choice m (number s)) (sym e) ∙ choice-number s)) ∙ zeros (number s) (subst (λ m. number s < 2 ^ m) e (number-< s))

-- ---- dependence

pub all-zero : (bs : List Vec) → ((s : Index) → length s ≡ most_coordinates → volume bs s ≡ pos 0) → is_dependent most_coordinates bs ≡ true
unfolding is_dependent squared_volume
all-zero bs h = ≤ℤ-le_z (≤ℤ_of_≡ (inner-zero most_coordinates (volume bs) (volume bs) h))

pub some-minor : (bs : List Vec) {at : List ℕ} {z : ℤ} → Chosen bs at z → z ≢ pos 0 → is_dependent most_coordinates bs ≡ false
some-minor bs c h = independent_of_minor most_coordinates bs c.index c.wide (λ e. h (c.minor ∙ e))

-- the search for a minor decides
pub found-none : (bs : List Vec) (o : Option Minor) (t : Bool) → FirstMinor bs o → is_some o ≡ not t → t ≡ is_dependent most_coordinates bs
found-none bs None true h e = sym (all-zero bs h)
found-none bs None false h e = cc
found-none bs (Some m) true h e = cc
found-none bs (Some m) false h e = sym (some-minor bs h.1 h.0)

-- what holds of every number below n and of n holds below n + 1
pub one_more : (P : ℕ → Type 0) (n : ℕ) → ((k : ℕ) → k < n → P k) → P n → (k : ℕ) → k < n + 1 → P k
one_more P n f p k h = pick-one (dec_lt k n)
  where
    pick-one : Dec (k < n) → P k
    pick-one (yes l) = f k l
    pick-one (no l) = let e : n ≡ k = omega (arith, l) in subst P e p

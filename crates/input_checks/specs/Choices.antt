-- How a choice grows bit by bit, that every choice has a number, and what its list of coordinates picks.
use Rattle.std.specs.Prelude.{◌≡◌, refl, true, false, [], ◌∷◌, ◌++◌, map, ℕ, zero, suc, ◌+◌, ◌*◌, ◌/◌, ◌%◌, ◌^◌, ◌≤◌, ◌<◌, eqb, length, get_or, set, take, drop}
use Rattle.std.proofs.Common.{sym, ap, ap₂, ◌∙◌, pow-suc, arith, add-one, eq-eqb, ne_eqb}
use Rattle.integers.specs.Filled.{filled}
use Rattle.integers.specs.FilledLaws.{filled_next}
use Rattle.lattices.specs.Vector.{Vec, nth}
use Rattle.lattices.specs.Volume.{Index, head, rest}
use Rattle.exterior_algebra.specs.Minors.{marks, marks-≤, pick}
use Rattle.input_checks.specs.Choice.{choice, places, firsts, counts, halves}

-- ---- one bit more

halves_in : (k x : ℕ) → halves k (x / 2) ≡ halves k x / 2
halves_in zero x = refl
halves_in (suc k) x = ap (λ n. n / 2) (halves_in k x)

choice-suc : (k x : ℕ) → choice (suc k) x ≡ choice k x ++ (eqb (halves k x % 2) 1 ∷ [])
choice-suc zero x = refl
choice-suc (suc k) x = ap (λ s. eqb (x % 2) 1 ∷ s) (choice-suc k (x / 2) ∙ ap (λ n. choice k (x / 2) ++ (eqb (n % 2) 1 ∷ [])) (halves_in k x))

pub length-choice : (n x : ℕ) → length (choice n x) ≡ n
length-choice zero x = refl
length-choice (suc n) x = ap suc (length-choice n (x / 2))

marks_snoc_true : (s : Index) → marks (s ++ (true ∷ [])) ≡ suc (marks s)
marks_snoc_true [] = refl
marks_snoc_true (true ∷ s) = ap suc (marks_snoc_true s)
marks_snoc_true (false ∷ s) = marks_snoc_true s

marks_snoc_false : (s : Index) → marks (s ++ (false ∷ [])) ≡ marks s
marks_snoc_false [] = refl
marks_snoc_false (true ∷ s) = ap suc (marks_snoc_false s)
marks_snoc_false (false ∷ s) = marks_snoc_false s

places_snoc_true : (k : ℕ) (s : Index) → places k (s ++ (true ∷ [])) ≡ places k s ++ ((k + length s) ∷ [])
places_snoc_true k [] = ap (λ n. n ∷ []) (omega arith)
places_snoc_true k (true ∷ s) = ap (λ l. k ∷ l) (places_snoc_true (suc k) s ∙ ap (λ n. places (suc k) s ++ (n ∷ [])) (omega arith))
places_snoc_true k (false ∷ s) = places_snoc_true (suc k) s ∙ ap (λ n. places (suc k) s ++ (n ∷ [])) (omega arith)

places_snoc_false : (k : ℕ) (s : Index) → places k (s ++ (false ∷ [])) ≡ places k s
places_snoc_false k [] = refl
places_snoc_false k (true ∷ s) = ap (λ l. k ∷ l) (places_snoc_false (suc k) s)
places_snoc_false k (false ∷ s) = places_snoc_false (suc k) s

pub length-places : (k : ℕ) (s : Index) → length (places k s) ≡ marks s
length-places k [] = refl
length-places k (true ∷ s) = ap suc (length-places (suc k) s)
length-places k (false ∷ s) = length-places (suc k) s

-- a coordinate that is taken
module _ (k x : ℕ) (e : halves k x % 2 ≡ 1) where
  now_true : choice (k + 1) x ≡ choice k x ++ (true ∷ [])
  now_true = ap (λ n. choice n x) (add-one k) ∙ choice-suc k x ∙ ap (λ b. choice k x ++ (b ∷ [])) (eq-eqb _ 1 e)

  pub marks-taken : marks (choice k x) + 1 ≡ marks (choice (k + 1) x)
  marks-taken = add-one (marks (choice k x)) ∙ sym (ap marks now_true ∙ marks_snoc_true (choice k x))

  pub places-taken : (n : ℕ) → k < n → set (filled 0 n (places 0 (choice k x))) (marks (choice k x)) k ≡ filled 0 n (places 0 (choice (k + 1) x))
  places-taken n h =
      let s = choice k x in
      ap (λ i. set (filled 0 n (places 0 s)) i k) (sym (length-places 0 s))
      ∙ filled_next 0 n (places 0 s) k (omega (arith, length-places 0 s, marks-≤ s, length-choice k x))
      ∙ ap (filled 0 n) (ap (λ i. places 0 s ++ (i ∷ [])) (sym (here s (length-choice k x))) ∙ sym (places_snoc_true 0 s) ∙ ap (places 0) (sym now_true))
    where
      here : (s : Index) → length s ≡ k → 0 + length s ≡ k
      here s f = omega arith

-- one that is not
module _ (k x : ℕ) (f : halves k x % 2 ≡ 1 → ⊥) where
  now_false : choice (k + 1) x ≡ choice k x ++ (false ∷ [])
  now_false = ap (λ n. choice n x) (add-one k) ∙ choice-suc k x ∙ ap (λ b. choice k x ++ (b ∷ [])) (ne_eqb _ 1 f)

  pub marks-left : marks (choice k x) ≡ marks (choice (k + 1) x)
  marks-left = sym (ap marks now_false ∙ marks_snoc_false (choice k x))

  pub places-left : places 0 (choice k x) ≡ places 0 (choice (k + 1) x)
  places-left = sym (ap (places 0) now_false ∙ places_snoc_false 0 (choice k x))

-- ---- every choice has a number

abbrev pub number : Index → ℕ
number [] = 0
number (false ∷ s) = 2 * number s
number (true ∷ s) = 1 + 2 * number s

pub number-< : (s : Index) → number s < 2 ^ length s
number-< [] = omega arith
number-< (false ∷ s) = omega (arith, number-< s, pow-suc 2 (length s))
number-< (true ∷ s) = omega (arith, number-< s, pow-suc 2 (length s))

pub choice-number : (s : Index) → choice (length s) (number s) ≡ s
choice-number [] = refl
choice-number (false ∷ s) =
    let low : 2 * number s % 2 ≡ 0 = omega arith in
    let high : 2 * number s / 2 ≡ number s = omega arith in
    ap₂ ◌∷◌ (ap (λ n. eqb n 1) low) (ap (choice (length s)) high ∙ choice-number s)
choice-number (true ∷ s) =
    let low : (1 + 2 * number s) % 2 ≡ 1 = omega arith in
    let high : (1 + 2 * number s) / 2 ≡ number s = omega arith in
    ap₂ ◌∷◌ (ap (λ n. eqb n 1) low) (ap (choice (length s)) high ∙ choice-number s)

-- ---- the coordinates at those places

rest-drop : (k : ℕ) (v : Vec) → rest (drop k v) ≡ drop (suc k) v
rest-drop zero [] = refl
rest-drop (suc k) [] = refl
rest-drop zero (x ∷ v) = refl
rest-drop (suc k) (x ∷ v) = rest-drop k v

head-drop : (k : ℕ) (v : Vec) → head (drop k v) ≡ nth v k
head-drop zero [] = refl
head-drop (suc k) [] = refl
head-drop zero (x ∷ v) = refl
head-drop (suc k) (x ∷ v) = head-drop k v

pub pick-from : (k : ℕ) (s : Index) (v : Vec) → map (nth v) (places k s) ≡ pick s (drop k v)
pick-from k [] v = refl
pick-from k (false ∷ s) v = pick-from (suc k) s v ∙ ap (pick s) (sym (rest-drop k v))
pick-from k (true ∷ s) v = ap₂ ◌∷◌ (sym (head-drop k v)) (pick-from (suc k) s v ∙ ap (pick s) (sym (rest-drop k v)))

-- no place is beyond the coordinates
pub places-< : (k n : ℕ) (s : Index) → k + length s ≤ n → (i : ℕ) → i < marks s → get_or (places k s) i 0 < n
places-< k n [] h i l = absurd (omega arith)
places-< k n (false ∷ s) h i l = places-< (suc k) n s (omega arith) i l
places-< k n (true ∷ s) h zero l = omega arith
places-< k n (true ∷ s) h (suc i) l = places-< (suc k) n s (omega arith) i (omega arith)

-- ---- the first of them

pub places-firsts : (k n d : ℕ) → d ≤ n → places k (firsts n d) ≡ take d (counts k n)
places-firsts k zero zero h = refl
places-firsts k zero (suc d) h = absurd (omega arith)
places-firsts k (suc n) zero h = places-firsts (suc k) n zero (omega arith)
places-firsts k (suc n) (suc d) h = ap (λ l. k ∷ l) (places-firsts (suc k) n d (omega arith))

pub length-firsts : (n d : ℕ) → length (firsts n d) ≡ n
length-firsts zero d = refl
length-firsts (suc n) zero = ap suc (length-firsts n zero)
length-firsts (suc n) (suc d) = ap suc (length-firsts n d)

pub marks-firsts : (n d : ℕ) → d ≤ n → marks (firsts n d) ≡ d
marks-firsts zero zero h = refl
marks-firsts zero (suc d) h = absurd (omega arith)
marks-firsts (suc n) zero h = marks-firsts n zero (omega arith)
marks-firsts (suc n) (suc d) h = ap suc (marks-firsts n d (omega arith))

pub counts-more : (k n : ℕ) → counts k (suc n) ≡ counts k n ++ ((k + n) ∷ [])
counts-more k zero = ap (λ m. m ∷ []) (omega arith)
counts-more k (suc n) = ap (λ l. k ∷ l) (counts-more (suc k) n ∙ ap (λ m. counts (suc k) n ++ (m ∷ [])) (omega arith))

pub length-counts : (k n : ℕ) → length (counts k n) ≡ n
length-counts k zero = refl
length-counts k (suc n) = ap suc (length-counts (suc k) n)

pub counts-at : (k n i : ℕ) → i < n → get_or (counts k n) i 0 ≡ k + i
counts-at k zero i h = absurd (omega arith)
counts-at k (suc n) zero h = omega arith
counts-at k (suc n) (suc i) h = counts-at (suc k) n i (omega arith) ∙ omega arith

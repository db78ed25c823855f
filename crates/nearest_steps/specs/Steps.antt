-- The table of steps in the order of the walk: each list is followed by its opposite, and the first 2, 8 and 26 lists are those of 1, 2 and 3
-- vectors, zeros behind. What is claimed of the table is tested by computation.
use Rattle.std.specs.Prelude.{◌≡◌, refl, Bool, true, false, not, ◌&&◌, ◌||◌, List, [], ◌∷◌, ℕ, zero, suc, ◌+◌, ◌-◌, ◌*◌, ◌≤◌, ◌<◌, T, eqb, leb, ℤ, pos, negsuc, nat_abs, length, get_or, take, drop}
use Rattle.std.proofs.Common.{subst, arith, leb→le, eqb→eq, length-take, get_or-take, get_or-drop}
use Rattle.integers.specs.Every.{every}
use Rattle.integers.specs.Below.{below}
use Rattle.integers.specs.Lex.{below_antisymm}
use Rattle.lattices.specs.Vector.{nth, ◌⊙◌}
use Rattle.lattices.specs.Answer.{padded}
use Rattle.successive_minima.specs.Laws.Grid.{lists}
use Rattle.successive_minima.specs.Laws.Digits.{Bounded}

-- each list before its opposite
abbrev paired : List (List ℤ) → List (List ℤ)
paired [] = []
paired (e ∷ l) = e ∷ (negsuc 0 ⊙ e) ∷ paired l

-- one list of each pair, by how many vectors it takes
abbrev halves : List (List ℤ)
halves =
    (pos 1 ∷ pos 0 ∷ pos 0 ∷ [])
    ∷ (pos 0 ∷ pos 1 ∷ pos 0 ∷ [])
    ∷ (pos 1 ∷ pos 1 ∷ pos 0 ∷ [])
    ∷ (pos 1 ∷ negsuc 0 ∷ pos 0 ∷ [])
    ∷ (pos 0 ∷ pos 0 ∷ pos 1 ∷ [])
    ∷ (pos 1 ∷ pos 0 ∷ pos 1 ∷ [])
    ∷ (pos 1 ∷ pos 0 ∷ negsuc 0 ∷ [])
    ∷ (pos 0 ∷ pos 1 ∷ pos 1 ∷ [])
    ∷ (pos 0 ∷ pos 1 ∷ negsuc 0 ∷ [])
    ∷ (pos 1 ∷ pos 1 ∷ pos 1 ∷ [])
    ∷ (pos 1 ∷ pos 1 ∷ negsuc 0 ∷ [])
    ∷ (pos 1 ∷ negsuc 0 ∷ pos 1 ∷ [])
    ∷ (pos 1 ∷ negsuc 0 ∷ negsuc 0 ∷ [])
    ∷ []

unfoldable pub steps : List (List ℤ)
steps = paired halves

-- how many pairs, and how many lists, are those of k vectors
abbrev pub pairs : ℕ → ℕ
pairs k = get_or (0 ∷ 1 ∷ 4 ∷ 13 ∷ []) k 0

abbrev pub count : ℕ → ℕ
count k = 2 * pairs k

pub pairs-≤ : (k : ℕ) → k ≤ 3 → pairs k ≤ 13
pairs-≤ zero h = omega arith
pairs-≤ (suc zero) h = omega arith
pairs-≤ (suc (suc zero)) h = omega arith
pairs-≤ (suc (suc (suc zero))) h = omega arith
pairs-≤ (suc (suc (suc (suc k)))) h = absurd (omega arith)

-- the list behind an even place is the opposite
pub opposite-at : (i : ℕ) → i < 13 → get_or steps (2 * i + 1) [] ≡ negsuc 0 ⊙ get_or steps (2 * i) []
unfolding steps
opposite-at i h = go halves i h
  where
    go : (l : List (List ℤ)) (i : ℕ) → i < length l → get_or (paired l) (2 * i + 1) [] ≡ negsuc 0 ⊙ get_or (paired l) (2 * i) []
    go [] i h = absurd (omega arith)
    go (e ∷ l) zero h = refl
    go (e ∷ l) (suc i) h =
        let a : 2 * suc i ≡ suc (suc (2 * i)) = omega arith in
        let b : 2 * suc i + 1 ≡ suc (suc (2 * i + 1)) = omega arith in
        rw (b, a) (go l i (omega arith))

-- ---- tests of all entries and of all lists

both_left : (a b : Bool) → T (a && b) → T a
both_left true b t = tt
both_left false b t = absurd t

both_right : (a b : Bool) → T (a && b) → T b
both_right true b t = t
both_right false b t = absurd t

module _ {A : Type 0} (f : A → Bool) where
  every_at : (l : List A) (d : A) → T (f d) → T (every f l) → (i : ℕ) → T (f (get_or l i d))
  every_at [] d t u i = t
  every_at (x ∷ l) d t u zero = both_left (f x) (every f l) u
  every_at (x ∷ l) d t u (suc i) = every_at l d t (both_right (f x) (every f l) u) i

  every_in : (l : List A) (d : A) → T (every f l) → (i : ℕ) → i < length l → T (f (get_or l i d))
  every_in [] d u i h = absurd (omega arith)
  every_in (x ∷ l) d u zero h = both_left (f x) (every f l) u
  every_in (x ∷ l) d u (suc i) h = every_in l d (both_right (f x) (every f l) u) i (omega arith)

-- ---- sizes

abbrev small : ℤ → Bool
small x = leb (nat_abs x) 1

pub steps-bounded : (i : ℕ) → Bounded 1 (get_or steps i [])
unfolding steps ◌⊙◌
steps-bounded i j = record {
  within = leb→le (nat_abs (nth (get_or steps i []) j)) 1
      (every_at small (get_or steps i []) (pos 0) tt (every_at (every small) steps [] tt tt i) j);
}

pub steps-long : (i : ℕ) → i < 26 → length (get_or steps i []) ≡ 3
unfolding steps ◌⊙◌
steps-long i h = eqb→eq (length (get_or steps i [])) 3 (every_in (λ e. eqb (length e) 3) steps [] tt i h)

-- ---- zeros behind

abbrev is_zero : ℤ → Bool
is_zero (pos zero) = true
is_zero (pos (suc n)) = false
is_zero (negsuc n) = false

zero_is : (x : ℤ) → T (is_zero x) → x ≡ pos 0
zero_is (pos zero) t = refl
zero_is (pos (suc n)) t = absurd t
zero_is (negsuc n) t = absurd t

abbrev behind : ℕ → Bool
behind k = every (λ e. every is_zero (drop k e)) (take (count k) steps)

behind-all : (k : ℕ) → k ≤ 3 → T (behind k)
unfolding steps ◌⊙◌
behind-all zero h = tt
behind-all (suc zero) h = tt
behind-all (suc (suc zero)) h = tt
behind-all (suc (suc (suc zero))) h = tt
behind-all (suc (suc (suc (suc k)))) h = absurd (omega arith)

pub steps-behind : (k : ℕ) → k ≤ 3 → (i : ℕ) → i < count k → (j : ℕ) → k ≤ j → nth (get_or steps i []) j ≡ pos 0
steps-behind k h i l j m = zero_is (nth (get_or steps i []) j) (subst (λ n. T (is_zero (nth (get_or steps i []) n))) back tested)
  where
    back : k + (j - k) ≡ j
    back = omega arith

    tested : T (is_zero (nth (get_or steps i []) (k + (j - k))))
    tested = rw (get_or-take (count k) steps i [] l, get_or-drop k (get_or steps i []) (j - k) (pos 0))
        at (every_at is_zero (drop k (get_or (take (count k) steps) i [])) (pos 0) tt (every_at (λ e. every is_zero (drop k e)) (take (count k) steps) [] (nothing k) (behind-all k h) i) (j - k))
      where
        nothing : (k : ℕ) → T (every is_zero (drop k []))
        nothing zero = tt
        nothing (suc k) = tt

-- ---- nothing is missing

abbrev equal : List ℤ → List ℤ → Bool
equal k l = eqb (length k) (length l) && (not (below k l) && not (below l k))

not_true : (b : Bool) → T (not b) → b ≡ false
not_true true t = absurd t
not_true false t = refl

equal_is : (k l : List ℤ) → T (equal k l) → k ≡ l
equal_is k l t =
    let u = both_right (eqb (length k) (length l)) (not (below k l) && not (below l k)) t in
    below_antisymm k l (eqb→eq (length k) (length l) (both_left (eqb (length k) (length l)) (not (below k l) && not (below l k)) t))
    (not_true (below k l) (both_left (not (below k l)) (not (below l k)) u)) (not_true (below l k) (both_right (not (below k l)) (not (below l k)) u))

abbrev has : List (List ℤ) → List ℤ → Bool
has [] e = false
has (d ∷ s) e = equal d e || has s e

has-holds : (P : List ℤ → Type 0) (s : List (List ℤ)) (e : List ℤ) → T (has s e) → ((i : ℕ) → i < length s → P (get_or s i [])) → P e
has-holds P [] e t f = absurd t
has-holds P (d ∷ s) e t f = pick (equal d e) (equal_is d e) (λ u. has-holds P s e u (λ i h. f (suc i) (omega arith))) t
  where
    pick : (b : Bool) → (T b → d ≡ e) → (T (has s e) → P e) → T (b || has s e) → P e
    pick true q r t = subst P (q tt) (f 0 (omega arith))
    pick false q r t = r t

abbrev covers : ℕ → Bool
covers k = every (λ e. has (take (count k) steps) (padded 3 e)) (lists k)

covers-all : (k : ℕ) → k ≤ 3 → T (covers k)
unfolding steps ◌⊙◌
covers-all zero h = tt
covers-all (suc zero) h = tt
covers-all (suc (suc zero)) h = tt
covers-all (suc (suc (suc zero))) h = tt
covers-all (suc (suc (suc (suc k)))) h = absurd (omega arith)

pub steps_cover : (P : List ℤ → Type 0) (k : ℕ) → k ≤ 3 → ((i : ℕ) → i < count k → P (get_or steps i []))
    → (j : ℕ) → j < length (lists k) → P (padded 3 (get_or (lists k) j []))
steps_cover P k h f j l = has-holds P (take (count k) steps) (padded 3 (get_or (lists k) j [])) tested
    (λ i m. let n : i < count k = omega (arith, length-take (count k) steps) in rw (get_or-take (count k) steps i [] n) (f i n))
  where
    tested : T (has (take (count k) steps) (padded 3 (get_or (lists k) j [])))
    tested = every_in (λ e. has (take (count k) steps) (padded 3 e)) (lists k) [] (covers-all k h) j l

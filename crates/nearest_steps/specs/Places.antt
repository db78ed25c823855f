-- The place of the first list of the table that improves, as the walk finds it by squares and sums.
use Rattle.std.specs.Prelude.{◌≡◌, ◌⊎◌, true, false, List, [], ℕ, zero, suc, ◌+◌, ◌*◌, ◌≤◌, ◌<◌, ℤ, neg_ℤ, get_or, ◌≤ℤ◌, ◌<ℤ◌, Option, Some, IsNone}
use Rattle.std.specs.declared.option.Option.TheVariants as option
use Rattle.std.proofs.Common.{sym, subst, inl, inr, arith}
use Rattle.std.proofs.Math.Decide.{dec_lt}
use Rattle.lattices.specs.Vector.{nth}
use Rattle.nearest_steps.specs.Meant.{Known}
use Rattle.nearest_steps.specs.Numbers.{improves_of}
use Rattle.nearest_steps.specs.Link.{mirrored}
use Rattle.nearest_steps.specs.Steps.{steps, pairs, pairs-≤, count}
use Rattle.nearest_steps.specs.State.{None}
use Rattle.nearest_steps.specs.Pairs.{squares_in, sums_in, first-improves, first-not, opposite-improves, opposite-not}

-- the square q and the sum l show the list of a pair, or its opposite
abbrev pub First : ℤ → ℤ → Type 0
First q l = q <ℤ l

abbrev pub Opposite : ℤ → ℤ → Type 0
Opposite q l = l ≤ℤ neg_ℤ q

abbrev pub Neither : ℤ → ℤ → Type 0
Neither q l = (l ≤ℤ q) × (neg_ℤ q <ℤ l)

-- the place of a list among the first n pairs that is shown, or none where none is
pub record Walked (n : ℕ) (q l : List ℤ) (o : Option ℕ) : Type 0 where
  pub hit : {p : ℕ} → o ≡ Some p → (i : ℕ) × ((i < n) × (((p ≡ 2 * i) × First (nth q i) (nth l i)) ⊎ ((p ≡ 2 * i + 1) × Opposite (nth q i) (nth l i))))
  pub miss : IsNone o → (i : ℕ) → i < n → Neither (nth q i) (nth l i)

pub walked_first : (n : ℕ) (q l : List ℤ) (i : ℕ) → i < n → First (nth q i) (nth l i) → Walked n q l (Some (2 * i))
walked_first n q l i h f = record { hit = λ e. (i, (h, inl (cc, f))); miss = λ s. cc }

pub walked_opposite : (n : ℕ) (q l : List ℤ) (i : ℕ) → i < n → Opposite (nth q i) (nth l i) → Walked n q l (Some (2 * i + 1))
walked_opposite n q l i h f = record { hit = λ e. (i, (h, inr (cc, f))); miss = λ s. cc }

pub walked_none : (n : ℕ) (q l : List ℤ) → ((i : ℕ) → i < n → Neither (nth q i) (nth l i)) → Walked n q l option.None
walked_none n q l f = record { hit = λ e. cc; miss = λ s. f }

pub walked_as : {n m : ℕ} {q q' l l' : List ℤ} {p : Option ℕ} → n ≡ m → q ≡ q' → l ≡ l' → Walked n q l p → Walked m q' l' p
walked_as {n} {m} {q} {q'} {l} {l'} {p} a b c h = subst (λ k. Walked k q' l' p) a (subst (λ u. Walked n u l' p) b (subst (λ u. Walked n q u p) c h))

-- one pair more
pub neither-next : (n : ℕ) (q l : List ℤ) → ((i : ℕ) → i < n → Neither (nth q i) (nth l i)) → Neither (nth q n) (nth l n) → (i : ℕ) → i < n + 1 → Neither (nth q i) (nth l i)
neither-next n q l f s i m = pick (dec_lt i n)
  where
    pick : Dec (i < n) → Neither (nth q i) (nth l i)
    pick (yes o) = f i o
    pick (no o) = let e : n ≡ i = omega (arith, o) in subst (λ j. Neither (nth q j) (nth l j)) e s

-- ---- the same of the lists

none-pairs : (n : ℕ) (g : List (List ℤ)) (r : List ℤ)
    → ((i : ℕ) → i < n → (improves_of g r (get_or steps (2 * i) []) ≡ false) × (improves_of g r (get_or steps (2 * i + 1) []) ≡ false)) → None (2 * n) g r
none-pairs zero g r f j h = absurd (omega arith)
none-pairs (suc n) g r f j h = pick (none-pairs n g r (λ i m. f i (omega arith)) j) (dec_lt j (2 * n)) (dec_lt j (2 * n + 1))
  where
    pick : (j < 2 * n → improves_of g r (get_or steps j []) ≡ false) → Dec (j < 2 * n) → Dec (j < 2 * n + 1) → improves_of g r (get_or steps j []) ≡ false
    pick t (yes b) c = t b
    pick t (no b) (yes c) = let e : 2 * n ≡ j = omega (arith, b) in subst (λ i. improves_of g r (get_or steps i []) ≡ false) e (f n (omega arith)).0
    pick t (no b) (no c) = let e : 2 * n + 1 ≡ j = omega (arith, c) in subst (λ i. improves_of g r (get_or steps i []) ≡ false) e (f n (omega arith)).1

-- the place of a list of the table that improves, or none where none does
pub record Placed (k : ℕ) (g : List (List ℤ)) (r : List ℤ) (o : Option ℕ) : Type 0 where
  pub hit : {p : ℕ} → o ≡ Some p → (p < count k) × (improves_of g r (get_or steps p []) ≡ true)
  pub miss : IsNone o → None (count k) g r

module _ (k : ℕ) (few : k ≤ 3) (g : List (List ℤ)) (r : List ℤ) (w : Known k g r) where
  mirror : (i j : ℕ) → nth (get_or g i []) j ≡ nth (get_or g j []) i
  mirror = mirrored w.factor w.vectors g w.meant.gram w.meant.positive

  pub placed : (o : Option ℕ) → Walked (pairs k) (squares_in g) (sums_in r) o → Placed k g r o
  placed o h = record {
    hit = λ e. let f = h.hit e in found _ f.0 f.1.0 f.1.1;
    miss = λ l. none-pairs (pairs k) g r
        (λ i b. let n = h.miss l i b in let m : i < 13 = omega (arith, pairs-≤ k few) in (first-not g r mirror i m n.0, opposite-not g r mirror i m n.1));
  }
    where
      found : (p i : ℕ) → i < pairs k → ((p ≡ 2 * i) × First (nth (squares_in g) i) (nth (sums_in r) i)) ⊎ ((p ≡ 2 * i + 1) × Opposite (nth (squares_in g) i) (nth (sums_in r) i))
          → (p < count k) × (improves_of g r (get_or steps p []) ≡ true)
      found p i l (inl e) = (omega (arith, e.0), subst (λ j. improves_of g r (get_or steps j []) ≡ true) (sym e.0) (first-improves g r mirror i (omega (arith, pairs-≤ k few)) e.1))
      found p i l (inr e) = (omega (arith, e.0), subst (λ j. improves_of g r (get_or steps j []) ≡ true) (sym e.0) (opposite-improves g r mirror i (omega (arith, pairs-≤ k few)) e.1))

-- it is one of the table
pub placed-inside : {k : ℕ} {g : List (List ℤ)} {r : List ℤ} {o : Option ℕ} {p : ℕ} → k ≤ 3 → Placed k g r o → o ≡ Some p → p < 26
placed-inside {k} h s e = omega (arith, (s.hit e).0, pairs-≤ k h)

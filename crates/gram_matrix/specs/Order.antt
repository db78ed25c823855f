-- Rows ordered by length in place: by insertion, where neighbours change places.
use Rattle.std.specs.List.{swap}
use Rattle.std.specs.Prelude.{◌≡◌, Bool, true, false, ℤ, length, get_or, take, drop, set}
use Rattle.std.proofs.Math.Path.{refl, ap}
use Rattle.std.proofs.Common.{sym, ◌∙◌, arith, add-one, length-take-le}
use mathlib.Core.List.{List, [], ◌∷◌, ◌++◌}
use Prim.Native.Nat.{ℕ, zero, suc, ◌+◌, ◌-◌, ◌≤◌, ◌<◌}
use Rattle.std.specs.Int.Signed.{lt_z}
use Rattle.lattices.specs.Vector.{N}
use Rattle.lattices.specs.Greedy.{Row, insert, order, insert_by, order_by}
use Rattle.greedy_reduction.specs.Start.{Coordinates}

-- ---- neighbours that change places

module _ {A : Type 0} where
  unfoldable pub exchanged : ℕ → List A → List A
  exchanged j [] = []
  exchanged zero (p ∷ []) = p ∷ []
  exchanged zero (p ∷ q ∷ l) = q ∷ p ∷ l
  exchanged (suc j) (p ∷ l) = p ∷ exchanged j l

  pub exchanged-set : (d : A) (j : ℕ) (l : List A) → suc j < length l → set (set l j (get_or l (suc j) d)) (suc j) (get_or l j d) ≡ exchanged j l
  unfolding exchanged
  exchanged-set d j [] h = absurd (omega arith)
  exchanged-set d zero (p ∷ []) h = absurd (omega arith)
  exchanged-set d zero (p ∷ q ∷ l) h = refl
  exchanged-set d (suc j) (p ∷ l) h = ap {B = List A} (λ k. p ∷ k) (exchanged-set d j l (omega arith))

-- as the library has it
pub exchanged-swap : {A : Type 0} (j : ℕ) (l : List A) → suc j < length l → swap l j (j + 1) ≡ exchanged j l
exchanged-swap j [] h = absurd (omega arith)
exchanged-swap j (d ∷ l) h = rw add-one (exchanged-set d j (d ∷ l) h)

-- ---- the insertion by exchanges

abbrev pub blank : Row
blank = record { vector = []; u = []; v = [] }

-- is row j longer than the next one?
abbrev pub longer : List Row → ℕ → Bool
longer l j = lt_z (N (get_or l (suc j) blank).vector) (N (get_or l j blank).vector)

-- the row at j goes past those of the next m that are shorter
unfoldable pub insert_at : ℕ → ℕ → List Row → List Row
insert_at j zero l = l
insert_at j (suc m) l = elim (longer l j) [ true ↦ insert_at (suc j) m (exchanged j l) | false ↦ l ]

-- a turn of the loop, by its test: stop, or exchange and go on
pub insert_at-suc : (j m : ℕ) (l : List Row) (t : Bool) → longer l j ≡ t → insert_at j (suc m) l ≡ elim t [ true ↦ insert_at (suc j) m (exchanged j l) | false ↦ l ]
unfolding insert_at
insert_at-suc j m l t e = ap (λ (t : Bool). elim t [ true ↦ insert_at (suc j) m (exchanged j l) | false ↦ l ]) e

pub insert_at-done : (n j : ℕ) (l : List Row) → n ≤ j + 1 → insert_at j (n - suc j) l ≡ l
unfolding insert_at
insert_at-done n j l h = let m : n - suc j ≡ 0 = omega arith in rw m refl

-- two branches, side by side
branch : {X Y : Type 0} (f : X → Y) (t : Bool) {a b : Y} {c d : X} → a ≡ f c → b ≡ f d → elim t [ true ↦ a | false ↦ b ] ≡ f (elim t [ true ↦ c | false ↦ d ])
branch f true e g = e
branch f false e g = g

insert_at_cons : (m j : ℕ) (r : Row) (l : List Row) → insert_at (suc j) m (r ∷ l) ≡ r ∷ insert_at j m l
unfolding insert_at exchanged
insert_at_cons zero j r l = refl
insert_at_cons (suc m) j r l = branch (λ k. r ∷ k) (longer l j) (insert_at_cons m (suc j) r (exchanged j l)) refl

insert_at-first : (r : Row) (l s : List Row) → insert_at 0 (length l) (r ∷ l ++ s) ≡ insert r l ++ s
unfolding insert_at exchanged insert_by
insert_at-first r [] s = refl
insert_at-first r (q ∷ l) s = branch (λ k. k ++ s) (longer (r ∷ q ∷ l) 0) (insert_at_cons (length l) 0 q (r ∷ l ++ s) ∙ ap (λ k. q ∷ k) (insert_at-first r l s)) refl

-- ---- the order by insertion, from the last row to the first

-- the rows from i up to n are in order, the others as they were
abbrev pub ordered_from : ℕ → ℕ → List Row → List Row
ordered_from n i l = take i l ++ order (drop i (take n l)) ++ drop n l

length-insert : (r : Row) (l : List Row) → length (insert r l) ≡ suc (length l)
unfolding insert_by
length-insert r [] = refl
length-insert r (q ∷ l) = by (longer (r ∷ q ∷ l) 0) (length-insert r l)
  where
    by : (t : Bool) → length (insert r l) ≡ suc (length l) → length {A = Row} (elim t [ true ↦ q ∷ insert r l | false ↦ r ∷ (q ∷ l) ]) ≡ suc (suc (length l))
    by true e = ap suc e
    by false e = refl

length-order : (l : List Row) → length (order l) ≡ length l
unfolding order_by
length-order [] = refl
length-order (r ∷ l) = length-insert r (order l) ∙ ap suc (length-order l)

ordered_from-last : (n : ℕ) (l : List Row) → n ≤ length l → ordered_from n n l ≡ l
unfolding order_by
ordered_from-last zero l h = refl
ordered_from-last (suc n) [] h = absurd (omega arith)
ordered_from-last (suc n) (r ∷ l) h = ap (λ k. r ∷ k) (ordered_from-last n l (omega arith))

pub ordered_from-next : (i m n : ℕ) (l : List Row) → n ≡ suc (i + m) → n ≤ length l → insert_at i m (ordered_from n (suc i) l) ≡ ordered_from n i l
unfolding order_by
ordered_from-next i m zero l e h = absurd (omega arith)
ordered_from-next i m (suc n) [] e h = absurd (omega arith)
ordered_from-next zero m (suc n) (r ∷ l) e h =
    let q = order (take n l) in
    let k : m ≡ length q = sym (length-order (take n l) ∙ length-take-le n l (omega arith) ∙ omega arith) in
    ap (λ k. insert_at 0 k (r ∷ q ++ drop n l)) k ∙ insert_at-first r q (drop n l)
ordered_from-next (suc i) m (suc n) (r ∷ l) e h = insert_at_cons m i r (ordered_from n (suc i) l) ∙ ap (λ k. r ∷ k) (ordered_from-next i m n l (omega arith) (omega arith))

-- one row is in order
pub ordered_from-begin : (n : ℕ) (l : List Row) → n ≤ length l → ordered_from n (n - 1) l ≡ l
unfolding insert_at
ordered_from-begin zero l h = ordered_from-last 0 l h
ordered_from-begin (suc n) l h =
    let e : suc n - 1 ≡ n = omega arith in
    rw e (sym (ordered_from-next n 0 (suc n) l (omega arith) h) ∙ ordered_from-last (suc n) l h)

-- rows that change places stay as wide as they are
pub exchanged-wide : (w j : ℕ) (t : List (List ℤ)) → Coordinates w t → Coordinates w (exchanged j t)
unfolding exchanged
exchanged-wide w j [] c = tt
exchanged-wide w zero (p ∷ []) c = c
exchanged-wide w zero (p ∷ q ∷ t) c = (c.1.0, (c.0, c.1.1))
exchanged-wide w (suc j) (p ∷ t) c = (c.0, exchanged-wide w j t c.1)

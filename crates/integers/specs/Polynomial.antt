-- A normaliser for polynomials over ℤ, and its correctness: expressions whose difference normalises to zero have the same value.
-- Identity reads the expressions off a goal; what has to compute at a use is `abbrev`.
use Rattle.std.specs.Prelude.{◌≡◌, refl, List, [], ◌∷◌, Bool, true, false, T, ℤ, pos, negsuc, neg_ℤ, ◌+ℤ◌, ◌-ℤ◌, ◌*ℤ◌, get_or}
use Rattle.std.proofs.Common.{sym, ◌∙◌, ap, ap₂, eqb→eq}
use Prim.Native.Nat.{ℕ, zero, suc, compare, Ordering}
use Rattle.std.proofs.Math.Dec.{compare_is_eq}
use Rattle.std.proofs.Math.IntN.{+ℤ_idl, +ℤ_idr, +ℤ_assoc, zero-*ℤ, *ℤ-zero}
use Rattle.integers.specs.Ring.{+ℤ-left_comm, +ℤ-ac, -ℤ-zero, +ℤ-*ℤ, *ℤ-+ℤ, *ℤ_assoc, *ℤ-left_comm, *ℤ-ac, *ℤ-pos-one, pos-one-*ℤ, negsuc-zero-*ℤ}

-- ════════════════════════════════════════════════════════════════════════════════════════════
-- Expressions and normal forms
-- ════════════════════════════════════════════════════════════════════════════════════════════

infixl 6 ◌:+◌ ◌:-◌
infixl 7 ◌:*◌
pub data Expr : Type 0 where
  atom : ℕ → Expr
  const : ℤ → Expr
  ◌:+◌ ◌:-◌ ◌:*◌ : Expr → Expr → Expr
  opp : Expr → Expr

-- the value, with the list's i-th entry for the atom i
abbrev pub eval : List ℤ → Expr → ℤ
eval ρ (atom i) = get_or ρ i (pos 0)
eval ρ (const z) = z
eval ρ (a :+ b) = eval ρ a +ℤ eval ρ b
eval ρ (a :- b) = eval ρ a -ℤ eval ρ b
eval ρ (a :* b) = eval ρ a *ℤ eval ρ b
eval ρ (opp a) = neg_ℤ (eval ρ a)

-- a monomial is the ascending list of its atoms; a polynomial is a list of terms, the greatest monomial first
-- (soundness does not rest on either order, and zero coefficients stay)
abbrev pub Monomial : Type 0
Monomial = List ℕ

pub data Polynomial : Type 0 where
  nil : Polynomial
  term : ℤ → Monomial → Polynomial → Polynomial

abbrev pub eval_mono : List ℤ → Monomial → ℤ
eval_mono ρ [] = pos 1
eval_mono ρ (i ∷ m) = get_or ρ i (pos 0) *ℤ eval_mono ρ m

abbrev pub eval_poly : List ℤ → Polynomial → ℤ
eval_poly ρ nil = pos 0
eval_poly ρ (term c m p) = c *ℤ eval_mono ρ m +ℤ eval_poly ρ p

-- the product of two monomials, by merging: `insert i m f n` is that of i ∷ m and n, where f multiplies by m
abbrev pub insert : ℕ → Monomial → (Monomial → Monomial) → Monomial → Monomial
insert i m f [] = i ∷ m
insert i m f (j ∷ n) = elim (compare i j) [
  | Ordering.lt ↦ i ∷ f (j ∷ n)
  | Ordering.eq ↦ i ∷ f (j ∷ n)
  | Ordering.gt ↦ j ∷ insert i m f n
]

abbrev pub times_mono : Monomial → Monomial → Monomial
times_mono [] n = n
times_mono (i ∷ m) n = insert i m (times_mono m) n

-- the order of terms: the first difference decides, and a longer monomial comes before its prefix
abbrev pub compare_mono : Monomial → Monomial → Ordering
compare_mono [] [] = Ordering.eq
compare_mono [] (j ∷ n) = Ordering.gt
compare_mono (i ∷ m) [] = Ordering.lt
compare_mono (i ∷ m) (j ∷ n) = elim (compare i j) [
  | Ordering.lt ↦ Ordering.lt
  | Ordering.eq ↦ compare_mono m n
  | Ordering.gt ↦ Ordering.gt
]

-- the sum, by merging: `add_term c m p f q` is that of term c m p and q, where f adds p
abbrev pub add_term : ℤ → Monomial → Polynomial → (Polynomial → Polynomial) → Polynomial → Polynomial
add_term c m p f nil = term c m p
add_term c m p f (term d n q) = elim (compare_mono m n) [
  | Ordering.lt ↦ term c m (f (term d n q))
  | Ordering.eq ↦ term (c +ℤ d) m (f q)
  | Ordering.gt ↦ term d n (add_term c m p f q)
]

abbrev pub plus : Polynomial → Polynomial → Polynomial
plus nil q = q
plus (term c m p) q = add_term c m p (plus p) q

abbrev pub scale : ℤ → Monomial → Polynomial → Polynomial
scale c m nil = nil
scale c m (term d n q) = term (c *ℤ d) (times_mono m n) (scale c m q)

abbrev pub times : Polynomial → Polynomial → Polynomial
times nil q = nil
times (term c m p) q = plus (scale c m q) (times p q)

abbrev pub norm : Expr → Polynomial
norm (atom i) = term (pos 1) (i ∷ []) nil
norm (const z) = term z [] nil
norm (a :+ b) = plus (norm a) (norm b)
norm (a :- b) = plus (norm a) (scale (negsuc 0) [] (norm b))
norm (a :* b) = times (norm a) (norm b)
norm (opp a) = scale (negsuc 0) [] (norm a)

-- all coefficients are zero
abbrev pub is_nil : Polynomial → Bool
is_nil nil = true
is_nil (term (pos zero) m p) = is_nil p
is_nil (term (pos (suc n)) m p) = false
is_nil (term (negsuc n) m p) = false

-- ════════════════════════════════════════════════════════════════════════════════════════════
-- Correctness
-- ════════════════════════════════════════════════════════════════════════════════════════════

-- a property of each branch is one of the case distinction
branch : {A : Type 0} (P : A → Type 0) (o : Ordering) {x y z : A} → P x → (T (compare_is_eq o) → P y) → P z → P (elim o [ Ordering.lt ↦ x | Ordering.eq ↦ y | Ordering.gt ↦ z ])
branch P Ordering.lt h k l = h
branch P Ordering.eq h k l = k tt
branch P Ordering.gt h k l = l

compare_mono_eq : (m n : Monomial) → T (compare_is_eq (compare_mono m n)) → m ≡ n
compare_mono_eq [] [] t = refl
compare_mono_eq [] (j ∷ n) t = absurd t
compare_mono_eq (i ∷ m) [] t = absurd t
compare_mono_eq (i ∷ m) (j ∷ n) t = heads (compare i j) (eqb→eq i j) (compare_mono_eq m n) t
  where
    heads : (o : Ordering) → (T (compare_is_eq o) → i ≡ j) → (T (compare_is_eq (compare_mono m n)) → m ≡ n) → T (compare_is_eq (elim o [ Ordering.lt ↦ Ordering.lt | Ordering.eq ↦ compare_mono m n | Ordering.gt ↦ Ordering.gt ])) → i ∷ m ≡ j ∷ n
    heads Ordering.lt e ih t = absurd t
    heads Ordering.eq e ih t = ap₂ ◌∷◌ (e tt) (ih t)
    heads Ordering.gt e ih t = absurd t

-- the rearrangements of the two inductions below, over variables
collect : (c d x y z : ℤ) → (c +ℤ d) *ℤ x +ℤ (y +ℤ z) ≡ (c *ℤ x +ℤ y) +ℤ (d *ℤ x +ℤ z)
collect c d x y z = rw +ℤ-*ℤ (simp +ℤ-ac)

distribute : (c d x y z : ℤ) → c *ℤ d *ℤ (x *ℤ y) +ℤ c *ℤ x *ℤ z ≡ c *ℤ x *ℤ (d *ℤ y +ℤ z)
distribute c d x y z = rw *ℤ-+ℤ (simp *ℤ-ac)

module _ (ρ : List ℤ) where
  insert-is : (i : ℕ) (m : Monomial) (f : Monomial → Monomial) → ((n : Monomial) → eval_mono ρ (f n) ≡ eval_mono ρ m *ℤ eval_mono ρ n) → (n : Monomial) → eval_mono ρ (insert i m f n) ≡ eval_mono ρ (i ∷ m) *ℤ eval_mono ρ n
  insert-is i m f h [] = sym (*ℤ-pos-one (eval_mono ρ (i ∷ m)))
  insert-is i m f h (j ∷ n) = branch (λ l. eval_mono ρ l ≡ eval_mono ρ (i ∷ m) *ℤ eval_mono ρ (j ∷ n)) (compare i j) left (λ e. left) (ap (λ x. get_or ρ j (pos 0) *ℤ x) (insert-is i m f h n) ∙ *ℤ-left_comm (get_or ρ j (pos 0)) (eval_mono ρ (i ∷ m)) (eval_mono ρ n))
    where
      left : eval_mono ρ (i ∷ f (j ∷ n)) ≡ eval_mono ρ (i ∷ m) *ℤ eval_mono ρ (j ∷ n)
      left = ap (λ x. get_or ρ i (pos 0) *ℤ x) (h (j ∷ n)) ∙ sym (*ℤ_assoc (get_or ρ i (pos 0)) (eval_mono ρ m) (eval_mono ρ (j ∷ n)))

  times_mono_is : (m n : Monomial) → eval_mono ρ (times_mono m n) ≡ eval_mono ρ m *ℤ eval_mono ρ n
  times_mono_is [] n = sym (pos-one-*ℤ (eval_mono ρ n))
  times_mono_is (i ∷ m) n = insert-is i m (times_mono m) (times_mono_is m) n

  add-term-is : (c : ℤ) (m : Monomial) (p : Polynomial) (f : Polynomial → Polynomial) → ((q : Polynomial) → eval_poly ρ (f q) ≡ eval_poly ρ p +ℤ eval_poly ρ q) → (q : Polynomial) → eval_poly ρ (add_term c m p f q) ≡ eval_poly ρ (term c m p) +ℤ eval_poly ρ q
  add-term-is c m p f h nil = sym (+ℤ_idr (eval_poly ρ (term c m p)))
  add-term-is c m p f h (term d n q) = branch (λ l. eval_poly ρ l ≡ eval_poly ρ (term c m p) +ℤ eval_poly ρ (term d n q)) (compare_mono m n)
      (ap (λ x. c *ℤ eval_mono ρ m +ℤ x) (h (term d n q)) ∙ sym (+ℤ_assoc (c *ℤ eval_mono ρ m) (eval_poly ρ p) (eval_poly ρ (term d n q))))
      (λ t. ap (λ x. (c +ℤ d) *ℤ eval_mono ρ m +ℤ x) (h q) ∙ collect c d (eval_mono ρ m) (eval_poly ρ p) (eval_poly ρ q) ∙ ap (λ l. eval_poly ρ (term c m p) +ℤ eval_poly ρ (term d l q)) (compare_mono_eq m n t))
      (ap (λ x. d *ℤ eval_mono ρ n +ℤ x) (add-term-is c m p f h q) ∙ +ℤ-left_comm (d *ℤ eval_mono ρ n) (eval_poly ρ (term c m p)) (eval_poly ρ q))

  plus-is : (p q : Polynomial) → eval_poly ρ (plus p q) ≡ eval_poly ρ p +ℤ eval_poly ρ q
  plus-is nil q = sym (+ℤ_idl (eval_poly ρ q))
  plus-is (term c m p) q = add-term-is c m p (plus p) (plus-is p) q

  scale-is : (c : ℤ) (m : Monomial) (q : Polynomial) → eval_poly ρ (scale c m q) ≡ c *ℤ eval_mono ρ m *ℤ eval_poly ρ q
  scale-is c m nil = sym (*ℤ-zero (c *ℤ eval_mono ρ m))
  scale-is c m (term d n q) = ap₂ (λ x y. c *ℤ d *ℤ x +ℤ y) (times_mono_is m n) (scale-is c m q) ∙ distribute c d (eval_mono ρ m) (eval_mono ρ n) (eval_poly ρ q)

  times-is : (p q : Polynomial) → eval_poly ρ (times p q) ≡ eval_poly ρ p *ℤ eval_poly ρ q
  times-is nil q = sym (zero-*ℤ (eval_poly ρ q))
  times-is (term c m p) q = plus-is (scale c m q) (times p q) ∙ ap₂ ◌+ℤ◌ (scale-is c m q) (times-is p q) ∙ sym (+ℤ-*ℤ (c *ℤ eval_mono ρ m) (eval_poly ρ p) (eval_poly ρ q))

  opp-is : (p : Polynomial) → eval_poly ρ (scale (negsuc 0) [] p) ≡ neg_ℤ (eval_poly ρ p)
  opp-is p = scale-is (negsuc 0) [] p ∙ negsuc-zero-*ℤ (eval_poly ρ p)

  pub norm-is : (a : Expr) → eval_poly ρ (norm a) ≡ eval ρ a
  norm-is (atom i) = simp (+ℤ_idr, pos-one-*ℤ, *ℤ-pos-one)
  norm-is (const z) = simp (+ℤ_idr, *ℤ-pos-one)
  norm-is (a :+ b) = plus-is (norm a) (norm b) ∙ ap₂ ◌+ℤ◌ (norm-is a) (norm-is b)
  norm-is (a :- b) = plus-is (norm a) (scale (negsuc 0) [] (norm b)) ∙ ap₂ ◌+ℤ◌ (norm-is a) (opp-is (norm b) ∙ ap neg_ℤ (norm-is b))
  norm-is (a :* b) = times-is (norm a) (norm b) ∙ ap₂ ◌*ℤ◌ (norm-is a) (norm-is b)
  norm-is (opp a) = opp-is (norm a) ∙ ap neg_ℤ (norm-is a)

  is_nil-is : (p : Polynomial) → T (is_nil p) → eval_poly ρ p ≡ pos 0
  is_nil-is nil t = refl
  is_nil-is (term (pos zero) m p) t = ap₂ ◌+ℤ◌ (zero-*ℤ (eval_mono ρ m)) (is_nil-is p t)
  is_nil-is (term (pos (suc n)) m p) t = absurd t
  is_nil-is (term (negsuc n) m p) t = absurd t

  -- correctness: the test on the normal form of the difference proves the equation
  pub norm-sound : (a b : Expr) → T (is_nil (norm (a :- b))) → eval ρ a ≡ eval ρ b
  norm-sound a b t = -ℤ-zero (eval ρ a) (eval ρ b) (sym (norm-is (a :- b)) ∙ is_nil-is (norm (a :- b)) t)

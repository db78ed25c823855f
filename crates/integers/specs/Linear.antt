-- Linear goals over ℤ by `omega`, which reads ℕ only: each atom is the difference of two shut naturals, and `to_n` and `from_n`
-- carry an order between expressions to one between sums of naturals and back. `-<` and `-≡` are the same for `<` and `≡`.
use Rattle.std.specs.Prelude.{◌≡◌, List, [], ◌∷◌, ℕ, zero, suc, ◌+◌, ◌*◌, ◌≤◌, ◌<◌, ℤ, pos, negsuc, neg_ℤ, ◌+ℤ◌, ◌-ℤ◌, ◌*ℤ◌, get_or, ◌≤ℤ◌, ◌<ℤ◌}
use Rattle.std.proofs.Common.{sym, ◌∙◌, ap, ap₂, subst₂, le_antisymm, le_of_eq, arith, leb→le, le→leb}
use Rattle.std.proofs.Math.IntN.{+ℤ_idl, +ℤ_idr}
use Rattle.std.specs.Int.Signed.{le_z_yes}
use Rattle.integers.specs.Polynomial.{Expr, atom, const, ◌:+◌, ◌:-◌, ◌:*◌, opp, eval}
use Rattle.integers.specs.Identity.{Is, is_pos, is-add, tree, tree_is, reads, by_ring}
use Rattle.integers.specs.Order.{≤ℤ_of_≡, ≤ℤ_antisymm, add-one-≤ℤ, <ℤ_of_add-one}
use Rattle.integers.specs.Certificate.{le, by_nn}

-- ---- an integer is the difference of its parts; shut, so that `omega` takes them as unknowns

unfoldable pub pos_part : ℤ → ℕ
pos_part (pos n) = n
pos_part (negsuc n) = zero

unfoldable pub neg_part : ℤ → ℕ
neg_part (pos n) = zero
neg_part (negsuc n) = suc n

-- ---- differences of naturals, as pairs

abbrev pub diff : ℕ × ℕ → ℤ
diff p = pos p.0 -ℤ pos p.1

abbrev pub diff-add : ℕ × ℕ → ℕ × ℕ → ℕ × ℕ
diff-add p q = (p.0 + q.0, p.1 + q.1)

abbrev pub diff-opp : ℕ × ℕ → ℕ × ℕ
diff-opp p = (p.1, p.0)

abbrev pub diff-mul : ℕ × ℕ → ℕ × ℕ → ℕ × ℕ
diff-mul p q = (p.0 * q.0 + p.1 * q.1, p.0 * q.1 + p.1 * q.0)

abbrev pub parts : List ℤ → Expr → ℕ × ℕ
parts ρ (atom i) = (pos_part (get_or ρ i (pos 0)), neg_part (get_or ρ i (pos 0)))
parts ρ (const (pos n)) = (n, 0)
parts ρ (const (negsuc n)) = (0, suc n)
parts ρ (a :+ b) = diff-add (parts ρ a) (parts ρ b)
parts ρ (a :- b) = diff-add (parts ρ a) (diff-opp (parts ρ b))
parts ρ (a :* b) = diff-mul (parts ρ a) (parts ρ b)
parts ρ (opp a) = diff-opp (parts ρ a)

part-is : (z : ℤ) → z ≡ diff (pos_part z, neg_part z)
unfolding pos_part neg_part
part-is (pos n) = sym (+ℤ_idr (pos n))
part-is (negsuc n) = sym (+ℤ_idl (negsuc n))

-- each law is proved over ℤ variables, since sums and products of `pos` compute
add_is : (p q : ℕ × ℕ) → diff p +ℤ diff q ≡ diff (diff-add p q)
add_is p q = law (pos p.0) (pos p.1) (pos q.0) (pos q.1)
  where
    law : (P N Q M : ℤ) → (P -ℤ N) +ℤ (Q -ℤ M) ≡ (P +ℤ Q) -ℤ (N +ℤ M)
    law P N Q M = by_ring (P ∷ N ∷ Q ∷ M ∷ []) (search reads) (search reads) tt

sub_is : (p q : ℕ × ℕ) → diff p -ℤ diff q ≡ diff (diff-add p (diff-opp q))
sub_is p q = law (pos p.0) (pos p.1) (pos q.0) (pos q.1)
  where
    law : (P N Q M : ℤ) → (P -ℤ N) -ℤ (Q -ℤ M) ≡ (P +ℤ M) -ℤ (N +ℤ Q)
    law P N Q M = by_ring (P ∷ N ∷ Q ∷ M ∷ []) (search reads) (search reads) tt

mul_is : (p q : ℕ × ℕ) → diff p *ℤ diff q ≡ diff (diff-mul p q)
mul_is p q = law (pos p.0) (pos p.1) (pos q.0) (pos q.1)
  where
    law : (P N Q M : ℤ) → (P -ℤ N) *ℤ (Q -ℤ M) ≡ (P *ℤ Q +ℤ N *ℤ M) -ℤ (P *ℤ M +ℤ N *ℤ Q)
    law P N Q M = by_ring (P ∷ N ∷ Q ∷ M ∷ []) (search reads) (search reads) tt

opp-is : (p : ℕ × ℕ) → neg_ℤ (diff p) ≡ diff (diff-opp p)
opp-is p = law (pos p.0) (pos p.1)
  where
    law : (P N : ℤ) → neg_ℤ (P -ℤ N) ≡ N -ℤ P
    law P N = by_ring (P ∷ N ∷ []) (search reads) (search reads) tt

parts_is : (ρ : List ℤ) (e : Expr) → eval ρ e ≡ diff (parts ρ e)
parts_is ρ (atom i) = part-is (get_or ρ i (pos 0))
parts_is ρ (const (pos n)) = sym (+ℤ_idr (pos n))
parts_is ρ (const (negsuc n)) = sym (+ℤ_idl (negsuc n))
parts_is ρ (a :+ b) = ap₂ ◌+ℤ◌ (parts_is ρ a) (parts_is ρ b) ∙ add_is (parts ρ a) (parts ρ b)
parts_is ρ (a :- b) = ap₂ ◌-ℤ◌ (parts_is ρ a) (parts_is ρ b) ∙ sub_is (parts ρ a) (parts ρ b)
parts_is ρ (a :* b) = ap₂ ◌*ℤ◌ (parts_is ρ a) (parts_is ρ b) ∙ mul_is (parts ρ a) (parts ρ b)
parts_is ρ (opp a) = ap neg_ℤ (parts_is ρ a) ∙ opp-is (parts ρ a)

value-is : (ρ : List ℤ) {x : ℤ} (p : Is ρ x) → x ≡ diff (parts ρ (tree p))
value-is ρ p = sym (tree_is p) ∙ parts_is ρ (tree p)

-- ---- orders

cross : (p q : ℕ × ℕ) → diff p ≤ℤ diff q → p.0 + q.1 ≤ q.0 + p.1
cross p q h = leb→le (p.0 + q.1) (q.0 + p.1) (law (pos p.0) (pos p.1) (pos q.0) (pos q.1) h).le
  where
    law : (P N Q M : ℤ) → (P -ℤ N) ≤ℤ (Q -ℤ M) → (P +ℤ M) ≤ℤ (Q +ℤ N)
    law P N Q M h = by_nn (P ∷ N ∷ Q ∷ M ∷ []) (le h) (search reads) (search reads) tt

uncross : (p q : ℕ × ℕ) → p.0 + q.1 ≤ q.0 + p.1 → diff p ≤ℤ diff q
uncross p q h = law (pos p.0) (pos p.1) (pos q.0) (pos q.1) (le_z_yes (le→leb (p.0 + q.1) (q.0 + p.1) h))
  where
    law : (P N Q M : ℤ) → (P +ℤ M) ≤ℤ (Q +ℤ N) → (P -ℤ N) ≤ℤ (Q -ℤ M)
    law P N Q M h = by_nn (P ∷ N ∷ Q ∷ M ∷ []) (le h) (search reads) (search reads) tt

module _ (ρ : List ℤ) {x y : ℤ} (p : Is ρ x) (q : Is ρ y) where
  pub to_n : x ≤ℤ y → (parts ρ (tree p)).0 + (parts ρ (tree q)).1 ≤ (parts ρ (tree q)).0 + (parts ρ (tree p)).1
  to_n h = cross (parts ρ (tree p)) (parts ρ (tree q)) (subst₂ ◌≤ℤ◌ (value-is ρ p) (value-is ρ q) h)

  pub from_n : (parts ρ (tree p)).0 + (parts ρ (tree q)).1 ≤ (parts ρ (tree q)).0 + (parts ρ (tree p)).1 → x ≤ℤ y
  from_n h = subst₂ ◌≤ℤ◌ (sym (value-is ρ p)) (sym (value-is ρ q)) (uncross (parts ρ (tree p)) (parts ρ (tree q)) h)

module _ (ρ : List ℤ) {x y : ℤ} (p : Is ρ x) (q : Is ρ y) where
  pub to_n-< : x <ℤ y → (parts ρ (tree p)).0 + (parts ρ (tree q)).1 < (parts ρ (tree q)).0 + (parts ρ (tree p)).1
  to_n-< h = omega (arith, to_n ρ (is-add p (is_pos 1)) q (add-one-≤ℤ h))

  pub from_n-< : (parts ρ (tree p)).0 + (parts ρ (tree q)).1 < (parts ρ (tree q)).0 + (parts ρ (tree p)).1 → x <ℤ y
  from_n-< h = <ℤ_of_add-one (from_n ρ (is-add p (is_pos 1)) q (omega arith))

  pub to_n-≡ : x ≡ y → (parts ρ (tree p)).0 + (parts ρ (tree q)).1 ≡ (parts ρ (tree q)).0 + (parts ρ (tree p)).1
  to_n-≡ e = le_antisymm (to_n ρ p q (≤ℤ_of_≡ e)) (to_n ρ q p (≤ℤ_of_≡ (sym e)))

  pub from_n-≡ : (parts ρ (tree p)).0 + (parts ρ (tree q)).1 ≡ (parts ρ (tree q)).0 + (parts ρ (tree p)).1 → x ≡ y
  from_n-≡ e = ≤ℤ_antisymm (from_n ρ p q (le_of_eq e)) (from_n ρ q p (le_of_eq (sym e)))

-- What is said of two entries is fixed by what it means: only one of all that can be said is true and the first that is.
use Rattle.std.specs.Prelude.{◌≡◌, refl, ◌↔◌, ℕ, suc, ℤ, length, get_or, ◌≤ℤ◌}
use Rattle.std.proofs.Common.{sym, ap, ap₂, ◌∙◌, subst, arith}
use mathlib.Core.List.{List, [], ◌∷◌, ◌++◌, tail}
use Rattle.integers.specs.All.{All}
use Rattle.integers.specs.Order.{≤ℤ_antisymm}
use Rattle.lattices.specs.Vector.{Vec, distance, In}
use Rattle.catalogue_rules.specs.Catalogue.{Entry}
use Rattle.fold_rules.proofs.Laws.SameLattice.{Sound}
use Rattle.separation_rules.specs.Separation.{Separation, same, different_m, different_d, first_outside, second_outside, rank, separation}
use Rattle.separation_rules.specs.Meaning.{Outside, Says, Separates}
use Rattle.separation_rules.proofs.Laws.Separating.{separation-separates}

-- ---- the first that has not P

module _ (P : Vec → Type 0) where
  record Same (k l : List Vec) (v w : Vec) : Type 0 where
    before : k ≡ l
    vector : v ≡ w

  split-once : (k l : List Vec) (v w : Vec) (a b : List Vec) → k ++ (v ∷ a) ≡ l ++ (w ∷ b) → All P k → All P l → ¬ P v → ¬ P w → Same k l v w
  split-once [] [] v w a b e p q n o = record { before = refl; vector = ap (λ l. get_or l 0 []) e }
  split-once [] (x ∷ l) v w a b e p q n o = absurd (n (subst P (sym (ap (λ l. get_or l 0 []) e)) q.0))
  split-once (x ∷ k) [] v w a b e p q n o = absurd (o (subst P (ap (λ l. get_or l 0 []) e) p.0))
  split-once (x ∷ k) (y ∷ l) v w a b e p q n o =
      let r = split-once k l v w a b (ap tail e) p.1 q.1 n o in
      record { before = ap₂ ◌∷◌ (ap (λ l. get_or l 0 []) e) r.before; vector = r.vector }

module _ (e f : Entry) {j k : ℕ} {y z : ℤ} (o : Outside e f j y) (p : Outside e f k z) where
  alike : Same (In f.vectors) o.before p.before o.vector p.vector
  alike = split-once (In f.vectors) o.before p.before o.vector p.vector o.after p.after (sym o.split ∙ p.split) o.inside p.inside o.outside p.outside

  pub one-position : j ≡ k
  one-position = o.counted ∙ ap (λ l. suc (length l)) alike.before ∙ sym p.counted

  pub one-square : y ≡ z
  one-square = ≤ℤ_antisymm
      (subst (λ x. y ≤ℤ x) (ap (λ v. distance v p.nearest) alike.vector ∙ p.reached) (o.least p.nearest p.member))
      (subst (λ x. z ≤ℤ x) (ap (λ v. distance v o.nearest) (sym alike.vector) ∙ o.reached) (p.least o.nearest o.member))

-- of one rank only one can be true
one_of_rank : (e f : Entry) (x y : Separation) → Says e f x → Says e f y → rank x ≡ rank y → x ≡ y
one_of_rank e f same same p q r = refl
one_of_rank e f same different_m p q r = absurd (omega arith)
one_of_rank e f same different_d p q r = absurd (omega arith)
one_of_rank e f same (first_outside k z) p q r = absurd (omega arith)
one_of_rank e f same (second_outside k z) p q r = absurd (omega arith)
one_of_rank e f different_m same p q r = absurd (omega arith)
one_of_rank e f different_m different_m p q r = refl
one_of_rank e f different_m different_d p q r = absurd (omega arith)
one_of_rank e f different_m (first_outside k z) p q r = absurd (omega arith)
one_of_rank e f different_m (second_outside k z) p q r = absurd (omega arith)
one_of_rank e f different_d same p q r = absurd (omega arith)
one_of_rank e f different_d different_m p q r = absurd (omega arith)
one_of_rank e f different_d different_d p q r = refl
one_of_rank e f different_d (first_outside k z) p q r = absurd (omega arith)
one_of_rank e f different_d (second_outside k z) p q r = absurd (omega arith)
one_of_rank e f (first_outside j y) same p q r = absurd (omega arith)
one_of_rank e f (first_outside j y) different_m p q r = absurd (omega arith)
one_of_rank e f (first_outside j y) different_d p q r = absurd (omega arith)
one_of_rank e f (first_outside j y) (first_outside k z) p q r = ap₂ first_outside (one-position e f p q) (one-square e f p q)
one_of_rank e f (first_outside j y) (second_outside k z) p q r = absurd (omega arith)
one_of_rank e f (second_outside j y) same p q r = absurd (omega arith)
one_of_rank e f (second_outside j y) different_m p q r = absurd (omega arith)
one_of_rank e f (second_outside j y) different_d p q r = absurd (omega arith)
one_of_rank e f (second_outside j y) (first_outside k z) p q r = absurd (omega arith)
one_of_rank e f (second_outside j y) (second_outside k z) p q r = ap₂ second_outside (one-position f e p q) (one-square f e p q)

module _ (e f : Entry) where
  -- what is true and the first that is, is one
  pub separates-once : (x y : Separation) → Separates e f x → Separates e f y → x ≡ y
  separates-once x y p q = one_of_rank e f x y p.says q.says (omega (arith, p.first y q.says, q.first x p.says))

  -- so the definition is its meaning
  pub separation-exactly : Sound e → Sound f → (x : Separation) → (separation e f ≡ x) ↔ Separates e f x
  separation-exactly s t x = (λ q. subst (Separates e f) q (separation-separates e f s t), λ p. separates-once (separation e f) x (separation-separates e f s t) p)

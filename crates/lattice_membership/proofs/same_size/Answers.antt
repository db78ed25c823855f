-- Equal, or opposite, or of other sizes.
use mathlib.Core.Path.{◌≡◌, refl, sym, ap, ◌∙◌, subst}
use mathlib.Core.Bool.{Bool, true, false, true≢false}
use lib.Dec.{eqb}
use lib.IntN.{ℤ, pos, neg_ℤ, ◌-ℤ◌, +ℤ_idl}
use mir.Facts.{to_z-of_z}
use mir.Syntax.{w64}
use mir.Val.{of_z, to_z, SFits}
use borrow.Author.Tests.{eqb-true, eq-eqb}
use Rattle.integers.specs.Size.{within-neg, fits-within}
use Rattle.lattice_membership.specs.Known.{same_size}
use Rattle.lattice_membership.specs.Laws.SameSize.{size-equal, size-opposite, size-other}
use Rattle.lattice_membership.proofs.same_size.Goals as goal

-- equal bits are equal numbers
from_bits : {x y : ℤ} → SFits w64 x → SFits w64 y → of_z w64 x ≡ of_z w64 y → x ≡ y
from_bits f g e = sym (to_z-of_z {w = w64} f) ∙ ap (to_z w64) e ∙ to_z-of_z {w = w64} g

pub overflow_sub-result : goal.overflow_sub-result
overflow_sub-result c =
    let opposite-fits : SFits w64 (neg_ℤ c.args.b) =
    fits-within (within-neg c.requires) tt in
    let minus_is : pos 0 -ℤ to_z w64 (of_z w64 c.args.b) ≡ neg_ℤ c.args.b =
    +ℤ_idl (neg_ℤ (to_z w64 (of_z w64 c.args.b))) ∙ ap neg_ℤ (to_z-of_z {w = w64} c.ranges.b) in
    subst (SFits w64) (sym (minus_is)) (opposite-fits)

pub returns-then-a-b : goal.returns-then-a-b
returns-then-a-b c =
    let s = c in
    eq-eqb _ _ c.if-a-b.true ∙ sym (size-equal s.args.a s.args.b (from_bits s.ranges.a s.ranges.b c.if-a-b.true))

decided : (a b : ℤ) → SFits w64 a → SFits w64 b → SFits w64 (neg_ℤ b) → (of_z w64 a ≡ of_z w64 b → ⊥) → (t : Bool) → eqb (of_z w64 a) (of_z w64 (neg_ℤ b)) ≡ t → t ≡ same_size a b
decided a b f g o n true e = sym (size-opposite a b (from_bits f o (eqb-true _ _ e)))
decided a b f g o n false e = sym (size-other a b (λ p. n (ap (of_z w64) p)) (λ p. true≢false (sym (eq-eqb _ _ (ap (of_z w64) p)) ∙ e)))

pub returns-else-a-b : goal.returns-else-a-b
returns-else-a-b c =
    let opposite-fits : SFits w64 (neg_ℤ c.args.b) =
    fits-within (within-neg c.requires) tt in
    let minus_is : pos 0 -ℤ to_z w64 (of_z w64 c.args.b) ≡ neg_ℤ c.args.b =
    +ℤ_idl (neg_ℤ (to_z w64 (of_z w64 c.args.b))) ∙ ap neg_ℤ (to_z-of_z {w = w64} c.ranges.b) in
    let s = c in
    ap (λ z. eqb (of_z w64 s.args.a) (of_z w64 z)) minus_is
    ∙ decided s.args.a s.args.b s.ranges.a s.ranges.b opposite-fits c.if-a-b.false (eqb (of_z w64 s.args.a) (of_z w64 (neg_ℤ s.args.b))) refl

-- The remainder, then the size of the quotient.
use mathlib.Core.Path.{◌≡◌, sym, ap, ap₂, ◌∙◌}
use mathlib.Core.Bool.{true, false}
use Prim.Native.Nat.{◌<◌}
use lib.IntN.{pos, negsuc}
use lib.Signed.{quot_z, rem_z, le_z}
use mir.Facts.{to_z-of_z}
use mir.Syntax.{w64}
use mir.Val.{of_z, to_z, SFits}
use Rattle.integers.specs.Size.{fits-within}
use Rattle.lattice_membership.specs.Laws.Members.{quot-within, rem_within, divisor-pos, not-whole, whole-by-size, within_low, within-high}
use Rattle.lattice_membership.proofs.whole.Goals as goal

pub nonzero_rem-n : goal.nonzero_rem-n
nonzero_rem-n c =
    let quotient_fits : SFits w64 (quot_z c.args.n c.args.m) =
    fits-within (quot-within c.args.n c.args.m c.requires.within) tt in
    let divisor : 0 < of_z w64 c.args.m =
    divisor-pos (of_z w64 c.args.m) (λ e. c.requires.m_nonzero (sym (to_z-of_z c.ranges.m) ∙ ap (to_z w64) e)) in
    (divisor, simp (to_z-of_z, c.ranges.n, c.ranges.m) (quotient_fits))

pub returns-then-n-m-ne0 : goal.returns-then-n-m-ne0
returns-then-n-m-ne0 c =
    let s = c in
    sym (not-whole s.args.n s.args.m (λ e. c.if-n-m-ne0.true (ap (of_z w64) (ap₂ rem_z (to_z-of_z s.ranges.n) (to_z-of_z s.ranges.m) ∙ e))))

pub nonzero_div-q : goal.nonzero_div-q
nonzero_div-q c =
    let quotient_fits : SFits w64 (quot_z c.args.n c.args.m) =
    fits-within (quot-within c.args.n c.args.m c.requires.within) tt in
    let divisor : 0 < of_z w64 c.args.m =
    divisor-pos (of_z w64 c.args.m) (λ e. c.requires.m_nonzero (sym (to_z-of_z c.ranges.m) ∙ ap (to_z w64) e)) in
    let s = c in (divisor, simp (to_z-of_z, s.ranges.n, s.ranges.m) (quotient_fits))

pub returns-then-q : goal.returns-then-q
returns-then-q c =
    let quotient_fits : SFits w64 (quot_z c.args.n c.args.m) =
    fits-within (quot-within c.args.n c.args.m c.requires.within) tt in
    let exact : rem_z c.args.n c.args.m ≡ pos 0 =
    let s = c in
    let r : SFits w64 (rem_z s.args.n s.args.m) = fits-within (rem_within s.args.n s.args.m s.requires.within) tt in
    sym (to_z-of_z r) ∙ ap (λ z. to_z w64 (of_z w64 z)) (sym (ap₂ rem_z (to_z-of_z s.ranges.n) (to_z-of_z s.ranges.m))) ∙ ap (to_z w64) c.if-n-m-ne0.false in
    let quotient_is : to_z w64 (of_z w64 (quot_z (to_z w64 (of_z w64 c.args.n)) (to_z w64 (of_z w64 c.args.m)))) ≡ quot_z c.args.n c.args.m =
    ap (λ z. to_z w64 (of_z w64 z)) (ap₂ quot_z (to_z-of_z c.ranges.n) (to_z-of_z c.ranges.m)) ∙ to_z-of_z (quotient_fits) in
    let s = c in
    let q = quot_z s.args.n s.args.m in
    let low : le_z (negsuc 1079999) q ≡ true = ap (le_z (negsuc 1079999)) (sym (quotient_is)) ∙ c.if-q.true in
    ap (λ z. le_z z (pos 1080000)) (quotient_is) ∙ within-high q low ∙ sym (whole-by-size s.args.n s.args.m (exact))

pub returns-else-q : goal.returns-else-q
returns-else-q c =
    let quotient_fits : SFits w64 (quot_z c.args.n c.args.m) =
    fits-within (quot-within c.args.n c.args.m c.requires.within) tt in
    let exact : rem_z c.args.n c.args.m ≡ pos 0 =
    let s = c in
    let r : SFits w64 (rem_z s.args.n s.args.m) = fits-within (rem_within s.args.n s.args.m s.requires.within) tt in
    sym (to_z-of_z r) ∙ ap (λ z. to_z w64 (of_z w64 z)) (sym (ap₂ rem_z (to_z-of_z s.ranges.n) (to_z-of_z s.ranges.m))) ∙ ap (to_z w64) c.if-n-m-ne0.false in
    let quotient_is : to_z w64 (of_z w64 (quot_z (to_z w64 (of_z w64 c.args.n)) (to_z w64 (of_z w64 c.args.m)))) ≡ quot_z c.args.n c.args.m =
    ap (λ z. to_z w64 (of_z w64 z)) (ap₂ quot_z (to_z-of_z c.ranges.n) (to_z-of_z c.ranges.m)) ∙ to_z-of_z (quotient_fits) in
    let s = c in
    let q = quot_z s.args.n s.args.m in
    let low : le_z (negsuc 1079999) q ≡ false = ap (le_z (negsuc 1079999)) (sym (quotient_is)) ∙ c.if-q.false in
    c.if-q.false ∙ sym (within_low q low) ∙ sym (whole-by-size s.args.n s.args.m (exact))

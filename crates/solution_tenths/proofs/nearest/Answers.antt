-- `nearest` divides a number that is not negative.
use mathlib.Core.Path.{◌≡◌, sym, ap, ◌∙◌, subst}
use Prim.Native.Nat.{◌/◌}
use native.Mathlib.Omega.{arith}
use lib.Dec.{T, lit≤}
use lib.IntN.{ℤ, pos, nat_abs, ◌+ℤ◌, ◌-ℤ◌, ◌*ℤ◌}
use lib.Signed.{non_neg, yes_non_neg, pos-nat_abs}
use mir.Syntax.{w64}
use mir.Val.{Fits, to_z, of_z}
use mir.Facts.{to_z-of_z, to_z_pos, Fits-nat_abs}
use Rattle.integers.specs.Size.{Within, within-mul, within-add, within-sub, fits-within}
use Rattle.solutions.specs.Laws.Settled.{Between}
use Rattle.solution_tenths.specs.Rounding.{literal, Divided, divided, moved_up, quotient_within, nearest_tenth}
use Rattle.solution_tenths.proofs.nearest.Goals as goal

pub overflow_mul-n : goal.overflow_mul-n
overflow_mul-n c = simp (to_z-of_z, c.ranges.z) (fits-within (within-mul (literal _) c.requires) tt)

pub overflow_add-n : goal.overflow_add-n
overflow_add-n c =
    let here : Divided c.args.z =
    divided c.requires in
    let f = here in simp (to_z-of_z, c.ranges.z, f.ten) (fits-within (within-add (within-mul (literal _) c.requires) (literal _)) tt)

pub overflow_cast-n : goal.overflow_cast-n
overflow_cast-n c =
    let here : Divided c.args.z =
    divided c.requires in
    -- what is divided, as it is stored
    let stored : ℤ =
    to_z w64 (of_z w64 (to_z w64 (of_z w64 (pos 10 *ℤ to_z w64 (of_z w64 c.args.z))) +ℤ pos 819200000004096)) in
    let sum : ℤ =
    pos 10 *ℤ c.args.z +ℤ pos 819200000004096 in
    let plain : stored ≡ sum =
    let f = here in simp (to_z-of_z, c.ranges.z, f.ten, f.sum) in
    let f = here in subst (λ y. T (non_neg y) × Fits w64 (nat_abs y)) (sym plain) (yes_non_neg (moved_up c.requires), Fits-nat_abs {w' = w64} tt f.sum)

pub overflow_cast-result : goal.overflow_cast-result
overflow_cast-result c =
    -- what is divided, as it is stored
    let stored : ℤ =
    to_z w64 (of_z w64 (to_z w64 (of_z w64 (pos 10 *ℤ to_z w64 (of_z w64 c.args.z))) +ℤ pos 819200000004096)) in
    let here : Divided c.args.z =
    divided c.requires in
    let sum : ℤ =
    pos 10 *ℤ c.args.z +ℤ pos 819200000004096 in
    let plain : stored ≡ sum =
    let f = here in simp (to_z-of_z, c.ranges.z, f.ten, f.sum) in
    let quotient : Within 200000000000 (pos (nat_abs stored / 8192)) =
    subst (λ y. Within 200000000000 (pos (nat_abs y / 8192))) (sym plain) (quotient_within (within-add (within-mul (literal 10) c.requires) (literal 819200000004096))) in
    fits-within quotient tt

pub overflow_sub-result : goal.overflow_sub-result
overflow_sub-result c =
    -- what is divided, as it is stored
    let stored : ℤ =
    to_z w64 (of_z w64 (to_z w64 (of_z w64 (pos 10 *ℤ to_z w64 (of_z w64 c.args.z))) +ℤ pos 819200000004096)) in
    let here : Divided c.args.z =
    divided c.requires in
    let sum : ℤ =
    pos 10 *ℤ c.args.z +ℤ pos 819200000004096 in
    let plain : stored ≡ sum =
    let f = here in simp (to_z-of_z, c.ranges.z, f.ten, f.sum) in
    let quotient : Within 200000000000 (pos (nat_abs stored / 8192)) =
    subst (λ y. Within 200000000000 (pos (nat_abs y / 8192))) (sym plain) (quotient_within (within-add (within-mul (literal 10) c.requires) (literal 819200000004096))) in
    -- as it is read back
    let count : to_z w64 (nat_abs stored / 8192) ≡ pos (nat_abs stored / 8192) =
    to_z_pos w64 (omega (arith, quotient.within)) in
    fits-within (within-add {B = 100000000000} (subst (Within 200000000000) (sym count) quotient) (record { within = lit≤ tt })) tt

pub returns : goal.returns
returns c =
    -- what is divided, as it is stored
    let stored : ℤ =
    to_z w64 (of_z w64 (to_z w64 (of_z w64 (pos 10 *ℤ to_z w64 (of_z w64 c.args.z))) +ℤ pos 819200000004096)) in
    let sum : ℤ =
    pos 10 *ℤ c.args.z +ℤ pos 819200000004096 in
    let here : Divided c.args.z =
    divided c.requires in
    let plain : stored ≡ sum =
    let f = here in simp (to_z-of_z, c.ranges.z, f.ten, f.sum) in
    let quotient : Within 200000000000 (pos (nat_abs stored / 8192)) =
    subst (λ y. Within 200000000000 (pos (nat_abs y / 8192))) (sym plain) (quotient_within (within-add (within-mul (literal 10) c.requires) (literal 819200000004096))) in
    -- as it is read back
    let count : to_z w64 (nat_abs stored / 8192) ≡ pos (nat_abs stored / 8192) =
    to_z_pos w64 (omega (arith, quotient.within)) in
    let w : Within 300000000000 (pos (nat_abs stored / 8192) -ℤ pos 100000000000) = within-sub quotient (literal 100000000000) in
    let e : to_z w64 (of_z w64 (to_z w64 (nat_abs stored / 8192) -ℤ pos 100000000000)) ≡ pos (nat_abs stored / 8192) -ℤ pos 100000000000
    = ap (λ y. to_z w64 (of_z w64 (y -ℤ pos 100000000000))) count ∙ to_z-of_z {w = w64} (fits-within w tt) in record {
      between = subst (λ y. Between (pos 4096) (pos 10 *ℤ c.args.z -ℤ pos 8192 *ℤ y)) (sym e)
          (nearest_tenth c.args.z (nat_abs stored) (ap (λ y. pos (nat_abs y)) plain ∙ pos-nat_abs sum (yes_non_neg (moved_up c.requires))));
      within = subst (Within 300000000000) (sym e) w;
    }

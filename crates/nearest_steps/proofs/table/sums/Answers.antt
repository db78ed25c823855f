-- `sums` adds what fits.
use mathlib.Core.Path.{refl}
use mir.Facts.{to_z-of_z}
use Rattle.nearest_steps.specs.PairFits.{SumsFit, sums-fit}
use Rattle.nearest_steps.proofs.table.sums.Goals as goal

pub overflow_add-s : goal.overflow_add-s
overflow_add-s c =
    let here : SumsFit c.args.a c.args.b c.args.c =
    sums-fit c.requires.within c.requires.within_2 c.requires.within_3 in
    let f = here in simp (to_z-of_z, c.ranges.a, c.ranges.b, c.ranges.c, f.ab, f.a-b) f.ab

pub overflow_sub-t : goal.overflow_sub-t
overflow_sub-t c =
    let here : SumsFit c.args.a c.args.b c.args.c =
    sums-fit c.requires.within c.requires.within_2 c.requires.within_3 in
    let f = here in simp (to_z-of_z, c.ranges.a, c.ranges.b, c.ranges.c, f.ab, f.a-b) f.a-b

pub overflow_add-result : goal.overflow_add-result
overflow_add-result c =
    let here : SumsFit c.args.a c.args.b c.args.c =
    sums-fit c.requires.within c.requires.within_2 c.requires.within_3 in
    let f = here in simp (to_z-of_z, c.ranges.a, c.ranges.b, c.ranges.c, f.ab, f.a-b) f.ac

pub overflow_sub-result : goal.overflow_sub-result
overflow_sub-result c =
    let here : SumsFit c.args.a c.args.b c.args.c =
    sums-fit c.requires.within c.requires.within_2 c.requires.within_3 in
    let f = here in simp (to_z-of_z, c.ranges.a, c.ranges.b, c.ranges.c, f.ab, f.a-b) f.a_c

pub overflow_add-result-2 : goal.overflow_add-result-2
overflow_add-result-2 c =
    let here : SumsFit c.args.a c.args.b c.args.c =
    sums-fit c.requires.within c.requires.within_2 c.requires.within_3 in
    let f = here in simp (to_z-of_z, c.ranges.a, c.ranges.b, c.ranges.c, f.ab, f.a-b) f.bc

pub overflow_sub-result-2 : goal.overflow_sub-result-2
overflow_sub-result-2 c =
    let here : SumsFit c.args.a c.args.b c.args.c =
    sums-fit c.requires.within c.requires.within_2 c.requires.within_3 in
    let f = here in simp (to_z-of_z, c.ranges.a, c.ranges.b, c.ranges.c, f.ab, f.a-b) f.b-c

pub overflow_add-result-3 : goal.overflow_add-result-3
overflow_add-result-3 c =
    let here : SumsFit c.args.a c.args.b c.args.c =
    sums-fit c.requires.within c.requires.within_2 c.requires.within_3 in
    let f = here in simp (to_z-of_z, c.ranges.a, c.ranges.b, c.ranges.c, f.ab, f.a-b) f.abc

pub overflow_sub-result-3 : goal.overflow_sub-result-3
overflow_sub-result-3 c =
    let here : SumsFit c.args.a c.args.b c.args.c =
    sums-fit c.requires.within c.requires.within_2 c.requires.within_3 in
    let f = here in simp (to_z-of_z, c.ranges.a, c.ranges.b, c.ranges.c, f.ab, f.a-b) f.ab-c

pub overflow_add-result-4 : goal.overflow_add-result-4
overflow_add-result-4 c =
    let here : SumsFit c.args.a c.args.b c.args.c =
    sums-fit c.requires.within c.requires.within_2 c.requires.within_3 in
    let f = here in simp (to_z-of_z, c.ranges.a, c.ranges.b, c.ranges.c, f.ab, f.a-b) f.a-bc

pub overflow_sub-result-4 : goal.overflow_sub-result-4
overflow_sub-result-4 c =
    let here : SumsFit c.args.a c.args.b c.args.c =
    sums-fit c.requires.within c.requires.within_2 c.requires.within_3 in
    let f = here in simp (to_z-of_z, c.ranges.a, c.ranges.b, c.ranges.c, f.ab, f.a-b) f.a-b-c

pub returns : goal.returns
returns c =
    let here : SumsFit c.args.a c.args.b c.args.c =
    sums-fit c.requires.within c.requires.within_2 c.requires.within_3 in
    let f = here in simp (to_z-of_z, c.ranges.a, c.ranges.b, c.ranges.c, f.ab, f.a-b, f.ac, f.a_c, f.bc, f.b-c, f.abc, f.ab-c, f.a-bc, f.a-b-c) refl

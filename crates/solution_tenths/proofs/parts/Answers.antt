-- `parts` makes each.
use mathlib.Core.Path.{◌≡◌, refl}
use Prim.Native.Nat.{◌≤◌}
use lib.IntN.{pos}
use Rattle.solution_tenths.specs.Rounding.{back, zero-back, four-within, four}
use Rattle.solution_tenths.proofs.parts.Goals as goal

pub part-requires : goal.part-requires
part-requires c = back tt (c.requires 0)

pub part-requires-2 : goal.part-requires-2
part-requires-2 c = back tt (c.requires 1)

pub part-requires-3 : goal.part-requires-3
part-requires-3 c = back tt (c.requires 2)

pub part-requires-4 : goal.part-requires-4
part-requires-4 c = back tt (c.requires 3)

pub returns : goal.returns
returns c = record {
  bounded = four-within (back tt c.part.ensures.within) (back tt c.part-2.ensures.within) (back tt c.part-3.ensures.within) (back tt c.part-4.ensures.within);
  by_index = four (λ i z. c.args.d ≤ i → z ≡ pos 0)
      (λ l. zero-back (c.part.ensures.value l)) (λ l. zero-back (c.part-2.ensures.value l)) (λ l. zero-back (c.part-3.ensures.value l)) (λ l. zero-back (c.part-4.ensures.value l)) (λ i h l. refl);
}

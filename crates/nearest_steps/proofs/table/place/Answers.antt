-- `place` walks over squares and sums that are those of the table's lists.
use mathlib.Core.Path.{◌≡◌, sym, ap}
use native.Mathlib.Omega.{arith}
use mir.Facts.{to_z-of_z}
use Rattle.nearest_steps.specs.Numbers.{Sized}
use Rattle.nearest_steps.specs.Multiples.{within-twice}
use Rattle.nearest_steps.specs.Steps.{pairs}
use Rattle.nearest_steps.specs.Pairs.{squares_in, sums_in}
use Rattle.nearest_steps.specs.PairFits.{NumbersFit, numbers_fit, squares-small}
use Rattle.nearest_steps.specs.Places.{walked_as, walked_none, placed}
use Rattle.nearest_steps.specs.State.{sized}
use Rattle.nearest_steps.proofs.table.place.Goals as goal

pub overflow_mul-r : goal.overflow_mul-r
overflow_mul-r c =
    let size : Sized c.args.g.now c.args.r.now =
    sized c.requires.known.meant in
    let here : NumbersFit c.args.g.now c.args.r.now =
    numbers_fit size in
    let f = here in simp (to_z-of_z, f.product 0) (f.twice 0)

pub overflow_mul-r-2 : goal.overflow_mul-r-2
overflow_mul-r-2 c =
    let size : Sized c.args.g.now c.args.r.now =
    sized c.requires.known.meant in
    let here : NumbersFit c.args.g.now c.args.r.now =
    numbers_fit size in
    let f = here in simp (to_z-of_z, f.product 1) (f.twice 1)

pub overflow_mul-r-3 : goal.overflow_mul-r-3
overflow_mul-r-3 c =
    let size : Sized c.args.g.now c.args.r.now =
    sized c.requires.known.meant in
    let here : NumbersFit c.args.g.now c.args.r.now =
    numbers_fit size in
    let f = here in simp (to_z-of_z, f.product 2) (f.twice 2)

pub sums-l-requires : goal.sums-l-requires
sums-l-requires c =
    let size : Sized c.args.g.now c.args.r.now =
    sized c.requires.known.meant in
    let here : NumbersFit c.args.g.now c.args.r.now =
    numbers_fit size in
    let f = here in let b = size in simp (to_z-of_z, f.product 0, f.product 1, f.product 2, f.twice 0, f.twice 1, f.twice 2) (record {
      within = within-twice (b.products 0);
      within_2 = within-twice (b.products 1);
      within_3 = within-twice (b.products 2);
    })

pub overflow_mul-u : goal.overflow_mul-u
overflow_mul-u c =
    let size : Sized c.args.g.now c.args.r.now =
    sized c.requires.known.meant in
    let here : NumbersFit c.args.g.now c.args.r.now =
    numbers_fit size in
    let f = here in simp (to_z-of_z, f.entry 0 1) (f.doubled 0 1)

pub overflow_mul-u-2 : goal.overflow_mul-u-2
overflow_mul-u-2 c =
    let size : Sized c.args.g.now c.args.r.now =
    sized c.requires.known.meant in
    let here : NumbersFit c.args.g.now c.args.r.now =
    numbers_fit size in
    let f = here in simp (to_z-of_z, f.entry 0 2) (f.doubled 0 2)

pub overflow_mul-v : goal.overflow_mul-v
overflow_mul-v c =
    let size : Sized c.args.g.now c.args.r.now =
    sized c.requires.known.meant in
    let here : NumbersFit c.args.g.now c.args.r.now =
    numbers_fit size in
    let f = here in simp (to_z-of_z, f.entry 1 2) (f.doubled 1 2)

pub squares-q-requires : goal.squares-q-requires
squares-q-requires c =
    let size : Sized c.args.g.now c.args.r.now =
    sized c.requires.known.meant in
    let here : NumbersFit c.args.g.now c.args.r.now =
    numbers_fit size in
    let f = here in let b = size in simp (to_z-of_z, f.entry 0 0, f.entry 0 1, f.entry 0 2, f.entry 1 1, f.entry 1 2, f.entry 2 2, f.doubled 0 1, f.doubled 0 2, f.doubled 1 2) (record {
      within = b.gram 0 0;
      within_2 = within-twice (b.gram 0 1);
      within_3 = within-twice (b.gram 0 2);
      within_4 = b.gram 1 1;
      within_5 = within-twice (b.gram 1 2);
      within_6 = b.gram 2 2;
    })

pub walk-requires-clause-bounded : goal.walk-requires-clause-bounded
walk-requires-clause-bounded c =
    let here : NumbersFit c.args.g.now c.args.r.now = numbers_fit (sized c.requires.known.meant) in
    let squared : c.squares-q.result ≡ squares_in c.args.g.now =
    simp (to_z-of_z, here.entry 0 0, here.entry 0 1, here.entry 0 2, here.entry 1 1, here.entry 1 2, here.entry 2 2, here.doubled 0 1, here.doubled 0 2, here.doubled 1 2) at c.squares-q.ensures in
    rw squared (squares-small (sized c.requires.known.meant))

pub returns-in-3 : goal.returns-in-3
returns-in-3 c =
    let here : NumbersFit c.args.g.now c.args.r.now = numbers_fit (sized c.requires.known.meant) in
    let squared : c.squares-q.result ≡ squares_in c.args.g.now =
    simp (to_z-of_z, here.entry 0 0, here.entry 0 1, here.entry 0 2, here.entry 1 1, here.entry 1 2, here.entry 2 2, here.doubled 0 1, here.doubled 0 2, here.doubled 1 2) at c.squares-q.ensures in
    let summed : c.sums-l.result ≡ sums_in c.args.r.now =
    simp (to_z-of_z, here.product 0, here.product 1, here.product 2, here.twice 0, here.twice 1, here.twice 2) at c.sums-l.ensures in
    placed c.args.k c.requires.k_bound _ _ c.requires.known c.walk.result (walked_as (ap pairs (sym c.in-3.is)) squared summed c.walk.ensures)

pub walk-requires-in-2-clause-bounded : goal.walk-requires-in-2-clause-bounded
walk-requires-in-2-clause-bounded c =
    let here : NumbersFit c.args.g.now c.args.r.now = numbers_fit (sized c.requires.known.meant) in
    let squared : c.squares-q.result ≡ squares_in c.args.g.now =
    simp (to_z-of_z, here.entry 0 0, here.entry 0 1, here.entry 0 2, here.entry 1 1, here.entry 1 2, here.entry 2 2, here.doubled 0 1, here.doubled 0 2, here.doubled 1 2) at c.squares-q.ensures in
    rw squared (squares-small (sized c.requires.known.meant))

pub returns-in-2 : goal.returns-in-2
returns-in-2 c =
    let here : NumbersFit c.args.g.now c.args.r.now = numbers_fit (sized c.requires.known.meant) in
    let squared : c.squares-q.result ≡ squares_in c.args.g.now =
    simp (to_z-of_z, here.entry 0 0, here.entry 0 1, here.entry 0 2, here.entry 1 1, here.entry 1 2, here.entry 2 2, here.doubled 0 1, here.doubled 0 2, here.doubled 1 2) at c.squares-q.ensures in
    let summed : c.sums-l.result ≡ sums_in c.args.r.now =
    simp (to_z-of_z, here.product 0, here.product 1, here.product 2, here.twice 0, here.twice 1, here.twice 2) at c.sums-l.ensures in
    placed c.args.k c.requires.k_bound _ _ c.requires.known c.walk-in-2.result (walked_as (ap pairs (sym c.in-2.is)) squared summed c.walk-in-2.ensures)

pub walk-requires-in-1-clause-bounded : goal.walk-requires-in-1-clause-bounded
walk-requires-in-1-clause-bounded c =
    let here : NumbersFit c.args.g.now c.args.r.now = numbers_fit (sized c.requires.known.meant) in
    let squared : c.squares-q.result ≡ squares_in c.args.g.now =
    simp (to_z-of_z, here.entry 0 0, here.entry 0 1, here.entry 0 2, here.entry 1 1, here.entry 1 2, here.entry 2 2, here.doubled 0 1, here.doubled 0 2, here.doubled 1 2) at c.squares-q.ensures in
    rw squared (squares-small (sized c.requires.known.meant))

pub returns-in-1 : goal.returns-in-1
returns-in-1 c =
    let here : NumbersFit c.args.g.now c.args.r.now = numbers_fit (sized c.requires.known.meant) in
    let squared : c.squares-q.result ≡ squares_in c.args.g.now =
    simp (to_z-of_z, here.entry 0 0, here.entry 0 1, here.entry 0 2, here.entry 1 1, here.entry 1 2, here.entry 2 2, here.doubled 0 1, here.doubled 0 2, here.doubled 1 2) at c.squares-q.ensures in
    let summed : c.sums-l.result ≡ sums_in c.args.r.now =
    simp (to_z-of_z, here.product 0, here.product 1, here.product 2, here.twice 0, here.twice 1, here.twice 2) at c.sums-l.ensures in
    placed c.args.k c.requires.k_bound _ _ c.requires.known c.walk-in-1.result (walked_as (ap pairs (sym c.in-1.is)) squared summed c.walk-in-1.ensures)

-- of no vector there is no list
pub returns-in_default : goal.returns-in_default
returns-in_default c =
    let here : NumbersFit c.args.g.now c.args.r.now = numbers_fit (sized c.requires.known.meant) in
    let squared : c.squares-q.result ≡ squares_in c.args.g.now =
    simp (to_z-of_z, here.entry 0 0, here.entry 0 1, here.entry 0 2, here.entry 1 1, here.entry 1 2, here.entry 2 2, here.doubled 0 1, here.doubled 0 2, here.doubled 1 2) at c.squares-q.ensures in
    let summed : c.sums-l.result ≡ sums_in c.args.r.now =
    simp (to_z-of_z, here.product 0, here.product 1, here.product 2, here.twice 0, here.twice 1, here.twice 2) at c.sums-l.ensures in
    let e : 0 ≡ c.args.k = omega (arith, c.requires.k_bound) in
    placed c.args.k c.requires.k_bound _ _ c.requires.known _ (walked_as (ap pairs e) squared summed (walked_none 0 _ _ (λ i h. absurd (omega arith))))

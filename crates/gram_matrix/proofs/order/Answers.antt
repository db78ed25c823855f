use mathlib.Core.Path.{◌≡◌, refl, sym, ◌∙◌, subst}
use Prim.Native.Nat.{suc, ◌-◌, ◌≤◌}
use native.Mathlib.Omega.{arith}
use lib.ListN.{length}
use borrow.Author.Rules.{rules}
use Rattle.gram_matrix.specs.Order.{ordered_from, ordered_from-begin, ordered_from-next}
use Rattle.gram_matrix.specs.Tied.{tied-length}
use Rattle.gram_matrix.specs.Work.{Belongs}
use Rattle.gram_matrix.proofs.order.Goals as goal

pub loop-i-init : goal.loop-i-init
loop-i-init c =
    let four : length c.args.w.now.u ≡ 4 = search rules in (
      search rules,
      (λ K rows t. subst (λ l. Belongs K l c.args.g.now c.args.w.now) (sym (ordered_from-begin c.args.n rows (omega (arith, tied-length t, four, c.requires)))) t, refl),
    )

pub loop-i-preserved : goal.loop-i-preserved
loop-i-preserved c =
    let four : length c.args.w.now.u ≡ 4 = search rules in
    let k = c.loop-i.i - 1 - 1 in
    let e : c.loop-i.i - 1 ≡ suc k = search rules in (
      search rules,
      (
        λ K rows t.
            let m : c.args.n ≤ length rows = omega (arith, tied-length t, four, c.requires) in
            subst (λ l. Belongs K l c.insert.new.g c.insert.new.w) (ordered_from-next k (c.args.n - suc k) c.args.n rows (omega arith) m)
            (c.insert.ensures.belongs K (ordered_from c.args.n (suc k) rows) (subst (λ i. Belongs K (ordered_from c.args.n i rows) c.loop-i.g c.loop-i.w) e (c.loop-i.invariant.1.0 K rows t))),
        c.insert.ensures.passes ∙ c.loop-i.invariant.1.1,
      ),
    )

pub returns : goal.returns
returns c =
    let e : c.loop-i.i - 1 ≡ 0 = search rules in record {
      belongs = λ K rows t. subst (λ i. Belongs K (ordered_from c.args.n i rows) c.loop-i.g c.loop-i.w) e (c.loop-i.invariant.1.0 K rows t);
      passes = c.loop-i.invariant.1.1;
    }

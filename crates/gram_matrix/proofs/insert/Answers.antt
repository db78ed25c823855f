use mathlib.Core.Path.{refl, sym, ◌∙◌, subst}
use Prim.Native.Nat.{◌+◌, ◌<◌, ◌≤◌}
use native.Mathlib.Omega.{arith}
use lib.ListN.{length}
use borrow.Author.Tests.{not-true, not-false}
use borrow.Author.Rules.{rules}
use Rattle.gram_matrix.specs.Order.{exchanged, insert_at-done}
use Rattle.gram_matrix.specs.Tied.{Tied, tied-length-gram, tied-stop, tied-go}
use Rattle.gram_matrix.proofs.insert.Goals as goal

pub loop-j-init : goal.loop-j-init
loop-j-init c = (λ K rows t. record { now = rows; tied = t; same = refl }, (refl, search rules))

pub returns-then-not-shorter : goal.returns-then-not-shorter
returns-then-not-shorter c =
    let q = sym c.shorter.ensures ∙ not-true _ c.if-not-shorter.true-raw in
    let h : c.loop-j.j + 1 < c.args.n = search rules in
    let four = c.loop-j.invariant.1.1 in record {
      belongs = λ K rows t.
          let k = c.loop-j.invariant.0 K rows t in
          let m : c.args.n ≤ length k.now = omega (arith, tied-length-gram k.tied, four, c.requires.1) in
          subst (λ r. Tied K r c.loop-j.g c.loop-j.w.vectors c.loop-j.w.u c.loop-j.w.v) (sym (tied-stop k.tied c.args.n c.loop-j.j h m q) ∙ k.same) k.tied;
      passes = c.loop-j.invariant.1.0;
    }

pub loop-j-preserved : goal.loop-j-preserved
loop-j-preserved c =
    let q = sym c.shorter.ensures ∙ not-false _ c.if-not-shorter.false-raw in
    let h : c.loop-j.j + 1 < c.args.n = search rules in
    let four = c.loop-j.invariant.1.1 in (
      λ K rows t.
          let k = c.loop-j.invariant.0 K rows t in
          let m : c.args.n ≤ length k.now = omega (arith, tied-length-gram k.tied, four, c.requires.1) in
          record { now = exchanged c.loop-j.j k.now; tied = c.exchange.ensures.belongs K k.now k.tied; same = tied-go k.tied c.args.n c.loop-j.j h m q ∙ k.same },
      (c.exchange.ensures.passes ∙ c.loop-j.invariant.1.0, search rules),
    )

pub returns : goal.returns
returns c =
    let h : c.args.n ≤ c.loop-j.j + 1 = search rules in record {
      belongs = λ K rows t.
          let k = c.loop-j.invariant.0 K rows t in
          subst (λ r. Tied K r c.loop-j.g c.loop-j.w.vectors c.loop-j.w.u c.loop-j.w.v) (sym (insert_at-done c.args.n c.loop-j.j k.now h) ∙ k.same) k.tied;
      passes = c.loop-j.invariant.1.0;
    }

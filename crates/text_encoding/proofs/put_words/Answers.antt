use mathlib.Core.Path.{◌≡◌, sym, ap, ◌∙◌, subst}
use mathlib.Core.List.{[], ◌∷◌, ◌++◌}
use Prim.Native.Nat.{◌+◌}
use native.Mathlib.Numerals.{add-one}
use lib.ListN.{get_or, take}
use lib.Seq.{take-suc}
use Rattle.text_encoding.specs.Stores.{Stores, stores-then}
use Rattle.text_encoding.proofs.put_words.Goals as goal

pub loop-w-preserved : goal.loop-w-preserved
loop-w-preserved c =
    let ws = c.args.words.now in
    let i = c.loop-w.w-index in
    let next : take (i + 1) ws ≡ take i ws ++ (get_or ws i 0 ∷ []) = ap (λ k. take k ws) (add-one i) ∙ take-suc ws i 0 c.loop-w-test.true in
    subst (λ us. Stores us c.args.out.now c.args.k c.put-n.new.out c.put-n.result) (sym next) (stores-then c.requires c.loop-w.invariant c.put-n.ensures)

-- The answer is stored where there is room for it, and its tenths are found there.
use Rattle.std.specs.Prelude.{◌≡◌, [], ◌≤◌, List, ℤ, length}
use Rattle.std.proofs.Common.{sym, ap, ◌∙◌, subst, rules}
use Rattle.std.proofs.lemmas.List.Edits.{sets}
use Rattle.lattices.specs.Refusal.{Input, most_vectors}
use Rattle.lattices.specs.Answer.{padded, nearest_of}
use Rattle.lattices.specs.Laws.Answer.{length-padded}
use Rattle.solutions.specs.Solution.{TenthsFor}
use Rattle.refusals.specs.Number.{number_of}
use Rattle.lent_numbers.specs.Layout.{nearest_count, layout_nearest, tenths_in, written}
use Rattle.lent_numbers.specs.Runs.{written-long}
use Rattle.lent_engine.specs.NearestShape.{nearest-shape, length-layout, refused-layout, tenths-written}
use Rattle.lent_engine.proofs.nearest.Goals as goal

-- what stands in the numbers, and the tenths there
module _ (i : Input) (l : List ℤ) (h : nearest_count ≤ length l) (tenths : List ℤ) (few : length tenths ≡ most_vectors) (for : TenthsFor i tenths) {x : List ℤ} (e : x ≡ sets l 0 (layout_nearest (nearest_of i) tenths)) where
  stored : x ≡ written l nearest_count (layout_nearest (nearest_of i) tenths)
  stored = e ∙ written-long l nearest_count (layout_nearest (nearest_of i) tenths) (length-layout (nearest-shape i) tenths few) h

  found : tenths_in x ≡ tenths
  found = tenths-written (nearest-shape i) tenths few l h stored

  after : x ≡ written l nearest_count (layout_nearest (nearest_of i) (tenths_in x))
  after = stored ∙ ap (λ z. written l nearest_count (layout_nearest (nearest_of i) z)) (sym found)

  solution : TenthsFor i (tenths_in x)
  solution = subst (TenthsFor i) (sym found) for

pub returns-in-Ok : goal.returns-in-Ok
returns-in-Ok c =
    let i : Input = record { numbers = c.args.numbers.now; d = c.args.d; m = c.args.m; target = c.args.target.now } in
    let l = c.args.out.now in
    let few : length c.in-Ok.a.tenths ≡ most_vectors = search rules in
    let e = c.put_nearest.ensures ∙ ap (λ x. sets l 0 (layout_nearest x c.in-Ok.a.tenths)) c.in-Ok.ensures.value in record {
      value = search rules;
      out_after = after i l c.if-out-lt-NEAREST.false c.in-Ok.a.tenths few c.in-Ok.ensures.tenths_for e;
      tenths_for = λ yes. solution i l c.if-out-lt-NEAREST.false c.in-Ok.a.tenths few c.in-Ok.ensures.tenths_for e;
    }

pub returns-in-Err : goal.returns-in-Err
returns-in-Err c =
    let i : Input = record { numbers = c.args.numbers.now; d = c.args.d; m = c.args.m; target = c.args.target.now } in
    let l = c.args.out.now in
    let zeros = padded most_vectors [] in
    let few = length-padded most_vectors [] in
    let e = c.put_refusal.ensures ∙ ap (sets l 0) (sym (refused-layout (number_of c.in-Err.e))) ∙ ap (λ x. sets l 0 (layout_nearest x zeros)) c.in-Err.ensures.value in record {
      value = search rules;
      out_after = after i l c.if-out-lt-NEAREST.false zeros few c.in-Err.ensures.tenths_for e;
      tenths_for = λ yes. solution i l c.if-out-lt-NEAREST.false zeros few c.in-Err.ensures.tenths_for e;
    }

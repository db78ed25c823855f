use mathlib.Core.Path.{◌≡◌, refl, sym, ap, ap₂, ◌∙◌}
use mathlib.Core.List.{[], map}
use native.Mathlib.Omega.{arith}
use lib.ListN.{take, set}
use Rattle.integers.specs.Filled.{filled}
use Rattle.integers.specs.FilledLaws.{filled_more}
use Rattle.lattices.specs.Answer.{padded}
use Rattle.row_operations.specs.Rows.{first_four}
use Rattle.input_checks.specs.Determinant.{cofactors_of}
use Rattle.lattice_membership.specs.Laws.Cofactors.{first-four}
use borrow.Author.Rules.{rules}
use Rattle.lattice_membership.proofs.cofactor_rows.Goals as goal

pub loop-j-init : goal.loop-j-init
loop-j-init c = (search rules, refl)

pub cofactors-requires : goal.cofactors-requires
cofactors-requires c = record {
  j_bound = omega arith;
  by_index = c.requires.by_index;
}

pub loop-j-preserved : goal.loop-j-preserved
loop-j-preserved c =
    let a = c.args in
    let l = c.loop-j in (
      search rules,
      ap₂ (λ r x. set r l.j x) l.invariant.1 (c.cofactors.ensures ∙ ap (cofactors_of a.t.now) (sym (first-four l.j (omega arith))))
          ∙ filled_more (padded 4 []) 4 (cofactors_of a.t.now) first_four l.j 0 (omega arith) (omega arith),
    )

pub returns : goal.returns
returns c =
    let a = c.args in
    let end : c.loop-j.j ≡ a.d = omega arith in
    c.loop-j.invariant.1 ∙ ap (λ n. filled (padded 4 []) 4 (map (cofactors_of a.t.now) (take n first_four))) end

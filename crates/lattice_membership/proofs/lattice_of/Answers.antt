-- The parts are those that make a lattice known.
use Rattle.std.specs.Prelude.{◌≡◌, refl, length, take, Some}
use Rattle.std.proofs.Common.{ap, ◌∙◌, subst, arith, rules, to_z-of_z, SFits, w64}
use Rattle.lattices.specs.Refusal.{most_coordinates}
use Rattle.input_checks.specs.FirstMinor.{FirstMinor, table-small}
use Rattle.lattice_membership.specs.Cofactor.{cofactor_rows}
use Rattle.lattice_membership.specs.Laws.Made.{has-minor, made-chosen, first_below}
use Rattle.lattice_membership.proofs.lattice_of.Goals as goal

pub first_minor-requires : goal.first_minor-requires
first_minor-requires c = record { d_le_most_vectors = c.requires.few; by_index = c.requires.short }

pub unwrap-minor-requires : goal.unwrap-minor-requires
unwrap-minor-requires c = has-minor c.requires c.first_minor.result c.first_minor.ensures

pub square-requires : goal.square-requires
square-requires c =
    let four-rows : length c.args.vectors ≡ 4 = search rules in
    record { d_le_most_vectors = c.requires.few; by_index = first_below c.args.d c.args.vectors c.requires four-rows c.unwrap-minor.result (subst (FirstMinor (take c.args.d c.args.vectors)) c.unwrap-minor.ensures c.first_minor.ensures) }

pub cofactor_rows-requires : goal.cofactor_rows-requires
cofactor_rows-requires c = record {
  d_le_most_vectors = c.requires.few;
  by_index = λ i. rw c.square.ensures (table-small c.unwrap-minor.result.at c.args.d c.args.vectors c.requires.short i);
}

pub returns : goal.returns
returns c =
    let four-rows : length c.args.vectors ≡ 4 = search rules in
    let long : length c.unwrap-minor.result.at ≡ most_coordinates = search rules in
    let fits : SFits w64 c.unwrap-minor.result.minor = search rules in
    let found : FirstMinor (take c.args.d c.args.vectors) (Some c.unwrap-minor.result) = subst (FirstMinor (take c.args.d c.args.vectors)) c.unwrap-minor.ensures c.first_minor.ensures in
    let k = made-chosen c.args.d c.args.vectors c.requires four-rows c.unwrap-minor.result found _ refl refl refl
    (to_z-of_z fits)
    (c.cofactor_rows.ensures ∙ ap (λ t. cofactor_rows t c.args.d) c.square.ensures) (omega (arith, long)) in
    record { known = k.known; chosen = k; result_value = refl }

-- `begun`: the counts and coordinates, the Gram matrix, then squared lengths and dependence.
use Rattle.std.specs.Prelude.{◌≡◌, refl, Bool, List, [], ℤ, pos, take}
use Rattle.std.proofs.Common.{sym, ap, ◌∙◌, arith, length-take}
use Rattle.std.specs.Int.Signed.{lt_z}
use Rattle.integers.specs.Every.{any}
use Rattle.integers.specs.Size.{within-le}
use Rattle.lattices.specs.Vector.{Vec}
use Rattle.lattices.specs.Refusal.{Input, basis, too_long, vector_checks, most_vectors, most_coordinates, most_square}
use Rattle.lattices.specs.Answer.{table}
use Rattle.input_checks.specs.First.{found, none, here, later}
use Rattle.input_checks.specs.Shape.{Shaped, over}
use Rattle.input_checks.specs.Rows.{four-rows, small-rows, over-rows, short-rows, dependent_rows}
use Rattle.gram_matrix.specs.Formed.{formed}
use Rattle.gram_matrix.specs.Work.{diagonal_of}
use Rattle.engine.specs.Laws.Over.{over-formed}
use Rattle.engine.proofs.begun.Goals as goal

-- what the diagonal of the Gram matrix tells of the vectors
module _ (i : Input) (s : Shaped i) {b : List Vec} (is : b ≡ table most_vectors most_coordinates (basis i)) {g : List (List ℤ)} (gram : g ≡ formed (take i.d b))
    {l : List ℤ} (squares : l ≡ diagonal_of g) {t : Bool} (tested : t ≡ any (lt_z (pos most_square)) (take i.d l)) where
  overs : t ≡ any over (take i.d b)
  overs =
      let four = four-rows i.d i.m i.numbers s.few s.narrow is in
      tested ∙ ap (λ l. any (lt_z (pos most_square)) (take i.d l)) squares
      ∙ over-formed i.d (take i.d b) (omega (arith, length-take i.d b, four, s.few)) s.few gram

  long : any too_long (basis i) ≡ t
  long = sym (overs ∙ over-rows i.d i.m i.numbers s.few s.narrow is s.small)

pub basis-requires-clause-numbers_len : goal.basis-requires-clause-numbers_len
basis-requires-clause-numbers_len c = (c.in_ok-shaped.ensures.shaped refl).count

pub formed-requires-clause-by_index : goal.formed-requires-clause-by_index
formed-requires-clause-by_index c =
    let s = c.in_ok-shaped.ensures.shaped refl in
    λ j k h. within-le (omega arith) (small-rows c.args.d c.args.m c.args.numbers.now s.few s.narrow c.basis.ensures s.small j h k)

pub returns-then-any_over-clause-value : goal.returns-then-any_over-clause-value
returns-then-any_over-clause-value c =
    let i : Input = record { numbers = c.args.numbers.now; d = c.args.d; m = c.args.m; target = [] } in
    let s : Shaped i = c.in_ok-shaped.ensures.shaped refl in
    let l = long i s c.basis.ensures c.formed.ensures c.diagonal.ensures c.any_over.ensures in
    found i vector_checks (s.rest (here (l ∙ c.if-any_over.true)))

pub dependent-requires-clause-by_index : goal.dependent-requires-clause-by_index
dependent-requires-clause-by_index c =
    let i : Input = record { numbers = c.args.numbers.now; d = c.args.d; m = c.args.m; target = [] } in
    let s : Shaped i = c.in_ok-shaped.ensures.shaped refl in
    let o = overs i s c.basis.ensures c.formed.ensures c.diagonal.ensures c.any_over.ensures in
    short-rows i.d i.m i.numbers s.few s.narrow c.basis.ensures s.small (sym o ∙ c.if-any_over.false)

pub returns-then-dependent-clause-value : goal.returns-then-dependent-clause-value
returns-then-dependent-clause-value c =
    let i : Input = record { numbers = c.args.numbers.now; d = c.args.d; m = c.args.m; target = [] } in
    let s : Shaped i = c.in_ok-shaped.ensures.shaped refl in
    let l = long i s c.basis.ensures c.formed.ensures c.diagonal.ensures c.any_over.ensures in
    let dependence = sym (c.dependent.ensures ∙ dependent_rows i.d i.m i.numbers s.few s.narrow c.basis.ensures) in
    found i vector_checks (s.rest (later (l ∙ c.if-any_over.false) (here (dependence ∙ c.if-dependent.true))))

pub returns-clause-value : goal.returns-clause-value
returns-clause-value c =
    let i : Input = record { numbers = c.args.numbers.now; d = c.args.d; m = c.args.m; target = [] } in
    let s : Shaped i = c.in_ok-shaped.ensures.shaped refl in
    let l = long i s c.basis.ensures c.formed.ensures c.diagonal.ensures c.any_over.ensures in
    let dependence = sym (c.dependent.ensures ∙ dependent_rows i.d i.m i.numbers s.few s.narrow c.basis.ensures) in
    found i vector_checks (s.rest (later (l ∙ c.if-any_over.false) (later (dependence ∙ c.if-dependent.false) none)))

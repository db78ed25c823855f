-- The results of the engine in the words of their definitions: a refusal is an answer with its number and zeros.
use Rattle.std.specs.Prelude.{false, Bool, List, [], map, ℤ, Ok, Err}
use Rattle.std.specs.declared.result.Result.{Result}
use Rattle.lattices.specs.Refusal.{most_vectors}
use Rattle.lattices.specs.Answer as Definition
use Rattle.lattices.specs.Answer.{padded, no_reduction, no_nearest}
use Rattle.refusals.specs.declared.Refusal.{Refusal}
use Rattle.refusals.specs.Number.{number_of}
use Rattle.gram_matrix.specs.declared.work.Work.{Work}
use Rattle.engine.specs.declared.Reduction.{Reduction}
use Rattle.engine.specs.declared.NearestVector.{NearestVector}

-- R5.1, R5.4
abbrev pub reduction_in : Result Reduction Refusal → Definition.Reduction
reduction_in (Ok a) = record {
  refusal = 0;
  place = 0;
  basis = map (λ row. row.at) a.vectors;
  u = map (λ row. row.at) a.u;
  v = map (λ row. row.at) a.v;
  squares = a.squares;
  passes = a.passes;
}
reduction_in (Err e) = no_reduction (number_of e)

-- the same of a reduction that hands out the squared lengths and leaves its vectors, tables and passes in a lent place
abbrev pub lent_in : Result (List ℤ) Refusal → Work → Definition.Reduction
lent_in (Ok l) w = record { refusal = 0; place = 0; basis = w.vectors; u = w.u; v = w.v; squares = l; passes = w.passes }
lent_in (Err e) w = record { refusal = number_of e; place = 0; basis = w.vectors; u = w.u; v = w.v; squares = padded most_vectors []; passes = w.passes }

-- R5.2, R5.4
abbrev pub nearest_in : Result NearestVector Refusal → Definition.Nearest
nearest_in (Ok a) = record { refusal = 0; place = 0; vector = a.vector; coefficients = a.coefficients; square = a.square }
nearest_in (Err e) = no_nearest (number_of e)

-- R5.6
abbrev pub tenths_in : Result NearestVector Refusal → List ℤ
tenths_in (Ok a) = a.tenths
tenths_in (Err e) = padded most_vectors []

-- R5.5, R5.4
abbrev pub membership_in : Result Bool Refusal → Definition.Membership
membership_in (Ok b) = record { refusal = 0; place = 0; member = b }
membership_in (Err e) = record { refusal = number_of e; place = 0; member = false }

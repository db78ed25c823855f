-- Vectors, U and V with the count of passes, and the rows that they belong to; and the diagonal of a Gram matrix.
use Rattle.std.specs.Prelude.{List, [], map, ℤ, get_or}
use Rattle.lattices.specs.Vector.{nth}
use Rattle.lattices.specs.Greedy.{Row}
use Rattle.row_operations.specs.Rows.{first_four}
use Rattle.gram_matrix.specs.declared.work.Work.{Work}
use Rattle.gram_matrix.specs.Tied.{Kind, Tied}

-- the tables and their Gram matrix belong to these rows
abbrev pub Belongs : Kind → List Row → List (List ℤ) → Work → Type 0
Belongs K rows g w = Tied K rows g w.vectors w.u w.v

-- the numbers on the diagonal
abbrev pub diagonal_of : List (List ℤ) → List ℤ
diagonal_of g = map (λ i. nth (get_or g i []) i) first_four

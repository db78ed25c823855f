-- What the greedy steps do to the rows: the definitions that the engine's contracts cite.
use Rattle.std.specs.Prelude.{List, ◌++◌, ℕ, suc, take, drop, get_or}
use Rattle.lattices.specs.Greedy.{Row, order, pass, joined, greedy}
pub use Rattle.gram_matrix.specs.Order.{blank}

-- step 2 for the first n rows
abbrev pub order_rows : ℕ → List Row → List Row
order_rows n rows = order (take n rows) ++ drop n rows

-- steps 4 and 5 for row k, where the rows before it are reduced
abbrev pub pass_rows : ℕ → List Row → List Row
pass_rows k rows = joined (pass (record { rows = take k rows; passes = 0 }) (get_or rows k blank)) ++ drop (suc k) rows

-- steps 1 to 6 for the first n rows, and how many passes they take
abbrev pub greedy_rows : ℕ → List Row → List Row
greedy_rows n rows = (greedy n (take n rows)).rows ++ drop n rows

abbrev pub greedy_passes : ℕ → List Row → ℕ
greedy_passes n rows = (greedy n (take n rows)).passes

-- Four rows are stored one after another.
use Rattle.std.specs.Prelude.{◌≡◌, [], length, get_or}
use Rattle.std.proofs.Common.{arith, rules}
use Rattle.lent_numbers.specs.Runs.{rows-stored}
use Rattle.lent_numbers.proofs.put_rows.Goals as goal

pub returns : goal.returns
returns g c =
    let four : length c.args.rows.now ≡ 4 = search rules in
    let one : length (get_or c.args.rows.now 0 []) ≡ g.row.N = search rules in
    let two : length (get_or c.args.rows.now 1 []) ≡ g.row.N = search rules in
    let three : length (get_or c.args.rows.now 2 []) ≡ g.row.N = search rules in
    rows-stored g.row.N c.args.out.now c.args.at _ _ _ c.args.rows.now four one two three (omega arith) (omega arith) (omega arith)
    c.put_run.ensures c.put_run-2.ensures c.put_run-3.ensures c.put_run-4.ensures

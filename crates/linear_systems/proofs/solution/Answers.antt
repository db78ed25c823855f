use Rattle.linear_systems.specs.Bounds.{read}
use borrow.Author.Rules.{rules}
use Rattle.linear_systems.proofs.solution.Goals as goal

pub row-e-requires : goal.row-e-requires
row-e-requires c =
    let l = c in
    let s = l in record {
      i_bound = search rules;
      bounded = s.requires.by_index l.loop-i.i;
      within = read tt (s.requires.bounded l.loop-i.i);
    }

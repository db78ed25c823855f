-- Demand 3 whole, in one statement: `every_service`. What it promises of a reduction and of a nearest vector is said in `Reduces` and `Nears`
-- (greedy_reduction/specs/Demand.antt), of the solution in tenths in `Solves` (solutions/specs/Promise.antt), of membership in `Belongs`
-- (greedy_reduction/specs/Membership.antt), of a fold and of lookups in `Folds` and `LooksUp` (fold_rules/specs/Meaning.antt), of what separates two
-- entries in `SeparatesAll` (separation_rules/specs/Meaning.antt), of a move between the forms in `MovesTo` (fold_rules/specs/Meaning.antt), of a merge in `Merges`
-- (merge_rules/specs/Meaning.antt).
use Rattle.std.specs.Prelude.{◌≡◌, List, ◌++◌, ℕ, ◌≤◌, ◌<◌, get_or}
use Rattle.integers.specs.All.{All}
use Rattle.lattices.specs.Refusal.{Input, first_of, vector_checks, target_checks}
use Rattle.lattices.specs.Answer.{reduction_of, nearest_of, membership_of}
use Rattle.greedy_reduction.specs.Demand.{Reduces, Nears, both_services}
use Rattle.greedy_reduction.specs.Membership.{Belongs, membership_theorem}
use Rattle.solutions.specs.Promise.{Solves, solves_theorem}
use Rattle.catalogue_rules.specs.Catalogue.{Form, most_number, Entry, accepted}
use Rattle.catalogue_rules.specs.Read.{read}
use Rattle.catalogue_rules.specs.Moving.{read_to_move}
use Rattle.fold_rules.specs.Meaning.{Folds, LooksUp, MovesTo}
use Rattle.fold_rules.proofs.Demand.{fold_theorem, lookup_theorem}
use Rattle.fold_rules.proofs.Moved.{move_theorem}
use Rattle.separation_rules.specs.Meaning.{SeparatesAll}
use Rattle.separation_rules.proofs.Demand.{separation_theorem}
use Rattle.merge_rules.specs.Merge.{Call}
use Rattle.merge_rules.specs.Meaning.{Merges}
use Rattle.merge_rules.proofs.Demand.{merge_theorem}

-- demand 3: every accepted basis is reduced; for every accepted target the nearest vector is named, the solution of its linear system to the tenth,
-- and whether it is in the lattice; every accepted file is folded; every number of an entry and in a see word is looked up; and of every two entries
-- it is said what separates them; every accepted file of the other form, whose numbers this form has room for, is moved to it; and after every sequence
-- of calls a merge holds what was added
pub every_service : (i : Input) (file : List ℕ) (es : List Entry) (f : Form) (cs : List Call)
    → (first_of vector_checks i ≡ 0 → Reduces i (reduction_of i))
    × (first_of (vector_checks ++ target_checks) i ≡ 0 → Nears i (nearest_of i))
    × (first_of (vector_checks ++ target_checks) i ≡ 0 → Solves i)
    × (first_of (vector_checks ++ target_checks) i ≡ 0 → Belongs i (membership_of i))
    × (read file ≡ accepted es → Folds file es)
    × (read file ≡ accepted es → LooksUp file es)
    × (read file ≡ accepted es → SeparatesAll file es)
    × (((k : ℕ) → get_or file k 0 < 256) → read_to_move f file ≡ accepted es → All (λ e. e.head.number ≤ most_number f) es → MovesTo f file es)
    × Merges cs
every_service i file es f cs =
    ((both_services i).0, (both_services i).1, solves_theorem i, membership_theorem i, fold_theorem file es, lookup_theorem file es, separation_theorem file es, move_theorem f file es, merge_theorem cs)

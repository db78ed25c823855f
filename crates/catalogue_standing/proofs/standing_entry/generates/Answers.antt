use mathlib.Core.Path.{◌≡◌, ap, ◌∙◌}
use mathlib.Core.List.{List, [], map}
use Prim.Native.Nat.{ℕ, ◌*◌, ◌≤◌, ◌<◌}
use native.Mathlib.Omega.{arith}
use lib.IntN.{pos}
use lib.Signed.{◌≤ℤ◌}
use lib.ListN.{length, get_or, take}
use Rattle.integers.specs.AllLaws.{all_imp}
use Rattle.lattices.specs.Vector.{Vec, N}
use Rattle.lattices.specs.Refusal.{most_vectors, most_coordinates}
use Rattle.lattices.specs.Laws.Refusal.{one-to}
use Rattle.lattices.specs.Answer.{padded, table}
use Rattle.lattices.specs.Laws.Answer.{length-vectors_of}
use Rattle.greedy_reduction.specs.Start.{Coordinates}
use Rattle.greedy_reduction.specs.Accepted.{short, vectors_of-full}
use Rattle.lattice_membership.specs.Laws.Accepted.{rows_short, table-first}
use Rattle.catalogue_rules.specs.Catalogue.{most_numbers}
use Rattle.catalogue_rules.specs.Form.{EntryFits}
use Rattle.catalogue_records.specs.declared.Entry.{Entry}
use Rattle.catalogue_records.specs.EntriesIn.{entry_in}
use Rattle.catalogue_records.specs.Coordinates.{cut}
use borrow.Author.Rules.{rules}
use Rattle.catalogue_standing.proofs.standing_entry.generates.Goals as goal

-- the numbers of the array of an entry
module _ (e : Entry) (fits : EntryFits (entry_in e)) (long : length e.coordinates ≡ most_numbers) {rows : List Vec} (is : rows ≡ table most_vectors most_coordinates (entry_in e).vectors) where
  few-coordinates : e.m ≤ most_coordinates
  few-coordinates = (one-to most_coordinates e.m fits.head.m).1

  full : Coordinates e.m (entry_in e).vectors
  full = vectors_of-full e.d e.m (take (e.d * e.m) e.coordinates) (cut e fits long)

  count : length (entry_in e).vectors ≡ e.d
  count = length-vectors_of e.d e.m (take (e.d * e.m) e.coordinates)

  few-vectors : e.d ≤ most_vectors
  few-vectors = (one-to most_vectors e.d fits.head.d).1

  taken : take e.d rows ≡ map (padded most_coordinates) (entry_in e).vectors
  taken = ap (take e.d) is ∙ table-first e.m few-coordinates (entry_in e).vectors full e.d count few-vectors

  limit : (i : ℕ) → i < e.d → N (get_or rows i []) ≤ℤ pos 400000000
  limit = rows_short e.m few-coordinates (entry_in e).vectors full e.d count rows taken (all_imp (λ v f. short v f.short) (entry_in e).vectors fits.vectors)

pub holds_all-requires-clause-by_index : goal.holds_all-requires-clause-by_index
holds_all-requires-clause-by_index c = limit c.args.e.now c.requires.entry_fits (search rules) (c.basis-vectors.ensures)

pub same_minor-requires-clause-by_index : goal.same_minor-requires-clause-by_index
same_minor-requires-clause-by_index c = λ i h. limit c.args.e.now c.requires.entry_fits (search rules) c.basis-vectors.ensures i (omega arith)

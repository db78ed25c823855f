-- The engine's lattice of the entry's coordinates.
use Rattle.std.proofs.Common.{◌≡◌, sym, ap, ◌∙◌, subst, List, [], ◌*◌, take, length, rules, ℤ}
use Rattle.lattices.specs.Refusal.{Input, first_of, vector_checks}
use Rattle.reduced_lattices.specs.Left.{left_of}
use Rattle.catalogue_rules.specs.Catalogue.{coordinates, most_numbers}
use Rattle.catalogue_rules.proofs.Laws.EntriesAccepted.{numbers-back, is-basis}
use Rattle.fold_rules.proofs.Laws.SameLattice.{Sound}
use Rattle.catalogue_records.specs.declared.Entry.{Entry}
use Rattle.catalogue_records.specs.EntriesIn.{entry_in}
use Rattle.catalogue_records.specs.Coordinates.{cut}
use Rattle.catalogue_standing.proofs.entry_lattices.lattice_of.Goals as goal

module _ (e : Entry) (s : Sound (entry_in e)) (long : length e.coordinates ≡ most_numbers) where
  same : coordinates (entry_in e).vectors ≡ take (e.d * e.m) e.coordinates
  same = numbers-back e.d e.m (take (e.d * e.m) e.coordinates) (cut e s.fits long)

  input : List ℤ → Input
  input l = record { numbers = l; d = e.d; m = e.m; target = [] }

  is_basis : first_of vector_checks (record { numbers = take (e.d * e.m) e.coordinates; d = e.d; m = e.m; target = [] }) ≡ 0
  unfolding input
  is_basis = subst (λ l. first_of vector_checks (input l) ≡ 0) same (is-basis (entry_in e) s.fits s.independent)

  left-same : left_of (record { numbers = take (e.d * e.m) e.coordinates; d = e.d; m = e.m; target = [] }) ≡ left_of (input (coordinates (entry_in e).vectors))
  unfolding input
  left-same = ap (λ l. left_of (input l)) (sym same)

pub lattice-requires : goal.lattice-requires
lattice-requires c = is_basis c.args.e.now c.requires (search rules)

pub returns-clause-lattice : goal.returns-clause-lattice
unfolding input
returns-clause-lattice c = record { known = c.lattice.ensures.known; left = c.lattice.ensures.result_value ∙ left-same c.args.e.now c.requires (search rules) }

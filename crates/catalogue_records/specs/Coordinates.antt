-- The d times m coordinates of a stored entry.
use Rattle.std.specs.Prelude.{◌≡◌, ◌*◌, ◌≤◌, length, take}
use Rattle.std.proofs.Common.{mul-le-mul, arith, length-take-le}
use Rattle.lattices.specs.Laws.Refusal.{one-to}
use Rattle.catalogue_rules.specs.Catalogue.{coordinates, most_numbers}
use Rattle.catalogue_rules.specs.Form.{EntryFits}
use Rattle.catalogue_rules.proofs.Laws.EntriesAccepted.{numbers-back}
use Rattle.catalogue_records.specs.declared.Entry.{Entry}
use Rattle.catalogue_records.specs.EntriesIn.{entry_in}
use Rattle.lattices.specs.Refusal.{most_vectors, most_coordinates}

module _ (e : Entry) (fits : EntryFits (entry_in e)) (long : length e.coordinates ≡ most_numbers) where
  pub most : e.d * e.m ≤ most_numbers
  most = omega (arith, mul-le-mul (one-to most_vectors e.d fits.head.d).1 (one-to most_coordinates e.m fits.head.m).1)

  pub cut : length (take (e.d * e.m) e.coordinates) ≡ e.d * e.m
  cut = length-take-le (e.d * e.m) e.coordinates (omega (arith, most, long))

  pub same : coordinates (entry_in e).vectors ≡ take (e.d * e.m) e.coordinates
  same = numbers-back e.d e.m (take (e.d * e.m) e.coordinates) cut

-- The entry's vectors, filled up with zeros, are searched; the one found is measured.
use Rattle.std.proofs.Common.{Option, Some, None}
use mathlib.Core.Path.{◌≡◌, sym, ap, ◌∙◌, subst}
use mathlib.Core.Bool.{not}
use mathlib.Core.List.{List, [], map}
use Prim.Native.Nat.{ℕ, ◌*◌, ◌≤◌, ◌<◌}
use native.Mathlib.Omega.{arith}
use lib.IntN.{pos}
use lib.Signed.{◌≤ℤ◌}
use lib.ListN.{length, get_or, take, length-map}
use lib.Seq.{get_or-take}
use mir.Syntax.{w64}
use mir.Facts.{to_z-of_z}
use Rattle.integers.specs.AllLaws.{all_imp}
use Rattle.lattices.specs.Vector.{Vec, N}
use Rattle.lattices.specs.Refusal.{most_vectors, most_coordinates}
use Rattle.lattices.specs.Laws.Refusal.{one-to}
use Rattle.lattices.specs.Answer.{padded, table}
use Rattle.lattices.specs.Laws.Answer.{length-vectors_of}
use Rattle.successive_minima.specs.Member.{squared_to, is_member}
use Rattle.greedy_reduction.specs.Start.{Coordinates}
use Rattle.greedy_reduction.specs.Accepted.{short as norm, vectors_of-full}
use Rattle.lattice_membership.specs.declared.Lattice.{Lattice}
use Rattle.lattice_membership.specs.Known.{vectors_in}
use Rattle.lattice_membership.specs.Laws.Accepted.{rows_short, table-first}
use Rattle.catalogue_rules.specs.Catalogue.{most_numbers}
use Rattle.catalogue_rules.specs.Form.{EntryFits}
use Rattle.catalogue_records.specs.declared.Entry.{Entry}
use Rattle.catalogue_records.specs.EntriesIn.{entry_in}
use Rattle.catalogue_records.specs.Coordinates.{cut}
use Rattle.catalogue_standing.specs.Places.{FirstFound}
use borrow.Author.Rules.{rules}
use Rattle.catalogue_separation.specs.Outsides.{AllInside}
use Rattle.catalogue_separation.proofs.outside_of.Goals as goal

-- the array of the vectors of an entry
module _ (e : Entry) (fits : EntryFits (entry_in e)) (long : length e.coordinates ≡ most_numbers) {rows : List Vec} (is : rows ≡ table most_vectors most_coordinates (entry_in e).vectors) where
  abbrev vs : List Vec
  vs = (entry_in e).vectors

  few-vectors : e.d ≤ most_vectors
  few-vectors = (one-to most_vectors e.d fits.head.d).1

  few-coordinates : e.m ≤ most_coordinates
  few-coordinates = (one-to most_coordinates e.m fits.head.m).1

  full : Coordinates e.m vs
  full = vectors_of-full e.d e.m (take (e.d * e.m) e.coordinates) (cut e fits long)

  count : length vs ≡ e.d
  count = length-vectors_of e.d e.m (take (e.d * e.m) e.coordinates)

  taken : take e.d rows ≡ map (padded most_coordinates) vs
  taken = ap (take e.d) is ∙ table-first e.m few-coordinates vs full e.d count few-vectors

  row : (i : ℕ) → i < e.d → get_or rows i [] ≡ get_or (map (padded most_coordinates) vs) i []
  row i h = sym (get_or-take e.d rows i [] h) ∙ ap (λ l. get_or l i []) taken

  limit : (i : ℕ) → i < e.d → N (get_or rows i []) ≤ℤ pos 400000000
  limit = rows_short e.m few-coordinates vs full e.d count rows taken (all_imp (λ v f. norm v f.short) vs fits.vectors)

  long-taken : length (take e.d rows) ≡ e.d
  long-taken = ap length taken ∙ length-map (entry_in e).vectors (padded most_coordinates) ∙ count

  short : (i : ℕ) → i < length (take e.d rows) → N (get_or (take e.d rows) i []) ≤ℤ pos 400000000
  short i h = subst (λ v. N v ≤ℤ pos 400000000) (sym (get_or-take e.d rows i [] (omega (arith, long-taken, h)))) (limit i (omega (arith, long-taken, h)))

  found : (l : Lattice) (o : Option ℕ) → FirstFound (λ i. not (is_member (vectors_in l) (get_or (take e.d rows) i []))) (length (take e.d rows)) o
      → FirstFound (λ i. not (is_member (vectors_in l) (get_or (map (padded most_coordinates) (entry_in e).vectors) i []))) (length (map (padded most_coordinates) (entry_in e).vectors)) o
  found l o = subst (λ vs. FirstFound (λ i. not (is_member (vectors_in l) (get_or vs i []))) (length vs) o) taken

pub first_outside-requires-clause-by_index : goal.first_outside-requires-clause-by_index
first_outside-requires-clause-by_index c = short c.args.e.now c.requires.entry_fits (search rules) c.basis-vectors.ensures

pub returns-in_err-place : goal.returns-in_err-place
returns-in_err-place c =
    let long : length c.args.e.now.coordinates ≡ most_numbers = search rules in
    let inside : AllInside (vectors_in c.args.l.now) (map (padded most_coordinates) (entry_in c.args.e.now).vectors) =
    record { none = found c.args.e.now c.requires.entry_fits long c.basis-vectors.ensures c.args.l.now None c.in_err-place.ensures } in
    let e : c.from_residual.result ≡ None = search rules in
    rw e inside

pub squared_to-requires-clause-t_bound : goal.squared_to-requires-clause-t_bound
squared_to-requires-clause-t_bound c =
    let long : length c.args.e.now.coordinates ≡ most_numbers = search rules in
    let n = long-taken c.args.e.now c.requires.entry_fits long c.basis-vectors.ensures in
    limit c.args.e.now c.requires.entry_fits long c.basis-vectors.ensures c.in_ok-place.place (omega (arith, n, c.in_ok-place.ensures.1))

pub returns : goal.returns
returns c =
    let long : length c.args.e.now.coordinates ≡ most_numbers = search rules in
    let n = long-taken c.args.e.now c.requires.entry_fits long c.basis-vectors.ensures in
    let first = found c.args.e.now c.requires.entry_fits long c.basis-vectors.ensures c.args.l.now (Some c.in_ok-place.place) c.in_ok-place.ensures in
    let here = row c.args.e.now c.requires.entry_fits long c.basis-vectors.ensures c.in_ok-place.place (omega (arith, n, c.in_ok-place.ensures.1)) in
    record {
      first = first.0;
      within = first.1;
      square = to_z-of_z {w = w64} (record { sfits = c.squared_to.type_inv }) ∙ c.squared_to.ensures ∙ ap (squared_to (vectors_in c.args.l.now)) here;
    }

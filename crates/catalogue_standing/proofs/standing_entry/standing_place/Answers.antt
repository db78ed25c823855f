use Rattle.std.proofs.Common.{◌≡◌, ◌≤◌, true, false, length, take, arith, length-take-le, get_or-take, subst, sym, Some, None}
use Rattle.catalogue_records.specs.EntriesIn.{entry_in}
use Rattle.catalogue_records.specs.Entries.{beyond, entry_at}
use Rattle.fold_rules.proofs.Laws.SameLattice.{Sound}
use Rattle.catalogue_standing.specs.ReducedEntries.{ready-sound}
use Rattle.catalogue_standing.specs.Standers.{searched-most, found-cut, found-stands, none-stands, drafts_stand}
use Rattle.catalogue_standing.proofs.standing_entry.standing_place.Goals as goal

pub lattice_of-l-requires : goal.lattice_of-l-requires
lattice_of-l-requires c = ready-sound c.args.entries.now c.requires.was_read c.args.k c.requires.k_lt_len

pub first_marked-requires-clause-sound : goal.first_marked-requires-clause-sound
first_marked-requires-clause-sound c =
    let l = c.args.entries.now in
    let most : c.searched-n.result ≤ length l = searched-most l c.requires.was_read c.args.k c.requires.k_lt_len c.searched-n.ensures in
    let n : length (take c.searched-n.result l) ≡ c.searched-n.result = length-take-le c.searched-n.result l most in (
      λ j h. subst (λ e. Sound (entry_in e)) (sym (get_or-take c.searched-n.result l j beyond (omega (arith, n, h)))) (ready-sound l c.requires.was_read j (omega (arith, n, h, most))),
      ready-sound l c.requires.was_read c.args.k c.requires.k_lt_len,
    )

pub returns-in-Some : goal.returns-in-Some
returns-in-Some c =
    let l = c.args.entries.now in
    let most : c.searched-n.result ≤ length l = searched-most l c.requires.was_read c.args.k c.requires.k_lt_len c.searched-n.ensures in
    found-stands l c.requires.was_read c.args.k c.requires.k_lt_len c.searched-n.ensures c.in-Some.j
    (found-cut false (entry_in (entry_at l c.args.k)) l c.searched-n.result most (Some c.in-Some.j) c.in-Some.ensures)

pub returns-then-not-e : goal.returns-then-not-e
returns-then-not-e c =
    let l = c.args.entries.now in
    let most : c.searched-n.result ≤ length l = searched-most l c.requires.was_read c.args.k c.requires.k_lt_len c.searched-n.ensures in
    none-stands l c.requires.was_read c.args.k c.requires.k_lt_len c.searched-n.ensures
    (found-cut false (entry_in (entry_at l c.args.k)) l c.searched-n.result most None c.in_default.ensures) c.if-not-e.true

pub first_marked-requires-2-clause-sound : goal.first_marked-requires-2-clause-sound
first_marked-requires-2-clause-sound c =
    let l = c.args.entries.now in
    let n : length (take c.args.k l) ≡ c.args.k = length-take-le c.args.k l (omega arith) in (
      λ j h. subst (λ e. Sound (entry_in e)) (sym (get_or-take c.args.k l j beyond (omega (arith, n, h)))) (ready-sound l c.requires.was_read j (omega (arith, n, h))),
      ready-sound l c.requires.was_read c.args.k c.requires.k_lt_len,
    )

pub returns : goal.returns
returns c =
    let l = c.args.entries.now in
    let e = entry_in (entry_at l c.args.k) in
    let most : c.searched-n.result ≤ length l = searched-most l c.requires.was_read c.args.k c.requires.k_lt_len c.searched-n.ensures in
    let k : c.args.k ≤ length l = omega arith in
    let stands =
    drafts_stand l c.requires.was_read c.args.k c.requires.k_lt_len c.searched-n.ensures
    (found-cut false e l c.searched-n.result most None c.in_default.ensures) c.if-not-e.false
    c.first_marked-2.result (found-cut true e l c.args.k k c.first_marked-2.result c.first_marked-2.ensures) in
    rw c.unwrap_or.ensures stands

-- A turn of the loop that folds: an entry that stands is printed, any other is passed over.
use Rattle.std.specs.Prelude.{◌≡◌, ◌≢◌, List, map, ℕ, ◌+◌, ◌≤◌, ◌<◌, length, get_or, set, Option}
use Rattle.std.proofs.Common.{sym, ap, ap₂, ◌∙◌, subst, arith}
use Rattle.catalogue_rules.specs.Catalogue as definition
use Rattle.fold_rules.specs.Fold.{stood_of, closed_list, carried, printed}
use Rattle.fold_rules.proofs.Laws.SameLattice.{Sound, sound-entries}
use Rattle.catalogue_records.specs.declared.See.{See}
use Rattle.catalogue_records.specs.declared.Entry.{Entry}
use Rattle.catalogue_records.specs.Stored.{stored_see, entry_of}
use Rattle.catalogue_records.specs.Catalogues.{stored, holding}
use Rattle.catalogue_records.specs.EntriesIn.{entry_in}
use Rattle.catalogue_records.specs.Entries.{beyond, entry_at, at_place, entry_has}
use Rattle.lattice_membership.specs.declared.Lattice.{Lattice}
use Rattle.lattice_membership.specs.Known.{left_in}
use Rattle.catalogue_standing.specs.SameLattice.{no_lattice}
use Rattle.catalogue_fold.specs.Spread.{Full, kept_full}
use Rattle.catalogue_standing.specs.Standing.{StandingPlaces}
use Rattle.catalogue_standing.specs.ReducedEntries.{WasRead, HoldReduced, ready-length}
use Rattle.catalogue_fold.specs.Printing.{printed_as}
use Rattle.catalogue_fold.specs.Carrying.{no_way, CarriedWays}
use Rattle.catalogue_fold.specs.Folding.{folded_of, prints-all, Folds, folds-no, folds-yes, printed-is}

module _ (l : List Entry) (r : WasRead l) {list : List Lattice} {places : List ℕ} (kept : HoldReduced l (length l) list) (stood : StandingPlaces (map entry_in l) (entry_in beyond) places) (k : ℕ) where
  abbrev es : List definition.Entry
  es = map entry_in l

  abbrev o : definition.Entry
  o = entry_in beyond

  abbrev e : Entry
  e = entry_at l k

  module _ (here : k < length l) where
    inside : k < length es
    inside = omega (arith, ready-length l r)

    found : get_or es k o ≡ entry_in e
    found = at_place l k here

    sound : Sound (entry_in e)
    sound = entry_has l k here Sound (sound-entries es r.formed)

    pub full : Full (left_in (get_or list k no_lattice))
    full = subst Full (sym (kept.at k here).left) (kept_full (entry_in e) sound)

    module _ {n m : ℕ} {before after : List Entry} (p : Folds es k n before) where
      pub passed_over : get_or places k 0 ≢ k → after ≡ before → m ≡ n → Folds es (k + 1) m after
      passed_over q a b =
          subst (λ m. Folds es (k + 1) m after) (sym b) (subst (Folds es (k + 1) n) (sym a) (folds-no es o r.formed stood p inside q))

      pub printed-next : get_or places k 0 ≡ k → {ways : List (Option See)} → CarriedWays es o places ways → {q : Entry} → q ≡ printed_as e (left_in (get_or list k no_lattice)) (get_or ways k no_way)
          → after ≡ set before n q → m ≡ n + 1 → Folds es (k + 1) m after
      printed-next s {ways} carried-ways {q} is a b =
          let ss = closed_list es in
          let way : get_or ways k no_way ≡ stored_see (carried ss (stood_of es (entry_in e))) =
          carried-ways.at k inside s ∙ ap (λ f. stored_see (carried ss (stood_of es f))) found in
          let shown = printed-is es e sound (kept.at k here).left way ∙ ap (λ f. entry_of (printed ss (stood_of es f))) (sym found) in
          subst (λ m. Folds es (k + 1) m after) (sym b) (subst (Folds es (k + 1) (n + 1)) (sym a) (folds-yes es o r.formed stood p inside s (is ∙ shown)))

-- after the last entry
pub all-printed : (l : List Entry) → WasRead l → {k n : ℕ} {entries : List Entry} → Folds (map entry_in l) k n entries → length l ≤ k → holding n entries ≡ folded_of l
all-printed l r {k} p h =
    let same = prints-all (map entry_in l) k (omega (arith, ready-length l r)) in
    ap₂ holding (p.count ∙ ap length same) (p.array ∙ ap stored same)

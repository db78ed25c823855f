-- The lattices of all entries of a catalogue, and that the places found among them are those of the definition.
use Rattle.std.specs.Prelude.{◌≡◌, List, map, ℕ, ◌+◌, ◌≤◌, ◌<◌, length, get_or, set, take, Ok}
use Rattle.std.proofs.Common.{sym, ap, ◌∙◌, subst, arith, length-set, get_or-set_same, get_or-set_other, get_or-take, length-take-le}
use Rattle.std.proofs.Math.Decide.{dec_lt}
use Rattle.std.proofs.lemmas.List.{length-map}
use Rattle.integers.specs.AllLaws.{get_d_map}
use Rattle.integers.specs.Filled.{filled}
use Rattle.integers.specs.FilledLaws.{take-filled}
use Rattle.catalogue_rules.specs.Catalogue.{most_entries}
use Rattle.catalogue_rules.specs.Read.{read}
use Rattle.catalogue_rules.specs.Form.{WellFormed}
use Rattle.fold_rules.proofs.Laws.SameLattice.{Sound, sound-entries}
use Rattle.catalogue_records.specs.declared.Catalogue.{Catalogue}
use Rattle.catalogue_records.specs.declared.Entry.{Entry}
use Rattle.catalogue_records.specs.Again.{formed}
use Rattle.catalogue_records.specs.EntriesIn.{entry_in, outcome_in}
use Rattle.catalogue_records.specs.Entries.{beyond, entry_at, length-entries, at_place, entry_has}
use Rattle.lattice_membership.specs.declared.Lattice.{Lattice}
use Rattle.catalogue_standing.specs.ReducedEntry.{reduced_entry}
use Rattle.catalogue_standing.specs.SameLattice.{LatticeOf, FairLattice, no_lattice, lefts_in, left_at}
use Rattle.catalogue_standing.specs.Places.{Firsts}
use Rattle.catalogue_standing.specs.FirstPlaces.{FirstPlaces, first-places}
use Rattle.catalogue_standing.specs.Numbers.{Numbers}

-- the lattices of the first n entries
pub record HoldReduced (l : List Entry) (n : ℕ) (list : List Lattice) : Type 0 where
  pub room : n ≤ length list
  pub at : (k : ℕ) → k < n → LatticeOf (reduced_entry (entry_in (entry_at l k))) (get_or list k no_lattice)

pub keeps-none : (l : List Entry) (list : List Lattice) → HoldReduced l 0 list
keeps-none l list = record { room = omega arith; at = λ k h. absurd (omega arith) }

pub keeps-more : {l : List Entry} {n : ℕ} {list : List Lattice} {s : Lattice} → HoldReduced l n list → n < length list → LatticeOf (reduced_entry (entry_in (entry_at l n))) s → HoldReduced l (n + 1) (set list n s)
keeps-more {l} {n} {list} {s} p h q = record { room = omega (arith, length-set list n s); at = λ k m. go k m (dec_lt k n) }
  where
    go : (k : ℕ) → k < n + 1 → Dec (k < n) → LatticeOf (reduced_entry (entry_in (entry_at l k))) (get_or (set list n s) k no_lattice)
    go k m (yes i) = subst (LatticeOf (reduced_entry (entry_in (entry_at l k)))) (sym (get_or-set_other list n k s no_lattice (λ e. absurd (omega arith)))) (p.at k i)
    go k m (no i) =
        let same : k ≡ n = omega arith in
        subst (λ k. LatticeOf (reduced_entry (entry_in (entry_at l k))) (get_or (set list n s) k no_lattice)) (sym same)
        (subst (LatticeOf (reduced_entry (entry_in (entry_at l n)))) (sym (get_or-set_same list n s no_lattice h)) q)

-- they are the first n of the list
pub keeps-cut : {l : List Entry} {n : ℕ} {list : List Lattice} → HoldReduced l n list → HoldReduced l n (take n list)
keeps-cut {l} {n} {list} p = record {
  room = omega (arith, length-take-le n list p.room);
  at = λ k h. subst (LatticeOf (reduced_entry (entry_in (entry_at l k)))) (sym (get_or-take n list k no_lattice h)) (p.at k h);
}

-- ---- entries that were read

pub record WasRead (l : List Entry) : Type 0 where
  pub few : length l ≤ most_entries
  pub formed : WellFormed (map entry_in l)

pub ready : (l : List Entry) → WellFormed (map entry_in l) → WasRead l
ready l w = record { few = omega (arith, length-entries l, w.entered.few); formed = w }

-- those of a catalogue that was read
pub ready-read : (bytes : List ℕ) (c : Catalogue) → outcome_in (Ok c) ≡ read bytes → {l : List Entry} → l ≡ take c.count c.entries → WasRead l
ready-read bytes c is e = subst WasRead (sym e) (ready (take c.count c.entries) (formed bytes c is))

-- what an array holds of some elements, one after the other
pub filled-cut : {A B : Type 0} (z : B) (f : A → B) (l : List A) → length l ≤ most_entries → {xs : List B} → xs ≡ filled z most_entries (map f l) → take (length l) xs ≡ map f l
filled-cut z f l few e =
    let n = length-map l f in
    ap (take (length l)) e ∙ ap (λ k. take k (filled z most_entries (map f l))) (sym n) ∙ take-filled z most_entries (map f l) (omega (arith, n))

module _ (l : List Entry) (r : WasRead l) where
  pub ready-length : length (map entry_in l) ≡ length l
  ready-length = length-entries l

  pub ready-sound : (k : ℕ) → k < length l → Sound (entry_in (entry_at l k))
  ready-sound k h = entry_has l k h Sound (sound-entries (map entry_in l) r.formed)

  module _ {list : List Lattice} (kept : HoldReduced l (length l) list) where
    pub keeps-fair : (k : ℕ) → k < length l → FairLattice (get_or list k no_lattice)
    keeps-fair k h = record { known = (kept.at k h).known; fair = record { entry = entry_in (entry_at l k); sound = ready-sound k h; is = (kept.at k h).left } }

    pub keeps-firsts : {places : List ℕ} → Firsts (lefts_in list) (length l) places → FirstPlaces (map entry_in l) (entry_in beyond) places
    keeps-firsts {places} p = first-places (map entry_in l) (entry_in beyond) r.formed (record {
      kept = λ k h. left_at list k ∙ (kept.at k (omega (arith, ready-length))).left ∙ ap reduced_entry (sym (at_place l k (omega (arith, ready-length))));
      firsts = subst (λ n. Firsts (lefts_in list) n places) (sym ready-length) p;
    })

  pub ready-numbers : {numbers : List ℕ} → numbers ≡ map (λ e. e.number) l → Numbers (map entry_in l) (entry_in beyond) numbers
  ready-numbers e = record {
    number = λ k h. ap (λ l. get_or l k 0) e ∙ get_d_map (λ e. e.number) l beyond 0 k (omega (arith, ready-length))
        ∙ ap (λ f. f.head.number) (sym (at_place l k (omega (arith, ready-length))));
  }

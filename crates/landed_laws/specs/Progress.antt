-- Reading word by word: after i words the code's state shows a state of the definition, and a turn of the loop keeps it.
use Rattle.std.specs.Prelude.{◌≡◌, refl, true, false, cond, List, [], ℕ, suc, ◌+◌, ◌≤◌, ◌<◌, ℤ, pos, length, get_or, set, take, drop, Ok}
use Rattle.std.proofs.Math.Path.{sym, ap}
use Rattle.std.proofs.Common.{ap₂, ◌∙◌, subst, true≢false, add-one, arith, length-take, drop_of_length-le, drop-cons, lt-ltb, le-ltb}
use Rattle.catalogue_rules.specs.Word.{Word, decode}
use Rattle.catalogue_rules.proofs.Laws.Word.{InRange, decode_range}
use Rattle.catalogue_rules.specs.Catalogue as definition
use Rattle.catalogue_rules.specs.Catalogue.{Outcome, refused, accepted, most_entries, most_numbers}
use Rattle.catalogue_rules.specs.Read.{State, outside, numbered, inside, after, closed, Step, next, stop, step, at_last, read_words}
use Rattle.catalogue_rules.proofs.Laws.Moves.{Moves, by-head, by_number, by_size, by-coordinate, by-draft, by-see, by_end, Going, moved}
use Rattle.catalogue_rules.proofs.Laws.WellFormed.{Known, known-moves, nothing_read}
use Rattle.catalogue_records.specs.declared.Entry.{Entry}
use Rattle.catalogue_steps.specs.declared.reading.Reading.{Reading}
use Rattle.integers.specs.Filled.{filled}
use Rattle.catalogue_records.specs.Catalogues.{stored, holding, catalogue_of}
use Rattle.catalogue_steps.specs.Readings.{is_closed, Turn, first_reading, stopped, step_read, ReadyFor}
use Rattle.catalogue_steps.specs.Parts.{whole_at}
use Rattle.catalogue_steps.specs.States.{reading_of, step_of, numbers_of, Fine, step-shown}
use Rattle.catalogue_steps.specs.Cells.{placed, Place, cells_of, Cells, cells-none, cells-moves}
use Rattle.landed_laws.specs.Room.{Due, due-moves, fine, ready}
use Rattle.landed_laws.specs.Store.{whole_in, put, store_moves, Space, noted, numbers-moves}

-- a state with room, from which the words from i on have the outcome of all words
pub record Onward (words : List ℕ) (i : ℕ) (s : State) : Type 0 where
  pub known : Known s
  pub due : Due s
  pub rest : read_words s i (drop i words) ≡ read_words (outside []) 0 words

-- what the code holds after i words shows such a state
pub record Reached (words : List ℕ) (i : ℕ) (entries : List Entry) (numbers : List ℕ) (coordinates : List ℤ) (s : Reading) : Type 0 where
  pub state : State
  pub onward : Onward words i state
  pub shown : s ≡ reading_of state
  pub stores : entries ≡ stored (whole_in state)
  pub notes : numbers ≡ filled 0 most_entries (numbers_of state)
  pub cells : Cells state coordinates

pub at-start : (words : List ℕ) (coordinates : List ℤ) → length coordinates ≡ most_numbers → Reached words 0 (stored []) (filled 0 most_entries []) coordinates first_reading
at-start words coordinates long = record {
  state = outside [];
  onward = record { known = nothing_read; due = tt; rest = refl };
  shown = refl;
  stores = refl;
  notes = refl;
  cells = cells-none [] coordinates long;
}

-- ---- a turn

whole-count : (s : State) → (reading_of s).count ≡ length (whole_in s)
whole-count (outside es) = refl
whole-count (numbered es n p) = refl
whole-count (inside es h vs v) = refl
whole-count (after es h vs marked) = refl
whole-count (closed es) = refl

filled-count : (s : State) → (reading_of s).part.filled ≡ length (cells_of s)
filled-count (outside es) = refl
filled-count (numbered es n p) = refl
filled-count (inside es h vs v) = refl
filled-count (after es h vs marked) = refl
filled-count (closed es) = refl

few : (s : State) → Known s → length (whole_in s) ≤ most_entries
few (outside es) k = k.few
few (numbered es n p) k = k.entered.few
few (inside es h vs v) k = k.0.before.entered.few
few (after es h vs marked) k = k.0.before.entered.few
few (closed es) k = k.few

-- a head has room for its number
head_few : {s t : State} {i : ℕ} {w : Word} → Moves s i w t → Known t → Space (length (whole_in t)) w
head_few (by-head n d m i b p) k = k.0.before.few
head_few (by_number n i b p) k = k.few
head_few (by_size es n p d m q) k = tt
head_few (by-coordinate es h vs v l p) k = tt
head_few (by-draft es h vs) k = tt
head_few (by-see es h vs marked s) k = tt
head_few (by_end b) k = tt

-- a coordinate has room
cell_few : {s t : State} {i : ℕ} {w : Word} → Moves s i w t → Fine s → Place (length (cells_of s)) w
cell_few (by-head n d m i b p) k = tt
cell_few (by_number n i b p) k = tt
cell_few (by_size es n p d m q) k = tt
cell_few (by-coordinate es h vs v l p) k = k.1
cell_few (by-draft es h vs) k = tt
cell_few (by-see es h vs marked s) k = tt
cell_few (by_end b) k = tt

-- the outcome after a step
abbrev after-step : ℕ → List ℕ → Step → Outcome
after-step i words r = elim r [ next t ↦ read_words t (suc i) words | stop n ↦ refused n i ]

-- a step that goes on
pub record Moved (words : List ℕ) (i : ℕ) (s : State) (w : Word) (t : Reading) : Type 0 where
  pub state : State
  pub moves : Moves s i w state
  pub onward : Onward words (suc i) state
  pub shown : t ≡ reading_of state

module _ (words : List ℕ) (i : ℕ) {entries : List Entry} {numbers : List ℕ} {coordinates : List ℤ} {s : Reading} (r : Reached words i entries numbers coordinates s) where
  -- the array holds all coordinates of the entry being read
  cells_count : s.part.filled ≡ length (cells_of r.state)
  cells_count = ap (λ x. x.part.filled) r.shown ∙ filled-count r.state

  pub cells-room : (s.part.filled ≤ most_numbers) × (length coordinates ≡ most_numbers)
  cells-room = (omega (arith, cells_count, length-take (length (cells_of r.state)) coordinates, ap length r.cells.first, r.cells.long), r.cells.long)

  pub reached-ready : ReadyFor numbers s
  reached-ready = subst (λ l. ReadyFor l s) (sym r.notes) (subst (ReadyFor (filled 0 most_entries (numbers_of r.state))) (sym r.shown) (ready r.state r.onward.known r.onward.due))

  module _ (here : i < length words) {x : Turn} {w : Word} (word : w ≡ decode (get_or words i 0)) (read : x ≡ step_read numbers s i w) where
    turned : x ≡ step_of (step r.state i w)
    turned = read ∙ ap₂ (λ l x. step_read l x i w) r.notes r.shown ∙ step-shown r.state i w (fine r.state r.onward.known r.onward.due)

    outcome : after-step i (drop (suc i) words) (step r.state i w) ≡ read_words (outside []) 0 words
    unfolding read_words
    outcome = ap (λ x. after-step i (drop (suc i) words) (step r.state i x)) word ∙ sym (ap (read_words r.state i) (drop-cons words i 0 here)) ∙ r.onward.rest

    pub refuses : {n : ℕ} → x ≡ stopped n → refused n i ≡ read_words (outside []) 0 words
    refuses {n} is = go (step r.state i w) (sym is ∙ turned) outcome
      where
        go : (y : Step) → stopped n ≡ step_of y → after-step i (drop (suc i) words) y ≡ read_words (outside []) 0 words → refused n i ≡ read_words (outside []) 0 words
        go (next u) e o = cc
        go (stop m) e o = let same : n ≡ m = cc in ap (λ k. refused k i) same ∙ o

    pub moves-on : {t : Reading} → x ≡ Ok t → Moved words i r.state w t
    moves-on {t} is = go (step r.state i w) (sym is ∙ turned) outcome (moved r.state i w)
      where
        go : (y : Step) → Ok t ≡ step_of y → after-step i (drop (suc i) words) y ≡ read_words (outside []) 0 words → Going (Moves r.state i w) y → Moved words i r.state w t
        go (next u) e o m = record {
          state = u;
          moves = m;
          onward = record { known = known-moves m (subst InRange (sym word) (decode_range _)) r.onward.known; due = due-moves m r.onward.known r.onward.due; rest = o };
          shown = cc;
        }
        go (stop n) e o m = cc

    -- what the turn has stored and noted
    pub keeps : {t : Reading} (goes : x ≡ Ok t) {l : List Entry} {ns : List ℕ} {cs : List ℤ} → l ≡ put entries s t coordinates i w → ns ≡ noted numbers t.count w → cs ≡ placed coordinates s.part.filled w
        → Reached words (i + 1) l ns cs t
    keeps {t} goes {l} {ns} {cs} e f g =
        let m = moves-on goes in
        let k = fine r.state r.onward.known r.onward.due in
        subst (λ n. Reached words n l ns cs t) (sym (add-one i)) (record {
          state = m.state;
          onward = m.onward;
          shown = m.shown;
          stores =
              e
              ∙ ap₂ (λ x y. put entries x y coordinates i w) r.shown m.shown
              ∙ ap (λ l. put l (reading_of r.state) (reading_of m.state) coordinates i w) r.stores
              ∙ store_moves m.moves k r.cells;
          notes =
              f
              ∙ ap₂ (λ l n. noted l n w) r.notes (ap (λ x. x.count) m.shown ∙ whole-count m.state)
              ∙ numbers-moves m.moves;
          cells = subst (Cells m.state) (sym (g ∙ ap (λ n. placed coordinates n w) cells_count)) (cells-moves m.moves k r.cells);
        })

    -- there is room for one entry more, and for a head's number
    pub counted : {t : Reading} → x ≡ Ok t → t.count ≤ most_entries
    counted {t} goes =
        let m = moves-on goes in
        omega (arith, ap (λ x. x.count) m.shown, whole-count m.state, few m.state m.onward.known)

    pub counted_cell : {t : Reading} → x ≡ Ok t → Place s.part.filled w
    counted_cell {t} goes =
        let m = moves-on goes in
        subst (λ n. Place n w) (sym cells_count) (cell_few m.moves (fine r.state r.onward.known r.onward.due))

    pub counted-head : {t : Reading} → x ≡ Ok t → Space t.count w
    counted-head {t} goes =
        let m = moves-on goes in
        subst (λ n. Space n w) (sym (ap (λ x. x.count) m.shown ∙ whole-count m.state)) (head_few m.moves m.onward.known)

-- what is stored, as the code decides it
module _ (l : List Entry) (s t : Reading) (cs : List ℤ) (i : ℕ) (w : Word) where
  abbrev added : Entry
  added = whole_at s.part t.form (filled (pos 0) most_numbers (take s.part.filled cs)) i w

  pub stores_one : s.count < t.count → set l s.count added ≡ put l s t cs i w
  stores_one h = sym (ap (λ b. cond b (set l s.count added) l) (lt-ltb _ _ h))

  pub stores-none : t.count ≤ s.count → l ≡ put l s t cs i w
  stores-none h = sym (ap (λ b. cond b (set l s.count added) l) (le-ltb _ _ h))

-- ---- the end

module _ (words : List ℕ) (i : ℕ) {entries : List Entry} {numbers : List ℕ} {coordinates : List ℤ} {s : Reading} (r : Reached words i entries numbers coordinates s) (over : length words ≤ i) where
  last : at_last r.state i ≡ read_words (outside []) 0 words
  unfolding read_words
  last = sym (ap (read_words r.state i) (drop_of_length-le words over)) ∙ r.onward.rest

  pub missing : is_closed s.phase ≡ false → refused 10 i ≡ read_words (outside []) 0 words
  missing e = go r.state (sym (ap (λ x. is_closed x.phase) r.shown) ∙ e) ∙ last
    where
      go : (x : State) → is_closed (reading_of x).phase ≡ false → refused 10 i ≡ at_last x i
      go (outside es) h = refl
      go (numbered es n p) h = refl
      go (inside es h vs v) e = refl
      go (after es h vs marked) e = refl
      go (closed es) h = absurd (true≢false h)

  pub complete : is_closed s.phase ≡ true → (es : List definition.Entry) × (holding s.count entries ≡ catalogue_of es) × (accepted es ≡ read_words (outside []) 0 words)
  complete e =
      let all = go r.state (sym (ap (λ x. is_closed x.phase) r.shown) ∙ e) in
      (whole_in r.state, ap₂ holding (ap (λ x. x.count) r.shown) r.stores ∙ all.0, all.1 ∙ last)
    where
      go : (x : State) → is_closed (reading_of x).phase ≡ true → (holding (reading_of x).count (stored (whole_in x)) ≡ catalogue_of (whole_in x)) × (accepted (whole_in x) ≡ at_last x i)
      go (outside es) h = absurd (true≢false (sym h))
      go (numbered es n p) e = absurd (true≢false (sym e))
      go (inside es h vs v) e = absurd (true≢false (sym e))
      go (after es h vs marked) e = absurd (true≢false (sym e))
      go (closed es) h = (refl, refl)

-- What the code holds of a state that steps have reached, and that a step more is the definition's.
use Rattle.std.specs.Prelude.{◌≡◌, refl, List, ℕ, ◌≤◌, ℤ, length, Ok}
use Rattle.std.proofs.Common.{sym, ap, ◌∙◌, subst, arith, length-take}
use Rattle.catalogue_rules.specs.Word.{Word, decode}
use Rattle.catalogue_rules.specs.Catalogue.{most_entries, most_numbers}
use Rattle.catalogue_rules.specs.Read.{State, outside, numbered, inside, after, closed, Step, next, stop, step}
use Rattle.catalogue_rules.proofs.Laws.Word.{InRange, decode_range}
use Rattle.catalogue_rules.proofs.Laws.Moves.{Moves, by-head, by_number, by_size, by-coordinate, by-draft, by-see, by_end, Going, moved}
use Rattle.catalogue_rules.proofs.Laws.WellFormed.{Known, known-moves}
use Rattle.catalogue_steps.specs.declared.reading.Reading.{Reading}
use Rattle.catalogue_steps.specs.Readings.{stopped, ReadyFor}
use Rattle.catalogue_steps.specs.States.{reading_of, step_of, whole_in, Fine}
use Rattle.catalogue_steps.specs.Cells.{placed, Place, cells_of, Cells, cells-moves}
use Rattle.catalogue_steps.specs.Room.{Due, due-moves, fine, ready}

-- a state with room: the stored state shows it, and the coordinates of the entry being read stand in the array
pub record Held (state : State) (coordinates : List ℤ) (s : Reading) : Type 0 where
  pub known : Known state
  pub due : Due state
  pub shown : s ≡ reading_of state
  pub cells : Cells state coordinates

-- ---- what is counted

pub whole-count : (s : State) → (reading_of s).count ≡ length (whole_in s)
whole-count (outside es) = refl
whole-count (numbered es n p) = refl
whole-count (inside es h vs v) = refl
whole-count (after es h vs marked) = refl
whole-count (closed es) = refl

filled-count : (s : State) → (reading_of s).part.filled ≡ length (cells_of s)
filled-count (outside es) = refl
filled-count (numbered es n p) = refl
filled-count (inside es h vs v) = refl
filled-count (after es h vs marked) = refl
filled-count (closed es) = refl

few : (s : State) → Known s → length (whole_in s) ≤ most_entries
few (outside es) k = k.few
few (numbered es n p) k = k.entered.few
few (inside es h vs v) k = k.0.before.entered.few
few (after es h vs marked) k = k.0.before.entered.few
few (closed es) k = k.few

-- a coordinate has room
cell_few : {s t : State} {i : ℕ} {w : Word} → Moves s i w t → Fine s → Place (length (cells_of s)) w
cell_few (by-head n d m i b p) k = tt
cell_few (by_number n i b p) k = tt
cell_few (by_size es n p d m q) k = tt
cell_few (by-coordinate es h vs v l p) k = k.1
cell_few (by-draft es h vs) k = tt
cell_few (by-see es h vs marked s) k = tt
cell_few (by_end b) k = tt

-- ---- a step

pub word_range : (n : ℕ) {w : Word} → w ≡ decode n → InRange w
word_range n e = subst InRange (sym e) (decode_range n)

-- one that stops
pub stops_with : (x : Step) {n : ℕ} → stopped n ≡ step_of x → x ≡ stop n
stops_with (next u) e = cc
stops_with (stop n) e = cc

-- one that goes on
pub record Moved (s : State) (i : ℕ) (w : Word) (t : Reading) : Type 0 where
  pub state : State
  pub is : step s i w ≡ next state
  pub moves : Moves s i w state
  pub known : Known state
  pub due : Due state
  pub shown : t ≡ reading_of state

module _ (state : State) {coordinates : List ℤ} {s : Reading} (r : Held state coordinates s) where
  -- the array holds all coordinates of the entry being read
  cells_count : s.part.filled ≡ length (cells_of state)
  cells_count = ap (λ x. x.part.filled) r.shown ∙ filled-count state

  pub cells-room : (s.part.filled ≤ most_numbers) × (length coordinates ≡ most_numbers)
  cells-room = (omega (arith, cells_count, length-take (length (cells_of state)) coordinates, ap length r.cells.first, r.cells.long), r.cells.long)

  pub held-fine : Fine state
  held-fine = fine state r.known r.due

  pub held-ready : {numbers : List ℕ} → length numbers ≡ most_entries → ReadyFor numbers s
  held-ready {numbers} long = subst (ReadyFor numbers) (sym r.shown) (ready state long r.known r.due)

  module _ (i : ℕ) (w : Word) {t : Reading} (turned : Ok t ≡ step_of (step state i w)) (ranged : InRange w) where
    pub moves-on : Moved state i w t
    moves-on = go (step state i w) refl turned (moved state i w)
      where
        go : (x : Step) → step state i w ≡ x → Ok t ≡ step_of x → Going (Moves state i w) x → Moved state i w t
        go (next u) q e m = record { state = u; is = q; moves = m; known = known-moves m ranged r.known; due = due-moves m r.known r.due; shown = cc }
        go (stop n) q e m = cc

    -- what is stored goes on with it
    pub held_on : {cs : List ℤ} → cs ≡ placed coordinates s.part.filled w → Held moves-on.state cs t
    held_on g =
        let m = moves-on in
        record {
          known = m.known;
          due = m.due;
          shown = m.shown;
          cells = subst (Cells m.state) (sym (g ∙ ap (λ n. placed coordinates n w) cells_count)) (cells-moves m.moves held-fine r.cells);
        }

    -- there is room for one entry more, and for a coordinate
    pub counted : t.count ≤ most_entries
    counted = let m = moves-on in omega (arith, ap (λ x. x.count) m.shown, whole-count m.state, few m.state m.known)

    pub counted_cell : Place s.part.filled w
    counted_cell = subst (λ n. Place n w) (sym cells_count) (cell_few moves-on.moves held-fine)

-- Reading word by word: after i words the code's state shows a state of the definition, and a turn of the loop keeps it.
use Rattle.std.specs.Prelude.{◌≡◌, refl, ◌≢◌, cond, List, [], ℕ, suc, ◌+◌, ◌≤◌, ◌<◌, ℤ, pos, length, get_or, set, take, drop, ◌/◌, Ok, Err}
use Rattle.std.specs.declared.result.Result.{Result}
use Rattle.std.proofs.Math.Path.{sym, ap, ap₂, subst}
use Rattle.refusals.specs.declared.Refusal.{Refusal}
use Rattle.refusals.specs.Number.{number_of}
use Rattle.std.proofs.Common.{arith, ◌∙◌, add-one, drop_of_length-le, drop-cons, lt-ltb, le-ltb}
use Rattle.catalogue_rules.specs.Word.{Word, decode, words_of}
use Rattle.catalogue_rules.proofs.Laws.Word.{length-words}
use Rattle.catalogue_rules.specs.Catalogue as definition
use Rattle.catalogue_rules.specs.Catalogue.{Outcome, refused, accepted, most_entries, most_numbers}
use Rattle.catalogue_rules.specs.Form.{Entered}
use Rattle.catalogue_rules.specs.Read.{State, outside, numbered, inside, after, closed, Step, next, stop, step, at_last, read_words}
use Rattle.catalogue_rules.proofs.Laws.Moves.{Moves, by-head, by_number, by_size, by-coordinate, by-draft, by-see, by_end}
use Rattle.catalogue_rules.proofs.Laws.WellFormed.{Known, nothing_read}
use Rattle.catalogue_records.specs.declared.Entry.{Entry}
use Rattle.catalogue_steps.specs.declared.reading.Phase.TheVariants.{Closed}
use Rattle.catalogue_steps.specs.declared.reading.Reading.{Reading}
use Rattle.integers.specs.Filled.{filled}
use Rattle.integers.specs.FilledLaws.{length-filled}
use Rattle.catalogue_records.specs.EntriesIn.{entries_in}
use Rattle.catalogue_records.specs.Entries.{entries-back, is_stored}
use Rattle.catalogue_records.specs.Catalogues.{stored, holding, catalogue_of, IsStored}
use Rattle.catalogue_steps.specs.Readings.{first_reading, step_read}
use Rattle.catalogue_steps.specs.Rows.{turn_in}
use Rattle.catalogue_steps.specs.Parts.{whole_at}
use Rattle.catalogue_steps.specs.States.{reading_of, step_of, numbers_of, whole_in, step-shown}
use Rattle.catalogue_steps.specs.Cells.{placed, Place, cells-none}
use Rattle.catalogue_steps.specs.Held.{Held, Moved, whole-count, word_range, held-fine, stops_with, moves-on, held_on, counted, counted_cell}
use Rattle.catalogue_reader.specs.Store.{put, store_moves, Space, noted, numbers-moves}

-- what the code holds after i words shows a state from which the words from i on have the outcome of all words
pub record Reached (words : List ℕ) (i : ℕ) (entries : List Entry) (numbers : List ℕ) (coordinates : List ℤ) (s : Reading) : Type 0 where
  pub state : State
  pub held : Held state coordinates s
  pub rest : read_words state i (drop i words) ≡ read_words (outside []) 0 words
  pub stores : entries ≡ stored (whole_in state)
  pub notes : numbers ≡ filled 0 most_entries (numbers_of state)

pub at-start : (words : List ℕ) (coordinates : List ℤ) → length coordinates ≡ most_numbers → Reached words 0 (stored []) (filled 0 most_entries []) coordinates first_reading
at-start words coordinates long = record {
  state = outside [];
  held = record { known = nothing_read; due = tt; shown = refl; cells = cells-none [] coordinates long };
  rest = refl;
  stores = refl;
  notes = refl;
}

-- ---- a turn

-- a head has room for its number
head_few : {s t : State} {i : ℕ} {w : Word} → Moves s i w t → Known t → Space (length (whole_in t)) w
head_few (by-head n d m i b p) k = k.0.before.few
head_few (by_number n i b p) k = k.few
head_few (by_size es n p d m q) k = tt
head_few (by-coordinate es h vs v l p) k = tt
head_few (by-draft es h vs) k = tt
head_few (by-see es h vs marked s) k = tt
head_few (by_end b) k = tt

-- the outcome after a step
abbrev after-step : ℕ → List ℕ → Step → Outcome
after-step i words r = elim r [ next t ↦ read_words t (suc i) words | stop n ↦ refused n i ]

module _ (bytes : List ℕ) (i : ℕ) {entries : List Entry} {numbers : List ℕ} {coordinates : List ℤ} {s : Reading} (r : Reached (words_of bytes) i entries numbers coordinates s) where
  abbrev words : List ℕ
  words = words_of bytes

  pub numbers-long : length numbers ≡ most_entries
  numbers-long = ap length r.notes ∙ length-filled 0 most_entries (numbers_of r.state)

  module _ (here : i < length bytes / 4) {n : ℕ} (at : n ≡ get_or (words_of bytes) i 0) {w : Word} (decoded : w ≡ decode n) (x : Result Reading Refusal) (read : turn_in x ≡ step_read numbers s i w) where
    word : w ≡ decode (get_or words i 0)
    word = decoded ∙ ap decode at

    turned : turn_in x ≡ step_of (step r.state i w)
    turned = read ∙ ap₂ (λ l x. step_read l x i w) r.notes r.held.shown ∙ step-shown r.state i w (held-fine r.state r.held)

    outcome : after-step i (drop (suc i) words) (step r.state i w) ≡ read_words (outside []) 0 words
    unfolding read_words
    outcome = ap (λ x. after-step i (drop (suc i) words) (step r.state i x)) word ∙ sym (ap (read_words r.state i) (drop-cons words i 0 (omega (arith, length-words bytes)))) ∙ r.rest

    pub refuses : {e : Refusal} → x ≡ Err e → refused (number_of e) i ≡ read_words (outside []) 0 words
    refuses is = sym (ap (after-step i (drop (suc i) words)) (stops_with (step r.state i w) (sym (ap turn_in is) ∙ turned))) ∙ outcome

    module _ {t : Reading} (is : x ≡ Ok t) where
      goes_on : Moved r.state i w t
      goes_on = moves-on r.state r.held i w (sym (ap turn_in is) ∙ turned) (word_range _ word)

      -- there is room for the entry and for a coordinate
      pub few-next : t.count ≤ most_entries
      few-next = counted r.state r.held i w (sym (ap turn_in is) ∙ turned) (word_range _ word)

      pub counted-next : Place s.part.filled w
      counted-next = counted_cell r.state r.held i w (sym (ap turn_in is) ∙ turned) (word_range _ word)

      -- what the turn has stored and noted
      pub keeps : {l : List Entry} {ns : List ℕ} {cs : List ℤ} → l ≡ put entries s t coordinates i w → ns ≡ noted numbers t.count w → cs ≡ placed coordinates s.part.filled w
          → Reached words (i + 1) l ns cs t
      unfolding goes_on
      keeps {l} {ns} {cs} e f g =
          let m = goes_on in
          subst (λ n. Reached words n l ns cs t) (sym (add-one i)) (record {
            state = m.state;
            held = held_on r.state r.held i w (sym (ap turn_in is) ∙ turned) (word_range _ word) g;
            rest = sym (ap (after-step i (drop (suc i) words)) m.is) ∙ outcome;
            stores =
                e
                ∙ ap₂ (λ x y. put entries x y coordinates i w) r.held.shown m.shown
                ∙ ap (λ l. put l (reading_of r.state) (reading_of m.state) coordinates i w) r.stores
                ∙ store_moves m.moves (held-fine r.state r.held) r.held.cells;
            notes =
                f
                ∙ ap₂ (λ l n. noted l n w) r.notes (ap (λ x. x.count) m.shown ∙ whole-count m.state)
                ∙ numbers-moves m.moves;
          })

      -- there is room for a head's number
      pub counted-head : Space t.count w
      counted-head =
          let m = goes_on in
          subst (λ n. Space n w) (sym (ap (λ x. x.count) m.shown ∙ whole-count m.state)) (head_few m.moves m.known)

-- what is stored, as the code decides it
module _ (l : List Entry) (s t : Reading) (cs : List ℤ) (i : ℕ) (w : Word) where
  abbrev added : Entry
  added = whole_at s.part t.form (filled (pos 0) most_numbers (take s.part.filled cs)) i w

  pub stores_one : s.count < t.count → set l s.count added ≡ put l s t cs i w
  stores_one h = sym (ap (λ b. cond b (set l s.count added) l) (lt-ltb _ _ h))

  pub stores-none : t.count ≤ s.count → l ≡ put l s t cs i w
  stores-none h = sym (ap (λ b. cond b (set l s.count added) l) (le-ltb _ _ h))

-- ---- the end

module _ (bytes : List ℕ) (i : ℕ) {entries : List Entry} {numbers : List ℕ} {coordinates : List ℤ} {s : Reading} (r : Reached (words_of bytes) i entries numbers coordinates s) (over : length bytes / 4 ≤ i) where
  last : at_last r.state i ≡ read_words (outside []) 0 (words_of bytes)
  unfolding read_words
  last = sym (ap (read_words r.state i) (drop_of_length-le (words_of bytes) (omega (arith, length-words bytes)))) ∙ r.rest

  pub missing : s.phase ≢ Closed → refused 10 i ≡ read_words (outside []) 0 (words_of bytes)
  missing e = go r.state (λ k. e (ap (λ x. x.phase) r.held.shown ∙ k)) ∙ last
    where
      go : (x : State) → (reading_of x).phase ≢ Closed → refused 10 i ≡ at_last x i
      go (outside es) h = refl
      go (numbered es n p) h = refl
      go (inside es h vs v) e = refl
      go (after es h vs marked) e = refl
      go (closed es) h = absurd (h refl)

  -- the entries that were read
  record Read (es : List definition.Entry) : Type 0 where
    pub entered : Entered es
    pub count : s.count ≡ length es
    pub stores : entries ≡ stored es
    pub is : accepted es ≡ read_words (outside []) 0 (words_of bytes)

  complete : s.phase ≡ Closed → (es : List definition.Entry) × Read es
  complete e = go r.state refl (sym (ap (λ x. x.phase) r.held.shown) ∙ e) last
    where
      go : (x : State) → r.state ≡ x → (reading_of x).phase ≡ Closed → at_last x i ≡ read_words (outside []) 0 (words_of bytes) → (es : List definition.Entry) × Read es
      go (outside es) q h l = cc
      go (numbered es n p) q h l = cc
      go (inside es h vs v) q e l = cc
      go (after es h vs marked) q e l = cc
      go (closed es) q h l = (
        es,
        record {
          entered = subst Known q r.held.known;
          count = ap (λ x. x.count) (r.held.shown ∙ ap reading_of q);
          stores = r.stores ∙ ap (λ x. stored (whole_in x)) q;
          is = l;
        },
      )

  module _ (e : s.phase ≡ Closed) where
    es : List definition.Entry
    es = (complete e).0

    held-all : holding s.count entries ≡ catalogue_of es
    unfolding es
    held-all = let d = (complete e).1 in ap₂ holding d.count d.stores

    pub read-all : accepted (entries_in (holding s.count entries)) ≡ read_words (outside []) 0 (words_of bytes)
    unfolding es
    read-all =
        let d = (complete e).1 in
        ap (λ c. accepted (entries_in c)) held-all ∙ ap accepted (entries-back es d.entered.few d.entered.fits) ∙ d.is

    pub stored-all : IsStored (holding s.count entries)
    unfolding es
    stored-all = let d = (complete e).1 in subst IsStored (sym held-all) (is_stored es d.entered.few d.entered.fits)

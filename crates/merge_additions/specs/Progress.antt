-- Reading an addition word by word: after i words the code's state shows a state of the definition, and a turn of the loop keeps it.
use Rattle.std.specs.Prelude.{◌≡◌, refl, ◌≢◌, ◌⊎◌, Bool, true, false, cond, List, [], ◌∷◌, ◌++◌, ℕ, suc, ◌+◌, ◌≤◌, ◌<◌, ℤ, length, get_or, take, drop, ◌/◌, Option, None, Ok, Err, ok_or}
use Rattle.std.specs.declared.result.Result.{Result}
use Rattle.std.proofs.Math.Path.{sym, ap, ap₂, subst}
use Rattle.std.proofs.Common.{◌∙◌, inl, inr, add-one, arith, drop_of_length-le, drop-cons, eq-eqb, ne_eqb}
use Rattle.std.proofs.Math.Option.{none}
use Rattle.integers.specs.All.{All}
use Rattle.integers.specs.AllLaws.{all_right}
use Rattle.refusals.specs.declared.Refusal.{Refusal}
use Rattle.refusals.specs.declared.Refusal.TheVariants.{WordOutOfPlace}
use Rattle.refusals.specs.declared.Refused.{Refused}
use Rattle.refusals.specs.Number.{number_of}
use Rattle.catalogue_rules.specs.Word.{Word, decode, words_of}
use Rattle.catalogue_rules.proofs.Laws.Word.{length-words}
use Rattle.catalogue_steps.specs.Rows.{turn_in}
use Rattle.catalogue_rules.specs.Catalogue as definition
use Rattle.catalogue_rules.specs.Catalogue.{new, Outcome, refused, accepted, most_entries, most_numbers}
use Rattle.catalogue_rules.specs.Read.{State, outside, numbered, inside, after, closed, Step, next, stop, step}
use Rattle.catalogue_rules.specs.Form.{EntryFits, Entered}
use Rattle.catalogue_rules.proofs.Laws.WellFormed.{Known}
use Rattle.catalogue_records.specs.declared.Entry.{Entry}
use Rattle.catalogue_records.specs.declared.Form.TheVariants.{Old, New}
use Rattle.catalogue_records.specs.Stored.{stored_form, entry_of}
use Rattle.merge_rules.specs.Addition.{may_stand, add_step, add_last, add_words}
use Rattle.catalogue_steps.specs.declared.reading.Phase.TheVariants.{Outside}
use Rattle.catalogue_steps.specs.declared.reading.Reading.{Reading}
use Rattle.catalogue_steps.specs.Parts.{no_part}
use Rattle.catalogue_steps.specs.Readings.{going}
use Rattle.catalogue_steps.specs.States.{reading_of, step_of, numbers}
use Rattle.catalogue_steps.specs.Cells.{placed, Place, Cells, cells-none, made-entry}
use Rattle.catalogue_steps.specs.Held.{Held, Moved, word_range, held-fine, stops_with, moves-on, held_on, counted_cell}
use Rattle.merge_additions.specs.Turns.{start_read, add_read, kept_read, last_read}
use Rattle.merge_additions.specs.Stages.{OneMore, Stage, more-long, stage-moves, add-shown}

-- ---- what the words of an addition after es give

-- one entry more, within the limits, as it is stored
pub record Gives (es : List definition.Entry) (o : Outcome) (e : Entry) : Type 0 where
  pub entry : definition.Entry
  pub is : accepted (es ++ (entry ∷ [])) ≡ o
  pub fits : EntryFits entry
  pub kept : e ≡ entry_of entry

-- or a refusal
abbrev pub Read : List definition.Entry → Outcome → Result Entry Refused → Type 0
Read es o (Ok e) = Gives es o e
Read es o (Err r) = refused (number_of r.refusal) r.place ≡ o

-- ---- the loop

-- what the code holds after i words shows a state from which the words from i on have the outcome of all words
pub record Reached (es : List definition.Entry) (words : List ℕ) (i : ℕ) (e : Option Entry) (coordinates : List ℤ) (s : Reading) : Type 0 where
  pub state : State
  pub held : Held state coordinates s
  pub stage : Stage es e state
  pub rest : add_words (length es) state i (drop i words) ≡ add_words (length es) (outside es) 0 words

start-shown : (es : List definition.Entry) → All (λ e. e.head.form ≡ new) es → start_read (length es) ≡ reading_of (outside es)
start-shown [] p = refl
start-shown (e ∷ es) p =
    ap (λ f. going Outside (length (e ∷ es)) f no_part) (ap (λ t. cond t Old New) (ne_eqb (length (e ∷ es)) 0 (omega arith)) ∙ sym (ap stored_form p.0))

pub at-start : (es : List definition.Entry) → Entered es → All (λ e. e.head.form ≡ new) es → (words : List ℕ) (coordinates : List ℤ) → length coordinates ≡ most_numbers
    → Reached es words 0 None coordinates (start_read (length es))
at-start es entered p words coordinates long = record {
  state = outside es;
  held = record { known = entered; due = tt; shown = start-shown es p; cells = cells-none es coordinates long };
  stage = inl (refl, refl);
  rest = refl;
}

-- ---- a turn

-- the outcome after a step
abbrev after-step : ℕ → ℕ → List ℕ → Step → Outcome
after-step n i words r = elim r [ next t ↦ add_words n t (suc i) words | stop k ↦ refused k i ]

-- a step that goes on is one of a word that may stand
may-stand : (n : ℕ) (s : State) (i : ℕ) (w : Word) {t : Reading} → Ok t ≡ step_of (add_step n s i w) → may_stand n s w ≡ true
may-stand n s i w {t} turned = go (may_stand n s w) turned
  where
    go : (b : Bool) → Ok t ≡ step_of (elim b [ true ↦ step s i w | false ↦ stop 10 ]) → b ≡ true
    go true e = refl
    go false e = cc

module _ (es : List definition.Entry) (few : length es ≤ most_entries) (ns : List ℕ) (noted : take (length es) ns ≡ numbers es) (bytes : List ℕ) (i : ℕ)
    {e : Option Entry} {coordinates : List ℤ} {s : Reading} (r : Reached es (words_of bytes) i e coordinates s)
    (here : i < length bytes / 4) {n : ℕ} (at : n ≡ get_or (words_of bytes) i 0) {w : Word} (decoded : w ≡ decode n) (x : Result Reading Refusal) (read : turn_in x ≡ add_read ns (length es) s i w) where
  abbrev words : List ℕ
  words = words_of bytes

  word : w ≡ decode (get_or words i 0)
  word = decoded ∙ ap decode at

  turned : turn_in x ≡ step_of (add_step (length es) r.state i w)
  turned = read ∙ ap (λ x. add_read ns (length es) x i w) r.held.shown ∙ add-shown es few ns noted e r.state i w r.stage (held-fine r.state r.held)

  outcome : after-step (length es) i (drop (suc i) words) (add_step (length es) r.state i w) ≡ add_words (length es) (outside es) 0 words
  unfolding add_words
  outcome =
      ap (λ x. after-step (length es) i (drop (suc i) words) (add_step (length es) r.state i x)) word
      ∙ sym (ap (add_words (length es) r.state i) (drop-cons words i 0 (omega (arith, length-words bytes))))
      ∙ r.rest

  pub refuses : {k : Refusal} → x ≡ Err k → refused (number_of k) i ≡ add_words (length es) (outside es) 0 words
  refuses is = sym (ap (after-step (length es) i (drop (suc i) words)) (stops_with (add_step (length es) r.state i w) (sym (ap turn_in is) ∙ turned))) ∙ outcome

  module _ {t : Reading} (is : x ≡ Ok t) where
    stands : may_stand (length es) r.state w ≡ true
    stands = may-stand (length es) r.state i w (sym (ap turn_in is) ∙ turned)

    steps : add_step (length es) r.state i w ≡ step r.state i w
    steps = ap (λ b. elim b as (λ b. Step) [ true ↦ step r.state i w | false ↦ stop 10 ]) stands

    stepped : Ok t ≡ step_of (step r.state i w)
    stepped = sym (ap turn_in is) ∙ turned ∙ ap step_of steps

    goes_on : Moved r.state i w t
    goes_on = moves-on r.state r.held i w stepped (word_range _ word)

    -- there is room for a coordinate
    pub counted : Place s.part.filled w
    counted = counted_cell r.state r.held i w stepped (word_range _ word)

    pub keeps : {f : Option Entry} {cs : List ℤ} → f ≡ kept_read e s t coordinates i w → cs ≡ placed coordinates s.part.filled w → Reached es words (i + 1) f cs t
    unfolding goes_on
    keeps {f} {cs} k g =
        let m = goes_on in
        let kept : f ≡ kept_read e (reading_of r.state) (reading_of m.state) coordinates i w = k ∙ ap₂ (λ x y. kept_read e x y coordinates i w) r.held.shown m.shown in
        subst (λ n. Reached es words n f cs t) (sym (add-one i)) (record {
          state = m.state;
          held = held_on r.state r.held i w stepped (word_range _ word) g;
          stage = subst (λ f. Stage es f m.state) (sym kept) (stage-moves es e coordinates m.moves stands (held-fine r.state r.held) r.held.cells r.stage);
          rest = sym (ap (after-step (length es) i (drop (suc i) words)) (steps ∙ m.is)) ∙ outcome;
        })

-- ---- the end

-- a word is due where none is left
abbrev pub due : ℕ → Refused
due i = record { refusal = WordOutOfPlace; place = i }

module _ (es : List definition.Entry) (l : List ℤ) (i : ℕ) where
  whole-last : (e : Option Entry) (fs : List definition.Entry) → Known (outside fs) → ((fs ≡ es) × (e ≡ None)) ⊎ OneMore es e fs → Read es (add_last (length es) (outside fs) i) (ok_or e (due i))
  whole-last e fs known (inl q) =
      subst (λ e. Read es (add_last (length es) (outside fs) i) (ok_or e (due i))) (sym q.1)
      (sym (ap (λ t. elim t as (λ t. Outcome) [ true ↦ refused 10 i | false ↦ accepted fs ]) (eq-eqb (length fs) (length es) (ap length q.0))))
  whole-last e fs known (inr m) =
      let n : length fs ≢ length es = omega (arith, more-long m) in
      subst (λ e. Read es (add_last (length es) (outside fs) i) (ok_or e (due i))) (sym m.kept)
      (record {
        entry = m.entry;
        is = ap accepted (sym m.is) ∙ sym (ap (λ t. elim t as (λ t. Outcome) [ true ↦ refused 10 i | false ↦ accepted fs ]) (ne_eqb (length fs) (length es) n));
        fits = (all_right EntryFits es (m.entry ∷ []) (subst (All EntryFits) m.is known.fits)).0;
        kept = refl;
      })

  state-last : (e : Option Entry) (s : State) → Known s → Cells s l → Stage es e s → Read es (add_last (length es) s i) (ok_or (last_read e (reading_of s) l) (due i))
  state-last e (outside fs) known c q = whole-last e fs known q
  state-last e (numbered fs n p) known c q = refl
  state-last e (inside fs h vs v) known c q = refl
  state-last e (after fs h vs marked) known c q =
      let x : definition.Entry = record { head = h; vectors = vs; draft = marked; see = none } in
      record {
        entry = x;
        is = ap (λ k. accepted (k ++ (x ∷ []))) (sym q);
        fits = record { head = known.0.head; count = known.2; vectors = known.1 };
        kept = made-entry fs h vs marked none l c (stored_form h.form) refl;
      }
  state-last e (closed fs) known c q = refl

pub ends : (es : List definition.Entry) (bytes : List ℕ) (i : ℕ) {e : Option Entry} {l : List ℤ} {s : Reading} (r : Reached es (words_of bytes) i e l s) → length bytes / 4 ≤ i
    → Read es (add_words (length es) (outside es) 0 (words_of bytes)) (ok_or (last_read e s l) (due i))
unfolding add_words
ends es bytes i {e} {l} {s} r over =
    let last : add_last (length es) r.state i ≡ add_words (length es) (outside es) 0 (words_of bytes) =
    sym (ap (add_words (length es) r.state i) (drop_of_length-le (words_of bytes) (omega (arith, length-words bytes)))) ∙ r.rest in
    subst (λ o. Read es o (ok_or (last_read e s l) (due i))) last
    (subst (λ x. Read es (add_last (length es) r.state i) (ok_or (last_read e x l) (due i))) (sym r.held.shown) (state-last es l i e r.state r.held.known r.held.cells r.stage))

-- A refusal has a number up to 20, and a place up to the number of words that a catalogue can have.
use Rattle.std.specs.Prelude.{Bool, true, false, ℕ, suc, ◌+◌, ◌≤◌, eqb, ltb, length}
use mathlib.Core.List.{List, [], ◌∷◌, ◌++◌}
use Rattle.std.proofs.Math.Option.{Option, none, some}
use native.Mathlib.Omega.{arith}
use Rattle.std.proofs.Common.{ltb-false}
use Rattle.integers.specs.All.{All}
use Rattle.integers.specs.AllLaws.{all_imp, all_append}
use Rattle.integers.specs.First.{first_given}
use Rattle.integers.specs.FirstLaws.{given-has}
use Rattle.lattices.specs.Vector.{Vec}
use Rattle.lattices.specs.Volume.{is_dependent}
use Rattle.integers.specs.Every.{any}
use Rattle.catalogue_rules.specs.Word.{Word, head, coordinate, see, end, draft, head_number, head_size, other, decode, words_of}
use Rattle.catalogue_rules.proofs.Laws.Word.{length-words}
use Rattle.catalogue_rules.specs.Catalogue.{Form, old, new, most_number, most_words, most_bytes, Head, See, Entry, Outcome, refused, accepted}
use Rattle.catalogue_rules.specs.Read.{State, outside, numbered, inside, after, closed, Step, next, stop, is_numbered, with_entry, head_rows, at_head, head_number_rows, at_head_number, head_size_rows, at_head_size, coordinate_of, with_coordinate, coordinate_rows, at_coordinate, draft_rows, at_draft, end_rows, at_end, step, at_last, read_words, dependent_at, lost_at, after_words, form_shown, file_rows, read_all, read}
use Rattle.catalogue_rules.specs.Moving.{to_form, move_rows, read_to_move, over_at, moved}
use Rattle.catalogue_rules.proofs.Laws.Opening.{bytes-room}
use Rattle.catalogue_rules.proofs.Laws.Moves.{checked_case}

abbrev pub most_refusal : ℕ
most_refusal = 20

-- places up to b
module _ (b : ℕ) where
  abbrev SeeLow : Option See → Type 0
  SeeLow none = Unit {0}
  SeeLow (some s) = s.place ≤ b

  abbrev EntryLow : Entry → Type 0
  EntryLow e = (e.head.place ≤ b) × SeeLow e.see

  abbrev StateLow : State → Type 0
  StateLow (outside es) = All EntryLow es
  StateLow (numbered es n p) = All EntryLow es × (p ≤ b)
  StateLow (inside es h vs v) = All EntryLow es × (h.place ≤ b)
  StateLow (after es h vs marked) = All EntryLow es × (h.place ≤ b)
  StateLow (closed es) = All EntryLow es

  abbrev StepLow : Step → Type 0
  StepLow (next t) = StateLow t
  StepLow (stop n) = n ≤ most_refusal

  abbrev pub OutcomeLow : Outcome → Type 0
  OutcomeLow (refused n p) = (n ≤ most_refusal) × (p ≤ b)
  OutcomeLow (accepted es) = All EntryLow es

  -- ---- one word

  with-entry : (es : List Entry) (h : Head) (vs : List Vec) (marked : Bool) (s : Option See) → All EntryLow es → h.place ≤ b → SeeLow s → All EntryLow (with_entry es h vs marked s)
  with-entry es h vs marked s p q r = all_append EntryLow es (record { head = h; vectors = vs; draft = marked; see = s } ∷ []) p ((q, r), tt)

  head-low : (es : List Entry) (h : Head) → All EntryLow es → h.place ≤ b → StepLow (at_head es h)
  head-low es h p q = checked_case (λ n. n ≤ most_refusal) StepLow stop (head_rows es h.number h.d h.m) (next (inside es h [] [])) (λ n l. l) (omega arith) (λ none. (p, q))

  number-low : (es : List Entry) (n i : ℕ) → All EntryLow es → i ≤ b → StepLow (at_head_number es n i)
  number-low es n i p q = checked_case (λ n. n ≤ most_refusal) StepLow stop (head_number_rows es n) (next (numbered es n i)) (λ n l. l) (omega arith) (λ none. (p, q))

  size_low : (es : List Entry) (high : ℕ) (h : Head) → All EntryLow es → h.place ≤ b → StepLow (at_head_size es high h)
  size_low es high h p q = checked_case (λ n. n ≤ most_refusal) StepLow stop (head_size_rows high h.d h.m) (next (inside es h [] [])) (λ n l. l) (omega arith) (λ none. (p, q))

  end_low : (es : List Entry) (count : ℕ) → All EntryLow es → StepLow (at_end es count)
  end_low es count p = checked_case (λ n. n ≤ most_refusal) StepLow stop (end_rows es count) (next (closed es)) (λ n l. l) (omega arith) (λ none. p)

  coordinate-low : (es : List Entry) (h : Head) (vs : List Vec) (v : Vec) (l : ℕ) → All EntryLow es × (h.place ≤ b) → StepLow (at_coordinate es h vs v l)
  coordinate-low es h vs v l p =
      let u = v ++ (coordinate_of l ∷ []) in
      checked_case (λ n. n ≤ most_refusal) StepLow stop (coordinate_rows h u l) (next (with_coordinate es h vs u)) (λ n l. l) (omega arith) (λ none. vector (eqb (length u) h.m) (eqb (length (vs ++ (u ∷ []))) h.d) u)
    where
      vector : (s t : Bool) (u : Vec) → StateLow (elim s [ true ↦ elim t [ true ↦ after es h (vs ++ (u ∷ [])) false | false ↦ inside es h (vs ++ (u ∷ [])) [] ] | false ↦ inside es h vs u ])
      vector true true u = p
      vector true false u = p
      vector false t u = p

  draft-low : (es : List Entry) (h : Head) (vs : List Vec) (marked : Bool) (l : ℕ) → All EntryLow es × (h.place ≤ b) → StepLow (at_draft es h vs marked l)
  draft-low es h vs marked l p = checked_case (λ n. n ≤ most_refusal) StepLow stop (draft_rows marked l) (next (after es h vs true)) (λ n l. l) (omega arith) (λ none. p)

  step-low : (s : State) (i : ℕ) (w : Word) → i ≤ b → StateLow s → StepLow (step s i w)
  unfolding step
  step-low (outside es) i (head number d m) q p = head-low es (record { form = old; number = number; d = d; m = m; place = i }) p q
  step-low (outside es) i (coordinate l) q p = omega arith
  step-low (outside es) i (see number) q p = omega arith
  step-low (outside es) i (end count) q p = end_low es count p
  step-low (outside es) i (draft l) q p = omega arith
  step-low (outside es) i (head_number number) q p = number-low es number i p q
  step-low (outside es) i (head_size high d m) q p = omega arith
  step-low (outside es) i (other k l) q p = omega arith
  step-low (numbered es n j) i (head number d m) q p = omega arith
  step-low (numbered es n j) i (coordinate l) q p = omega arith
  step-low (numbered es n j) i (see number) q p = omega arith
  step-low (numbered es n j) i (end count) q p = omega arith
  step-low (numbered es n j) i (draft l) q p = omega arith
  step-low (numbered es n j) i (head_number number) q p = omega arith
  step-low (numbered es n j) i (head_size high d m) q p = size_low es high (record { form = new; number = n; d = d; m = m; place = j }) p.0 p.1
  step-low (numbered es n j) i (other k l) q p = omega arith
  step-low (inside es h vs v) i (head number d m) q p = omega arith
  step-low (inside es h vs v) i (coordinate l) q p = coordinate-low es h vs v l p
  step-low (inside es h vs v) i (see number) q p = omega arith
  step-low (inside es h vs v) i (end count) q p = omega arith
  step-low (inside es h vs v) i (draft l) q p = omega arith
  step-low (inside es h vs v) i (head_number number) q p = omega arith
  step-low (inside es h vs v) i (head_size high d m) q p = omega arith
  step-low (inside es h vs v) i (other k l) q p = omega arith
  step-low (after es h vs marked) i (head number d m) q p = head-low (with_entry es h vs marked none) (record { form = old; number = number; d = d; m = m; place = i }) (with-entry es h vs marked none p.0 p.1 tt) q
  step-low (after es h vs marked) i (coordinate l) q p = omega arith
  step-low (after es h vs marked) i (see number) q p = with-entry es h vs marked (some (record { number = number; place = i })) p.0 p.1 q
  step-low (after es h vs marked) i (end count) q p = end_low (with_entry es h vs marked none) count (with-entry es h vs marked none p.0 p.1 tt)
  step-low (after es h vs marked) i (draft l) q p = draft-low es h vs marked l p
  step-low (after es h vs marked) i (head_number number) q p = number-low (with_entry es h vs marked none) number i (with-entry es h vs marked none p.0 p.1 tt) q
  step-low (after es h vs marked) i (head_size high d m) q p = omega arith
  step-low (after es h vs marked) i (other k l) q p = omega arith
  step-low (closed es) i w q p = omega arith

  -- ---- all words

  last-low : (s : State) (i : ℕ) → i ≤ b → StateLow s → OutcomeLow (at_last s i)
  last-low (outside es) i q p = (omega arith, q)
  last-low (numbered es n j) i q p = (omega arith, q)
  last-low (inside es h vs v) i q p = (omega arith, q)
  last-low (after es h vs marked) i q p = (omega arith, q)
  last-low (closed es) i q p = p

  words-low : (words : List ℕ) (s : State) (i : ℕ) → i + length words ≤ b → StateLow s → OutcomeLow (read_words s i words)
  unfolding read_words
  words-low [] s i q p = last-low s i (omega arith) p
  words-low (w ∷ words) s i q p = go (step s i (decode w)) (step-low s i (decode w) (omega arith) p) (λ t r. words-low words t (suc i) (omega arith) r)
    where
      go : (r : Step) → StepLow r → ((t : State) → StateLow t → OutcomeLow (read_words t (suc i) words))
          → OutcomeLow (elim r [ next t ↦ read_words t (suc i) words | stop n ↦ refused n i ])
      go (next t) r more = more t r
      go (stop n) r more = (r, omega arith)

  -- ---- after reading

  abbrev PlaceLow : Option ℕ → Type 0
  PlaceLow none = Unit {0}
  PlaceLow (some p) = p ≤ b

  first-low : (f : Entry → Option ℕ) → ((e : Entry) → EntryLow e → PlaceLow (f e)) → (es : List Entry) → All EntryLow es → PlaceLow (first_given f es)
  first-low f q es p = given-has f PlaceLow tt es (all_imp q es p)

  dependent_low : (e : Entry) → EntryLow e → PlaceLow (dependent_at e)
  dependent_low e p = go (is_dependent e.head.m e.vectors)
    where
      go : (t : Bool) → PlaceLow (elim t [ true ↦ some e.head.place | false ↦ none ])
      go true = p.0
      go false = tt

  lost-low : (es : List Entry) (e : Entry) → EntryLow e → PlaceLow (lost_at es e)
  lost-low es e p = go e.see p.1
    where
      lost : (s : See) (t : Bool) → s.place ≤ b → PlaceLow (elim t [ true ↦ none | false ↦ some s.place ])
      lost s true q = tt
      lost s false q = q

      go : (o : Option See) → SeeLow o → PlaceLow (elim o [ none ↦ none | some s ↦ elim (any (is_numbered s.number) es) [ true ↦ none | false ↦ some s.place ] ])
      go none q = tt
      go (some s) q = lost s (any (is_numbered s.number) es) q

  after-low : (o : Outcome) → OutcomeLow o → OutcomeLow (after_words o)
  after-low (refused n p) q = q
  after-low (accepted es) q = go (first_given dependent_at es) (first-low dependent_at dependent_low es q)
    where
      lost : (o : Option ℕ) → PlaceLow o → OutcomeLow (elim o [ some p ↦ refused 12 p | none ↦ accepted es ])
      lost (some p) r = (omega arith, r)
      lost none r = q

      go : (o : Option ℕ) → PlaceLow o → OutcomeLow (elim o [ some p ↦ refused 5 p | none ↦ elim (first_given (lost_at es) es) [ some p ↦ refused 12 p | none ↦ accepted es ] ])
      go (some p) r = (omega arith, r)
      go none r = lost (first_given (lost_at es) es) (first-low (lost_at es) (lost-low es) es q)

  -- ---- a move

  over-low : (f : Form) (e : Entry) → EntryLow e → PlaceLow (over_at f e)
  over-low f e p = go (ltb (most_number f) e.head.number)
    where
      go : (t : Bool) → PlaceLow (elim t [ true ↦ some e.head.place | false ↦ none ])
      go true = p.0
      go false = tt

  -- a refusal of a move
  abbrev pub RefusedLow : Outcome → Type 0
  RefusedLow (refused n p) = (n ≤ most_refusal) × (p ≤ b)
  RefusedLow (accepted es) = Unit {0}

  pub moved-low : (f : Form) (o : Outcome) → OutcomeLow o → RefusedLow (moved f o)
  moved-low f (refused n p) q = q
  moved-low f (accepted es) q = go (first_given (over_at f) es) (first-low (over_at f) (over-low f) es q)
    where
      go : (o : Option ℕ) → PlaceLow o → RefusedLow (elim o [ some p ↦ refused 19 p | none ↦ accepted (to_form f es) ])
      go (some p) r = (omega arith, r)
      go none r = tt

-- ---- files: no place is beyond the words that a catalogue can have in the longer form

all-low : (bytes : List ℕ) → length bytes ≤ most_bytes (form_shown (words_of bytes)) → OutcomeLow (most_words new) (read_all bytes)
all-low bytes h =
    after-low (most_words new) (read_words (outside []) 0 (words_of bytes))
    (words-low (most_words new) (words_of bytes) (outside []) 0 (omega (arith, length-words bytes, h, bytes-room (form_shown (words_of bytes)))) tt)

pub read_low : (bytes : List ℕ) → OutcomeLow (most_words new) (read bytes)
unfolding read
read_low bytes =
    checked_case (λ n. n ≤ most_refusal) (OutcomeLow (most_words new)) (λ n. refused n 0) (file_rows bytes) (read_all bytes) (λ n l. (l, omega arith)) (omega arith)
    (λ r. all-low bytes (ltb-false _ _ r.1.0))

pub move-low : (f : Form) (bytes : List ℕ) → OutcomeLow (most_words new) (read_to_move f bytes)
move-low f bytes =
    checked_case (λ n. n ≤ most_refusal) (OutcomeLow (most_words new)) (λ n. refused n 0) (move_rows f bytes) (read_all bytes) (λ n l. (l, omega arith)) (omega arith)
    (λ r. all-low bytes (ltb-false _ _ r.1.0))

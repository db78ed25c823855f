-- A move keeps all but the form of heads and the places of words; what it writes is accepted; and there and back are the same bytes.
use Rattle.std.specs.Prelude.{◌≡◌, refl, Bool, true, false, not, ◌&&◌, ◌||◌, List, [], ◌∷◌, ◌++◌, map, ℕ, ◌%◌, ◌≤◌, ◌<◌, eqb, ltb, get_or}
use Rattle.std.proofs.Math.Path.{sym, ap}
use Rattle.std.proofs.Common.{ap₂, ◌∙◌, subst, true≢false, arith, le-leb, le-ltb, ltb-false}
use Rattle.std.proofs.Math.Option.{Option, none, some, some-ne-none}
use Rattle.std.proofs.Math.ListN.{length}
use Rattle.std.proofs.lemmas.List.{length-map}
use Rattle.integers.specs.All.{All}
use Rattle.integers.specs.AllLaws.{all_imp, all_map, all_both}
use Rattle.integers.specs.Every.{any}
use Rattle.integers.specs.First.{first_given}
use Rattle.integers.specs.FirstLaws.{given-none, none-given}
use Rattle.lattices.specs.Laws.Refusal.{one-to}
use Rattle.lattices.specs.Refusal.{one_to}
use Rattle.catalogue_rules.specs.Word.{Word, end, encode, words_of, bytes_of}
use Rattle.catalogue_rules.specs.Catalogue.{Form, old, new, other_form, same_form, most_number, most_entries, most_bytes, See, Entry, Outcome, refused, accepted, refusal, entries, coordinates}
use Rattle.catalogue_rules.specs.Read.{checked, is_numbered, opens_in, form_shown, file_rows, read_all, read}
use Rattle.catalogue_rules.specs.Write.{head_words, coordinate_word, draft_words, entries_words, catalogue_words, write}
use Rattle.catalogue_rules.specs.Form.{EntryFits, Distinct, Names, WellFormed, see_at, past_see, past_mark, placed}
use Rattle.catalogue_rules.specs.Output.{filled_with, output}
use Rattle.catalogue_rules.specs.Moving.{entry_to_form, to_form, read_to_move, over_at, moved, move_of, bare}
use Rattle.catalogue_rules.proofs.Laws.Placed.{see-words, write-placed, all_placed}
use Rattle.catalogue_rules.proofs.Laws.Moves.{when_not-refused}
use Rattle.catalogue_rules.proofs.Laws.WellFormed.{well_formed}
use Rattle.catalogue_rules.proofs.Laws.RoundTrip.{same-words, same_bytes}
use Rattle.catalogue_rules.proofs.Laws.Opening.{numbers-room, opens-with, opens_not}
use Rattle.catalogue_rules.proofs.Laws.ReadBack.{read-written}
use Rattle.catalogue_rules.proofs.Laws.Output.{long-enough}

-- ---- what is kept

see-bare : (i : ℕ) (o : Option See) → see_at 0 (see_at i o) ≡ see_at 0 o
see-bare i none = refl
see-bare i (some s) = refl

pub bare-placed : (i : ℕ) (es : List Entry) → map bare (placed i es) ≡ map bare es
bare-placed i [] = refl
bare-placed i (e ∷ es) =
    ap₂ (λ o l. record { head = (bare e).head; vectors = e.vectors; draft = e.draft; see = o } ∷ l) (see-bare (past_mark i e) e.see) (bare-placed (past_see (past_mark i e) e.see) es)

bare-form : (f : Form) (es : List Entry) → map bare (map (entry_to_form f) es) ≡ map bare es
bare-form f [] = refl
bare-form f (e ∷ es) = ap (λ l. bare e ∷ l) (bare-form f es)

-- the entries of the moved file are the same but for the form and for places
pub bare-moved : (f : Form) (es : List Entry) → map bare (to_form f es) ≡ map bare es
bare-moved f es = bare-placed 0 (map (entry_to_form f) es) ∙ bare-form f es

pub in_form_already : (f : Form) (es : List Entry) → All (λ e. e.head.form ≡ f) es → map (entry_to_form f) es ≡ es
in_form_already f [] p = refl
in_form_already f (e ∷ es) p =
    ap₂ (λ g l. record { head = record { form = g; number = e.head.number; d = e.head.d; m = e.head.m; place = e.head.place }; vectors = e.vectors; draft = e.draft; see = e.see } ∷ l)
    (sym p.0) (in_form_already f es p.1)

-- ---- writing

words-bare : (f : Form) (es : List Entry) → entries_words (map (entry_to_form f) (map bare es)) ≡ entries_words (map (entry_to_form f) es)
words-bare f [] = refl
words-bare f (e ∷ es) =
    ap₂ (λ (s t : List Word). (head_words (entry_to_form f e).head ++ (map coordinate_word (coordinates e.vectors) ++ (draft_words e.draft ++ s))) ++ t) (see-words 0 e.see) (words-bare f es)

write-bare : (f : Form) (es : List Entry) → write (map (entry_to_form f) (map bare es)) ≡ write (map (entry_to_form f) es)
unfolding write
write-bare f es =
    ap₂ (λ ws n. bytes_of (map encode (ws ++ (end n ∷ [])))) (words-bare f es)
    (length-map (map bare es) (entry_to_form f) ∙ length-map es bare ∙ sym (length-map es (entry_to_form f)))

-- what is written in a form depends on no places and on no form before
pub written-alike : (f : Form) (es fs : List Entry) → map bare es ≡ map bare fs → write (map (entry_to_form f) es) ≡ write (map (entry_to_form f) fs)
written-alike f es fs e = sym (write-bare f es) ∙ ap (λ l. write (map (entry_to_form f) l)) e ∙ write-bare f fs

pub to-form-written : (f : Form) (es : List Entry) → write (to_form f es) ≡ write (map (entry_to_form f) es)
to-form-written f es = write-placed 0 (map (entry_to_form f) es)

-- ---- the moved entries are well formed

any-form : (f : Form) (n : ℕ) (es : List Entry) → any (is_numbered n) (map (entry_to_form f) es) ≡ any (is_numbered n) es
any-form f n [] = refl
any-form f n (e ∷ es) = ap (λ t. is_numbered n e || t) (any-form f n es)

distinct-form : (f : Form) (es : List Entry) → Distinct es → Distinct (map (entry_to_form f) es)
distinct-form f [] d = tt
distinct-form f (e ∷ es) d = (any-form f e.head.number es ∙ d.0, distinct-form f es d.1)

fits-form : (f : Form) (es : List Entry) → All EntryFits es → All (λ e. e.head.number ≤ most_number f) es → All EntryFits (map (entry_to_form f) es)
fits-form f [] p q = tt
fits-form f (e ∷ es) p q =
    let h = p.0.head in
    let number : one_to (most_number f) e.head.number ≡ true =
    ap₂ ◌&&◌ (le-leb 1 e.head.number (one-to (most_number e.head.form) e.head.number h.number).0) (le-leb e.head.number (most_number f) q.0) in
    (record { head = record { number = number; d = h.d; m = h.m }; count = p.0.count; vectors = p.0.vectors }, fits-form f es p.1 q.1)

forms : (f : Form) (es : List Entry) → All (λ e. e.head.form ≡ f) (map (entry_to_form f) es)
forms f [] = tt
forms f (e ∷ es) = (refl, forms f es)

pub to-forms : (f : Form) (es : List Entry) → All (λ e. e.head.form ≡ f) (to_form f es)
to-forms f es = all_placed (λ e. e.head.form ≡ f) (λ e. e.head.form ≡ f) (λ i e h. h) 0 (map (entry_to_form f) es) (forms f es)

names_form : (f : Form) (es : List Entry) (o : Option See) → Names es o → Names (map (entry_to_form f) es) o
names_form f es none p = tt
names_form f es (some s) p = any-form f s.number es ∙ p

pub form-formed : (f : Form) (es : List Entry) → WellFormed es → All (λ e. e.head.number ≤ most_number f) es → WellFormed (map (entry_to_form f) es)
form-formed f es w q =
    let gs = map (entry_to_form f) es in
    record {
      entered = record {
        one = record { form = f; heads = forms f es };
        few = subst (λ n. n ≤ most_entries) (sym (length-map es (entry_to_form f))) w.entered.few;
        fits = fits-form f es w.entered.fits q;
        distinct = distinct-form f es w.entered.distinct;
      };
      independent = all_map _ (entry_to_form f) es w.independent;
      named = all_map _ (entry_to_form f) es (all_imp (λ e p. names_form f es e.see p) es w.named);
    }

-- ---- reading what is moved

-- a file that does not open in the form that is to be written is read as ever
pub read_as_ever : (f : Form) (bytes : List ℕ) → opens_in f (words_of bytes) ≡ false → read_to_move f bytes ≡ read bytes
unfolding read
read_as_ever f bytes e = ap (λ t. checked (λ n. refused n 0) (file_rows bytes ++ ((t, 10) ∷ [])) (read_all bytes)) e

three : (a b t : Bool) (o : Outcome) (es : List Entry) → checked (λ n. refused n 0) ((a, 8) ∷ (b, 9) ∷ (t, 10) ∷ []) o ≡ accepted es
    → (checked (λ n. refused n 0) ((a, 8) ∷ (b, 9) ∷ []) o ≡ accepted es) × (t ≡ false)
three true b t o es e = absurd (let p : 8 ≡ 0 = ap refusal e in omega arith)
three false true t o es e = absurd (let p : 9 ≡ 0 = ap refusal e in omega arith)
three false false true o es e = absurd (let p : 10 ≡ 0 = ap refusal e in omega arith)
three false false false o es e = (e, refl)

opens-refused : (a b t : Bool) (o : Outcome) → refusal (checked (λ n. refused n 0) ((a, 8) ∷ (b, 9) ∷ (t, 10) ∷ []) o) ≡ 0 → t ≡ false
opens-refused true b t o e = absurd (omega (arith, e))
opens-refused false true t o e = absurd (omega (arith, e))
opens-refused false false true o e = absurd (omega (arith, e))
opens-refused false false false o e = refl

-- without a refusal the outcome is accepted
pub move-not-refused : (f : Form) (bytes : List ℕ) → refusal (read_to_move f bytes) ≡ 0 → read_to_move f bytes ≡ accepted (entries (read_to_move f bytes))
move-not-refused f bytes e =
    let opens = opens-refused (not (eqb (length bytes % 4) 0)) (ltb (most_bytes (form_shown (words_of bytes))) (length bytes)) (opens_in f (words_of bytes)) (read_all bytes) e in
    let same = read_as_ever f bytes opens in
    subst (λ o. o ≡ accepted (entries o)) (sym same) (when_not-refused bytes (ap refusal (sym same) ∙ e))

-- no number is over the limit
pub numbers_fit : (f : Form) (es : List Entry) → first_given (over_at f) es ≡ none → All (λ e. e.head.number ≤ most_number f) es
numbers_fit f es h = all_imp fit es (none-given (over_at f) es h)
  where
    fit : (e : Entry) → over_at f e ≡ none → e.head.number ≤ most_number f
    fit e h = go (ltb (most_number f) e.head.number) refl h
      where
        go : (t : Bool) → ltb (most_number f) e.head.number ≡ t → ◌≡◌ {A = Option ℕ} (elim t [ true ↦ some e.head.place | false ↦ none ]) none → e.head.number ≤ most_number f
        go true p q = absurd (some-ne-none _ q)
        go false p q = ltb-false (most_number f) e.head.number p

-- the new form has room for every number that was read
pub new-has-room : (bytes : List ℕ) (es : List Entry) → read bytes ≡ accepted es → All (λ e. e.head.number ≤ most_number new) es
new-has-room bytes es h = all_imp room es (well_formed bytes es h).entered.fits
  where
    room : (e : Entry) → EntryFits e → e.head.number ≤ most_number new
    room e p = let r = one-to (most_number e.head.form) e.head.number p.head.number in omega (arith, numbers-room e.head.form)

other_than : (f g : Form) → same_form g f ≡ false → g ≡ other_form f
other_than old old e = absurd (true≢false e)
other_than old new e = refl
other_than new old e = refl
other_than new new e = absurd (true≢false e)

other-apart : (f : Form) → same_form (other_form f) f ≡ false
other-apart old = refl
other-apart new = refl

twice : (f : Form) → other_form (other_form f) ≡ f
twice old = refl
twice new = refl

-- heads of the other form, written, are read to be moved
pub read-other : (f : Form) (es : List Entry) → All (λ e. e.head.form ≡ other_form f) es → read (write es) ≡ accepted es → read_to_move f (write es) ≡ accepted es
read-other f es p r =
    let fits = (well_formed (write es) es r).entered.fits in
    read_as_ever f (write es) (ap (opens_in f) (sym (same-words (write es) es r)) ∙ opens_not f es fits (all_imp (λ x h. ap (λ g. same_form g f) h ∙ other-apart f) es p)) ∙ r

module _ (f : Form) (bytes : List ℕ) (es : List Entry) (r : read_to_move f bytes ≡ accepted es) where
  rows : (read bytes ≡ accepted es) × (opens_in f (words_of bytes) ≡ false)
  unfolding read
  rows = three (not (eqb (length bytes % 4) 0)) (ltb (most_bytes (form_shown (words_of bytes))) (length bytes)) (opens_in f (words_of bytes)) (read_all bytes) es r

  pub read_first : read bytes ≡ accepted es
  read_first = rows.0

  w : WellFormed es
  w = well_formed bytes es read_first

  -- all heads are of the other form
  pub others : All (λ e. e.head.form ≡ other_form f) es
  others = go es w.entered.one.heads w.entered.fits (ap (opens_in f) (same-words bytes es read_first) ∙ rows.1)
    where
      go : (es : List Entry) → All (λ e. e.head.form ≡ w.entered.one.form) es → All EntryFits es → opens_in f (map encode (catalogue_words es)) ≡ false
          → All (λ e. e.head.form ≡ other_form f) es
      go [] one p q = tt
      go (e ∷ es) one p q =
          let first = other_than f e.head.form (sym (opens-with f e es p.0) ∙ q) in
          all_imp (λ x h. h ∙ sym one.0 ∙ first) (e ∷ es) one

  module _ (fit : All (λ e. e.head.number ≤ most_number f) es) where
    none_over : (g : Form) (fs : List Entry) → All (λ e. e.head.number ≤ most_number g) fs → first_given (over_at g) fs ≡ none
    none_over g fs p = given-none (over_at g) fs (all_imp (λ e h. ap (λ t. elim t [ true ↦ some e.head.place | false ↦ none ]) (le-ltb (most_number g) e.head.number h)) fs p)

    pub moves-to : moved f (read_to_move f bytes) ≡ accepted (to_form f es)
    moves-to = ap (moved f) r ∙ ap (λ o. elim o [ some p ↦ refused 19 p | none ↦ accepted (to_form f es) ]) (none_over f es fit)

    formed : WellFormed (map (entry_to_form f) es)
    formed = form-formed f es w fit

    -- what is written is accepted
    pub readable : read (write (to_form f es)) ≡ accepted (to_form f es)
    readable = ap read (to-form-written f es) ∙ read-written (map (entry_to_form f) es) formed

    -- and is read to be moved back
    pub read_back : read_to_move (other_form f) (write (to_form f es)) ≡ accepted (to_form f es)
    read_back = read-other (other_form f) (to_form f es) (all_imp (λ e h. h ∙ sym (twice f)) (to_form f es) (to-forms f es)) readable

    numbers-back : All (λ e. e.head.number ≤ most_number (other_form f)) (to_form f es)
    numbers-back =
        let fits : All (λ e. e.head.number ≤ most_number (other_form f)) es =
        all_imp (λ e (p : EntryFits e × (e.head.form ≡ other_form f)). subst (λ g. e.head.number ≤ most_number g) p.1 (one-to (most_number e.head.form) e.head.number p.0.head.number).1) es
        (all_both EntryFits (λ e. e.head.form ≡ other_form f) es w.entered.fits others) in
        all_placed (λ e. e.head.number ≤ most_number (other_form f)) (λ e. e.head.number ≤ most_number (other_form f)) (λ i e h. h) 0 (map (entry_to_form f) es) (all_map _ (entry_to_form f) es fits)

    -- back again: the same entries, and the same bytes
    pub moves-back : moved (other_form f) (read_to_move (other_form f) (write (to_form f es))) ≡ accepted (to_form (other_form f) (to_form f es))
    moves-back =
        ap (moved (other_form f)) read_back
        ∙ ap (λ o. elim o [ some p ↦ refused 19 p | none ↦ accepted (to_form (other_form f) (to_form f es)) ]) (none_over (other_form f) (to_form f es) numbers-back)

    pub bytes_back : ((i : ℕ) → get_or bytes i 0 < 256) → write (to_form (other_form f) (to_form f es)) ≡ bytes
    bytes_back small =
        let g = other_form f in
        to-form-written g (to_form f es)
        ∙ written-alike g (to_form f es) es (bare-moved f es)
        ∙ ap write (in_form_already g es others)
        ∙ same_bytes bytes es small read_first

    pub move-back : ((i : ℕ) → get_or bytes i 0 < 256) → (out : List ℕ) → length bytes ≤ length out → move_of (other_form f) (write (to_form f es)) out ≡ filled_with bytes out
    unfolding move_of
    move-back small out room =
        let same = bytes_back small in
        ap (λ o. output o out) moves-back
        ∙ sym (long-enough (to_form (other_form f) (to_form f es)) out (subst (λ b. length b ≤ length out) (sym same) room))
        ∙ ap (λ b. filled_with b out) same

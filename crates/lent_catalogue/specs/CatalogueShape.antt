-- The numbers in an answer about a catalogue are small, so they fit signed numbers; and the output lent beside the answer.
use Rattle.std.specs.Prelude.{◌≡◌, refl, Bool, true, false, cond, List, map, ℕ, ◌≤◌, ◌<◌, ltb, ℤ, length, ◌^◌, Ok, Err, IfOk}
use Rattle.std.specs.declared.result.Result.{Result}
use Rattle.std.proofs.lemmas.List.Edits.{sets}
use Rattle.std.proofs.Common.{sym, ap, ◌∙◌, arith, le-leb}
use Rattle.std.proofs.Math.Option.{Option, none, some}
use Rattle.std.proofs.lemmas.Bool.{lt-leb}
use Rattle.integers.specs.First.{first_given}
use Rattle.catalogue_rules.proofs.Laws.TextSize.{most_text}
use Rattle.catalogue_rules.specs.Catalogue.{Form, new, most_words, Entry, Outcome, refused, accepted}
use Rattle.catalogue_rules.specs.Read.{read}
use Rattle.catalogue_rules.specs.Write.{write}
use Rattle.catalogue_rules.proofs.Laws.WellFormed.{well_formed}
use Rattle.catalogue_rules.proofs.Laws.WrittenSize.{length-written}
use Rattle.catalogue_rules.specs.Moving.{entry_to_form, to_form, read_to_move, over_at, moved, move_of}
use Rattle.catalogue_rules.proofs.Laws.Opening.{bytes-room}
use Rattle.catalogue_rules.proofs.Laws.Moving.{to-form-written, form-formed, numbers_fit, read_first}
use Rattle.catalogue_rules.specs.Output.{Output, untouched, filled_with, output_by, output}
use Rattle.fold_rules.specs.Fold.{closed_list, lookup}
use Rattle.fold_rules.specs.Services.{Lookup, folded_outcome, fold_of, looked_up, looked_in, lookup_of, listing_text, list_of}
use Rattle.fold_rules.proofs.Laws.FoldedForm.{folded-size}
use Rattle.fold_rules.proofs.Laws.ListingSize.{listing_size}
use Rattle.separation_rules.specs.Separation.{same, different_m, different_d, first_outside, second_outside, Separated, refused_at, told, with_number, separated_by, separated_in, separate_of}
use Rattle.refusals.specs.declared.Refused.{Refused}
use Rattle.catalogue_records.specs.EntriesIn.{output_in}
use Rattle.catalogue.specs.Finding.{looked_by}
use Rattle.lent_numbers.specs.Layout.{head_in, layout_output, layout_lookup, written, beside, layout_separation}
use Rattle.lent_numbers.specs.Runs.{written-long}
use Rattle.lent_numbers.specs.Small.{Small, SmallCount}
use Rattle.lent_catalogue.specs.Places.{most_refusal, OutcomeLow, RefusedLow, moved-low, read_low, move-low}

-- ---- writing

-- a refusal with its place, or entries of which f makes no more than `most_text` bytes
abbrev Told : (List Entry → List ℕ) → Outcome → Type 0
Told f (refused n p) = (n ≤ most_refusal) × (p ≤ most_words new)
Told f (accepted es) = length (f es) ≤ most_text

told-read : (bytes : List ℕ) → Told write (read bytes)
unfolding write
told-read bytes = go (read bytes) refl (read_low bytes)
  where
    go : (o : Outcome) → read bytes ≡ o → OutcomeLow (most_words new) o → Told write o
    go (refused n p) e q = q
    go (accepted es) e q = let w = (well_formed bytes es e).entered in omega (arith, length-written w.one.form es w.few w.one.heads w.fits, bytes-room w.one.form)

told_move : (f : Form) (bytes : List ℕ) → Told write (moved f (read_to_move f bytes))
unfolding write
told_move f bytes = go (read_to_move f bytes) refl (moved-low (most_words new) f (read_to_move f bytes) (move-low f bytes))
  where
    size : (es : List Entry) → read_to_move f bytes ≡ accepted es → first_given (over_at f) es ≡ none → length (write (to_form f es)) ≤ most_text
    size es e h =
        let w = (form-formed f es (well_formed bytes es (read_first f bytes es e)) (numbers_fit f es h)).entered in
        omega (arith, ap length (to-form-written f es), length-written w.one.form (map (entry_to_form f) es) w.few w.one.heads w.fits, bytes-room w.one.form)

    fits : (es : List Entry) (o : Option ℕ) → read_to_move f bytes ≡ accepted es → first_given (over_at f) es ≡ o → RefusedLow (most_words new) (elim o [ some p ↦ refused 19 p | none ↦ accepted (to_form f es) ])
        → Told write (elim o [ some p ↦ refused 19 p | none ↦ accepted (to_form f es) ])
    fits es (some p) e h q = q
    fits es none e h q = size es e h

    go : (o : Outcome) → read_to_move f bytes ≡ o → RefusedLow (most_words new) (moved f o) → Told write (moved f o)
    go (refused n p) e q = q
    go (accepted es) e q = fits es (first_given (over_at f) es) e refl q

told-fold : (bytes : List ℕ) → Told write (folded_outcome (read bytes))
told-fold bytes = go (read bytes) refl (read_low bytes)
  where
    go : (o : Outcome) → read bytes ≡ o → OutcomeLow (most_words new) o → Told write (folded_outcome o)
    go (refused n p) e q = q
    go (accepted es) e q = omega (arith, folded-size es (well_formed bytes es e))

told-list : (bytes : List ℕ) → Told listing_text (read bytes)
told-list bytes = go (read bytes) refl (read_low bytes)
  where
    go : (o : Outcome) → read bytes ≡ o → OutcomeLow (most_words new) o → Told listing_text o
    go (refused n p) e q = q
    go (accepted es) e q = listing_size bytes es e

pub record Few (o : Output) : Type 0 where
  pub refusal : o.refusal ≤ most_refusal
  pub place : o.place ≤ most_words new
  pub written : o.written ≤ most_text

output-few : (f : List Entry → List ℕ) (o : Outcome) (out : List ℕ) → Told f o → Few (output_by f o out)
output-few f (refused n p) out t = record { refusal = t.0; place = t.1; written = omega arith }
output-few f (accepted es) out t = go (ltb (length out) (length (f es)))
  where
    go : (s : Bool) → Few (elim s [ true ↦ untouched 16 0 out | false ↦ filled_with (f es) out ])
    go true = record { refusal = omega arith; place = omega arith; written = omega arith }
    go false = record { refusal = omega arith; place = omega arith; written = t }

pub write-few : (bytes out : List ℕ) → Few (output (read bytes) out)
write-few bytes out = output-few write (read bytes) out (told-read bytes)

pub move-few : (f : Form) (bytes out : List ℕ) → Few (move_of f bytes out)
unfolding move_of
move-few f bytes out = output-few write (moved f (read_to_move f bytes)) out (told_move f bytes)

pub fold-few : (bytes out : List ℕ) → Few (fold_of bytes out)
unfolding fold_of
fold-few bytes out = output-few write (folded_outcome (read bytes)) out (told-fold bytes)

pub list-few : (bytes out : List ℕ) → Few (list_of bytes out)
unfolding list_of
list-few bytes out = output-few listing_text (read bytes) out (told-list bytes)

-- ---- lookup

abbrev FewFound : Lookup → Type 0
FewFound l = (l.refusal ≤ most_refusal) × (l.place ≤ most_words new)

looked-few : (o : Option ℕ) → FewFound (looked_up o)
looked-few none = (omega arith, omega arith)
looked-few (some n) = (omega arith, omega arith)

in_few : (o : Outcome) (number : ℕ) → OutcomeLow (most_words new) o → FewFound (looked_in o number)
in_few (refused n p) number q = q
in_few (accepted es) number q = looked-few (lookup (closed_list es) number)

pub lookup-few : (bytes : List ℕ) (number : ℕ) → FewFound (lookup_of bytes number)
unfolding lookup_of
lookup-few bytes number = in_few (read bytes) number (read_low bytes)

-- ---- what separates two entries

both_small : (first second : Option Entry) → Small (separated_by first second)
both_small none second = (omega arith, omega arith)
both_small (some e) none = (omega arith, omega arith)
both_small (some e) (some f) = tt

separated_small : (o : Outcome) (first second : ℕ) → OutcomeLow (most_words new) o → Small (separated_in o first second)
separated_small (refused n p) first second q = (omega (arith, q.0), omega (arith, q.1))
separated_small (accepted es) first second q = both_small (with_number first es) (with_number second es)

pub separate_small : (bytes : List ℕ) (first second : ℕ) → Small (separate_of bytes first second)
unfolding separate_of
separate_small bytes first second = separated_small (read bytes) first second (read_low bytes)

-- its answer has five numbers
pub five_numbers : (s : Separated) → length (layout_separation s) ≡ 5
five_numbers (refused_at number place) = refl
five_numbers (told same) = refl
five_numbers (told different_m) = refl
five_numbers (told different_d) = refl
five_numbers (told (first_outside position square)) = refl
five_numbers (told (second_outside position square)) = refl

-- ---- the output lent beside the answer

pub beside-short : (l : List ℤ) (before after : List ℕ) → length l < 3 → before ≡ beside l 3 before after
beside-short l before after h = sym (ap (λ b. cond b after before) (lt-leb 3 (length l) h))

pub beside_long : (l : List ℤ) (before after : List ℕ) {x : List ℕ} → 3 ≤ length l → x ≡ after → x ≡ beside l 3 before after
beside_long l before after h e = e ∙ sym (ap (λ b. cond b after before) (le-leb 3 (length l) h))

-- ---- what the services hand out, as numbers

head-output : (r : Result ℕ Refused) (lent : List ℕ) → head_in r ≡ layout_output (output_in r lent)
head-output (Ok n) lent = refl
head-output (Err r) lent = refl

lent-output : (r : Result ℕ Refused) (lent : List ℕ) → lent ≡ (output_in r lent).lent
lent-output (Ok n) lent = refl
lent-output (Err r) lent = refl

-- of a writing
module _ (r : Result ℕ Refused) (lent : List ℕ) {o : Output} (is : output_in r lent ≡ o) where
  pub writing_small : Few o → SmallCount r
  writing_small few = go r is
    where
      go : (r : Result ℕ Refused) → output_in r lent ≡ o → SmallCount r
      go (Ok n) e = omega (arith, ap (λ o. o.written) e, few.written)
      go (Err r) e = omega (arith, ap (λ o. o.place) e, few.place)

  -- stored where there is room for it
  module _ (l : List ℤ) (room : 3 ≤ length l) where
    pub writing-stored : {x : List ℤ} → x ≡ sets l 0 (head_in r) → x ≡ written l 3 (layout_output o)
    writing-stored e = e ∙ ap (sets l 0) (head-output r lent ∙ ap layout_output is) ∙ written-long l 3 (layout_output o) refl room

    pub writing-beside : (before : List ℕ) → lent ≡ beside l 3 before o.lent
    writing-beside before = beside_long l before o.lent room (lent-output r lent ∙ ap (λ o. o.lent) is)

-- of a lookup
module _ (r : Result ℕ Refused) {o : Lookup} (is : looked_by r ≡ o) where
  head-lookup : head_in r ≡ layout_lookup o
  head-lookup = go r ∙ ap layout_lookup is
    where
      go : (r : Result ℕ Refused) → head_in r ≡ layout_lookup (looked_by r)
      go (Ok n) = refl
      go (Err r) = refl

  pub lookup_small : o.place ≤ most_words new → IfOk r (λ n. n < 2 ^ 32) → SmallCount r
  lookup_small place = go r is
    where
      go : (r : Result ℕ Refused) → looked_by r ≡ o → IfOk r (λ n. n < 2 ^ 32) → SmallCount r
      go (Ok n) e small = omega (arith, small)
      go (Err r) e small = omega (arith, ap (λ o. o.place) e)

  pub lookup-stored : (l : List ℤ) → 3 ≤ length l → {x : List ℤ} → x ≡ sets l 0 (head_in r) → x ≡ written l 3 (layout_lookup o)
  lookup-stored l room e = e ∙ ap (sets l 0) head-lookup ∙ written-long l 3 (layout_lookup o) refl room

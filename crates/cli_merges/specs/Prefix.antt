-- What stands at the start of bytes that something was put into.
use Rattle.std.specs.Prelude.{◌≡◌, refl, Bool, true, false, List, ◌++◌, ℕ, ◌+◌, ◌*◌, ◌/◌, ◌≤◌, length, take, drop, Option, Some, None, Result, Ok, Err, IfOk}
use Rattle.std.proofs.Common.{sym, ap, ap₂, ◌∙◌, arith, length-append, length-take, take_at, take_all}
use Rattle.std.proofs.lemmas.List.Edits.{sets, sets-eq}
use Rattle.catalogue_rules.specs.Catalogue.{Entry, Outcome, refused, accepted}
use Rattle.catalogue_rules.specs.Word.{bytes_of}
use Rattle.catalogue_rules.specs.Read.{read}
use Rattle.catalogue_rules.specs.Write.{write}
use Rattle.catalogue_rules.specs.Output.{Output, output_by, untouched, filled_with, lent_rows}
use Rattle.catalogue_rules.proofs.Laws.Word as words
use Rattle.catalogue_rules.proofs.Laws.Moves.{checked_case}
use Rattle.refusals.specs.declared.Refused.{Refused}
use Rattle.catalogue_records.specs.EntriesIn.{output_in}
use Rattle.fold_rules.specs.Services.{folded_outcome, fold_of, listing_text, list_of}
use Rattle.text_output.specs.Puts.{Puts}
use Rattle.text_lines.specs.declared.Line.{Line}
use Rattle.text_lines.specs.Told.{word_told, draft_told, words_in}
use Rattle.text_encoding.specs.Stores.{Stores, stored-count, stored_bytes}

pub take-sets : (l text : List ℕ) {n : ℕ} → length text ≤ length l → n ≡ length text → take n (sets l 0 text) ≡ text
take-sets l text {n} h e =
    let room : 0 + length text ≤ length l = omega arith in
    ap₂ (λ k m. take k m) e (sets-eq text l 0 room) ∙ take_at text (drop (0 + length text) l) (length text) refl

pub take-puts : {text before after : List ℕ} {end : ℕ} → length text ≤ length before → Puts text before 0 after end → take end after ≡ text
take-puts {text} {before} {end = end} h p = ap (take end) p.bytes ∙ take-sets before text {n = end} h (omega (arith, p.place))

-- ---- the words of a line

few-told : (o : Option ℕ) → length (word_told o) ≤ 1
few-told None = omega arith
few-told (Some n) = omega arith

few-draft : (b : Bool) → length (draft_told b) ≤ 1
few-draft true = omega arith
few-draft false = omega arith

pub few_words : (l : Line) → l.count ≤ 225 → length (words_in l) ≤ 229
few_words l h =
    let size = word_told l.size in
    let coordinates = take l.count l.coordinates in
    let mark = draft_told l.draft in
    let see = word_told l.see in
    omega (
      arith,
      h,
      few-told l.size,
      few-draft l.draft,
      few-told l.see,
      length-append size (coordinates ++ (mark ++ see)),
      length-append coordinates (mark ++ see),
      length-append mark see,
      length-take l.count l.coordinates,
    )

-- all of them have room in 1024 bytes
module _ {ws before after : List ℕ} {end : ℕ} (few : length ws ≤ 229) (room : length before ≡ 1024) (p : Stores ws before 0 after end) where
  all-taken : take (length before / 4) ws ≡ ws
  all-taken = take_all (length before / 4) ws (omega arith)

  pub all-count : end ≡ length ws
  all-count = stored-count p ∙ ap length all-taken

  pub all-bytes : take (end * 4) after ≡ bytes_of ws
  all-bytes =
      let long : length (bytes_of ws) ≡ end * 4 = words.length-bytes ws ∙ ap (λ n. n * 4) (sym all-count) in
      ap (take (end * 4)) (stored_bytes p ∙ ap (λ l. (filled_with (bytes_of l) before).lent) all-taken) ∙ take_at (bytes_of ws) (drop (length (bytes_of ws)) before) (end * 4) long

-- ---- what came into an output

counted : (f : List Entry → List ℕ) (o : Outcome) (out : List ℕ) → (output_by f o out).written ≤ length (output_by f o out).lent
counted f (refused n p) out = omega arith
counted f (accepted es) out =
    checked_case (λ n. 0 ≤ n) (λ o. o.written ≤ length o.lent) (λ n. untouched n 0 out) (lent_rows (f es) out) (filled_with (f es) out) (λ n h. omega arith) (omega arith)
    (λ none. omega (arith, length-append (f es) (drop (length (f es)) out)))

pub listed-few : (file out : List ℕ) → (list_of file out).written ≤ length (list_of file out).lent
unfolding list_of
listed-few file out = counted listing_text (read file) out

pub folded-few : (file out : List ℕ) → (fold_of file out).written ≤ length (fold_of file out).lent
unfolding fold_of
folded-few file out = counted write (folded_outcome (read file)) out

pub few-written : (r : Result ℕ Refused) (lent : List ℕ) {o : Output} → output_in r lent ≡ o → o.written ≤ length o.lent → IfOk r (λ n. n ≤ length lent)
few-written (Ok n) lent e h = omega (arith, h, ap (λ o. o.written) e, ap (λ o. length o.lent) e)
few-written (Err r) lent e h = tt

-- What `list` hands back: the refusal of reading, 16 where the text does not fit, or the text over the first bytes of the output.
use Rattle.std.specs.Prelude.{◌≡◌, List, ◌++◌, map, ℕ, ◌+◌, ◌≤◌, length, take, drop, Ok, Err}
use Rattle.std.proofs.Common.{sym, ap₂, ◌∙◌, subst, arith}
use Rattle.std.proofs.Math.Path.{ap}
use Rattle.std.proofs.lemmas.List.Edits.{sets-eq}
use Rattle.std.proofs.Math.Seq.{take-append_seam}
use Rattle.catalogue_rules.proofs.Laws.TextSize.{most_text}
use Rattle.text_output.specs.Counts.{IsPrefixLen}
use Rattle.catalogue_rules.specs.Catalogue.{Entry, accepted}
use Rattle.catalogue_rules.specs.Read.{read}
use Rattle.catalogue_rules.specs.Output.{filled_with, output_by}
use Rattle.catalogue_rules.specs.Write.{write}
use Rattle.catalogue_rules.specs.Form.{WellFormed, placed}
use Rattle.catalogue_rules.proofs.Laws.Moving.{bare-placed}
use Rattle.catalogue_rules.proofs.Laws.ReadBack.{read-written}
use Rattle.fold_rules.specs.Fold.{closed_list}
use Rattle.fold_rules.specs.Listing.{catalogue_lines}
use Rattle.fold_rules.proofs.Laws.Alike.{lines_bare}
use Rattle.fold_rules.specs.Services.{listing_text, list_of}
use Rattle.fold_rules.proofs.Laws.ListingSize.{listing_size}
use Rattle.catalogue_records.specs.declared.Catalogue.{Catalogue}
use Rattle.catalogue_records.specs.declared.Entry as records
use Rattle.catalogue_records.specs.EntriesIn.{entry_in, outcome_in, output_in}
use Rattle.refusals.specs.declared.Refused.{Refused}
use Rattle.text_output.specs.Within.{counts-within}
use Rattle.text_output.specs.Puts.{Puts, puts-length}

module _ (file : List ℕ) where
  pub not_listed : (r : Refused) → outcome_in (Err r) ≡ read file → (out : List ℕ) → output_in (Err r) out ≡ list_of file out
  unfolding list_of
  not_listed r is out = ap (λ o. output_by listing_text o out) is

  pub list_as : (c : Catalogue) → outcome_in (Ok c) ≡ read file → {l : List records.Entry} → l ≡ take c.count c.entries → (out : List ℕ) → output_by listing_text (accepted (map entry_in l)) out ≡ list_of file out
  unfolding list_of
  list_as c is e out = ap (λ l. output_by listing_text (accepted (map entry_in l)) out) e ∙ ap (λ o. output_by listing_text o out) is

-- no text is longer than the array: where the words stand is not asked for
pub text-small : (es : List Entry) → WellFormed es → length (listing_text es) ≤ most_text
text-small es w = subst (λ t. length t ≤ most_text) same (listing_size (write es) (placed 0 es) (read-written es w))
  where
    same : listing_text (placed 0 es) ≡ listing_text es
    same = sym (lines_bare (placed 0 es)) ∙ ap (λ l. catalogue_lines (closed_list l)) (bare-placed 0 es) ∙ lines_bare es

-- ---- from the array to the output

module _ {text before after : List ℕ} {end : ℕ} (p : Puts text before 0 after end) where
  pub put-end : end ≡ length text
  put-end = omega (arith, p.place)

  module _ (room : length text ≤ length before) where
    over : after ≡ text ++ drop (length text) before
    over =
        let all : 0 + length text ≡ length text = omega arith in
        p.bytes ∙ sets-eq text before 0 (omega arith) ∙ ap (λ n. text ++ drop n before) all

    -- the bytes before the end are the text
    pub put_first : take end after ≡ text
    put_first = ap₂ take put-end over ∙ take-append_seam text (drop (length text) before)

    pub put_all : record { refusal = 0; place = 0; written = end; lent = after } ≡ filled_with text before
    put_all = ap₂ (λ n l. record { refusal = 0; place = 0; written = n; lent = l }) put-end over

    pub put-counts : IsPrefixLen end after
    put-counts = counts-within end after (omega (arith, puts-length p, put-end))

-- Fold, lookup and listing for every list of bytes: "A catalogue's rows run from 'whole file' to 'after reading'; the rows for lookup and output
-- concern the call alone."
use Rattle.std.specs.Prelude.{List, ℕ}
use Rattle.std.proofs.Math.Option.{Option, none, some}
use Rattle.catalogue_rules.specs.Catalogue.{Entry, Outcome, refused, accepted}
use Rattle.catalogue_rules.specs.Read.{read}
use Rattle.catalogue_rules.specs.Output.{Output, output_by, output}
use Rattle.fold_rules.specs.Fold.{closed_list, lookup, folded}
use Rattle.fold_rules.specs.Listing.{catalogue_lines}

-- R7, R8.7, R10
abbrev pub folded_outcome : Outcome → Outcome
folded_outcome (refused n p) = refused n p
folded_outcome (accepted es) = accepted (folded es)

-- R7, R8.7, R10: the fold of a file, written to a lent output
unfoldable pub fold_of : (file out : List ℕ) → Output
fold_of file out = output (folded_outcome (read file)) out

-- R7.8, R8.7, R9.17
pub record Lookup : Type 0 where
  pub refusal : ℕ
  pub place : ℕ
  pub standing : ℕ

-- R7.8, R8.7, R9.17
abbrev pub nowhere : (number place : ℕ) → Lookup
nowhere number place = record { refusal = number; place = place; standing = 0 }

-- R7.8, R8.7, R9.17: row "lookup": "17 the number is in no entry"
abbrev pub looked_up : Option ℕ → Lookup
looked_up none = nowhere 17 0
looked_up (some n) = record { refusal = 0; place = 0; standing = n }

-- R7.8, R8.7, R9.17
abbrev pub looked_in : Outcome → (number : ℕ) → Lookup
looked_in (refused n p) number = nowhere n p
looked_in (accepted es) number = looked_up (lookup (closed_list es) number)

-- R7.8, R8.7, R9.17: the lookup of a number in a file
unfoldable pub lookup_of : List ℕ → (number : ℕ) → Lookup
lookup_of file number = looked_in (read file) number

-- R8.7, R10, R11: the text of some entries; the row for an output is the same as where bytes are written
abbrev pub listing_text : List Entry → List ℕ
listing_text es = catalogue_lines (closed_list es)

-- R8.7, R10, R11: the listing of a file, written to a lent output
unfoldable pub list_of : (file out : List ℕ) → Output
list_of file out = output_by listing_text (read file) out

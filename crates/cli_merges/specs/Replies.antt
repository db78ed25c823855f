-- What is answered to a line, and the merge after it.
use Rattle.std.specs.Prelude.{Bool, true, false, cond, List, [], ◌∷◌, ℕ, ◌%◌, eqb, ltb, length, take, drop, replicate, Option, Some, None, Result, Ok, Err}
use Rattle.integers.specs.Every.{every}
use Rattle.catalogue_rules.specs.Catalogue.{Outcome, refused, accepted, new, most_bytes}
use Rattle.catalogue_rules.specs.Word.{bytes_of}
use Rattle.catalogue_rules.specs.Read.{read}
use Rattle.catalogue_rules.specs.Output.{Output}
use Rattle.fold_rules.specs.Services.{fold_of, list_of}
use Rattle.refusals.specs.declared.Refused.{Refused}
use Rattle.refusals.specs.Number.{number_of}
use Rattle.merge_rules.specs.Merge.{Merge, Said, file_of, add_to, look_in, close_of}
use Rattle.text_rules.specs.Text.{text_of}
use Rattle.text_rules.specs.Encoding.{content, is_empty}
use Rattle.text_lines.specs.declared.Mistake.{Mistake}
use Rattle.text_lines.specs.declared.Mistake.TheVariants.{PartMissing}
use Rattle.text_lines.specs.declared.Line.{Line}
use Rattle.text_lines.specs.Told.{line_read, words_in}
use Rattle.cli_answers.specs.Answers.{refused_text, error_text}
use Rattle.cli_entries.specs.Asked.{wanted_in}
use Rattle.cli_entries.specs.Mistakes.{mistake_text}
use Rattle.cli_merges.specs.declared.commands.Command.{Command}
use Rattle.cli_merges.specs.declared.commands.Command.TheVariants.{Add, Bytes, Look, Close, Listing, Fold, Unknown}
use Rattle.cli_merges.specs.Commands.{word_end, first_word, command_of}
use Rattle.cli_merges.specs.Digits.{is_digit, bytes_in}
use Rattle.cli_merges.specs.Answers.{answer_text, added_text, closed_text}

-- the merge after a line, and what is written
pub record Answered : Type 0 where
  pub merge : Merge
  pub text : List ℕ

-- the merge stays as it is
abbrev pub only : Merge → List ℕ → Answered
only M text = record { merge = M; text = text }

-- what a call hands back, its answer as text
abbrev pub called : List ℕ → Said → Answered
called word r = record { merge = r.merge; text = answer_text word r.answer }

-- ---- what is wrong with a line

-- "something that is no hexadecimal digit"
abbrev pub no_digit : List ℕ
no_digit = 115 ∷ 111 ∷ 109 ∷ 101 ∷ 116 ∷ 104 ∷ 105 ∷ 110 ∷ 103 ∷ 32 ∷ 116 ∷ 104 ∷ 97 ∷ 116 ∷ 32 ∷ 105 ∷ 115 ∷ 32 ∷ 110 ∷ 111 ∷ 32 ∷ 104 ∷ 101 ∷ 120 ∷ 97 ∷ 100 ∷ 101 ∷ 99 ∷ 105 ∷ 109 ∷ 97 ∷ 108 ∷ 32 ∷ 100 ∷ 105 ∷ 103 ∷ 105 ∷ 116 ∷ []

-- "an odd number of digits"
abbrev pub odd_digits : List ℕ
odd_digits = 97 ∷ 110 ∷ 32 ∷ 111 ∷ 100 ∷ 100 ∷ 32 ∷ 110 ∷ 117 ∷ 109 ∷ 98 ∷ 101 ∷ 114 ∷ 32 ∷ 111 ∷ 102 ∷ 32 ∷ 100 ∷ 105 ∷ 103 ∷ 105 ∷ 116 ∷ 115 ∷ []

-- "look wants the number of an entry"
abbrev pub no_number : List ℕ
no_number = 108 ∷ 111 ∷ 111 ∷ 107 ∷ 32 ∷ 119 ∷ 97 ∷ 110 ∷ 116 ∷ 115 ∷ 32 ∷ 116 ∷ 104 ∷ 101 ∷ 32 ∷ 110 ∷ 117 ∷ 109 ∷ 98 ∷ 101 ∷ 114 ∷ 32 ∷ 111 ∷ 102 ∷ 32 ∷ 97 ∷ 110 ∷ 32 ∷ 101 ∷ 110 ∷ 116 ∷ 114 ∷ 121 ∷ []

-- "something behind the command"
abbrev pub behind_command : List ℕ
behind_command = 115 ∷ 111 ∷ 109 ∷ 101 ∷ 116 ∷ 104 ∷ 105 ∷ 110 ∷ 103 ∷ 32 ∷ 98 ∷ 101 ∷ 104 ∷ 105 ∷ 110 ∷ 100 ∷ 32 ∷ 116 ∷ 104 ∷ 101 ∷ 32 ∷ 99 ∷ 111 ∷ 109 ∷ 109 ∷ 97 ∷ 110 ∷ 100 ∷ []

-- "the merge is not closed"
abbrev pub not_closed : List ℕ
not_closed = 116 ∷ 104 ∷ 101 ∷ 32 ∷ 109 ∷ 101 ∷ 114 ∷ 103 ∷ 101 ∷ 32 ∷ 105 ∷ 115 ∷ 32 ∷ 110 ∷ 111 ∷ 116 ∷ 32 ∷ 99 ∷ 108 ∷ 111 ∷ 115 ∷ 101 ∷ 100 ∷ []

-- "no such command"
abbrev pub no_command : List ℕ
no_command = 110 ∷ 111 ∷ 32 ∷ 115 ∷ 117 ∷ 99 ∷ 104 ∷ 32 ∷ 99 ∷ 111 ∷ 109 ∷ 109 ∷ 97 ∷ 110 ∷ 100 ∷ []

-- "longer than 4096 bytes"
abbrev pub too_long : List ℕ
too_long = 108 ∷ 111 ∷ 110 ∷ 103 ∷ 101 ∷ 114 ∷ 32 ∷ 116 ∷ 104 ∷ 97 ∷ 110 ∷ 32 ∷ 52 ∷ 48 ∷ 57 ∷ 54 ∷ 32 ∷ 98 ∷ 121 ∷ 116 ∷ 101 ∷ 115 ∷ []

-- ---- an entry is added

abbrev pub add_bytes : Merge → List ℕ → Answered
add_bytes M bytes = called added_text (add_to M bytes)

-- a blank line tells no entry
abbrev pub add_line : Merge → ℕ → Result (Option Line) Mistake → Answered
add_line M line (Ok (Some l)) = add_bytes M (bytes_of (words_in l))
add_line M line (Ok None) = only M (mistake_text line (Some PartMissing))
add_line M line (Err mistake) = only M (mistake_text line (Some mistake))

-- as a line of a text in the new form tells it
abbrev pub add_text : Merge → ℕ → List ℕ → Answered
add_text M line s = add_line M line (line_read new s)

abbrev pub add_digits : Merge → ℕ → List ℕ → Answered
add_digits M line s =
    cond (every is_digit s) (cond (eqb (length s % 2) 0) (add_bytes M (bytes_in s)) (only M (error_text line odd_digits))) (only M (error_text line no_digit))

-- as the bytes that digits write, with nothing but blanks around them
abbrev pub add_hexadecimal : Merge → ℕ → List ℕ → Answered
add_hexadecimal M line s = cond (is_empty (drop (word_end s) s)) (add_digits M line (first_word s)) (only M (error_text line no_digit))

-- ---- a number is looked up

abbrev pub looked_text : Merge → ℕ → Option ℕ → List ℕ
looked_text M line (Some n) = answer_text [] (look_in M n)
looked_text M line None = error_text line no_number

-- ---- the merge is closed

abbrev pub close_reply : Merge → ℕ → List ℕ → Answered
close_reply M line s = cond (is_empty s) (called closed_text (close_of M)) (only M (error_text line behind_command))

-- ---- listing and fold of a closed merge

-- the text that came into an output, or the refusal
abbrev pub written_text : Output → List ℕ
written_text o = cond (eqb o.refusal 0) (take o.written o.lent) (refused_text o.refusal o.place)

-- as a writing hands it out
abbrev pub written_by : Result ℕ Refused → List ℕ → List ℕ
written_by (Ok n) text = take n text
written_by (Err r) text = refused_text (number_of r.refusal) r.place

-- no listing has more bytes
abbrev pub most_listing : ℕ
most_listing = 70152

abbrev pub listing_of : Merge → List ℕ
listing_of M = written_text (list_of (file_of M) (replicate most_listing 0))

-- a catalogue as text
abbrev pub outcome_text : Outcome → List ℕ
outcome_text (refused n p) = refused_text n p
outcome_text (accepted es) = text_of es

-- the text of the catalogue that came into an output, or the refusal
abbrev pub decoded_text : Output → List ℕ
decoded_text o = cond (eqb o.refusal 0) (outcome_text (read (take o.written o.lent))) (refused_text o.refusal o.place)

abbrev pub fold_text_of : Merge → List ℕ
fold_text_of M = decoded_text (fold_of (file_of M) (replicate (most_bytes new) 0))

abbrev pub all_text : Bool → Merge → List ℕ
all_text listing M = cond listing (listing_of M) (fold_text_of M)

abbrev pub closed_reply : Bool → Merge → ℕ → List ℕ → List ℕ
closed_reply listing M line s = cond (is_empty s) (cond M.closed (all_text listing M) (error_text line not_closed)) (error_text line behind_command)

-- ---- a line

-- a command, and what stands behind it
abbrev pub command_reply : Merge → Command → ℕ → List ℕ → Answered
command_reply M Add line s = add_text M line s
command_reply M Bytes line s = add_hexadecimal M line s
command_reply M Look line s = only M (looked_text M line (wanted_in s))
command_reply M Close line s = close_reply M line s
command_reply M Listing line s = only M (closed_reply true M line s)
command_reply M Fold line s = only M (closed_reply false M line s)
command_reply M Unknown line s = only M (error_text line no_command)

-- without its comment: nothing is said to a blank one
abbrev pub content_reply : Merge → ℕ → List ℕ → Answered
content_reply M line s = cond (is_empty s) (only M []) (command_reply M (command_of (first_word s)) line (drop (word_end s) s))

-- a line with this number, of at most 4096 bytes
abbrev pub answer : Merge → ℕ → List ℕ → Answered
answer M line s = cond (ltb 4096 (length s)) (only M (error_text line too_long)) (content_reply M line (content s))

-- What `tell` says of a text: how far its words are stored, how many entries it has, and whether a line is wrong.
use Rattle.std.specs.Prelude.{◌≡◌, Bool, true, cond, List, [], map, ℕ, ◌/◌, ltb, length, take}
use Rattle.catalogue_rules.specs.Word.{Word, encode, bytes_of}
use Rattle.catalogue_rules.specs.Output.{filled_with}
use Rattle.text_rules.specs.Encoding.{lines_of, ended, told_wrong, told_entries}
use Rattle.text_encoding.specs.declared.Told.{Told}

-- R13.8: a longer text is not read
abbrev pub most_text : ℕ
most_text = 131071

abbrev pub is_long : List ℕ → Bool
is_long text = ltb most_text (length text)

abbrev pub text_entries : List ℕ → List (List Word)
text_entries text = cond (is_long text) [] (told_entries (lines_of text))

abbrev pub text_words : List ℕ → List ℕ
text_words text = cond (is_long text) [] (map encode (ended (told_entries (lines_of text))))

abbrev pub text_wrong : List ℕ → Bool
text_wrong text = cond (is_long text) true (told_wrong (lines_of text))

-- as many of the words of the lines that are right as an output has room for
abbrev pub stored_words : List ℕ → List ℕ → List ℕ
stored_words text out = take (length out / 4) (text_words text)

-- how many they are, and the output with them at its beginning; how many entries there are, and whether a line is wrong
pub record Tells (text before after : List ℕ) (r : Told) : Type 0 where
  pub stored : r.words ≡ length (stored_words text before)
  pub lent : after ≡ (filled_with (bytes_of (stored_words text before)) before).lent
  pub counted : r.entries ≡ length (text_entries text)
  pub wrong : r.wrong ≡ text_wrong text

-- What is said of a line that tells no entry.
use Rattle.std.specs.Prelude.{List, [], ◌∷◌, ℕ, ◌+◌, Option, Some, None}
use Rattle.text_lines.specs.declared.Mistake.{Mistake}
use Rattle.text_lines.specs.declared.Mistake.TheVariants.{PartMissing, TooLarge, TooMany, NoNumber, NotThree, NoHead, NotAll, Beyond, NoSee}
use Rattle.cli_answers.specs.Answers.{error_text}
use Rattle.cli_answers.specs.Room.{error_room}

abbrev pub sentence : Mistake → List ℕ
-- "a part is missing"
sentence PartMissing = 97 ∷ 32 ∷ 112 ∷ 97 ∷ 114 ∷ 116 ∷ 32 ∷ 105 ∷ 115 ∷ 32 ∷ 109 ∷ 105 ∷ 115 ∷ 115 ∷ 105 ∷ 110 ∷ 103 ∷ []
-- "a number beyond 64 bits"
sentence TooLarge = 97 ∷ 32 ∷ 110 ∷ 117 ∷ 109 ∷ 98 ∷ 101 ∷ 114 ∷ 32 ∷ 98 ∷ 101 ∷ 121 ∷ 111 ∷ 110 ∷ 100 ∷ 32 ∷ 54 ∷ 52 ∷ 32 ∷ 98 ∷ 105 ∷ 116 ∷ 115 ∷ []
-- "too many numbers"
sentence TooMany = 116 ∷ 111 ∷ 111 ∷ 32 ∷ 109 ∷ 97 ∷ 110 ∷ 121 ∷ 32 ∷ 110 ∷ 117 ∷ 109 ∷ 98 ∷ 101 ∷ 114 ∷ 115 ∷ []
-- "something that is no number"
sentence NoNumber = 115 ∷ 111 ∷ 109 ∷ 101 ∷ 116 ∷ 104 ∷ 105 ∷ 110 ∷ 103 ∷ 32 ∷ 116 ∷ 104 ∷ 97 ∷ 116 ∷ 32 ∷ 105 ∷ 115 ∷ 32 ∷ 110 ∷ 111 ∷ 32 ∷ 110 ∷ 117 ∷ 109 ∷ 98 ∷ 101 ∷ 114 ∷ []
-- "not number, d and m"
sentence NotThree = 110 ∷ 111 ∷ 116 ∷ 32 ∷ 110 ∷ 117 ∷ 109 ∷ 98 ∷ 101 ∷ 114 ∷ 44 ∷ 32 ∷ 100 ∷ 32 ∷ 97 ∷ 110 ∷ 100 ∷ 32 ∷ 109 ∷ []
-- "number, d or m that no head of this form holds"
sentence NoHead = 110 ∷ 117 ∷ 109 ∷ 98 ∷ 101 ∷ 114 ∷ 44 ∷ 32 ∷ 100 ∷ 32 ∷ 111 ∷ 114 ∷ 32 ∷ 109 ∷ 32 ∷ 116 ∷ 104 ∷ 97 ∷ 116 ∷ 32 ∷ 110 ∷ 111 ∷ 32 ∷ 104 ∷ 101 ∷ 97 ∷ 100 ∷ 32 ∷ 111 ∷ 102 ∷ 32 ∷ 116 ∷ 104 ∷ 105 ∷ 115 ∷ 32 ∷ 102 ∷ 111 ∷ 114 ∷ 109 ∷ 32 ∷ 104 ∷ 111 ∷ 108 ∷ 100 ∷ 115 ∷ []
-- "not d times m coordinates"
sentence NotAll = 110 ∷ 111 ∷ 116 ∷ 32 ∷ 100 ∷ 32 ∷ 116 ∷ 105 ∷ 109 ∷ 101 ∷ 115 ∷ 32 ∷ 109 ∷ 32 ∷ 99 ∷ 111 ∷ 111 ∷ 114 ∷ 100 ∷ 105 ∷ 110 ∷ 97 ∷ 116 ∷ 101 ∷ 115 ∷ []
-- "a coordinate beyond 20000"
sentence Beyond = 97 ∷ 32 ∷ 99 ∷ 111 ∷ 111 ∷ 114 ∷ 100 ∷ 105 ∷ 110 ∷ 97 ∷ 116 ∷ 101 ∷ 32 ∷ 98 ∷ 101 ∷ 121 ∷ 111 ∷ 110 ∷ 100 ∷ 32 ∷ 50 ∷ 48 ∷ 48 ∷ 48 ∷ 48 ∷ []
-- "neither draft nor the number of an entry behind the coordinates"
sentence NoSee = 110 ∷ 101 ∷ 105 ∷ 116 ∷ 104 ∷ 101 ∷ 114 ∷ 32 ∷ 100 ∷ 114 ∷ 97 ∷ 102 ∷ 116 ∷ 32 ∷ 110 ∷ 111 ∷ 114 ∷ 32 ∷ 116 ∷ 104 ∷ 101 ∷ 32 ∷ 110 ∷ 117 ∷ 109 ∷ 98 ∷ 101 ∷ 114 ∷ 32 ∷ 111 ∷ 102 ∷ 32 ∷ 97 ∷ 110 ∷ 32 ∷ 101 ∷ 110 ∷ 116 ∷ 114 ∷ 121 ∷ 32 ∷ 98 ∷ 101 ∷ 104 ∷ 105 ∷ 110 ∷ 100 ∷ 32 ∷ 116 ∷ 104 ∷ 101 ∷ 32 ∷ 99 ∷ 111 ∷ 111 ∷ 114 ∷ 100 ∷ 105 ∷ 110 ∷ 97 ∷ 116 ∷ 101 ∷ 115 ∷ []

-- the line's number and a sentence; nothing where nothing is wrong
abbrev pub mistake_text : ℕ → Option Mistake → List ℕ
mistake_text line None = []
mistake_text line (Some mistake) = error_text line (sentence mistake)

-- the longest sentence has 63 bytes
abbrev pub mistake_room : ℕ
mistake_room = error_room + 63

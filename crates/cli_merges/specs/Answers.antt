-- The answers of a merge as text.
use Rattle.std.specs.Prelude.{List, [], ◌∷◌, ℕ}
use Rattle.integers.specs.Decimal.{decimal}
use Rattle.text_layout.specs.Fields.{line}
use Rattle.merge_rules.specs.Merge.{Answer, done, refused_at, provisional, final, not_yet}
use Rattle.cli_answers.specs.Answers.{refused_text}

-- "standing"
abbrev pub standing_word : List ℕ
standing_word = 115 ∷ 116 ∷ 97 ∷ 110 ∷ 100 ∷ 105 ∷ 110 ∷ 103 ∷ []

-- "provisional"
abbrev pub provisional_word : List ℕ
provisional_word = 112 ∷ 114 ∷ 111 ∷ 118 ∷ 105 ∷ 115 ∷ 105 ∷ 111 ∷ 110 ∷ 97 ∷ 108 ∷ []

-- a standing number of an open merge
abbrev pub provisional_text : ℕ → List ℕ
provisional_text n = line standing_word (decimal n ∷ provisional_word ∷ [])

-- the same of a closed one
abbrev pub final_text : ℕ → List ℕ
final_text n = line standing_word (decimal n ∷ [])

-- "not yet"
abbrev pub not_yet_text : List ℕ
not_yet_text = 110 ∷ 111 ∷ 116 ∷ 32 ∷ 121 ∷ 101 ∷ 116 ∷ 10 ∷ []

-- the answer to a call, with the line that says that it was done
abbrev pub answer_text : List ℕ → Answer → List ℕ
answer_text word done = word
answer_text word (refused_at number place) = refused_text number place
answer_text word (provisional n) = provisional_text n
answer_text word (final n) = final_text n
answer_text word not_yet = not_yet_text

-- "added"
abbrev pub added_text : List ℕ
added_text = 97 ∷ 100 ∷ 100 ∷ 101 ∷ 100 ∷ 10 ∷ []

-- "closed"
abbrev pub closed_text : List ℕ
closed_text = 99 ∷ 108 ∷ 111 ∷ 115 ∷ 101 ∷ 100 ∷ 10 ∷ []

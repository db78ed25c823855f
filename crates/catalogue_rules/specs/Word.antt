-- The words of a catalogue (document 01, "The catalogue"): kind and load, the case that a word is, and words as bytes.
use Rattle.std.specs.Prelude.{true, false, List, [], ◌∷◌, ℕ, ◌+◌, ◌*◌, ◌/◌, ◌%◌, ◌^◌, eqb}

-- R6.2: "The top 4 bits are the kind, the other 28 the load."
abbrev pub kind : ℕ → ℕ
kind w = w / 2 ^ 28

-- R6.2
abbrev pub load : ℕ → ℕ
load w = w % 2 ^ 28

-- R6.3 to R6.7, R6.12, R6.13: "A word is a head, a coordinate, a see word or the end", or the mark of a draft; "in the new form a head is two words",
-- its number and its size; `other` is what is refused
pub data Word : Type 0 where
  head : (number d m : ℕ) → Word
  coordinate : (load : ℕ) → Word
  see : (number : ℕ) → Word
  end : (count : ℕ) → Word
  draft : (load : ℕ) → Word
  head_number : (number : ℕ) → Word
  head_size : (high d m : ℕ) → Word
  other : (kind load : ℕ) → Word

-- R6.3: head: "bits 8–27 entry number, bits 4–7 d, bits 0–3 m"
abbrev pub head_of : ℕ → Word
head_of l = head (l / 256) (l / 16 % 16) (l % 16)

-- R6.13: "kind 7 with d and m in bits 0 to 7, placed as before"; `high` are bits 8 to 27
abbrev pub head_size_of : ℕ → Word
head_size_of l = head_size (l / 256) (l / 16 % 16) (l % 16)

-- R6.2 to R6.7, R6.12, R6.13: the case of a kind with a load
abbrev pub word_of : ℕ → ℕ → Word
word_of k l =
    elim (eqb k 1) [
      | true ↦ head_of l
      | false ↦ elim (eqb k 2) [
        | true ↦ coordinate l
        | false ↦ elim (eqb k 3) [
          | true ↦ see l
          | false ↦ elim (eqb k 4) [
            | true ↦ end l
            | false ↦ elim (eqb k 5) [
              | true ↦ draft l
              | false ↦ elim (eqb k 6) [
                | true ↦ head_number l
                | false ↦ elim (eqb k 7) [ true ↦ head_size_of l | false ↦ other k l ]
              ]
            ]
          ]
        ]
      ]
    ]

-- R6.2 to R6.7, R6.12, R6.13
unfoldable pub decode : ℕ → Word
decode w = word_of (kind w) (load w)

-- R6.2 to R6.7, R6.12, R6.13: a word from its case back
abbrev pub kind_of : Word → ℕ
kind_of (head number d m) = 1
kind_of (coordinate l) = 2
kind_of (see number) = 3
kind_of (end count) = 4
kind_of (draft l) = 5
kind_of (head_number number) = 6
kind_of (head_size high d m) = 7
kind_of (other k l) = k

-- R6.2 to R6.7, R6.12, R6.13
abbrev pub load_of : Word → ℕ
load_of (head number d m) = number * 256 + d * 16 + m
load_of (coordinate l) = l
load_of (see number) = number
load_of (end count) = count
load_of (draft l) = l
load_of (head_number number) = number
load_of (head_size high d m) = high * 256 + d * 16 + m
load_of (other k l) = l

-- R6.2 to R6.7, R6.12, R6.13
unfoldable pub encode : Word → ℕ
encode w = kind_of w * 2 ^ 28 + load_of w

-- R6.1: "a run of 32-bit words, lowest byte first"; up to three bytes that make no word are left out
abbrev pub words_of : List ℕ → List ℕ
words_of [] = []
words_of (a ∷ []) = []
words_of (a ∷ b ∷ []) = []
words_of (a ∷ b ∷ c ∷ []) = []
words_of (a ∷ b ∷ c ∷ d ∷ bytes) = (a + b * 256 + c * 65536 + d * 16777216) ∷ words_of bytes

-- R6.1
abbrev pub bytes_of : List ℕ → List ℕ
bytes_of [] = []
bytes_of (w ∷ words) = w % 256 ∷ w / 256 % 256 ∷ w / 65536 % 256 ∷ w / 16777216 % 256 ∷ bytes_of words

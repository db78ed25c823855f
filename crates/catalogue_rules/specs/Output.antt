-- Writing to a lent output (document 01, row "output, folded or not").
use Rattle.std.specs.Prelude.{Bool, List, [], ◌∷◌, ◌++◌, ℕ, ltb, length, drop}
use Rattle.catalogue_rules.specs.Catalogue.{Entry, Outcome, refused, accepted}
use Rattle.catalogue_rules.specs.Read.{checked}
use Rattle.catalogue_rules.specs.Write.{write}

-- R10.1: a refusal and its place, how many bytes were written, and the output afterwards
pub record Output : Type 0 where
  pub refusal : ℕ
  pub place : ℕ
  pub written : ℕ
  pub lent : List ℕ

-- R10.2: on refusal all bytes stay
abbrev pub untouched : ℕ → ℕ → List ℕ → Output
untouched refusal place out = record { refusal = refusal; place = place; written = 0; lent = out }

-- R10.1: "On success a writing fills its own length and the rest of the output keeps its bytes."
abbrev pub filled_with : List ℕ → List ℕ → Output
filled_with bytes out = record { refusal = 0; place = 0; written = length bytes; lent = bytes ++ drop (length bytes) out }

-- R9.16, R10.3: "16 lent output shorter than what is to be written", at place 0
abbrev pub lent_rows : List ℕ → List ℕ → List (Bool × ℕ)
lent_rows bytes out = (ltb (length out) (length bytes), 16) ∷ []

-- R8.7, R10: the bytes that f makes of the entries of an outcome, or its refusal first
abbrev pub output_by : (List Entry → List ℕ) → Outcome → List ℕ → Output
output_by f (refused n p) out = untouched n p out
output_by f (accepted es) out = checked (λ n. untouched n 0 out) (lent_rows (f es) out) (filled_with (f es) out)

-- R8.7, R10: the entries themselves
abbrev pub output : Outcome → List ℕ → Output
output o out = output_by write o out

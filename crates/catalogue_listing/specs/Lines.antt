-- Fields and vectors of a line, one after another.
use Rattle.std.specs.Prelude.{◌≡◌, refl, List, [], ◌∷◌, ◌++◌, map, ℕ, ◌+◌, length, take}
use Rattle.std.proofs.Common.{sym, ap, ◌∙◌, length-append}
use Rattle.integers.specs.Decimal.{signed}
use Rattle.lattices.specs.Vector.{Vec}
use Rattle.text_layout.specs.Fields.{after, line}
use Rattle.fold_rules.specs.Listing.{vector_lines}
use Rattle.text_output.specs.Joined.{joined}
use Rattle.text_fields.specs.Blank.{blank, after-joined}

pub fields_length : {A : Type 0} (f : A → List ℕ) (l : List A) → length (after (map f l)) ≡ length (joined (blank f) l) + 1
fields_length f l = sym (ap length (after-joined f l)) ∙ length-append (joined (blank f) l) (10 ∷ [])

-- the line of the first m numbers of a row
abbrev pub vector_line : ℕ → Vec → List ℕ
vector_line m v = line (118 ∷ []) (map signed (take m v))

pub vectors-joined : (m : ℕ) (vs : List Vec) → joined (vector_line m) vs ≡ vector_lines (map (take m) vs)
vectors-joined m [] = refl
vectors-joined m (v ∷ vs) = ap (λ t. vector_line m v ++ t) (vectors-joined m vs)

-- Fields behind their blanks, one after another.
use Rattle.std.specs.Prelude.{◌≡◌, refl, List, [], ◌∷◌, ◌++◌, map, ℕ}
use Rattle.std.proofs.Common.{ap, ◌∙◌, append-nil, append_assoc}
use Rattle.text_layout.specs.Fields.{after}
use Rattle.text_output.specs.Joined.{joined}

-- a blank and a field
abbrev pub blank : {A : Type 0} → (A → List ℕ) → A → List ℕ
blank f x = 32 ∷ f x

-- other fields may follow
pub joined-then : {A : Type 0} (f : A → List ℕ) (l : List A) (fields : List (List ℕ)) → joined (blank f) l ++ after fields ≡ after (map f l ++ fields)
joined-then f [] fields = refl
joined-then f (x ∷ l) fields = ap (λ t. 32 ∷ t) (append_assoc (f x) (joined (blank f) l) (after fields) ∙ ap (λ t. f x ++ t) (joined-then f l fields))

pub after-joined : {A : Type 0} (f : A → List ℕ) (l : List A) → joined (blank f) l ++ (10 ∷ []) ≡ after (map f l)
after-joined f l = joined-then f l [] ∙ ap after (append-nil (map f l))

-- Whether two words are the same.
use Rattle.std.specs.Prelude.{◌≡◌, refl, Bool, true, false, ◌&&◌, List, [], ◌∷◌, ℕ, eqb}
use Rattle.std.proofs.Common.{sym, ap₂, ◌∙◌, subst, true≢false, eqb→eq, eq-eqb}
use Rattle.std.proofs.lemmas.Bool.{false≢true}
use Rattle.integers.specs.Tests.{both, true_T}
use Rattle.cli_merges.specs.Commands.{same}

itself : (s : List ℕ) → same s s ≡ true
itself [] = refl
itself (b ∷ s) = λ i. eq-eqb b b refl i && itself s i

is_same : (s w : List ℕ) → same s w ≡ true → s ≡ w
is_same [] [] e = refl
is_same [] (b ∷ w) e = absurd (false≢true e)
is_same (a ∷ s) [] e = absurd (false≢true e)
is_same (a ∷ s) (b ∷ w) e = let h = both (eqb a b) (same s w) e in ap₂ (λ x l. x ∷ l) (eqb→eq a b (true_T h.0)) (is_same s w h.1)

pub same-is : (s w : List ℕ) → s ≡ w → same s w ≡ true
same-is s w e = subst (λ l. same s l ≡ true) e (itself s)

-- where a test of theirs says no
pub same_not : (s w : List ℕ) {r : Bool} → (s ≡ w → r ≡ true) → r ≡ false → same s w ≡ false
same_not s w f e = go (same s w) refl
  where
    go : (t : Bool) → same s w ≡ t → t ≡ false
    go true h = absurd (true≢false (sym (f (is_same s w h)) ∙ e))
    go false h = refl

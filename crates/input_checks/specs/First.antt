-- The first check that applies, as code finds it: each check in order, until one holds.
use Rattle.std.specs.Prelude.{◌≡◌, refl, true, false, List, [], ◌∷◌, ℕ}
use Rattle.std.proofs.Common.{sym, ap, ◌∙◌}
use Rattle.lattices.specs.Refusal.{Input, Check, first_of}

pub data First (i : Input) : List Check → ℕ → Type 0 where
  none : First i [] 0
  here : {k : Check} {ks : List Check} → k.condition i ≡ true → First i (k ∷ ks) k.number
  later : {k : Check} {ks : List Check} {n : ℕ} → k.condition i ≡ false → First i ks n → First i (k ∷ ks) n

first-of : {i : Input} {ks : List Check} {n : ℕ} → First i ks n → first_of ks i ≡ n
first-of none = refl
first-of {i} (here {k} {ks} e) = ap (λ t. elim t [ true ↦ k.number | false ↦ first_of ks i ]) e
first-of {i} (later {k} {ks} e p) = ap (λ t. elim t [ true ↦ k.number | false ↦ first_of ks i ]) e ∙ first-of p

pub found : (i : Input) (ks : List Check) {n : ℕ} → First i ks n → n ≡ first_of ks i
found i ks p = sym (first-of p)

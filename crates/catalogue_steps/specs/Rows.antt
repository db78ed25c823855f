-- Rows of the table of refusals as the code decides them, some at a time: the number of the first that applies, 0 for none.
use Rattle.std.specs.Prelude.{◌≡◌, refl, ◌≢◌, Bool, true, false, List, [], ◌∷◌, ◌++◌, ℕ, Ok, Err}
use Rattle.std.specs.declared.result.Result.{Result}
use Rattle.std.proofs.Common.{sym, ap, ◌∙◌}
use Rattle.integers.specs.All.{All}
use Rattle.catalogue_rules.specs.Read.{checked}
use Rattle.refusals.specs.declared.Refusal.{Refusal}
use Rattle.refusals.specs.Number.{number_of}

-- what was handed out, a refusal by its number
abbrev pub turn_in : {A : Type 0} → Result A Refusal → Result A ℕ
turn_in (Ok a) = Ok a
turn_in (Err e) = Err (number_of e)

abbrev pub first_row : List (Bool × ℕ) → ℕ
first_row rows = checked (λ n. n) rows 0

module _ {A : Type 0} (refuse : ℕ → A) where
  -- one of the rows applies
  pub row-stops : (rows more : List (Bool × ℕ)) (a : A) {n : ℕ} → n ≡ first_row rows → n ≢ 0 → refuse n ≡ checked refuse (rows ++ more) a
  row-stops [] more a e h = absurd (h e)
  row-stops (r ∷ rows) more a {n} e h = go r.0 e (λ e. row-stops rows more a e h)
    where
      go : (t : Bool) → n ≡ elim t [ true ↦ r.1 | false ↦ first_row rows ] → (n ≡ first_row rows → refuse n ≡ checked refuse (rows ++ more) a)
          → refuse n ≡ elim t [ true ↦ refuse r.1 | false ↦ checked refuse (rows ++ more) a ]
      go true e rest = ap refuse e
      go false e rest = rest e

  -- none of them does: what follows decides
  pub rows_pass : (rows more : List (Bool × ℕ)) (a : A) {n : ℕ} → All (λ r. r.1 ≢ 0) rows → n ≡ first_row rows → n ≡ 0 → checked refuse more a ≡ checked refuse (rows ++ more) a
  rows_pass [] more a p e h = refl
  rows_pass (r ∷ rows) more a {n} p e h = go r.0 e (λ e. rows_pass rows more a p.1 e h)
    where
      go : (t : Bool) → n ≡ elim t [ true ↦ r.1 | false ↦ first_row rows ] → (n ≡ first_row rows → checked refuse more a ≡ checked refuse (rows ++ more) a)
          → checked refuse more a ≡ elim t [ true ↦ refuse r.1 | false ↦ checked refuse (rows ++ more) a ]
      go true e rest = absurd (p.0 (sym e ∙ h))
      go false e rest = rest e

-- A table that a loop changes row by row.
use Rattle.std.specs.Prelude.{◌≡◌, List, map, ℕ, ◌+◌, ◌≤◌, ◌<◌, length, get_or, set}
use Rattle.std.proofs.Common.{sym, ap, ap₂, ◌∙◌, add-one, arith}
use Rattle.std.proofs.lemmas.List.{length-map}
use Rattle.integers.specs.AllLaws.{get_d_map}
use Rattle.row_operations.specs.Front.{front, front-suc, front-all, get_d_front}

module _ {A : Type 0} (f : A → A) (t : List A) (i : ℕ) {l : List A} (e : l ≡ front i (map f t) t) where
  pub row_kept : (d : A) → i < length t → get_or l i d ≡ get_or t i d
  row_kept d h = ap (λ l. get_or l i d) e ∙ get_d_front i i (map f t) t d (omega (arith, length-map t f)) (omega arith) (omega arith)

  pub row_mapped : (d : A) → i < length t → {r : A} → r ≡ f (get_or l i d) → set l i r ≡ front (i + 1) (map f t) t
  row_mapped d h p = rw add-one
      (ap₂ (λ l r. set l i r) e (p ∙ ap f (row_kept d h) ∙ sym (get_d_map f t d d i h)) ∙ front-suc i (map f t) t d (omega (arith, length-map t f)) h)

  pub rows_mapped : length t ≤ i → l ≡ map f t
  rows_mapped h = e ∙ front-all i (map f t) t (omega (arith, length-map t f)) h

-- The rows of the array against the vectors of the input: the same are too long, and the same lists are dependent.
use Rattle.std.specs.Prelude.{◌≡◌, refl, false, List, [], ◌∷◌, map, ℕ, zero, suc, ◌≤◌, ◌<◌, ℤ, pos, length, get_or, take, ◌≤ℤ◌}
use Rattle.std.proofs.Common.{sym, ap, ◌∙◌, subst, le_trans, get_or-take}
use Rattle.integers.specs.Order.{lt_z_false}
use Rattle.lattices.specs.Vector.{Vec, N, nth, dot}
use Rattle.lattices.specs.Volume.{is_dependent}
use Rattle.integers.specs.Every.{any}
use Rattle.lattices.specs.Refusal.{most_vectors, most_coordinates, too_long, vectors_of}
use Rattle.lattices.specs.Answer.{padded, table}
use Rattle.exterior_algebra.specs.Dependence.{Fit}
use Rattle.integers.specs.Size.{Within}
use Rattle.input_checks.specs.Any.{beyond, any_none, within-limit}
use Rattle.input_checks.specs.Shape.{over, long-over, any-beyond-padded}
use Rattle.integers.specs.Tests.{neither}
use Rattle.input_checks.specs.Padded.{fit-vectors_of, any-long-padded, is_dependent-padded}
use Rattle.lattices.specs.Laws.Answer.{length-vectors_of, table-rows}

nil-short : too_long [] ≡ false
unfolding dot
nil-short = refl

pub short : (d : ℕ) (b : List Vec) → any too_long (take d b) ≡ false → (i : ℕ) → i < d → N (get_or b i []) ≤ℤ pos 400000000
short d b e i h =
    subst (λ v. N v ≤ℤ pos 400000000) (get_or-take d b i [] h)
    (lt_z_false (neither (any beyond (get_or (take d b) i [])) _ (any_none too_long [] nil-short (take d b) e i)).1)

length-table : (h w : ℕ) (rows : List Vec) → length (table h w rows) ≡ h
length-table zero w rows = refl
length-table (suc h) w [] = ap suc (length-table h w [])
length-table (suc h) w (r ∷ rows) = ap suc (length-table h w rows)

module _ (d m : ℕ) (l : List ℤ) {b : List Vec} (few : d ≤ most_vectors) (narrow : m ≤ most_coordinates) (is : b ≡ table most_vectors most_coordinates (vectors_of d m l)) where
  rows : take d b ≡ map (padded most_coordinates) (vectors_of d m l)
  rows =
      let n = length-vectors_of d m l in
      ap (take d) is
      ∙ ap (λ k. take k (table most_vectors most_coordinates (vectors_of d m l))) (sym n)
      ∙ table-rows most_vectors most_coordinates (vectors_of d m l) (subst (λ k. k ≤ most_vectors) (sym n) few)

  pub four-rows : length b ≡ most_vectors
  four-rows = ap length is ∙ length-table most_vectors most_coordinates (vectors_of d m l)

  pub long-rows : any too_long (take d b) ≡ any too_long (vectors_of d m l)
  long-rows =
      let fit : Fit most_coordinates (vectors_of d m l) = λ i. le_trans (fit-vectors_of d m l i) narrow in
      ap (any too_long) rows ∙ any-long-padded most_coordinates (vectors_of d m l) fit

  -- where no coordinate is beyond the limit, the rows' numbers are small and squared lengths decide
  module _ (small : any (any beyond) (vectors_of d m l) ≡ false) where
    none-beyond : any (any beyond) (take d b) ≡ false
    none-beyond = ap (any (any beyond)) rows ∙ any-beyond-padded most_coordinates (vectors_of d m l) (λ i. le_trans (fit-vectors_of d m l i) narrow) ∙ small

    pub small-rows : (i : ℕ) → i < d → (j : ℕ) → Within 20000 (nth (get_or b i []) j)
    small-rows i h = within-limit (get_or b i []) (ap (any beyond) (sym (get_or-take d b i [] h)) ∙ any_none (any beyond) [] refl (take d b) none-beyond i)

    pub over-rows : any over (take d b) ≡ any too_long (vectors_of d m l)
    over-rows = sym (long-over (take d b) none-beyond) ∙ long-rows

    pub short-rows : any over (take d b) ≡ false → (i : ℕ) → i < d → N (get_or b i []) ≤ℤ pos 400000000
    short-rows e = short d b (long-over (take d b) none-beyond ∙ e)

  pub dependent_rows : is_dependent most_coordinates (take d b) ≡ is_dependent m (vectors_of d m l)
  dependent_rows = ap (is_dependent most_coordinates) rows ∙ sym (is_dependent-padded m most_coordinates (vectors_of d m l) (fit-vectors_of d m l) narrow)

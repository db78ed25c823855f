-- Runs of stores one after the other.
use Rattle.std.specs.Prelude.{◌≡◌, refl, List, [], ◌∷◌, ◌++◌, ℕ, suc, ◌+◌, ◌≤◌, length, set, take, drop}
use Rattle.std.proofs.Common.{sym, ap, ◌∙◌, arith, take_all}
use Rattle.std.proofs.lemmas.List.Edits.{sets, sets-eq}
use Rattle.std.proofs.lemmas.Slice.{put_mid-paste}
use borrow.Rule.Slice.PartMut.{put_mid}

-- the second run begins where the first ends
pub sets-append : {A : Type 0} (l : List A) (i j : ℕ) (vs rest : List A) → j ≡ i + length vs → sets (sets l i vs) j rest ≡ sets l i (vs ++ rest)
sets-append l i j [] rest e = let here : j ≡ i = omega arith in ap (λ k. sets l k rest) here
sets-append l i j (x ∷ vs) rest e = sets-append (set l i x) (suc i) j vs rest (omega arith)

-- where a part of a list holds something else now, that stands there as a run of stores
pub part-sets : {A : Type 0} (a k : ℕ) (xs ys zs : List A) → ys ≡ zs → length zs ≡ k → a + k ≤ length xs → put_mid a k xs ys ≡ sets xs a zs
part-sets a k xs ys zs e n h =
    put_mid-paste a k xs ys zs (length zs) e n refl
    ∙ ap (λ l. take a xs ++ l ++ drop (a + length zs) xs) (take_all (length zs) zs (omega arith))
    ∙ sym (sets-eq zs xs a (omega (arith, n)))

-- The diagonal of a Gram matrix as it is formed has the squared lengths, so that it tells which vectors are over the limit.
use Rattle.std.specs.Prelude.{◌≡◌, refl, Bool, ◌||◌, List, [], ◌∷◌, map, ℕ, zero, suc, ◌≤◌, ◌<◌, ℤ, pos, length, get_or, take}
use Rattle.std.proofs.Common.{sym, ap, ◌∙◌, arith, get_or-take}
use Rattle.std.specs.Int.Signed.{lt_z}
use Rattle.integers.specs.Every.{any}
use Rattle.lattices.specs.Vector.{Vec, N, nth}
use Rattle.lattices.specs.Refusal.{most_square}
use Rattle.input_checks.specs.Shape.{over}
use Rattle.gram_matrix.specs.Formed.{formed}
use Rattle.gram_matrix.specs.Work.{diagonal_of}

-- number i of the first d
pub diagonal-at : (g : List (List ℤ)) (d i : ℕ) → d ≤ 4 → i < d → get_or (take d (diagonal_of g)) i (pos 0) ≡ nth (get_or g i []) i
diagonal-at g d i few h = get_or-take d (diagonal_of g) i (pos 0) h ∙ entry i (omega arith)
  where
    entry : (i : ℕ) → i < 4 → get_or (diagonal_of g) i (pos 0) ≡ nth (get_or g i []) i
    entry zero h = refl
    entry (suc zero) h = refl
    entry (suc (suc zero)) h = refl
    entry (suc (suc (suc zero))) h = refl
    entry (suc (suc (suc (suc i)))) h = absurd (omega arith)

diagonal-formed : (bs : List Vec) → length bs ≤ 4 → take (length bs) (diagonal_of (formed bs)) ≡ map N bs
diagonal-formed [] h = refl
diagonal-formed (a ∷ []) h = refl
diagonal-formed (a ∷ b ∷ []) h = refl
diagonal-formed (a ∷ b ∷ c ∷ []) h = refl
diagonal-formed (a ∷ b ∷ c ∷ d ∷ []) h = refl
diagonal-formed (a ∷ b ∷ c ∷ d ∷ e ∷ bs) h = absurd (omega arith)

any-map : {A B : Type 0} (f : B → Bool) (g : A → B) (l : List A) → any f (map g l) ≡ any (λ x. f (g x)) l
any-map f g [] = refl
any-map f g (x ∷ l) = ap (λ t. f (g x) || t) (any-map f g l)

-- which vectors are over the limit
pub over-formed : (d : ℕ) (bs : List Vec) {g : List (List ℤ)} → length bs ≡ d → d ≤ 4 → g ≡ formed bs → any (lt_z (pos most_square)) (take d (diagonal_of g)) ≡ any over bs
over-formed d bs e few is =
    ap (λ g. any (lt_z (pos most_square)) (take d (diagonal_of g))) is
    ∙ ap (λ n. any (lt_z (pos most_square)) (take n (diagonal_of (formed bs)))) (sym e)
    ∙ ap (any (lt_z (pos most_square))) (diagonal-formed bs (omega (arith, e, few)))
    ∙ any-map (lt_z (pos most_square)) N bs

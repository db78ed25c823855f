-- A list that a loop fills from the front: the first i elements are the new ones, the others still the old ones.
use Rattle.std.specs.Prelude.{◌≡◌, refl, List, [], ◌∷◌, ◌++◌, ℕ, zero, suc, ◌≤◌, ◌<◌, length, get_or, take, drop, set}
use Rattle.std.proofs.Common.{ap, append-nil, arith, drop_of_length-le, take_all}

module _ {A : Type 0} where
  abbrev pub front : ℕ → List A → List A → List A
  front i new old = take i new ++ drop i old

  pub front-suc : (i : ℕ) (new old : List A) (d : A) → i < length new → i < length old → set (front i new old) i (get_or new i d) ≡ front (suc i) new old
  front-suc i [] old d h k = absurd (omega arith)
  front-suc i (y ∷ new) [] d h k = absurd (omega arith)
  front-suc zero (y ∷ new) (x ∷ old) d h k = refl
  front-suc (suc i) (y ∷ new) (x ∷ old) d h k = ap {B = List A} (λ l. y ∷ l) (front-suc i new old d (omega arith) (omega arith))

  -- what is not done yet is as it was
  pub get_d_front : (i j : ℕ) (new old : List A) (d : A) → i ≤ length new → i ≤ length old → i ≤ j → get_or (front i new old) j d ≡ get_or old j d
  get_d_front zero j new old d h k l = refl
  get_d_front (suc i) j [] old d h k l = absurd (omega arith)
  get_d_front (suc i) j (y ∷ new) [] d h k l = absurd (omega arith)
  get_d_front (suc i) zero (y ∷ new) (x ∷ old) d h k l = absurd (omega arith)
  get_d_front (suc i) (suc j) (y ∷ new) (x ∷ old) d h k l = get_d_front i j new old d (omega arith) (omega arith) (omega arith)

  pub front-all : (i : ℕ) (new old : List A) → length new ≤ i → length old ≤ i → front i new old ≡ new
  front-all i new old h k = rw (take_all i new h, drop_of_length-le old k) (append-nil new)

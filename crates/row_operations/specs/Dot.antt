-- The inner product of the first i places, as the loop of `dot` builds it up, and its size.
use Rattle.std.specs.Prelude.{◌≡◌, List, [], ◌∷◌, ℕ, zero, suc, ◌*◌, ◌≤◌, ℤ, pos, ◌+ℤ◌, ◌*ℤ◌, nat_abs, ◌+◌, length, take}
use Rattle.std.proofs.Common.{sym, subst, ap, ◌∙◌, arith, SFits}
use Rattle.std.proofs.Math.IntN.{+ℤ_assoc, +ℤ_comm, *ℤ-zero, zero-*ℤ}
use Rattle.std.proofs.Math.Seq.{take-nil}
use Rattle.std.specs.Int.{w64}
use Rattle.integers.specs.Size.{Within, size-add, within-add, within-mul, within-le, fits-within}
use Rattle.lattices.specs.Refusal.{most_coordinates}
use Rattle.row_operations.specs.Minus.{room}
use Rattle.lattices.specs.Vector.{nth, dot}
use Rattle.lattices.specs.Laws.Vector.{dot-nil}

pub dot-suc : (i : ℕ) (a b : List ℤ) → dot (take (suc i) a) (take (suc i) b) ≡ dot (take i a) (take i b) +ℤ nth a i *ℤ nth b i
unfolding dot
dot-suc i [] b = simp (zero-*ℤ, take-nil)
dot-suc i (x ∷ a) [] = simp (*ℤ-zero, take-nil, dot-nil)
dot-suc zero (x ∷ a) (y ∷ b) = +ℤ_comm (x *ℤ y) (pos 0)
dot-suc (suc i) (x ∷ a) (y ∷ b) = ap (λ s. x *ℤ y +ℤ s) (dot-suc i a b) ∙ sym (+ℤ_assoc (x *ℤ y) (dot (take i a) (take i b)) (nth a i *ℤ nth b i))

pub dot-within : {A B : ℕ} (i : ℕ) (a b : List ℤ) → ((k : ℕ) → Within A (nth a k)) → ((k : ℕ) → Within B (nth b k)) → Within (i * (A * B)) (dot (take i a) (take i b))
unfolding dot
dot-within zero a b f g = record { within = omega arith }
dot-within {A} {B} (suc i) a b f g = rw dot-suc (within-le (omega arith) (within-add (dot-within i a b f g) (within-mul (f i) (g i))))

-- the sum of the sizes of the products: no sum of some of them is larger
unfoldable pub weight : List ℤ → List ℤ → ℕ
weight [] b = 0
weight (x ∷ a) [] = 0
weight (x ∷ a) (y ∷ b) = nat_abs (x *ℤ y) + weight a b

weight-take : (i : ℕ) (a b : List ℤ) → nat_abs (dot (take i a) (take i b)) ≤ weight a b
unfolding weight dot
weight-take zero a b = omega arith
weight-take (suc i) [] b = omega arith
weight-take (suc i) (x ∷ a) [] = omega arith
weight-take (suc i) (x ∷ a) (y ∷ b) = omega (arith, size-add (x *ℤ y) (dot (take i a) (take i b)), weight-take i a b)

pub dot-weight : (a b : List ℤ) → nat_abs (dot a b) ≤ weight a b
unfolding weight dot
dot-weight [] b = omega arith
dot-weight (x ∷ a) [] = omega arith
dot-weight (x ∷ a) (y ∷ b) = omega (arith, size-add (x *ℤ y) (dot a b), dot-weight a b)

weight-term : (i : ℕ) (a b : List ℤ) → nat_abs (nth a i *ℤ nth b i) ≤ weight a b
unfolding weight
weight-term i [] b = rw zero-*ℤ (omega arith)
weight-term i (x ∷ a) [] = rw *ℤ-zero (omega arith)
weight-term zero (x ∷ a) (y ∷ b) = omega arith
weight-term (suc i) (x ∷ a) (y ∷ b) = omega (arith, weight-term i a b)

-- n products of bounded size
pub weight-most : {P : ℕ} (n : ℕ) (a b : List ℤ) → length a ≤ n → ((i : ℕ) → Within P (nth a i *ℤ nth b i)) → weight a b ≤ n * P
unfolding weight
weight-most n [] b h f = omega arith
weight-most n (x ∷ a) [] h f = omega arith
weight-most zero (x ∷ a) (y ∷ b) h f = absurd (omega arith)
weight-most {P} (suc n) (x ∷ a) (y ∷ b) h f = omega (arith, (f 0).within, weight-most n a b (omega arith) (λ i. f (suc i)))

pub weight-most_right : {P : ℕ} (n : ℕ) (a b : List ℤ) → length b ≤ n → ((i : ℕ) → Within P (nth a i *ℤ nth b i)) → weight a b ≤ n * P
unfolding weight
weight-most_right n [] b h f = omega arith
weight-most_right n (x ∷ a) [] h f = omega arith
weight-most_right zero (x ∷ a) (y ∷ b) h f = absurd (omega arith)
weight-most_right {P} (suc n) (x ∷ a) (y ∷ b) h f = omega (arith, (f 0).within, weight-most_right n a b (omega arith) (λ i. f (suc i)))

-- and of bounded entries
pub weight-entries : {A B : ℕ} (n : ℕ) (a b : List ℤ) → length a ≤ n → ((i : ℕ) → Within A (nth a i)) → ((i : ℕ) → Within B (nth b i)) → weight a b ≤ n * (A * B)
weight-entries n a b h f g = weight-most n a b h (λ i. within-mul (f i) (g i))

-- what fits in turn i: the entries, their product, the sum so far and the next
pub record DotTurn (a b : List ℤ) (i : ℕ) : Type 0 where
  pub left : SFits w64 (nth a i)
  pub right : SFits w64 (nth b i)
  pub product : SFits w64 (nth a i *ℤ nth b i)
  pub sum : SFits w64 (dot (take i a) (take i b))
  pub next : SFits w64 (dot (take i a) (take i b) +ℤ nth a i *ℤ nth b i)

pub dot-turn_of_weight : (a b : List ℤ) → weight a b ≤ room → (i : ℕ) → SFits w64 (nth a i) → SFits w64 (nth b i) → DotTurn a b i
dot-turn_of_weight a b h i p q = record {
  left = p;
  right = q;
  product = fits-within {B = room} (record { within = omega (arith, weight-term i a b) }) tt;
  sum = fits-within {B = room} (record { within = omega (arith, weight-take i a b) }) tt;
  next = subst (λ z. SFits w64 z) (dot-suc i a b) (fits-within {B = room} (record { within = omega (arith, weight-take (suc i) a b) }) tt);
}

-- and where the entries are small
pub dot-turn : (a b : List ℤ) → ((k : ℕ) → Within 100000 (nth a k)) → ((k : ℕ) → Within 100000 (nth b k)) → (i : ℕ) → i ≤ most_coordinates → DotTurn a b i
dot-turn a b f g i h = record {
  left = fits-within (f i) tt;
  right = fits-within (g i) tt;
  product = fits-within product tt;
  sum = fits-within sum tt;
  next = fits-within (within-add sum product) tt;
}
  where
    product : Within (100000 * 100000) (nth a i *ℤ nth b i)
    product = within-mul (f i) (g i)

    sum : Within (most_coordinates * (100000 * 100000)) (dot (take i a) (take i b))
    sum = within-le (omega arith) (dot-within i a b f g)

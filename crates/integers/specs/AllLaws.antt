-- Laws of a property of every element and of some element, and how `map` meets `take`, places and repetition.
use Rattle.std.specs.Prelude.{◌≡◌, refl, List, [], ◌∷◌, ◌++◌, map, ℕ, zero, suc, ◌<◌, length, get_or, take, drop, replicate}
use Rattle.std.proofs.Common.{ap, inl, inr, arith, le_of_suc-le-suc, not-suc-le-zero}
use Rattle.integers.specs.All.{All, Some}

module _ {A : Type 0} (P : A → Type 0) where
  pub all_append : (k l : List A) → All P k → All P l → All P (k ++ l)
  all_append [] l p q = q
  all_append (a ∷ k) l p q = (p.0, all_append k l p.1 q)

  pub all_left : (k l : List A) → All P (k ++ l) → All P k
  all_left [] l p = tt
  all_left (a ∷ k) l p = (p.0, all_left k l p.1)

  pub all_right : (k l : List A) → All P (k ++ l) → All P l
  all_right [] l p = p
  all_right (a ∷ k) l p = all_right k l p.1

pub all_imp : {A : Type 0} {P Q : A → Type 0} → ((a : A) → P a → Q a) → (l : List A) → All P l → All Q l
all_imp f [] p = tt
all_imp f (a ∷ l) p = (f a p.0, all_imp f l p.1)

pub some_imp : {A : Type 0} {P Q : A → Type 0} → ((a : A) → P a → Q a) → (l : List A) → Some P l → Some Q l
some_imp f [] p = p
some_imp f (a ∷ l) (inl p) = inl (f a p)
some_imp f (a ∷ l) (inr p) = inr (some_imp f l p)

pub all_both : {A : Type 0} (P Q : A → Type 0) (l : List A) → All P l → All Q l → All (λ a. P a × Q a) l
all_both P Q [] p q = tt
all_both P Q (a ∷ l) p q = ((p.0, q.0), all_both P Q l p.1 q.1)

-- a property of every place
pub all-places : {A : Type 0} (P : A → Type 0) (l : List A) (d : A) → ((k : ℕ) → k < length l → P (get_or l k d)) → All P l
all-places P [] d h = tt
all-places P (a ∷ l) d h = (h 0 (omega arith), all-places P l d (λ k g. h (suc k) (omega arith)))

-- and of some place
pub some-place : {A : Type 0} (P : A → Type 0) (l : List A) (d : A) → Some P l → (k : ℕ) × (k < length l) × P (get_or l k d)
some-place P [] d h = absurd h
some-place P (a ∷ l) d (inl h) = (0, omega arith, h)
some-place P (a ∷ l) d (inr h) = let r = some-place P l d h in let k = r.1 in (suc r.0, omega arith, r.2)

module _ {A B : Type 0} (f : A → B) where
  pub take-map : (n : ℕ) (l : List A) → take n (map f l) ≡ map f (take n l)
  take-map zero l = refl
  take-map (suc n) [] = refl
  take-map (suc n) (a ∷ l) = ap (λ k. f a ∷ k) (take-map n l)

  pub drop-map : (n : ℕ) (l : List A) → drop n (map f l) ≡ map f (drop n l)
  drop-map zero l = refl
  drop-map (suc n) [] = refl
  drop-map (suc n) (a ∷ l) = drop-map n l

  pub get_d_map : (l : List A) (a : A) (b : B) (k : ℕ) → k < length l → get_or (map f l) k b ≡ f (get_or l k a)
  get_d_map [] a b k h = absurd (omega arith)
  get_d_map (x ∷ l) a b zero h = refl
  get_d_map (x ∷ l) a b (suc k) h = get_d_map l a b k (omega arith)

  pub map-append : (k l : List A) → map f (k ++ l) ≡ map f k ++ map f l
  map-append [] l = refl
  map-append (a ∷ k) l = ap (λ r. f a ∷ r) (map-append k l)

  pub map-replicate : (n : ℕ) (a : A) → map f (replicate n a) ≡ replicate n (f a)
  map-replicate zero a = refl
  map-replicate (suc n) a = ap (λ r. f a ∷ r) (map-replicate n a)

pub all_snoc : {A : Type 0} (P : A → Type 0) (l : List A) (a : A) → All P l → P a → All P (l ++ (a ∷ []))
all_snoc P [] a p q = (q, tt)
all_snoc P (b ∷ l) a p q = (p.0, all_snoc P l a p.1 q)

pub all_map : {A B : Type 0} (P : B → Type 0) (f : A → B) (l : List A) → All (λ a. P (f a)) l → All P (map f l)
all_map P f [] p = tt
all_map P f (a ∷ l) p = (p.0, all_map P f l p.1)

pub some-map : {A B : Type 0} (P : B → Type 0) (f : A → B) (l : List A) → Some (λ a. P (f a)) l → Some P (map f l)
some-map P f [] p = p
some-map P f (a ∷ l) (inl p) = inl p
some-map P f (a ∷ l) (inr p) = inr (some-map P f l p)

pub all-at : {A : Type 0} (P : A → Type 0) (l : List A) (d : A) → All P l → (k : ℕ) → k < length l → P (get_or l k d)
all-at P [] d p k h = absurd (not-suc-le-zero h)
all-at P (a ∷ l) d p zero h = p.0
all-at P (a ∷ l) d p (suc k) h = all-at P l d p.1 k (le_of_suc-le-suc h)

-- Arrays of which the first places are filled: the given members, then the empty one.
use Rattle.std.specs.Prelude.{◌≡◌, refl, Bool, ◌||◌, List, [], ◌∷◌, ◌++◌, map, ℕ, zero, suc, ◌+◌, ◌≤◌, ◌<◌, length, get_or, set, take}
use Rattle.std.proofs.Common.{sym, ap, ◌∙◌, le_of_suc-le-suc, not-suc-le-zero, le_of_lt, add-one, arith, length-take-le, take-suc}
use Rattle.std.proofs.lemmas.List.{length-map}
use Rattle.integers.specs.Every.{any}
use Rattle.integers.specs.Filled.{filled}

pub length-filled : {A : Type 0} (z : A) (n : ℕ) (l : List A) → length (filled z n l) ≡ n
length-filled z zero l = refl
length-filled z (suc n) [] = ap suc (length-filled z n [])
length-filled z (suc n) (x ∷ l) = ap suc (length-filled z n l)

-- the next place is filled
pub filled_next : {A : Type 0} (z : A) (n : ℕ) (l : List A) (x : A) → length l < n → set (filled z n l) (length l) x ≡ filled z n (l ++ (x ∷ []))
filled_next z zero l x h = absurd (not-suc-le-zero h)
filled_next z (suc n) [] x h = refl
filled_next z (suc n) (y ∷ l) x h = ap (λ k. y ∷ k) (filled_next z n l x (le_of_suc-le-suc h))

pub take-filled : {A : Type 0} (z : A) (n : ℕ) (l : List A) → length l ≤ n → take (length l) (filled z n l) ≡ l
take-filled z n [] h = refl
take-filled z zero (x ∷ l) h = absurd (not-suc-le-zero h)
take-filled z (suc n) (x ∷ l) h = ap (λ k. x ∷ k) (take-filled z n l (le_of_suc-le-suc h))

pub filled-all : {A : Type 0} (z : A) (l : List A) → filled z (length l) l ≡ l
filled-all z [] = refl
filled-all z (x ∷ l) = ap (λ k. x ∷ k) (filled-all z l)

pub map_snoc : {A B : Type 0} (f : A → B) (l : List A) (x : A) → map f l ++ (f x ∷ []) ≡ map f (l ++ (x ∷ []))
map_snoc f [] x = refl
map_snoc f (y ∷ l) x = ap (λ k. f y ∷ k) (map_snoc f l x)

pub any-map : {A B : Type 0} (p : B → Bool) (f : A → B) (l : List A) → any p (map f l) ≡ any (λ x. p (f x)) l
any-map p f [] = refl
any-map p f (x ∷ l) = ap (λ t. p (f x) || t) (any-map p f l)

-- one member more of those that a list has, each taken by f
pub filled_more : {A B : Type 0} (z : B) (n : ℕ) (f : A → B) (l : List A) (k : ℕ) (d : A) → k < n → k < length l
    → set (filled z n (map f (take k l))) k (f (get_or l k d)) ≡ filled z n (map f (take (k + 1) l))
filled_more z n f l k d h p =
    let long : length (map f (take k l)) ≡ k = length-map (take k l) f ∙ length-take-le k l (le_of_lt p) in
    ap (λ j. set (filled z n (map f (take k l))) j (f (get_or l k d))) (sym long)
    ∙ filled_next z n (map f (take k l)) (f (get_or l k d)) (omega (arith, long))
    ∙ ap (filled z n) (map_snoc f (take k l) (get_or l k d) ∙ ap (map f) (sym (take-suc l k d p) ∙ ap (λ j. take j l) (sym (add-one k))))

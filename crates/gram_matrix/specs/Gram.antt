-- The Gram matrix of a list of vectors under the row operations of the greedy steps: rows first, then columns.
use Rattle.std.specs.Prelude.{◌≡◌, refl, List, [], ◌∷◌, map, ℕ, zero, suc, ◌<◌, ℤ, negsuc, ◌+ℤ◌, ◌-ℤ◌, ◌*ℤ◌, length, get_or, set, take}
use Rattle.std.proofs.Common.{sym, ap, ap₂, ◌∙◌, arith}
use Rattle.std.proofs.Math.Path.{fun_ext}
use Rattle.std.proofs.lemmas.Simd.{map-map}
use Rattle.std.proofs.lemmas.List.{length-map}
use Rattle.integers.specs.Identity.{by_ring, reads}
use Rattle.integers.specs.AllLaws.{take-map, get_d_map}
use Rattle.integers.specs.ListLaws.{same, nth-⊕, nth-⊙, length-⊕, length-⊙}
use Rattle.lattices.specs.Vector.{Vec, N, nth, dot, ◌⊙◌, ◌⊖◌, comb}
use Rattle.lattices.specs.Laws.Vector.{dot_comm, bilinear, nil-dot, nth-dot, unit, against, comb-dot}
use Rattle.gram_matrix.specs.Order.{exchanged}
use Rattle.greedy_reduction.specs.Start.{Coordinates, comb-places}

-- row i: the inner products of every vector with vector i
abbrev pub gram_of : List Vec → List (List ℤ)
gram_of bs = map (against bs) bs

-- ---- rows that change places
pub map-exchanged : {A B : Type 0} (f : A → B) (j : ℕ) (l : List A) → map f (exchanged j l) ≡ exchanged j (map f l)
unfolding exchanged
map-exchanged f j [] = refl
map-exchanged f zero (p ∷ []) = refl
map-exchanged f zero (p ∷ q ∷ l) = refl
map-exchanged {B} f (suc j) (p ∷ l) = ap {B = List B} (λ k. f p ∷ k) (map-exchanged f j l)

pub against-map : (bs : List Vec) (w : Vec) → against bs w ≡ map (λ b. dot b w) bs
against-map [] w = refl
against-map (b ∷ bs) w = ap (λ l. dot b w ∷ l) (against-map bs w)

against-exchanged : (j : ℕ) (bs : List Vec) (w : Vec) → against (exchanged j bs) w ≡ exchanged j (against bs w)
against-exchanged j bs w = against-map (exchanged j bs) w ∙ map-exchanged (λ b. dot b w) j bs ∙ ap (exchanged j) (sym (against-map bs w))

-- rows j and j + 1 exchanged, then columns
pub gram-exchanged : (j : ℕ) (bs : List Vec) → gram_of (exchanged j bs) ≡ exchanged j (map (exchanged j) (gram_of bs))
gram-exchanged j bs = map-exchanged (against (exchanged j bs)) j bs
    ∙ ap (λ f. exchanged j (map f bs)) (fun_ext (against-exchanged j bs)) ∙ ap (exchanged j) (sym (map-map (exchanged j) (against bs) bs))

-- ---- row k loses the combination x of the rows before it
abbrev pub losing : List ℤ → List (List ℤ) → ℕ → List (List ℤ)
losing x t k = set t k (get_or t k [] ⊖ comb x (take k t))

-- entry k of a row loses the same combination of the entries before it
abbrev pub losing_entry : List ℤ → ℕ → List ℤ → List ℤ
losing_entry x k r = set r k (nth r k -ℤ dot x (take k r))

pub map-set : {A B : Type 0} (f : A → B) (l : List A) (k : ℕ) (a : A) → map f (set l k a) ≡ set (map f l) k (f a)
map-set f [] k a = refl
map-set f (x ∷ l) zero a = refl
map-set f (x ∷ l) (suc k) a = ap (λ m. f x ∷ m) (map-set f l k a)

pub nth-against : (bs : List Vec) (w : Vec) (i : ℕ) → nth (against bs w) i ≡ dot (get_or bs i []) w
nth-against [] w i = sym (nil-dot w)
nth-against (b ∷ bs) w zero = refl
nth-against (b ∷ bs) w (suc i) = nth-against bs w i

length-against : (bs : List Vec) (w : Vec) → length (against bs w) ≡ length bs
length-against [] w = refl
length-against (b ∷ bs) w = ap suc (length-against bs w)

take-against : (k : ℕ) (bs : List Vec) (w : Vec) → against (take k bs) w ≡ take k (against bs w)
take-against zero bs w = refl
take-against (suc k) [] w = refl
take-against (suc k) (b ∷ bs) w = ap (λ l. dot b w ∷ l) (take-against k bs w)

minus-dot : (u : Vec) (x : List ℤ) (vs : List Vec) (w : Vec) → dot (u ⊖ comb x vs) w ≡ dot u w -ℤ dot x (against vs w)
minus-dot u x vs w = simp (bilinear, comb-dot) (by_ring (dot u w ∷ dot x (against vs w) ∷ []) (search reads) (search reads) tt)

-- by columns: the inner products with w
against-losing : (x : List ℤ) (bs : List Vec) (k : ℕ) (w : Vec) → against (losing x bs k) w ≡ losing_entry x k (against bs w)
against-losing x bs k w = against-map (losing x bs k) w ∙ map-set (λ b. dot b w) bs k (get_or bs k [] ⊖ comb x (take k bs))
    ∙ ap₂ (λ l z. set l k z) (sym (against-map bs w))
    (minus-dot (get_or bs k []) x (take k bs) w ∙ ap₂ (λ a l. a -ℤ dot x l) (sym (nth-against bs w k)) (take-against k bs w))

-- by rows: a row of inner products is linear in its vector
pub coordinates-against : (bs vs : List Vec) → Coordinates (length bs) (map (against bs) vs)
coordinates-against bs [] = tt
coordinates-against bs (v ∷ vs) = (length-against bs v, coordinates-against bs vs)

pub nth-comb : (x : List ℤ) (ts : List (List ℤ)) (i : ℕ) → nth (comb x ts) i ≡ dot x (map (λ t. nth t i) ts)
nth-comb x ts i = nth-dot (comb x ts) i ∙ comb-dot x ts (unit i) ∙ ap (dot x) (against-map ts (unit i) ∙ ap (λ f. map f ts) (fun_ext (λ t. sym (nth-dot t i))))

against-minus : (bs : List Vec) (u : Vec) (x : List ℤ) (vs : List Vec) → against bs (u ⊖ comb x vs) ≡ against bs u ⊖ comb x (map (against bs) vs)
against-minus bs u x vs = same
    (length-against bs (u ⊖ comb x vs) ∙ sym (length-⊕ (against bs u) (negsuc 0 ⊙ comb x (map (against bs) vs))
    ∙ omega (arith, length-against bs u, length-⊙ (negsuc 0) (comb x (map (against bs) vs)), comb-places (length bs) x (map (against bs) vs) (coordinates-against bs vs))))
    (λ i. nth-against bs (u ⊖ comb x vs) i ∙ dot_comm (get_or bs i []) (u ⊖ comb x vs) ∙ minus-dot u x vs (get_or bs i [])
    ∙ ap₂ (λ a b. a -ℤ b) (dot_comm u (get_or bs i []) ∙ sym (nth-against bs u i)) (sym (products i))
    ∙ minus (nth (against bs u) i) (nth (comb x (map (against bs) vs)) i)
    ∙ sym (nth-⊕ (against bs u) (negsuc 0 ⊙ comb x (map (against bs) vs)) i ∙ ap (λ z. nth (against bs u) i +ℤ z) (nth-⊙ (negsuc 0) (comb x (map (against bs) vs)) i)))
  where
    minus : (a b : ℤ) → a -ℤ b ≡ a +ℤ negsuc 0 *ℤ b
    minus a b = by_ring (a ∷ b ∷ []) (search reads) (search reads) tt

    products : (i : ℕ) → nth (comb x (map (against bs) vs)) i ≡ dot x (against vs (get_or bs i []))
    products i = nth-comb x (map (against bs) vs) i
        ∙ ap (dot x) (map-map (λ t. nth t i) (against bs) vs ∙ ap (λ f. map f vs) (fun_ext (λ v. nth-against bs v i ∙ dot_comm (get_or bs i []) v)) ∙ sym (against-map vs (get_or bs i [])))

-- the rows alone: they are those of the vectors after the loss, against the vectors before it
pub rows-losing : (x : List ℤ) (bs : List Vec) (k : ℕ) → k < length bs → losing x (gram_of bs) k ≡ map (against bs) (losing x bs k)
rows-losing x bs k h = sym (map-set (against bs) bs k (get_or bs k [] ⊖ comb x (take k bs))
    ∙ ap (set (gram_of bs) k) (against-minus bs (get_or bs k []) x (take k bs)
    ∙ ap₂ (λ a l. a ⊖ comb x l) (sym (get_d_map (against bs) bs [] [] k h)) (sym (take-map (against bs) k bs))))

-- the table loses rows, then entries
pub gram-losing : (x : List ℤ) (bs : List Vec) (k : ℕ) → k < length bs → gram_of (losing x bs k) ≡ map (losing_entry x k) (losing x (gram_of bs) k)
gram-losing x bs k h =
    ap (λ f. map f (losing x bs k)) (fun_ext (against-losing x bs k))
    ∙ sym (map-map (losing_entry x k) (against bs) (losing x bs k))
    ∙ ap (map (losing_entry x k)) (map-set (against bs) bs k (get_or bs k [] ⊖ comb x (take k bs))
    ∙ ap (set (gram_of bs) k) (against-minus bs (get_or bs k []) x (take k bs)
    ∙ ap₂ (λ a l. a ⊖ comb x l) (sym (get_d_map (against bs) bs [] [] k h)) (sym (take-map (against bs) k bs))))

pub gram-length : (bs : List Vec) → length (gram_of bs) ≡ length bs
gram-length bs = length-map bs (against bs)

pub gram-diagonal : (bs : List Vec) (j : ℕ) → j < length bs → nth (get_or (gram_of bs) j []) j ≡ N (get_or bs j [])
gram-diagonal bs j h = ap (λ r. nth r j) (get_d_map (against bs) bs [] [] j h) ∙ nth-against bs (get_or bs j []) j

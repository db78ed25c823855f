-- The successive minima: among any i + 1 independent vectors of the lattice of a reduced list of at most four, some vector, so the
-- longest, is at least as long as the (i + 1)-th vector of the list (`successive`; places count from 0).
use Rattle.std.specs.Prelude.{◌≡◌, refl, ◌≢◌, ◌⊎◌, ℕ, zero, suc, ◌+◌, ◌-◌, ◌≤◌, ◌<◌, ℤ, pos, ◌≤ℤ◌, ◌<ℤ◌, length, get_or, take}
use Rattle.std.proofs.Common.{sym, ap, ◌∙◌, subst₂, inl, inr, ⊎_elim, zero-le, suc-le-suc, arith, length-take}
use mathlib.Core.List.{List, [], ◌∷◌, ◌++◌, reverse, reverse-cons}
use Rattle.std.proofs.Math.Decide.{dec_lt}
use Rattle.std.specs.Int.Signed.{≤ℤ_refl, <ℤ_irrefl}
use Rattle.std.proofs.lemmas.List.{length-reverse}
use Rattle.std.proofs.Math.ListN.{get_or-eq_default, get_or-append}
pub use Rattle.integers.specs.All.{All, Some}
use Rattle.integers.specs.Order.{≤ℤ_trans, ≤ℤ-or-<ℤ, ≤ℤ-<ℤ_trans, zero_or_not}
use Rattle.lattices.specs.Vector.{Vec, N, nth, comb, ◌⊙◌, In, Dependent, Independent}
use Rattle.lattices.specs.Laws.Vector.{◌≈◌, ≈_refl, ≈_sym, ≈_trans, ≈_of_≡, ≈-⊕, ≈-⊙, ≈-N, ≈-Zero, Zero-≈, nth-≈, N-nonneg, comb-⊕, comb-⊙, comb-≈, comb-nil, comb-none, comb-reverse}
use Rattle.exterior_algebra.specs.Dependence.{Fit, too_many}
use Rattle.successive_minima.specs.Reduced.{Descending, Reduced}
use Rattle.successive_minima.specs.Laws.ReducedLaws.{any, under}

-- ---- reduced lists, shortest vector first
get_d_last : {A : Type 0} (l : List A) (a d : A) → get_or (l ++ (a ∷ [])) (length l) d ≡ a
get_d_last [] a d = refl
get_d_last (x ∷ l) a d = get_d_last l a d

-- place i is place k of the reversed list, counted from the other end
get_d_reverse : {A : Type 0} (l : List A) (d : A) (i k : ℕ) → suc (i + k) ≡ length l → get_or (reverse l) k d ≡ get_or l i d
get_d_reverse [] d i k e = absurd (omega arith)
get_d_reverse (x ∷ l) d zero k e =
    ap (λ r. get_or r k d) (reverse-cons x l) ∙ ap (λ n. get_or (reverse l ++ (x ∷ [])) n d) (omega (arith, length-reverse l)) ∙ get_d_last (reverse l) x d
get_d_reverse (x ∷ l) d (suc i) k e =
    ap (λ r. get_or r k d) (reverse-cons x l) ∙ get_or-append (reverse l) (x ∷ []) d k (omega (arith, length-reverse l)) ∙ get_d_reverse l d i k (omega arith)

-- `Descending` says it by recursion, here it is by places: no later vector is longer
descending : (bs : List Vec) → Descending bs → (j k : ℕ) → j ≤ k → N (get_or bs k []) ≤ℤ N (get_or bs j [])
descending [] d j k h = ≤ℤ_refl (N [])
descending (b ∷ bs) d zero zero h = ≤ℤ_refl (N b)
descending (b ∷ bs) d zero (suc k) h = under bs d.0.longest (N-nonneg b) k
descending (b ∷ bs) d (suc j) zero h = absurd (omega arith)
descending (b ∷ bs) d (suc j) (suc k) h = descending bs d.1 j k (omega arith)

-- so a reduced list is ordered by length
pub ascending : (bs : List Vec) → Reduced bs → (j k : ℕ) → j ≤ k → k < length bs → N (get_or bs j []) ≤ℤ N (get_or bs k [])
ascending bs d j k h l = subst₂ ◌≤ℤ◌ (ap (λ v. N v) (get_d_reverse bs [] j (length bs - suc j) (omega arith))) (ap (λ v. N v) (get_d_reverse bs [] k (length bs - suc k) (omega arith)))
    (descending (reverse bs) d (length bs - suc k) (length bs - suc j) (omega arith))

-- a combination is at least as long as every vector up to the last that it uses
pub up-to-last : (bs : List Vec) → Reduced bs → length bs ≤ 4 → (x : List ℤ) → length x ≡ length bs → (i j : ℕ) → i ≤ j → nth x j ≢ pos 0 → N (get_or bs i []) ≤ℤ N (comb x bs)
up-to-last bs d l x c i j h f = by (dec_lt j (length bs))
  where
    m : ℕ
    m = length bs - suc j

    k : ℕ
    k = length bs - suc i

    by : Dec (j < length bs) → N (get_or bs i []) ≤ℤ N (comb x bs)
    by (no g) = absurd (f (get_or-eq_default x (pos 0) (omega arith)))
    by (yes g) = subst₂ ◌≤ℤ◌ (ap (λ v. N v) (get_d_reverse bs [] i k (omega arith))) (≈-N (comb-reverse x bs c))
        (≤ℤ_trans (descending (reverse bs) d m k (omega arith))
        (any (reverse bs) d (omega (arith, length-reverse bs)) (reverse x) m (λ e. f (sym (get_d_reverse x (pos 0) j m (omega arith)) ∙ e))))

-- ---- more than m combinations of m vectors are dependent
-- vs as combinations of the first m vectors of bs: the coefficient lists, and that a relation between them is one between vs
record Span (m : ℕ) (bs vs : List Vec) : Type 0 where
  lists : List Vec
  count : length lists ≡ length vs
  short : Fit m lists
  gives : (c : List ℤ) → comb (comb c lists) bs ≈ comb c vs

span_nil : (m : ℕ) (bs : List Vec) → Span m bs []
span_nil m bs = record {
  lists = [];
  count = refl;
  short = λ i. zero-le;
  gives = λ c. ≈_trans (comb-≈ bs (comb-none c)) (≈_trans (comb-nil bs) (≈_sym (comb-none c)));
}

span_cons : {m : ℕ} {bs vs : List Vec} {v : Vec} (x : List ℤ) → length x ≤ m → comb x bs ≈ v → Span m bs vs → Span m bs (v ∷ vs)
unfolding comb
span_cons {m} {bs} {vs} {v} x l e s = record { lists = x ∷ s.lists; count = ap suc s.count; short = short; gives = gives }
  where
    short : Fit m (x ∷ s.lists)
    short zero = l
    short (suc i) = s.short i

    gives : (c : List ℤ) → comb (comb c (x ∷ s.lists)) bs ≈ comb c (v ∷ vs)
    gives [] = ≈_refl
    gives (k ∷ c) = ≈_trans (comb-⊕ (k ⊙ x) (comb c s.lists) bs) (≈-⊕ (≈_trans (comb-⊙ k x bs) (≈-⊙ k e)) (s.gives c))

crowded : {m : ℕ} {bs vs : List Vec} → Span m bs vs → m < length vs → Dependent vs
crowded {m} {bs} {vs} s h = carry (too_many m s.lists s.short (omega (arith, s.count)))
  where
    carry : Dependent s.lists → Dependent vs
    carry d = record {
      coefficients = d.coefficients;
      count = d.count ∙ s.count;
      nonzero = d.nonzero;
      vanishes = ≈-Zero (≈_trans (≈_sym (s.gives d.coefficients)) (≈_trans (comb-≈ bs (Zero-≈ (comb d.coefficients s.lists) d.vanishes)) (comb-nil bs)));
    }

-- so no lattice holds more independent vectors than it has generators
span_all : (bs vs : List Vec) → All (In bs) vs → Span (length bs) bs vs
span_all bs [] h = span_nil (length bs) bs
span_all bs (v ∷ vs) h = span_cons h.0.coefficients (omega (arith, h.0.count)) (≈_of_≡ h.0.gives) (span_all bs vs h.1)

pub no_more : (bs vs : List Vec) → All (In bs) vs → Independent vs → length vs ≤ length bs
no_more bs vs h f = by (dec_lt (length bs) (length vs))
  where
    by : Dec (length bs < length vs) → length vs ≤ length bs
    by (yes k) = absurd (f (crowded (span_all bs vs h) k))
    by (no k) = omega arith

-- ---- the successive minima
-- zeros from place i on may be left out
nth-take : (i : ℕ) (x : List ℤ) → ((j : ℕ) → i ≤ j → nth x j ≡ pos 0) → (j : ℕ) → nth (take i x) j ≡ nth x j
nth-take zero x z j = sym (z j zero-le)
nth-take (suc i) [] z j = refl
nth-take (suc i) (a ∷ x) z zero = refl
nth-take (suc i) (a ∷ x) z (suc j) = nth-take i x (λ j h. z (suc j) (suc-le-suc h)) j

-- a vector of the lattice that is shorter than vector i is a combination of those before it
shorter : (bs : List Vec) → Reduced bs → length bs ≤ 4 → (i : ℕ) {v : Vec} (p : In bs v) → N v <ℤ N (get_or bs i []) → comb (take i p.coefficients) bs ≈ v
shorter bs d l i {v} p h = ≈_trans (comb-≈ bs (nth-≈ (take i x) x (nth-take i x zeros))) (≈_of_≡ p.gives)
  where
    x : List ℤ
    x = p.coefficients

    zeros : (j : ℕ) → i ≤ j → nth x j ≡ pos 0
    zeros j g = ⊎_elim (λ e. e)
        (λ f. absurd (<ℤ_irrefl (≤ℤ-<ℤ_trans (up-to-last bs d l x p.count i j g f) (rw p.gives h))))
        (zero_or_not (nth x j))

-- so either one of vs is long enough, or all of them are combinations of the first i
long-or_span : (bs : List Vec) → Reduced bs → length bs ≤ 4 → (i : ℕ) (vs : List Vec) → All (In bs) vs → Some (λ v. N (get_or bs i []) ≤ℤ N v) vs ⊎ Span i bs vs
long-or_span bs d l i [] a = inr (span_nil i bs)
long-or_span bs d l i (v ∷ vs) a = pick (≤ℤ-or-<ℤ (N (get_or bs i [])) (N v)) (long-or_span bs d l i vs a.1)
  where
    Long : List Vec → Type 0
    Long = Some (λ v. N (get_or bs i []) ≤ℤ N v)

    pick : (N (get_or bs i []) ≤ℤ N v) ⊎ (N v <ℤ N (get_or bs i [])) → Long vs ⊎ Span i bs vs → Long (v ∷ vs) ⊎ Span i bs (v ∷ vs)
    pick (inl h) r = inl (inl h)
    pick (inr h) (inl s) = inl (inr s)
    pick (inr h) (inr s) = let x = a.0.coefficients in inr (span_cons (take i x) (omega (arith, length-take i x)) (shorter bs d l i a.0 h) s)

-- of more than i independent vectors of the lattice some one is at least as long as vector i: else all would be combinations of the i
-- vectors before it, so dependent
pub successive : (bs : List Vec) → Reduced bs → length bs ≤ 4 → (vs : List Vec) → All (In bs) vs → Independent vs → (i : ℕ) → i < length vs → i < length bs → Some (λ v. N (get_or bs i []) ≤ℤ N v) vs
successive bs d l vs a f i h k = ⊎_elim (λ s. s) (λ s. absurd (f (crowded s h))) (long-or_span bs d l i vs a)

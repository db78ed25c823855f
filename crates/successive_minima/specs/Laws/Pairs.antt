-- Lists of vectors of which no two have an inner product above half of either squared length: all that the table of −1, 0, 1 needs of a
-- reduced list (`pairs-reduced`).
use Rattle.std.specs.Prelude.{◌≡◌, refl, ℕ, zero, suc, ◌<◌, ℤ, pos, neg_ℤ, ◌+ℤ◌, ◌*ℤ◌, ◌≤ℤ◌, get_or}
use Rattle.std.proofs.Common.{◌∙◌, subst, arith}
use mathlib.Core.List.{List, [], ◌∷◌, ◌++◌, reverse, reverse-cons}
use Rattle.integers.specs.Identity.{by_ring, reads}
use Rattle.integers.specs.Certificate.{NN, ◌⊞◌, le, eq, nn_ring}
use Rattle.lattices.specs.Vector.{Vec, N, dot, ◌⊕◌, ◌⊙◌, comb}
use Rattle.lattices.specs.Laws.Vector.{≈_refl, ≈-N, ≈-⊕, bilinear, dot_comm, dot-nil, nil-dot, N-nonneg}
use Rattle.successive_minima.specs.Reduced.{Under, Descending, Reduced}
use Rattle.successive_minima.specs.Laws.Descent.{Six}

-- ---- two vectors

-- 2|<b,c>| ≤ N b and 2|<b,c>| ≤ N c; k is 1 or −1
pub record Pair (b c : Vec) : Type 0 where
  pub left : (k : ℤ) → k *ℤ k ≡ pos 1 → NN (N b +ℤ pos 2 *ℤ (k *ℤ dot b c))
  pub right : (k : ℤ) → k *ℤ k ≡ pos 1 → NN (N c +ℤ pos 2 *ℤ (k *ℤ dot b c))

pub pair_sym : {b c : Vec} → Pair b c → Pair c b
pair_sym {b} {c} h = record { left = λ k e. rw (dot_comm c b) (h.right k e); right = λ k e. rw (dot_comm c b) (h.left k e) }

-- the zero vector goes with every vector
pub pair-nil : (b : Vec) → Pair b []
pair-nil b = record { left = λ k e. at b k (N-nonneg b); right = λ k e. at [] k (N-nonneg []) }
  where
    at : (v : Vec) (k : ℤ) → NN (N v) → NN (N v +ℤ pos 2 *ℤ (k *ℤ dot b []))
    at v k h = rw (dot-nil b) (nn_ring (N v ∷ k ∷ []) h (search reads) (search reads) tt)

-- signs do not matter
pub pair-sign : {b c : Vec} (s t : ℤ) → s *ℤ s ≡ pos 1 → t *ℤ t ≡ pos 1 → Pair b c → Pair (s ⊙ b) (t ⊙ c)
pair-sign {b} {c} s t d e h = record {
  left = λ k f. simp bilinear (at (N b) s k d (h.left (k *ℤ s *ℤ t) (unit k f)));
  right = λ k f. simp bilinear (at (N c) t k e (h.right (k *ℤ s *ℤ t) (unit k f)));
}
  where
    square : (k s t : ℤ) → k *ℤ s *ℤ t *ℤ (k *ℤ s *ℤ t) ≡ k *ℤ k *ℤ (s *ℤ s) *ℤ (t *ℤ t)
    square k s t = by_ring (k ∷ s ∷ t ∷ []) (search reads depth 8) (search reads depth 8) tt

    unit : (k : ℤ) → k *ℤ k ≡ pos 1 → k *ℤ s *ℤ t *ℤ (k *ℤ s *ℤ t) ≡ pos 1
    unit k f = square k s t ∙ rw (f, d, e)

    at : (n u k : ℤ) → u *ℤ u ≡ pos 1 → NN (n +ℤ pos 2 *ℤ (k *ℤ s *ℤ t *ℤ dot b c)) → NN (u *ℤ (u *ℤ n) +ℤ pos 2 *ℤ (k *ℤ (s *ℤ (t *ℤ dot b c))))
    at n u k f g = nn_ring (n ∷ u ∷ k ∷ s ∷ t ∷ dot b c ∷ []) (g ⊞ eq n f) (search reads depth 20) (search reads depth 20) tt

-- the longer of two, if no multiple of the other shortens it
pair_of : (b c : Vec) → N c ≤ℤ N b → ((k : ℤ) → N b ≤ℤ N (b ⊕ k ⊙ c)) → Pair b c
pair_of b c l h = record { left = λ k e. longer k (short k e); right = short }
  where
    short : (k : ℤ) → k *ℤ k ≡ pos 1 → NN (N c +ℤ pos 2 *ℤ (k *ℤ dot b c))
    short k e = nn_ring (N b ∷ N c ∷ dot b c ∷ k ∷ []) (le (simp (bilinear, dot_comm c b) at (h k)) ⊞ eq (neg_ℤ (N c)) e)
        (search reads depth 20) (search reads depth 20) tt

    longer : (k : ℤ) → NN (N c +ℤ pos 2 *ℤ (k *ℤ dot b c)) → NN (N b +ℤ pos 2 *ℤ (k *ℤ dot b c))
    longer k g = nn_ring (N b ∷ N c ∷ dot b c ∷ k ∷ []) (g ⊞ le l) (search reads depth 20) (search reads depth 20) tt

-- the Gram entries of three vectors
pub six : {b c d : Vec} → Pair b c → Pair b d → Pair c d → Six (N b) (N c) (N d) (dot b c) (dot b d) (dot c d)
six {b} {c} {d} bc bd cd = record {
  a = N-nonneg b;
  b = N-nonneg c;
  c = N-nonneg d;
  ab = plain (N b) (dot b c) (bc.left (pos 1) refl);
  ba = plain (N c) (dot b c) (bc.right (pos 1) refl);
  ac = plain (N b) (dot b d) (bd.left (pos 1) refl);
  ca = plain (N d) (dot b d) (bd.right (pos 1) refl);
  bc = plain (N c) (dot c d) (cd.left (pos 1) refl);
  cb = plain (N d) (dot c d) (cd.right (pos 1) refl);
}
  where
    plain : (n p : ℤ) → NN (n +ℤ pos 2 *ℤ (pos 1 *ℤ p)) → NN (n +ℤ pos 2 *ℤ p)
    plain n p h = nn_ring (n ∷ p ∷ []) h (search reads) (search reads) tt

-- ---- lists

-- b with every vector of the list
abbrev pub Paired : Vec → List Vec → Type 0
Paired b [] = Unit {0}
Paired b (c ∷ cs) = Pair b c × Paired b cs

-- every two of the list
abbrev pub Pairs : List Vec → Type 0
Pairs [] = Unit {0}
Pairs (b ∷ bs) = Paired b bs × Pairs bs

-- read by places, the zero vector behind the last
paired_at : (b : Vec) (bs : List Vec) → Paired b bs → (j : ℕ) → Pair b (get_or bs j [])
paired_at b [] p j = pair-nil b
paired_at b (c ∷ bs) p zero = p.0
paired_at b (c ∷ bs) p (suc j) = paired_at b bs p.1 j

pub pairs-at : (bs : List Vec) → Pairs bs → (i j : ℕ) → i < j → Pair (get_or bs i []) (get_or bs j [])
pairs-at [] p i j h = pair-nil []
pairs-at (b ∷ bs) p zero zero h = absurd (omega arith)
pairs-at (b ∷ bs) p zero (suc j) h = paired_at b bs p.0 j
pairs-at (b ∷ bs) p (suc i) zero h = absurd (omega arith)
pairs-at (b ∷ bs) p (suc i) (suc j) h = pairs-at bs p.1 i j (omega arith)

-- ---- reduced lists

paired : (b : Vec) (bs : List Vec) → Under (N b) bs → ((z : List ℤ) → N b ≤ℤ N (b ⊕ comb z bs)) → Paired b bs
unfolding comb
paired b [] u h = tt
paired b (c ∷ cs) u h = (pair_of b c u.0 (λ k. rw (multiple k) at (h (k ∷ []))), paired b cs u.1 (λ z. rw (skip z) at (h (pos 0 ∷ z))))
  where
    multiple : (k : ℤ) → N (b ⊕ (k ⊙ c ⊕ [])) ≡ N (b ⊕ k ⊙ c)
    multiple k = ≈-N (≈-⊕ ≈_refl (record { on = λ w. simp (bilinear, nil-dot) (by_ring (k ∷ dot c w ∷ []) (search reads) (search reads) tt) }))

    skip : (z : List ℤ) → N (b ⊕ (pos 0 ⊙ c ⊕ comb z cs)) ≡ N (b ⊕ comb z cs)
    skip z = ≈-N (≈-⊕ ≈_refl (record { on = λ w. simp bilinear (by_ring (dot c w ∷ dot (comb z cs) w ∷ []) (search reads) (search reads) tt) }))

pub pairs : (bs : List Vec) → Descending bs → Pairs bs
pairs [] d = tt
pairs (b ∷ bs) d = (paired b bs d.0.longest d.0.shortest, pairs bs d.1)

-- the order of the list does not matter
paired-last : (b c : Vec) (cs : List Vec) → Paired b (cs ++ (c ∷ [])) → Pair b c × Paired b cs
paired-last b c [] p = (p.0, tt)
paired-last b c (d ∷ cs) p =
    let q = paired-last b c cs p.1 in
    (q.0, (p.0, q.1))

pairs-last : (b : Vec) (cs : List Vec) → Pairs (cs ++ (b ∷ [])) → Paired b cs × Pairs cs
pairs-last b [] p = (tt, tt)
pairs-last b (c ∷ cs) p =
    let q = paired-last c b cs p.0 in
    let r = pairs-last b cs p.1 in
    ((pair_sym q.0, r.0), (q.1, r.1))

paired-reverse : (b : Vec) (cs : List Vec) → Paired b (reverse cs) → Paired b cs
paired-reverse b [] p = tt
paired-reverse b (c ∷ cs) p =
    let q = paired-last b c (reverse cs) (subst (Paired b) (reverse-cons c cs) p) in
    (q.0, paired-reverse b cs q.1)

pub pairs-reverse : (bs : List Vec) → Pairs (reverse bs) → Pairs bs
pairs-reverse [] p = tt
pairs-reverse (b ∷ bs) p =
    let q = pairs-last b (reverse bs) (subst Pairs (reverse-cons b bs) p) in
    (paired-reverse b bs q.0, pairs-reverse bs q.1)

pub pairs-reduced : (bs : List Vec) → Reduced bs → Pairs bs
pairs-reduced bs d = pairs-reverse bs (pairs (reverse bs) d)

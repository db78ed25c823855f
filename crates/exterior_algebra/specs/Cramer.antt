-- Cramer's rule without a sign: the combination of a list, put in the place of its vector j, multiplies the volume by coefficient j.
-- Hence the size of each coefficient of a combination of an independent list, and that steps and exchanges keep the squared volume.
use Rattle.std.specs.Prelude.{◌≡◌, refl, List, [], ◌∷◌, ℕ, zero, suc, ◌<◌, ℤ, pos, negsuc, neg_ℤ, ◌+ℤ◌, ◌*ℤ◌, length, set, ◌≤ℤ◌, ◌<ℤ◌}
use Rattle.std.proofs.Common.{sym, ap, ap₂, ◌∙◌, le_of_suc-le-suc, not-suc-le-zero}
use Rattle.std.proofs.Math.IntN.{zero-*ℤ}
use Rattle.integers.specs.Identity.{by_ring, reads}
use Rattle.integers.specs.Certificate.{◌⊞◌, ◌⊠◌, nn-sq, le, lt, eq, by_nn}
use Rattle.integers.specs.Ring.{pos-one-*ℤ, negsuc-zero-*ℤ}
use Rattle.lattices.specs.Vector.{Vec, nth, comb, ◌⊕◌, ◌⊙◌}
use Rattle.lattices.specs.Laws.Permutation.{Perm, same, skip, swap, then}
use Rattle.lattices.specs.Volume.{Index, Form, wedge, volume, squared_volume}
use Rattle.exterior_algebra.specs.Forms.{Lin, wedge-lin, wedge-step, wedge-nil, wedge-zero, Multiple, multiple_of, multiple-multiple, wedge-multiple, inner-multiple}
use Rattle.exterior_algebra.specs.Exterior.{anti, square}
use Rattle.exterior_algebra.specs.Hadamard.{product, hadamard}

-- the list with v in the place of its vector j
abbrev pub put : ℕ → Vec → List Vec → List Vec
put j v bs = set bs j v

-- ---- Cramer's rule

put_step : (j : ℕ) (k : ℤ) (b v : Vec) (bs : List Vec) → j < length bs
    → Lin k (volume (put j b bs)) (pos 1) (volume (put j v bs)) (volume (put j (k ⊙ b ⊕ v) bs))
put_step j k b v [] h = absurd (not-suc-le-zero h)
put_step zero k b v (c ∷ bs) h = wedge-step k b v (volume bs)
put_step (suc j) k b v (c ∷ bs) h = wedge-lin c (put_step j k b v bs (le_of_suc-le-suc h))

-- a product that is zero stays zero with another vector between
past : (a b : Vec) (ω : Form) → ((t : Index) → wedge a ω t ≡ pos 0) → (s : Index) → wedge a (wedge b ω) s ≡ pos 0
past a b ω p s = anti a b ω s ∙ ap neg_ℤ (wedge-zero b (wedge a ω) p s)

-- a vector twice
twice : (j : ℕ) (b : Vec) (bs : List Vec) → j < length bs → (s : Index) → wedge b (volume (put j b bs)) s ≡ pos 0
twice j b [] h s = absurd (not-suc-le-zero h)
twice zero b (c ∷ bs) h s = square b (volume bs) s
twice (suc j) b (c ∷ bs) h s = past b c (volume (put j b bs)) (twice j b bs (le_of_suc-le-suc h)) s

-- a combination beside its list
beside : (x : List ℤ) (bs : List Vec) (s : Index) → wedge (comb x bs) (volume bs) s ≡ pos 0
unfolding comb
beside [] bs s = wedge-nil (volume bs) s
beside (x ∷ xs) [] s = wedge-nil (volume []) s
beside (x ∷ xs) (b ∷ bs) s =
    (wedge-step x b (comb xs bs) (wedge b (volume bs))).lin s
    ∙ ap₂ (λ y z. x *ℤ y +ℤ pos 1 *ℤ z) (square b (volume bs) s) (past (comb xs bs) b (volume bs) (beside xs bs) s)
    ∙ by_ring (x ∷ []) (search reads) (search reads) tt

pub cramer : (j : ℕ) (x : List ℤ) (bs : List Vec) → j < length bs → (s : Index) → volume (put j (comb x bs) bs) s ≡ nth x j *ℤ volume bs s
unfolding comb
cramer j x [] h s = absurd (not-suc-le-zero h)
cramer zero [] (b ∷ bs) h s = wedge-nil (volume bs) s ∙ sym (zero-*ℤ (wedge b (volume bs) s))
cramer zero (x ∷ xs) (b ∷ bs) h s =
    (wedge-step x b (comb xs bs) (volume bs)).lin s
    ∙ ap (λ z. x *ℤ wedge b (volume bs) s +ℤ pos 1 *ℤ z) (beside xs bs s)
    ∙ by_ring (x ∷ wedge b (volume bs) s ∷ []) (search reads depth 20) (search reads depth 20) tt
cramer (suc j) [] (b ∷ bs) h s = (wedge-multiple b (multiple_of (pos 0) (volume bs) (cramer j [] bs (le_of_suc-le-suc h)))).multiple s
cramer (suc j) (x ∷ xs) (b ∷ bs) h s = before (multiple_of (nth xs j) (volume bs) (cramer j xs bs (le_of_suc-le-suc h)))
  where
    before : Multiple (nth xs j) (volume bs) (volume (put j (comb xs bs) bs))
        → wedge b (volume (put j (x ⊙ b ⊕ comb xs bs) bs)) s ≡ nth xs j *ℤ wedge b (volume bs) s
    before p =
        (wedge-lin b (put_step j x b (comb xs bs) bs (le_of_suc-le-suc h))).lin s
        ∙ ap₂ (λ y z. x *ℤ y +ℤ pos 1 *ℤ z) (twice j b bs (le_of_suc-le-suc h) s) ((wedge-multiple b p).multiple s)
        ∙ by_ring (x ∷ nth xs j ∷ wedge b (volume bs) s ∷ []) (search reads depth 20) (search reads depth 20) tt

pub cramer_sq : (m j : ℕ) (x : List ℤ) (bs : List Vec) → j < length bs → squared_volume m (put j (comb x bs) bs) ≡ nth x j *ℤ nth x j *ℤ squared_volume m bs
unfolding squared_volume
cramer_sq m j x bs h = inner-multiple m (multiple_of (nth x j) (volume bs) (cramer j x bs h))

-- the size of a coefficient
pub sizes : (m j : ℕ) (x : List ℤ) (bs : List Vec) → j < length bs → pos 0 <ℤ squared_volume m bs → (nth x j *ℤ nth x j) ≤ℤ product (put j (comb x bs) bs)
sizes m j x bs h p =
    by_nn (nth x j ∷ squared_volume m bs ∷ squared_volume m (put j (comb x bs) bs) ∷ product (put j (comb x bs) bs) ∷ [])
    (le (hadamard m (put j (comb x bs) bs)) ⊞ eq (pos 1) (cramer_sq m j x bs h) ⊞ nn-sq (nth x j) ⊠ lt p)
    (search reads depth 20) (search reads depth 20) tt

-- ---- what keeps the squared volume

pub step_keeps : (m j : ℕ) (x : List ℤ) (bs : List Vec) → j < length bs → nth x j ≡ pos 1 → squared_volume m (put j (comb x bs) bs) ≡ squared_volume m bs
step_keeps m j x bs h e =
    cramer_sq m j x bs h ∙ ap (λ c. c *ℤ c *ℤ squared_volume m bs) e ∙ pos-one-*ℤ (squared_volume m bs)

-- the volume of a rearrangement: the same up to the sign
pub record Signed (f g : Form) : Type 0 where
  pub sign : ℤ
  pub signed : sign *ℤ sign ≡ pos 1
  pub by_sign : Multiple sign f g

pub perm_signed : {ds bs : List Vec} → Perm ds bs → Signed (volume bs) (volume ds)
perm_signed (same bs) = record { sign = pos 1; signed = refl; by_sign = record { multiple = λ s. sym (pos-one-*ℤ (volume bs s)) } }
perm_signed (skip b p) =
    let q = perm_signed p in
    record { sign = q.sign; signed = q.signed; by_sign = wedge-multiple b q.by_sign }
perm_signed (swap b c bs) =
    record { sign = negsuc 0; signed = refl; by_sign = opposite }
  where
    opposite : Multiple (negsuc 0) (wedge c (wedge b (volume bs))) (wedge b (wedge c (volume bs)))
    opposite = record { multiple = λ s. anti b c (volume bs) s ∙ sym (negsuc-zero-*ℤ (wedge c (wedge b (volume bs)) s)) }
perm_signed (then {k = ds} {l = bs} {m = cs} p q) = join (perm_signed p) (perm_signed q)
  where
    join : Signed (volume bs) (volume ds) → Signed (volume cs) (volume bs) → Signed (volume cs) (volume ds)
    join u v =
        record {
          sign = u.sign *ℤ v.sign;
          signed = regroup u.sign v.sign ∙ ap₂ ◌*ℤ◌ u.signed v.signed;
          by_sign = multiple-multiple u.by_sign v.by_sign;
        }
      where
        regroup : (x y : ℤ) → x *ℤ y *ℤ (x *ℤ y) ≡ x *ℤ x *ℤ (y *ℤ y)
        regroup x y = by_ring (x ∷ y ∷ []) (search reads depth 20) (search reads depth 20) tt

pub perm_keeps : (m : ℕ) {ds bs : List Vec} → Perm ds bs → squared_volume m ds ≡ squared_volume m bs
unfolding squared_volume
perm_keeps m {ds} {bs} p =
    let q = perm_signed p in
    inner-multiple m q.by_sign ∙ ap (λ z. z *ℤ squared_volume m bs) q.signed ∙ pos-one-*ℤ (squared_volume m bs)

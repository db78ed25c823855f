-- The Gram matrix formed from vectors with rows of zeros behind them: it has zeros beyond them too.
use Rattle.std.specs.Prelude.{◌≡◌, refl, ℕ, zero, suc, ◌+◌, ◌≤◌, ◌<◌, ℤ, pos, get_or, set, take, replicate}
use Rattle.std.proofs.Math.Path.{sym, ap, ap₂}
use Rattle.std.proofs.Common.{◌∙◌, arith, length-take, get_or-take, get_or-set_same, get_or-set_other}
use mathlib.Core.List.{List, [], ◌∷◌, ◌++◌, map}
use Rattle.std.proofs.Math.Decide.{dec_lt, ℕ_discrete}
use Rattle.std.proofs.Math.ListN.{length, length-set, get_or-eq_default}
use Rattle.std.proofs.lemmas.List.{length-map}
use Rattle.std.proofs.Math.Seq.{ext_get_or}
use Rattle.integers.specs.AllLaws.{map-append, map-replicate}
use Rattle.integers.specs.Filled.{filled}
use Rattle.integers.specs.FilledLaws.{length-filled}
use Rattle.integers.specs.ListLaws.{same}
use Rattle.lattices.specs.Vector.{Vec, nth, dot}
use Rattle.lattices.specs.Laws.Vector.{against, dot_comm, ≈_refl, ≈-dot, nil-dot, dot-nil}
use Rattle.lattices.specs.Refusal.{most_coordinates}
use Rattle.lattices.specs.Answer.{padded}
use Rattle.lattices.specs.Laws.Answer.{padded-≈, nth-padded, length-padded}
use Rattle.gram_matrix.specs.Gram.{gram_of, against-map}
use Rattle.gram_matrix.specs.Cross.{entered, get_d_entered, length-entered}

-- the inner products of the vectors with v, and of all of them
abbrev pub products : List Vec → Vec → List ℤ
products bs v = padded 4 (map (λ w. dot w v) bs)

abbrev pub formed : List Vec → List (List ℤ)
formed bs = filled (padded 4 []) 4 (map (products bs) bs)

filled-append : {A : Type 0} (z : A) (n k : ℕ) (l : List A) → length l + k ≡ n → l ++ replicate k z ≡ filled z n l
filled-append z zero zero [] e = refl
filled-append z zero (suc k) [] e = absurd (omega arith)
filled-append z (suc n) zero [] e = absurd (omega arith)
filled-append z (suc n) (suc k) [] e = ap (λ l. z ∷ l) (filled-append z n k [] (omega arith))
filled-append z zero k (x ∷ l) e = absurd (omega arith)
filled-append {A} z (suc n) k (x ∷ l) e = ap {B = List A} (λ r. x ∷ r) (filled-append z n k l (omega arith))

zero-product : (w : Vec) → dot (padded most_coordinates []) w ≡ pos 0
zero-product w = ≈-dot (padded-≈ most_coordinates [] (omega arith)) (≈_refl {u = w}) ∙ nil-dot w

module _ (bs : List Vec) (n : ℕ) (four : length bs + n ≡ 4) where
  abbrev zs : List Vec
  zs = replicate n (padded most_coordinates [])

  row : (v : Vec) → against (bs ++ zs) v ≡ products bs v
  row v = against-map (bs ++ zs) v ∙ map-append (λ w. dot w v) bs zs
      ∙ ap (λ l. map (λ w. dot w v) bs ++ l) (map-replicate (λ w. dot w v) n (padded most_coordinates []) ∙ ap (replicate n) (zero-product v))
      ∙ filled-append (pos 0) 4 n (map (λ w. dot w v) bs) (omega (arith, length-map bs (λ w. dot w v)))

  zero_row : (l : List Vec) (m : ℕ) → padded m (map (λ w. dot w (padded most_coordinates [])) l) ≡ padded m []
  zero_row l zero = refl
  zero_row [] (suc m) = refl
  zero_row (w ∷ l) (suc m) = ap₂ ◌∷◌ (dot_comm w (padded most_coordinates []) ∙ zero-product w) (zero_row l m)

  each : (l : List Vec) → map (against (bs ++ zs)) l ≡ map (products bs) l
  each [] = refl
  each (v ∷ l) = ap₂ ◌∷◌ (row v) (each l)

  pub formed-is : gram_of (bs ++ zs) ≡ formed bs
  formed-is = each (bs ++ zs) ∙ map-append (products bs) bs zs
      ∙ ap (λ l. map (products bs) bs ++ l) (map-replicate (products bs) n (padded most_coordinates []) ∙ ap (replicate n) (zero_row bs 4))
      ∙ filled-append (padded 4 []) 4 n (map (products bs) bs) (omega (arith, length-map bs (products bs)))

-- ---- every entry, beyond the last too
pub nth-products : (bs : List Vec) (v : Vec) → length bs ≤ 4 → (j : ℕ) → nth (products bs v) j ≡ dot (get_or bs j []) v
nth-products bs v h j = nth-padded 4 (map (λ w. dot w v) bs) (omega (arith, length-map bs (λ w. dot w v))) j ∙ each bs j
  where
    each : (bs : List Vec) (j : ℕ) → nth (map (λ w. dot w v) bs) j ≡ dot (get_or bs j []) v
    each [] j = sym (nil-dot v)
    each (w ∷ bs) zero = refl
    each (w ∷ bs) (suc j) = each bs j

nth-filled : (f : Vec → List ℤ) (z : List ℤ) (n : ℕ) (l : List Vec) (m j : ℕ) → length l ≤ n → nth z j ≡ pos 0 → nth (f []) j ≡ pos 0 → nth (get_or (filled z n (map f l)) m []) j ≡ nth (f (get_or l m [])) j
nth-filled f z zero [] m j h p q = sym q
nth-filled f z zero (x ∷ l) m j h p q = absurd (omega arith)
nth-filled f z (suc n) [] zero j h p q = p ∙ sym q
nth-filled f z (suc n) [] (suc m) j h p q = nth-filled f z n [] m j (omega arith) p q
nth-filled f z (suc n) (x ∷ l) zero j h p q = refl
nth-filled f z (suc n) (x ∷ l) (suc m) j h p q = nth-filled f z n l m j (omega arith) p q

pub nth-formed : (bs : List Vec) → length bs ≤ 4 → (m j : ℕ) → nth (get_or (formed bs) m []) j ≡ dot (get_or bs j []) (get_or bs m [])
nth-formed bs h m j = nth-filled (products bs) (padded 4 []) 4 bs m j h (nth-padded 4 [] (omega arith) j) (nth-products bs [] h j ∙ dot-nil (get_or bs j [])) ∙ nth-products bs (get_or bs m []) h j

rows-wide : (f : Vec → List ℤ) (z : List ℤ) (n : ℕ) (l : List Vec) (m : ℕ) → m < n → length z ≡ 4 → ((v : Vec) → length (f v) ≡ 4) → length (get_or (filled z n (map f l)) m []) ≡ 4
rows-wide f z zero l m h p q = absurd (omega arith)
rows-wide f z (suc n) [] zero h p q = p
rows-wide f z (suc n) [] (suc m) h p q = rows-wide f z n [] m (omega arith) p q
rows-wide f z (suc n) (x ∷ l) zero h p q = q x
rows-wide f z (suc n) (x ∷ l) (suc m) h p q = rows-wide f z n l m (omega arith) p q

pub formed-wide : (bs : List Vec) (m : ℕ) → m < 4 → length (get_or (formed bs) m []) ≡ 4
formed-wide bs m h = rows-wide (products bs) (padded 4 []) 4 bs m h refl (λ v. length-padded 4 (map (λ w. dot w v) bs))

-- the row behind the last is still of zeros
get_d_filled : {A : Type 0} (z d : A) (n : ℕ) (l : List A) (i : ℕ) → length l ≤ i → i < n → get_or (filled z n l) i d ≡ z
get_d_filled z d zero l i h k = absurd (omega arith)
get_d_filled z d (suc n) [] zero h k = refl
get_d_filled z d (suc n) [] (suc i) h k = get_d_filled z d n [] i (omega arith) (omega arith)
get_d_filled z d (suc n) (x ∷ l) zero h k = absurd (omega arith)
get_d_filled z d (suc n) (x ∷ l) (suc i) h k = get_d_filled z d n l i (omega arith) (omega arith)

pub zeros-behind : (b : List Vec) (i : ℕ) → i < 4 → get_or (formed (take i b)) i [] ≡ padded 4 []
zeros-behind b i h = get_d_filled (padded 4 []) [] 4 (map (products (take i b)) (take i b)) i (omega (arith, length-map (take i b) (products (take i b)), length-take i b)) h

-- ---- one vector more: its row and its column
module _ (b : List Vec) (i : ℕ) (h : i < length b) (four : length b ≤ 4) where
  abbrev now : List Vec
  now = take (suc i) b

  abbrev r : List ℤ
  r = products now (get_or b i [])

  now-few : length now ≤ 4
  now-few = omega (arith, length-take (suc i) b)

  before-few : length (take i b) ≤ 4
  before-few = omega (arith, length-take i b)

  own : get_or now i [] ≡ get_or b i []
  own = get_or-take (suc i) b i [] (omega arith)

  other : (j : ℕ) → (j ≡ i → ⊥) → get_or (take i b) j [] ≡ get_or now j []
  other j e = pick (dec_lt j i)
    where
      pick : Dec (j < i) → get_or (take i b) j [] ≡ get_or now j []
      pick (yes l) = get_or-take i b j [] l ∙ sym (get_or-take (suc i) b j [] (omega arith))
      pick (no l) = get_or-eq_default (take i b) [] (omega (arith, length-take i b, l)) ∙ sym (get_or-eq_default now [] (omega (arith, length-take (suc i) b, l, e)))

  table : List (List ℤ)
  table = set (formed (take i b)) i r

  table-count : length table ≡ 4
  unfolding table
  table-count = length-set (formed (take i b)) i r ∙ length-filled (padded 4 []) 4 (map (products (take i b)) (take i b))

  at : (m : ℕ) → m < 4 → length (get_or table m []) ≡ 4
  unfolding table
  at m l = pick (ℕ_discrete m i)
    where
      pick : Dec (m ≡ i) → length (get_or (set (formed (take i b)) i r) m []) ≡ 4
      pick (yes e) = rw e (ap length (get_or-set_same (formed (take i b)) i r [] (omega (arith, length-filled (padded 4 []) 4 (map (products (take i b)) (take i b))))) ∙ length-padded 4 (map (λ w. dot w (get_or b i [])) now))
      pick (no e) = ap length (get_or-set_other (formed (take i b)) i m r [] e) ∙ formed-wide (take i b) m l

  entry : (m j : ℕ) → (j ≡ i → ⊥) → nth (get_or table m []) j ≡ dot (get_or now j []) (get_or now m [])
  unfolding table
  entry m j f = pick (ℕ_discrete m i)
    where
      pick : Dec (m ≡ i) → nth (get_or (set (formed (take i b)) i r) m []) j ≡ dot (get_or now j []) (get_or now m [])
      pick (yes e) = rw e (ap (λ l. nth l j) (get_or-set_same (formed (take i b)) i r [] (omega (arith, length-filled (padded 4 []) 4 (map (products (take i b)) (take i b)))))
          ∙ nth-products now (get_or b i []) now-few j ∙ ap (dot (get_or now j [])) (sym own))
      pick (no e) = ap (λ l. nth l j) (get_or-set_other (formed (take i b)) i m r [] e) ∙ nth-formed (take i b) before-few m j ∙ ap₂ dot (other j f) (other m e)

  row-grown : (m : ℕ) → m < 4 → set (get_or table m []) i (nth r m) ≡ get_or (formed now) m []
  row-grown m l = same (length-set (get_or table m []) i (nth r m) ∙ at m l ∙ sym (formed-wide now m l)) (λ j. pick j (ℕ_discrete j i))
    where
      pick : (j : ℕ) → Dec (j ≡ i) → nth (set (get_or table m []) i (nth r m)) j ≡ nth (get_or (formed now) m []) j
      pick j (yes e) = rw e (get_or-set_same (get_or table m []) i (nth r m) (pos 0) (omega (arith, at m l, h, four)) ∙ nth-products now (get_or b i []) now-few m
          ∙ dot_comm (get_or now m []) (get_or b i []) ∙ ap (λ v. dot v (get_or now m [])) (sym own) ∙ sym (nth-formed now now-few m i))
      pick j (no e) = get_or-set_other (get_or table m []) i j (nth r m) (pos 0) e ∙ entry m j e ∙ sym (nth-formed now now-few m j)

  pub grown : entered i r (set (formed (take i b)) i r) ≡ formed (take (suc i) b)
  unfolding table
  grown = ext_get_or [] (entered i r table) (formed now) (length-entered i r table ∙ table-count ∙ sym (length-filled (padded 4 []) 4 (map (products now) now)))
      (λ m l. get_d_entered i r table m ∙ row-grown m (omega (arith, length-entered i r table, table-count)))

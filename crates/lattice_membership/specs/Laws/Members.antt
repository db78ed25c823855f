-- The coefficients of a vector of the lattice are whole and small quotients, and with them nothing of the vector is left.
use Rattle.std.specs.Prelude.{◌≡◌, refl, ◌≢◌, Bool, true, false, not, ◌&&◌, ◌||◌, List, [], ◌∷◌, ◌++◌, map, ℕ, zero, suc, ◌+◌, ◌*◌, ◌-◌, ◌/◌, ◌%◌, ◌≤◌, ◌<◌, leb, ℤ, pos, negsuc, nat_abs, ◌+ℤ◌, ◌*ℤ◌, length, get_or, take, ◌≤ℤ◌}
use Rattle.std.proofs.Common.{sym, ap, ap₂, ◌∙◌, subst, true≢false, div-le_self, add-one, arith, leb→le, length-take, take-suc, get_or-take, le-leb, leb-false}
use Rattle.std.proofs.lemmas.Bool.{false≢true, lt-leb}
use Rattle.std.proofs.Math.Nat.{mul-mod_left, mod-le}
use Rattle.std.proofs.Math.Decide.{dec_lt}
use Rattle.std.proofs.lemmas.List.{length-map}
use Rattle.std.proofs.Math.ListN.{get_or-eq_default}
use Rattle.std.specs.Int.Signed.{quot_z, rem_z, le_z, le_z_yes}
use Rattle.integers.specs.Identity.{by_ring, by-eq, reads}
use Rattle.integers.specs.AllLaws.{get_d_map}
use Rattle.integers.specs.Every.{any, every}
use Rattle.integers.specs.ListLaws.{same}
use Rattle.integers.specs.Order.{≤ℤ_trans}
use Rattle.integers.specs.Size.{Within, within-le, within-sub, within-mul, size-neg, size-mul, root-within}
use Rattle.integers.specs.Tests.{both, true_T}
use Rattle.lattices.specs.Vector.{Vec, N, Zero, nth, dot, comb, ◌⊕◌, ◌⊙◌, ◌⊖◌}
use Rattle.lattices.specs.Laws.Vector.{◌≈◌, ≈_sym, ≈_trans, ≈_of_≡, ≈-N, ≈-nth, ≈-Zero, Zero-≈, bilinear, nil-dot, comb-nil, comb_snoc, ⊖-zero}
use Rattle.lattices.specs.Answer.{padded}
use Rattle.lattices.specs.Laws.Answer.{length-padded}
use Rattle.lattices.specs.Refusal.{most_vectors}
use Rattle.exterior_algebra.specs.Cramer.{cramer}
use Rattle.exterior_algebra.specs.Hadamard.{minor}
use Rattle.exterior_algebra.specs.Sizes.{product-≤}
use Rattle.input_checks.specs.Lengths.{short-within}
use Rattle.lattice_membership.specs.Nonzero.{nonzero}
use Rattle.input_checks.specs.Any.{any_none}
use Rattle.input_checks.specs.Choice.{four_at}
use Rattle.input_checks.specs.FirstMinor.{picked-small}
use Rattle.successive_minima.specs.Member.{is_member, Member}
use Rattle.successive_minima.specs.Laws.Members.{member_is, is_member_lem}
use Rattle.successive_minima.specs.Laws.Solving.{quot_exact, reduced-within}
use Rattle.row_operations.specs.Dot.{weight, dot-weight, weight-most_right}
use Rattle.row_operations.specs.Minus.{nth-minus, room}
use Rattle.lattice_membership.specs.declared.Lattice.{Lattice}
use Rattle.lattice_membership.specs.Known.{Known, vectors_in, row_in, quotients_of, most_times, is_whole}

-- ---- a whole multiple

pub is-nonzero : (x : ℤ) → x ≢ pos 0 → nonzero x ≡ true
is-nonzero (pos zero) f = absurd (f refl)
is-nonzero (pos (suc n)) f = refl
is-nonzero (negsuc n) f = refl

rem_size : (z y : ℤ) → nat_abs (rem_z z y) ≡ nat_abs z % nat_abs y
rem_size (pos a) y = refl
rem_size (negsuc a) y = size-neg (pos (suc a % nat_abs y))

size-zero : (z : ℤ) → nat_abs z ≡ 0 → z ≡ pos 0
size-zero (pos n) e = ap pos e
size-zero (negsuc n) e = absurd (omega arith)

rem_exact : (x m : ℤ) → rem_z (x *ℤ m) m ≡ pos 0
rem_exact x m = size-zero (rem_z (x *ℤ m) m) (rem_size (x *ℤ m) m ∙ ap (λ n. n % nat_abs m) (size-mul x m) ∙ mul-mod_left (nat_abs x) (nat_abs m))

quot-size : (x y : ℤ) → nat_abs (quot_z x y) ≤ nat_abs x
quot-size (pos a) (pos b) = div-le_self a b
quot-size (pos a) (negsuc b) = omega (arith, size-neg (pos (a / suc b)), div-le_self a (suc b))
quot-size (negsuc a) (pos b) = omega (arith, size-neg (pos (suc a / b)), div-le_self (suc a) b)
quot-size (negsuc a) (negsuc b) = div-le_self (suc a) (suc b)

pub quot-within : {B : ℕ} (x y : ℤ) → Within B x → Within B (quot_z x y)
quot-within x y h = record { within = omega (arith, quot-size x y, h.within) }

pub rem_within : {B : ℕ} (x y : ℤ) → Within B x → Within B (rem_z x y)
rem_within x y h = record { within = omega (arith, rem_size x y, mod-le (nat_abs x) (nat_abs y), h.within) }

pub divisor-pos : (n : ℕ) → (n ≡ 0 → ⊥) → 0 < n
divisor-pos zero h = absurd (h refl)
divisor-pos (suc n) h = omega arith

pub not-whole : (n m : ℤ) → rem_z n m ≢ pos 0 → is_whole n m ≡ false
not-whole n m h = ap (λ t. not t && leb (nat_abs (quot_z n m)) most_times) (is-nonzero (rem_z n m) h)

pub whole-by-size : (n m : ℤ) → rem_z n m ≡ pos 0 → is_whole n m ≡ leb (nat_abs (quot_z n m)) most_times
whole-by-size n m e = ap (λ r. not (nonzero r) && leb (nat_abs (quot_z n m)) most_times) e

whole_exact : (x m : ℤ) → m ≢ pos 0 → nat_abs x ≤ most_times → is_whole (x *ℤ m) m ≡ true
whole_exact x m h k = ap₂ (λ r q. not (nonzero r) && leb (nat_abs q) most_times) (rem_exact x m) (quot_exact x m h) ∙ le-leb (nat_abs x) most_times k

pub whole-within : (n m : ℤ) → is_whole n m ≡ true → Within most_times (quot_z n m)
whole-within n m e = record { within = leb→le (nat_abs (quot_z n m)) most_times (true_T (both (not (nonzero (rem_z n m))) (leb (nat_abs (quot_z n m)) most_times) e).1) }

-- the test as code makes it
pub within_low : (x : ℤ) → le_z (negsuc 1079999) x ≡ false → leb (nat_abs x) most_times ≡ false
within_low (pos n) e = absurd (true≢false e)
within_low (negsuc n) e = lt-leb (suc n) 1080000 (omega (arith, leb-false n 1079999 e))

pub within-high : (x : ℤ) → le_z (negsuc 1079999) x ≡ true → le_z x (pos 1080000) ≡ leb (nat_abs x) most_times
within-high (pos n) e = refl
within-high (negsuc n) e = sym (le-leb (suc n) 1080000 (omega (arith, leb→le n 1079999 (true_T e))))

-- ---- picking sees coordinates only

pick_same : (u v : Vec) → ((i : ℕ) → nth u i ≡ nth v i) → (l : List ℕ) → map (nth u) l ≡ map (nth v) l
pick_same u v h [] = refl
pick_same u v h (i ∷ l) = ap₂ ◌∷◌ (h i) (pick_same u v h l)

-- ---- tests

same_test : (s t : Bool) → (s ≡ true → t ≡ true) → (t ≡ true → s ≡ true) → s ≡ t
same_test true t f g = sym (f refl)
same_test false true f g = g refl
same_test false false f g = refl

pub not_true : (b : Bool) → not b ≡ true → b ≡ false
not_true true e = absurd (false≢true e)
not_true false e = refl

nonzero_false : (x : ℤ) → nonzero x ≡ false → x ≡ pos 0
nonzero_false (pos zero) e = refl
nonzero_false (pos (suc n)) e = absurd (true≢false e)
nonzero_false (negsuc n) e = absurd (true≢false e)

zero-any : (v : Vec) → Zero v → any nonzero v ≡ false
zero-any [] h = refl
zero-any (x ∷ v) h = ap₂ ◌||◌ (ap nonzero (h 0)) (zero-any v (λ i. h (suc i)))

-- ---- what is left of v

difference : (v u : Vec) → Zero (v ⊖ u) → u ≈ v
difference v u z = record { on = λ w. law (dot v w) (dot u w) (sym (simp bilinear) ∙ (Zero-≈ (v ⊖ u) z).on w ∙ nil-dot w) }
  where
    law : (a b : ℤ) → a +ℤ negsuc 0 *ℤ b ≡ pos 0 → b ≡ a
    law a b h = by-eq (a ∷ b ∷ []) (negsuc 0) h (search reads) (search reads) tt

no_difference : (v u : Vec) → u ≈ v → v ⊖ u ≈ []
no_difference v u e = record { on = λ w. simp (bilinear, e.on w, nil-dot) (by_ring (dot v w ∷ []) (search reads) (search reads) tt) }

-- one more vector is taken away
pub left-more : {r : Vec} (v : Vec) (qs : List ℤ) (ws : List Vec) (j : ℕ) → j < length qs → j < length ws → r ≈ v ⊖ comb (take j qs) (take j ws)
    → r ⊖ nth qs j ⊙ get_or ws j [] ≈ v ⊖ comb (take (j + 1) qs) (take (j + 1) ws)
left-more {r} v qs ws j h k e = record { on = at }
  where
    q : ℤ
    q = nth qs j

    b : Vec
    b = get_or ws j []

    u : Vec
    u = comb (take j qs) (take j ws)

    next : comb (take (j + 1) qs) (take (j + 1) ws) ≈ q ⊙ b ⊕ u
    next = ≈_trans
        (≈_of_≡ (ap (λ n. comb (take n qs) (take n ws)) (add-one j) ∙ ap₂ comb (take-suc qs j (pos 0) h) (take-suc ws j [] k)))
        (comb_snoc (take j qs) (take j ws) q b (omega (arith, length-take j qs, length-take j ws)))

    minus : (x y w : Vec) → dot (x ⊖ y) w ≡ dot x w +ℤ negsuc 0 *ℤ dot y w
    minus x y w = simp bilinear

    times : (w : Vec) → dot (q ⊙ b ⊕ u) w ≡ q *ℤ dot b w +ℤ dot u w
    times w = simp bilinear

    multiple : (w : Vec) → dot (q ⊙ b) w ≡ q *ℤ dot b w
    multiple w = simp bilinear

    at : (w : Vec) → dot (r ⊖ q ⊙ b) w ≡ dot (v ⊖ comb (take (j + 1) qs) (take (j + 1) ws)) w
    at w =
        minus r (q ⊙ b) w ∙ ap₂ (λ x y. x +ℤ negsuc 0 *ℤ y) (e.on w ∙ minus v u w) (multiple w)
        ∙ by_ring (dot v w ∷ dot u w ∷ q ∷ dot b w ∷ []) (search reads depth 20) (search reads depth 20) tt
        ∙ sym (minus v (comb (take (j + 1) qs) (take (j + 1) ws)) w ∙ ap (λ z. dot v w +ℤ negsuc 0 *ℤ z) (next.on w ∙ times w))

pub left-none : (v : Vec) (qs : List ℤ) (ws : List Vec) → v ≈ v ⊖ comb (take 0 qs) (take 0 ws)
left-none v qs ws = ≈_sym (⊖-zero v {v = comb [] []} (comb-nil []))

-- ---- a lattice

module _ (l : Lattice) (k : Known l) where
  long : length (vectors_in l) ≡ l.d
  long = omega (arith, length-take l.d l.vectors, k.four.0, k.few)

  few : length (vectors_in l) ≤ 4
  few = omega (arith, long, k.few)

  pub minor-within : Within 160000000000000000 l.minor
  minor-within = subst (Within 160000000000000000) (sym k.at-index)
      (root-within (≤ℤ_trans (minor (vectors_in l) k.index) (product-≤ (pos 400000000) (le_z_yes tt) 4 (vectors_in l) few k.short)))

-- ---- a lattice and a vector within the length limit

module _ (l : Lattice) (k : Known l) (v : Vec) (limit : N v ≤ℤ pos 400000000) where
  abbrev pub p : List ℤ
  p = four_at l.choice v

  -- the numerators, and the quotients
  abbrev pub top : ℕ → ℤ
  top j = dot (row_in l j) p

  abbrev pub quotients : List ℤ
  quotients = quotients_of l p

  pub coordinates-small : (c : ℕ) → Within 20000 (nth p c)
  coordinates-small = picked-small v (short-within v limit) most_vectors (take most_vectors l.choice)

  -- a numerator fits
  top-weight : (j : ℕ) → j < l.d → weight (row_in l j) p ≤ 4 * (48000000000000 * 20000)
  top-weight j h = weight-most_right 4 (row_in l j) p (omega (arith, length-padded 4 (map (nth v) (take most_vectors l.choice)))) (λ c. within-mul ((k.rows j h).small c) (coordinates-small c))

  pub top-room : (j : ℕ) → j < l.d → weight (row_in l j) p ≤ room
  top-room j h = omega (arith, top-weight j h)

  pub top-within : (j : ℕ) → j < l.d → Within 3840000000000000000 (top j)
  top-within j h = record { within = omega (arith, top-weight j h, dot-weight (row_in l j) p) }

  pub quotient_at : (j : ℕ) → j < 4 → nth quotients j ≡ quot_z (top j) l.minor
  quotient_at j h = get_d_map (λ row. quot_z (dot row p) l.minor) l.cofactors [] (pos 0) j (omega (arith, k.four.1))

  top-is : (m : Member (vectors_in l) v) (j : ℕ) → j < l.d → top j ≡ nth m.coefficients j *ℤ l.minor
  top-is m j h =
      let bs = vectors_in l in
      let x = m.coefficients in
      ap (λ q. dot (row_in l j) (padded most_vectors q)) (pick_same v (comb x bs) (λ i. sym (≈-nth m.gives i)) (take most_vectors l.choice))
      ∙ (k.rows j h).give (comb x bs) ∙ cramer j x bs (omega (arith, long l k)) k.index ∙ ap (λ z. nth x j *ℤ z) (sym k.at-index)

  coefficient_small : (m : Member (vectors_in l) v) (j : ℕ) → nat_abs (nth m.coefficients j) ≤ most_times
  coefficient_small m j = reduced-within (vectors_in l) k.reduced (few l k) m.coefficients m.count (subst (λ n. n ≤ℤ pos 400000000) (sym (≈-N m.gives)) limit) j

  -- a quotient that is not whole, or too large
  pub not-member : (j : ℕ) → j < l.d → is_whole (top j) l.minor ≡ false → false ≡ is_member (vectors_in l) v
  not-member j h e = same_test false (is_member (vectors_in l) v) (λ q. absurd (false≢true q)) (λ q. absurd (true≢false (sym (whole (member_is (vectors_in l) v q)) ∙ e)))
    where
      whole : Member (vectors_in l) v → is_whole (top j) l.minor ≡ true
      whole m = ap (λ n. is_whole n l.minor) (top-is m j h) ∙ whole_exact (nth m.coefficients j) l.minor k.nonzero (coefficient_small m j)

  coefficients-are : (m : Member (vectors_in l) v) → take l.d quotients ≡ m.coefficients
  coefficients-are m = same (length-quotients ∙ sym (m.count ∙ long l k)) (λ i. at i (dec_lt i l.d))
    where
      length-quotients : length (take l.d quotients) ≡ l.d
      length-quotients = omega (arith, length-take l.d quotients, length-map l.cofactors (λ row. quot_z (dot row p) l.minor), k.four.1, k.few)

      at : (i : ℕ) → Dec (i < l.d) → nth (take l.d quotients) i ≡ nth m.coefficients i
      at i (yes h) = get_or-take l.d quotients i (pos 0) h ∙ quotient_at i (omega (arith, k.few)) ∙ ap (λ n. quot_z n l.minor) (top-is m i h) ∙ quot_exact (nth m.coefficients i) l.minor k.nonzero
      at i (no f) = get_or-eq_default (take l.d quotients) (pos 0) (omega (arith, length-quotients, f)) ∙ sym (get_or-eq_default m.coefficients (pos 0) (omega (arith, m.count, long l k, f)))

  -- all that is left decides
  pub left_decides : {r : Vec} → r ≈ v ⊖ comb (take l.d quotients) (vectors_in l) → not (any nonzero r) ≡ is_member (vectors_in l) v
  left_decides {r} e = same_test (not (any nonzero r)) (is_member (vectors_in l) v) to from
    where
      u : Vec
      u = comb (take l.d quotients) (vectors_in l)

      to : not (any nonzero r) ≡ true → is_member (vectors_in l) v ≡ true
      to q = is_member_lem (vectors_in l) k.reduced (few l k) v (record {
        coefficients = take l.d quotients;
        count = omega (arith, length-take l.d quotients, length-map l.cofactors (λ row. quot_z (dot row p) l.minor), k.four.1, k.few, long l k);
        gives = difference v u (λ i. sym (≈-nth e i) ∙ nonzero_false (nth r i) (any_none nonzero (pos 0) refl r (not_true (any nonzero r) q) i));
      })

      from : is_member (vectors_in l) v ≡ true → not (any nonzero r) ≡ true
      from q =
          let m = member_is (vectors_in l) v q in
          let same-vector : u ≈ v = ≈_trans (≈_of_≡ (ap (λ x. comb x (vectors_in l)) (coefficients-are m))) m.gives in
          ap not (zero-any r (≈-Zero (≈_trans e (no_difference v u same-vector))))

  -- ---- what fits in a turn

  -- vector j as the array holds it
  abbrev pub vector_at : ℕ → Vec
  vector_at j = get_or l.vectors j []

  vector-small : (j : ℕ) → j < l.d → (i : ℕ) → Within 20000 (nth (vector_at j) i)
  vector-small j h = short-within (vector_at j) (subst (λ b. N b ≤ℤ pos 400000000) (get_or-take l.d l.vectors j [] h) (k.short j))

  module _ (j : ℕ) (h : j < l.d) (r : Vec) (small : (i : ℕ) → Within (20000 + j * 21600000000) (nth r i)) (e : is_whole (top j) l.minor ≡ true) where
    abbrev pub q : ℤ
    q = quot_z (top j) l.minor

    multiple-small : (i : ℕ) → Within (most_times * 20000) (q *ℤ nth (vector_at j) i)
    multiple-small i = within-mul (whole-within (top j) l.minor e) (vector-small j h i)

    pub turn-room : (i : ℕ) → nat_abs (nth r i) + nat_abs (q *ℤ nth (vector_at j) i) ≤ room
    turn-room i = omega (arith, (small i).within, (multiple-small i).within, k.few)

    pub turn_small : (i : ℕ) → Within (20000 + (j + 1) * 21600000000) (nth (r ⊖ q ⊙ vector_at j) i)
    turn_small i = subst (Within (20000 + (j + 1) * 21600000000)) (sym (nth-minus r q (vector_at j) i)) (within-le (omega arith) (within-sub (small i) (multiple-small i)))

    pub turn-left : r ≈ v ⊖ comb (take j quotients) (take j l.vectors) → r ⊖ q ⊙ vector_at j ≈ v ⊖ comb (take (j + 1) quotients) (take (j + 1) l.vectors)
    turn-left f = ≈_trans (≈_of_≡ (ap (λ z. r ⊖ z ⊙ vector_at j) (sym (quotient_at j (omega (arith, k.few))))))
        (left-more v quotients l.vectors j
        (omega (arith, length-map l.cofactors (λ row. quot_z (dot row p) l.minor), k.four.1, k.few))
        (omega (arith, k.four.0, k.few)) f)

-- ---- a list of vectors, from the last on

and_true : (b : Bool) → (b && true) ≡ b
and_true true = refl
and_true false = refl

every_last : {A : Type 0} (f : A → Bool) (l : List A) (x : A) → every f (l ++ (x ∷ [])) ≡ (every f l && f x)
every_last f [] x = and_true (f x)
every_last f (y ∷ l) x = ap (λ t. f y && t) (every_last f l x) ∙ and_assoc (f y) (every f l) (f x)
  where
    and_assoc : (a b c : Bool) → (a && (b && c)) ≡ ((a && b) && c)
    and_assoc true b c = refl
    and_assoc false b c = refl

module _ {A : Type 0} (f : A → Bool) (l : List A) (x : A) (i : ℕ) (h : 0 < i) (k : i ≤ length l) where
  last : every f (take i l) ≡ (every f (take (i - 1) l) && f (get_or l (i - 1) x))
  last =
      let n : i ≡ suc (i - 1) = omega arith in
      ap (λ j. every f (take j l)) n ∙ ap (every f) (take-suc l (i - 1) x (omega arith)) ∙ every_last f (take (i - 1) l) (get_or l (i - 1) x)

  pub every_more : f (get_or l (i - 1) x) ≡ true → every f (take i l) ≡ every f (take (i - 1) l)
  every_more e = last ∙ ap (λ t. every f (take (i - 1) l) && t) e ∙ and_true (every f (take (i - 1) l))

  pub every_not : f (get_or l (i - 1) x) ≡ false → every f (take i l) ≡ false
  every_not e = last ∙ ap (λ t. every f (take (i - 1) l) && t) e ∙ and_false (every f (take (i - 1) l))
    where
      and_false : (b : Bool) → (b && false) ≡ false
      and_false true = refl
      and_false false = refl

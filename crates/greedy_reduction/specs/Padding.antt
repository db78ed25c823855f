-- Vectors and tables filled up with zeros reduce to the reduction filled up with zeros: what the engine computes on arrays of fixed
-- width is the definition's answer.
use Rattle.std.proofs.Math.Path.{◌≡◌, refl, sym, ap, ap₂, fun_ext}
use Rattle.std.proofs.Common.{◌∙◌, subst, arith}
use Rattle.std.specs.Prelude.{Bool, pos, negsuc, nat_abs, ◌+ℤ◌, ◌*ℤ◌, length}
use Rattle.std.proofs.Math.Bool.{true, false}
use mathlib.Core.List.{List, [], ◌∷◌, ◌++◌, map, reverse, reverse_aux, tail}
use Prim.Native.Nat.{ℕ, zero, suc, ◌≤◌}
use Rattle.std.proofs.Math.IntN.{ℤ}
use Rattle.std.specs.Int.Signed.{lt_z, le_z}
use Rattle.integers.specs.ListLaws.{same, nth-⊕, nth-⊙, length-⊕, length-⊙}
use Rattle.lattices.specs.Vector.{Vec, N, ◌⊕◌, ◌⊙◌, ◌⊖◌, comb}
use Rattle.lattices.specs.Laws.Vector.{◌≈◌, ≈_refl, ≈_sym, ≈_trans, ≈-⊕, ≈-⊙, ≈-≡, ≈-N}
use Rattle.lattices.specs.Laws.Permutation.{perm_length}
use Rattle.lattices.specs.Nearest.{outward, least, nearest, least_by, nearest_by}
use Rattle.lattices.specs.Greedy.{Row, vectors, insert, order, last_of, before, less, credited, Counted, Pass, pass, round, shorter, joined, repeat, total, greedy, greedy_by, insert_by, order_by}
use Rattle.lattices.specs.Answer.{padded}
use Rattle.lattices.specs.Laws.Answer.{length-padded, nth-padded, padded-≈}
use Rattle.greedy_reduction.specs.Moves.{Moves, Moving, order_perm, before_last, length_before, moves-length, ordered_moves, greedy-moves}
use Rattle.greedy_reduction.specs.Fuel.{stop, again}
use Rattle.integers.specs.All.{All}
use Rattle.integers.specs.AllLaws.{all_left, all_right, map-append}
use Rattle.greedy_reduction.specs.Every.{all_perm}
use Rattle.greedy_reduction.specs.Start.{Sized, Coordinates, comb-places, sized-vectors, sized-us, moves-sized}

-- ---- padding is linear
pub padded-⊕ : (n : ℕ) (u v : Vec) → length u ≤ n → length v ≤ n → padded n (u ⊕ v) ≡ padded n u ⊕ padded n v
padded-⊕ n u v h k = same
    (length-padded n (u ⊕ v) ∙ sym (length-⊕ (padded n u) (padded n v) ∙ omega (arith, length-padded n u, length-padded n v)))
    (λ i. nth-padded n (u ⊕ v) (omega (arith, length-⊕ u v)) i ∙ nth-⊕ u v i
    ∙ sym (nth-⊕ (padded n u) (padded n v) i ∙ ap₂ ◌+ℤ◌ (nth-padded n u h i) (nth-padded n v k i)))

pub padded-⊙ : (n : ℕ) (q : ℤ) (v : Vec) → length v ≤ n → padded n (q ⊙ v) ≡ q ⊙ padded n v
padded-⊙ n q v h = same
    (length-padded n (q ⊙ v) ∙ sym (length-⊙ q (padded n v) ∙ length-padded n v))
    (λ i. nth-padded n (q ⊙ v) (omega (arith, length-⊙ q v)) i ∙ nth-⊙ q v i ∙ sym (nth-⊙ q (padded n v) i ∙ ap (λ s. q *ℤ s) (nth-padded n v h i)))

pub padded-⊖ : (n : ℕ) (u v : Vec) → length u ≤ n → length v ≤ n → padded n (u ⊖ v) ≡ padded n u ⊖ padded n v
padded-⊖ n u v h k = padded-⊕ n u (negsuc 0 ⊙ v) h (omega (arith, length-⊙ (negsuc 0) v)) ∙ ap (λ l. padded n u ⊕ l) (padded-⊙ n (negsuc 0) v k)

pub padded-N : (n : ℕ) (v : Vec) → length v ≤ n → N (padded n v) ≡ N v
padded-N n v h = ≈-N (padded-≈ n v h)

pub padded-coordinates : (n : ℕ) (bs : List Vec) → Coordinates n (map (padded n) bs)
padded-coordinates n [] = tt
padded-coordinates n (b ∷ bs) = (length-padded n b, padded-coordinates n bs)

pub comb-padded : (n m : ℕ) → m ≤ n → (x : List ℤ) (bs : List Vec) → Coordinates m bs → comb x (map (padded n) bs) ≈ comb x bs
unfolding comb
comb-padded n m k [] bs c = ≈_refl
comb-padded n m k (x ∷ xs) [] c = ≈_refl
comb-padded n m k (x ∷ xs) (b ∷ bs) c = both (≈-⊙ x (padded-≈ n b (omega (arith, c.0)))) (comb-padded n m k xs bs c.1)
  where
    both : {u v y z : Vec} → u ≈ v → y ≈ z → (u ⊕ y) ≈ (v ⊕ z)
    both e f = ≈-⊕ e f

pub padded-minus : (n m : ℕ) → m ≤ n → (a : Vec) → length a ≤ n → (x : List ℤ) (bs : List Vec) → Coordinates m bs → padded n (a ⊖ comb x bs) ≡ padded n a ⊖ comb x (map (padded n) bs)
padded-minus n m k a h x bs c = ≈-≡ (padded n (a ⊖ comb x bs)) (padded n a ⊖ comb x (map (padded n) bs))
    (length-padded n (a ⊖ comb x bs) ∙ sym (length-⊕ (padded n a) (negsuc 0 ⊙ comb x (map (padded n) bs))
    ∙ omega (arith, length-padded n a, length-⊙ (negsuc 0) (comb x (map (padded n) bs)), comb-places n x (map (padded n) bs) (padded-coordinates n bs))))
    (≈_trans (padded-≈ n (a ⊖ comb x bs) (omega (arith, length-⊕ a (negsuc 0 ⊙ comb x bs), length-⊙ (negsuc 0) (comb x bs), comb-places m x bs c)))
    (≈-⊕ (≈_sym (padded-≈ n a h)) (≈-⊙ (negsuc 0) (≈_sym (comb-padded n m k x bs c)))))

-- ---- the nearest vector of padded vectors
least-padded : (n m : ℕ) → m ≤ n → (bs : List Vec) → Coordinates m bs → (t : Vec) → length t ≡ m → least (map (padded n) bs) (padded n t) ≡ least bs t
unfolding least_by
least-padded n m k [] c t e = ap (λ s. s ∷ []) (padded-N n t (omega arith))
least-padded n m k (b ∷ bs) c t e = congruent
    (fun_ext (λ j. ap (λ l. l ++ (j ∷ [])) (ap (least (map (padded n) bs)) (shifted j) ∙ least-padded n m k bs c.1 (t ⊖ j ⊙ b) (places j))))
    (fun_ext (λ j. ap₂ (λ p q. le_z (j *ℤ j *ℤ p) (pos 16 *ℤ q)) (padded-N n b (omega (arith, c.0))) (padded-N n t (omega arith))))
    (ap (λ q. suc (nat_abs (pos 16 *ℤ q))) (padded-N n t (omega arith)))
  where
    congruent : {f g : ℤ → List ℤ} {p q : ℤ → Bool} {a b : ℕ} → f ≡ g → p ≡ q → a ≡ b → outward f p a 1 (f (pos 0)) ≡ outward g q b 1 (g (pos 0))
    congruent {f} {g} {p} {q} {a} {b} u v w =
        ap (λ h. outward h p a 1 (h (pos 0))) u ∙ ap (λ r. outward g r a 1 (g (pos 0))) v ∙ ap (λ x. outward g q x 1 (g (pos 0))) w

    shifted : (j : ℤ) → padded n t ⊖ j ⊙ padded n b ≡ padded n (t ⊖ j ⊙ b)
    shifted j = sym (padded-⊖ n t (j ⊙ b) (omega arith) (omega (arith, length-⊙ j b, c.0)) ∙ ap (λ l. padded n t ⊖ l) (padded-⊙ n j b (omega (arith, c.0))))

    places : (j : ℤ) → length (t ⊖ j ⊙ b) ≡ m
    places j = length-⊕ t (negsuc 0 ⊙ j ⊙ b) ∙ omega (arith, length-⊙ (negsuc 0) (j ⊙ b), length-⊙ j b, c.0)

reverse-map : {A B : Type 0} (f : A → B) (l r : List A) → reverse_aux (map f l) (map f r) ≡ map f (reverse_aux l r)
reverse-map f [] r = refl
reverse-map f (x ∷ l) r = reverse-map f l (x ∷ r)

reverse-coordinates : (m : ℕ) (bs cs : List Vec) → Coordinates m bs → Coordinates m cs → Coordinates m (reverse_aux bs cs)
reverse-coordinates m [] cs h k = k
reverse-coordinates m (b ∷ bs) cs h k = reverse-coordinates m bs (b ∷ cs) h.1 (h.0, k)

pub nearest-padded : (n m : ℕ) → m ≤ n → (bs : List Vec) → Coordinates m bs → (t : Vec) → length t ≡ m → nearest (map (padded n) bs) (padded n t) ≡ nearest bs t
unfolding nearest_by
nearest-padded n m k bs c t e =
    ap tail (ap (λ l. least l (padded n t)) (reverse-map (padded n) bs []) ∙ least-padded n m k (reverse bs) (reverse-coordinates m bs [] c tt) t e)

-- ---- rows filled up: vectors to w numbers, rows of U and columns of V to h
module _ (w h m d : ℕ) (wide : m ≤ w) (high : d ≤ h) where
  unfoldable pub pad : Row → Row
  pad r = record { vector = padded w r.vector; u = padded h r.u; v = padded h r.v }

  abbrev pub Fits : List Row → Type 0
  Fits = All (Sized m d)

  pad-vectors : (rows : List Row) → vectors (map pad rows) ≡ map (padded w) (vectors rows)
  unfolding pad
  pad-vectors [] = refl
  pad-vectors (r ∷ rows) = ap (λ l. padded w r.vector ∷ l) (pad-vectors rows)

  pad-us : (rows : List Row) → map (λ r. r.u) (map pad rows) ≡ map (padded h) (map (λ r. r.u) rows)
  unfolding pad
  pad-us [] = refl
  pad-us (r ∷ rows) = ap (λ l. padded h r.u ∷ l) (pad-us rows)

  pad-N : (r : Row) → Sized m d r → N (pad r).vector ≡ N r.vector
  unfolding pad
  pad-N r s = padded-N w r.vector (omega (arith, s.vector))

  insert-padded : (r : Row) (rows : List Row) → Sized m d r → Fits rows → insert (pad r) (map pad rows) ≡ map pad (insert r rows)
  unfolding insert_by
  insert-padded r [] s f = refl
  insert-padded r (q ∷ rows) s f =
      ap₂ {C = List Row} (λ a b. elim (lt_z a b) [ true ↦ pad q ∷ insert (pad r) (map pad rows) | false ↦ pad r ∷ (pad q ∷ map pad rows) ]) (pad-N q f.0) (pad-N r s)
      ∙ go (lt_z (N q.vector) (N r.vector)) (insert-padded r rows s f.1)
    where
      go : (b : Bool) → insert (pad r) (map pad rows) ≡ map pad (insert r rows)
          → ◌≡◌ {A = List Row} (elim b [ true ↦ pad q ∷ insert (pad r) (map pad rows) | false ↦ pad r ∷ (pad q ∷ map pad rows) ])
          (map pad (elim b [ true ↦ q ∷ insert r rows | false ↦ r ∷ (q ∷ rows) ]))
      go true e = ap (λ l. pad q ∷ l) e
      go false e = refl

  order-padded : (rows : List Row) → Fits rows → order (map pad rows) ≡ map pad (order rows)
  unfolding order_by
  order-padded [] f = refl
  order-padded (r ∷ rows) f = ap (insert (pad r)) (order-padded rows f.1) ∙ insert-padded r (order rows) f.0 (all_perm (Sized m d) (order_perm rows) f.1)

  last-padded : (r : Row) (rows : List Row) → last_of (pad r) (map pad rows) ≡ pad (last_of r rows)
  last-padded r [] = refl
  last-padded r (s ∷ rows) = last-padded s rows

  before-padded : (r : Row) (rows : List Row) → before (pad r) (map pad rows) ≡ map pad (before r rows)
  before-padded r [] = refl
  before-padded r (s ∷ rows) = ap (λ l. pad r ∷ l) (before-padded s rows)

  less-padded : (x : List ℤ) (rows : List Row) (r : Row) → Fits rows → Sized m d r → less x (map pad rows) (pad r) ≡ pad (less x rows r)
  unfolding pad
  less-padded x rows r f s = λ i. record { vector = vector_path i; u = u_path i; v = padded h r.v }
    where
      vector_path : padded w r.vector ⊖ comb x (vectors (map pad rows)) ≡ padded w (r.vector ⊖ comb x (vectors rows))
      vector_path = ap (λ l. padded w r.vector ⊖ comb x l) (pad-vectors rows)
          ∙ sym (padded-minus w m wide r.vector (omega (arith, s.vector)) x (vectors rows) (sized-vectors m d rows f))

      u_path : padded h r.u ⊖ comb x (map (λ r. r.u) (map pad rows)) ≡ padded h (r.u ⊖ comb x (map (λ r. r.u) rows))
      u_path = ap (λ l. padded h r.u ⊖ comb x l) (pad-us rows)
          ∙ sym (padded-minus h d high r.u (omega (arith, s.u)) x (map (λ r. r.u) rows) (sized-us m d rows f))

  credited-padded : (x : List ℤ) (s : Row) (rows : List Row) → Sized m d s → Fits rows → credited x (pad s).v (map pad rows) ≡ map pad (credited x s.v rows)
  unfolding credited pad
  credited-padded [] s rows z f = refl
  credited-padded (x ∷ xs) s [] z f = refl
  credited-padded (x ∷ xs) s (r ∷ rows) z f = ap₂ ◌∷◌ (λ i. record { vector = padded w r.vector; u = padded h r.u; v = v_path i }) (credited-padded xs s rows z f.1)
    where
      v_path : padded h r.v ⊕ x ⊙ padded h s.v ≡ padded h (r.v ⊕ x ⊙ s.v)
      v_path = sym (padded-⊕ h r.v (x ⊙ s.v) (omega (arith, f.0.v)) (omega (arith, length-⊙ x s.v, z.v)) ∙ ap (λ l. padded h r.v ⊕ l) (padded-⊙ h x s.v (omega (arith, z.v))))

  -- ---- the steps
  unfoldable pub pad-counted : Counted → Counted
  pad-counted c = record { rows = map pad c.rows; passes = c.passes }

  pad-pass : Pass → Pass
  pad-pass p = record { first = map pad p.first; last = pad p.last; passes = p.passes }

  pass-padded : (c : Counted) (r : Row) → Fits c.rows → Sized m d r → pass (pad-counted c) (pad r) ≡ pad-pass (pass c r)
  unfolding pad-counted pad-pass pad
  pass-padded c r f s = same-x ∙ (λ i. record { first = credited-padded x r c.rows s f i; last = less-padded x c.rows r f s i; passes = suc c.passes })
    where
      x : List ℤ
      x = nearest (vectors c.rows) r.vector

      found : nearest (vectors (map pad c.rows)) (padded w r.vector) ≡ x
      found = ap (λ l. nearest l (padded w r.vector)) (pad-vectors c.rows)
          ∙ nearest-padded w m wide (vectors c.rows) (sized-vectors m d c.rows f) r.vector s.vector

      same-x : pass (pad-counted c) (pad r) ≡ record { first = credited x (pad r).v (map pad c.rows); last = less x (map pad c.rows) (pad r); passes = suc c.passes }
      same-x = ap (λ y. record { first = credited y (pad r).v (map pad c.rows); last = less y (map pad c.rows) (pad r); passes = suc c.passes }) found

  shorter-padded : (r : Row) (rows : List Row) → Sized m d r → Fits rows → shorter (pad r) (map pad rows) ≡ shorter r rows
  shorter-padded r [] s f = refl
  shorter-padded r (q ∷ rows) s f = ap₂ lt_z (pad-N r s) (ap (λ l. N l.vector) (last-padded q rows) ∙ pad-N (last_of q rows) (last_fits q rows f))
    where
      last_fits : (q : Row) (rows : List Row) → Fits (q ∷ rows) → Sized m d (last_of q rows)
      last_fits q [] f = f.0
      last_fits q (r ∷ rows) f = last_fits r rows f.1

  total-padded : (rows : List Row) → Fits rows → total (map pad rows) ≡ total rows
  total-padded [] f = refl
  total-padded (r ∷ rows) f = ap₂ ◌+ℤ◌ (pad-N r f.0) (total-padded rows f.1)

  -- `reduce` gives padded rows for padded rows
  abbrev pub Padding : ℕ → (List Row → Counted) → Type 0
  Padding k reduce = (rows : List Row) → length rows ≡ k → Fits rows → reduce (map pad rows) ≡ pad-counted (reduce rows)

  round-padded : (k : ℕ) (reduce : List Row → Counted) → Moving k reduce → Padding k reduce → (rows : List Row) → length rows ≡ suc k → Fits rows
      → round reduce (map pad rows) ≡ pad-pass (round reduce rows)
  round-padded k reduce mv pd [] e f = absurd (omega arith)
  round-padded k reduce mv pd (r ∷ rows) e f =
      ap₂ (λ b l. pass (reduce b) l) (before-padded r rows) (last-padded r rows)
      ∙ ap (λ c. pass c (pad (last_of r rows))) (pd (before r rows) count fits)
      ∙ pass-padded (reduce (before r rows)) (last_of r rows) (moves-sized m d (mv (before r rows) count) fits) (all_right (Sized m d) (before r rows) (last_of r rows ∷ []) whole).0
    where
      count : length (before r rows) ≡ k
      count = length_before r rows ∙ omega arith

      whole : Fits (before r rows ++ (last_of r rows ∷ []))
      whole = subst Fits (sym (before_last r rows)) f

      fits : Fits (before r rows)
      fits = all_left (Sized m d) (before r rows) (last_of r rows ∷ []) whole

  joined-padded : (p : Pass) → joined (pad-pass p) ≡ map pad (joined p)
  unfolding pad-pass
  joined-padded p = sym (map-append pad p.first (p.last ∷ []))

  settle : Bool → Pass → Counted → Counted
  settle b p c = elim b [ false ↦ stop p | true ↦ again p c ]

  settle-padded : (b : Bool) (p : Pass) (c : Counted) → settle b (pad-pass p) (pad-counted c) ≡ pad-counted (settle b p c)
  unfolding settle pad-pass pad-counted
  settle-padded false p c = ap (λ l. record { rows = l; passes = p.passes }) (sym (map-append pad p.first (p.last ∷ [])))
  settle-padded true p c = refl

  repeat-padded : (k : ℕ) (reduce : List Row → Counted) → Moving k reduce → Padding k reduce → (fuel : ℕ) (rows : List Row) → length rows ≡ suc k → Fits rows
      → repeat reduce fuel (map pad rows) ≡ pad-counted (repeat reduce fuel rows)
  unfolding settle pad-counted pad-pass
  repeat-padded k reduce mv pd zero rows e f = refl
  repeat-padded k reduce mv pd (suc fuel) rows e f =
      ap (λ q. settle (shorter q.last q.first) q (repeat reduce fuel (joined q))) same-pass
      ∙ ap₂ (λ b c. settle b (pad-pass p) c) (shorter-padded p.last p.first last_fits first_fits) (ap (repeat reduce fuel) same_rows ∙ repeat-padded k reduce mv pd fuel (joined p) (sym (moves-length moves) ∙ e) all_fit)
      ∙ settle-padded (shorter p.last p.first) p (repeat reduce fuel (joined p))
    where
      p : Pass
      p = round reduce (order rows)

      moves : Moves rows (joined p)
      moves = ordered_moves k reduce mv rows e

      all_fit : Fits (joined p)
      all_fit = moves-sized m d moves f

      first_fits : Fits p.first
      first_fits = all_left (Sized m d) p.first (p.last ∷ []) all_fit

      last_fits : Sized m d p.last
      last_fits = (all_right (Sized m d) p.first (p.last ∷ []) all_fit).0

      same-pass : round reduce (order (map pad rows)) ≡ pad-pass p
      same-pass = ap (round reduce) (order-padded rows f)
          ∙ round-padded k reduce mv pd (order rows) (sym (perm_length (order_perm rows)) ∙ e) (all_perm (Sized m d) (order_perm rows) f)

      same_rows : joined (pad-pass p) ≡ map pad (joined p)
      same_rows = joined-padded p

  pub greedy-padded : (k : ℕ) → Padding k (greedy k)
  unfolding greedy_by pad-counted
  greedy-padded zero rows e f = refl
  greedy-padded (suc zero) rows e f = refl
  greedy-padded (suc (suc k)) rows e f =
      ap (λ t. repeat (greedy (suc k)) (suc (nat_abs t)) (map pad rows)) (total-padded rows f)
      ∙ repeat-padded (suc k) (greedy (suc k)) (greedy-moves (suc k)) (greedy-padded (suc k)) (suc (nat_abs (total rows))) rows e f

-- The tables at the start are unit tables, and every row keeps its numbers of places.
use Rattle.std.specs.Prelude.{◌≡◌, refl, List, [], ◌∷◌, map, ℕ, zero, suc, ◌≤◌, ◌<◌, ℤ, pos, negsuc, ◌+ℤ◌, ◌*ℤ◌, length, get_or, replicate}
use Rattle.std.proofs.Common.{sym, ap, ap₂, ◌∙◌, subst, arith}
use Rattle.std.proofs.Math.IntN.{+ℤ_idl, +ℤ_idr, zero-*ℤ}
use Rattle.std.proofs.lemmas.List.{length-replicate, length-map}
use Rattle.integers.specs.Ring.{pos-one-*ℤ}
use Rattle.integers.specs.ListLaws.{nth-replicate, length-⊕, length-⊙}
use Rattle.lattices.specs.Vector.{Vec, nth, dot, ◌⊙◌, ◌⊖◌, comb}
use Rattle.lattices.specs.Laws.Vector.{◌≈◌, ≈_trans, nil-dot, dot-⊕, dot-⊙, comb_cons, comb-zero}
use Rattle.lattices.specs.Greedy.{Row, vectors, units, start}
use Rattle.greedy_reduction.specs.Moves.{Moves}
use Rattle.integers.specs.All.{All}
use Rattle.integers.specs.AllLaws.{all_imp, get_d_map}
use Rattle.greedy_reduction.specs.Every.{moves-all}
use Rattle.greedy_reduction.specs.Tables.{Exact, spread}

pub length-units : (d : ℕ) → length (units d) ≡ d
length-units zero = refl
length-units (suc d) = ap suc (length-map (units d) (λ l. pos 0 ∷ l) ∙ length-units d)

-- ---- U
skip_first : (b : Vec) (x : List ℤ) (bs : List Vec) → comb (pos 0 ∷ x) (b ∷ bs) ≈ comb x bs
skip_first b x bs = record {
  on = λ w. (comb_cons (pos 0) x b bs).on w ∙ dot-⊕ (pos 0 ⊙ b) (comb x bs) w
      ∙ ap (λ s. s +ℤ dot (comb x bs) w) (dot-⊙ (pos 0) b w ∙ zero-*ℤ (dot b w)) ∙ +ℤ_idl (dot (comb x bs) w);
}

take-first : (b : Vec) (n : ℕ) (bs : List Vec) → comb (pos 1 ∷ replicate n (pos 0)) (b ∷ bs) ≈ b
take-first b n bs = record {
  on = λ w. (comb_cons (pos 1) (replicate n (pos 0)) b bs).on w ∙ dot-⊕ (pos 1 ⊙ b) (comb (replicate n (pos 0)) bs) w
      ∙ ap₂ ◌+ℤ◌ (dot-⊙ (pos 1) b w ∙ pos-one-*ℤ (dot b w)) ((comb-zero (replicate n (pos 0)) (nth-replicate n) bs).on w ∙ nil-dot w) ∙ +ℤ_idr (dot b w);
}

-- unit list k takes vector k
pub unit-comb : (bs : List Vec) (k : ℕ) → k < length bs → comb (get_or (units (length bs)) k []) bs ≈ get_or bs k []
unit-comb [] k h = absurd (omega arith)
unit-comb (b ∷ bs) zero h = take-first b (length bs) bs
unit-comb (b ∷ bs) (suc k) h = subst (λ l. comb l (b ∷ bs) ≈ get_or bs k []) (sym (get_d_map (λ l. pos 0 ∷ l) (units (length bs)) [] [] k (omega (arith, length-units (length bs)))))
    (≈_trans (skip_first b (get_or (units (length bs)) k []) bs) (unit-comb bs k (omega arith)))

exact_skip : (b : Vec) (ins bs : List Vec) (es : List (List ℤ)) → Exact ins (start bs es) → Exact (b ∷ ins) (start bs (map (λ l. pos 0 ∷ l) es))
exact_skip b ins [] es h = tt
exact_skip b ins (c ∷ bs) [] h = tt
exact_skip b ins (c ∷ bs) (e ∷ es) h = (≈_trans (skip_first b e ins) h.0, exact_skip b ins bs es h.1)

pub exact_start : (bs : List Vec) → Exact bs (start bs (units (length bs)))
exact_start [] = tt
exact_start (b ∷ bs) = (take-first b (length bs) bs, exact_skip b bs bs (units (length bs)) (exact_start bs))

-- ---- V
-- `spread` over a list of columns and a list of vectors
abbrev spread-over : List (List ℤ) → List Vec → ℕ → Vec → ℤ
spread-over [] gs i w = pos 0
spread-over (e ∷ es) [] i w = pos 0
spread-over (e ∷ es) (g ∷ gs) i w = nth e i *ℤ dot g w +ℤ spread-over es gs i w

spread-is : (f : Row → Vec) (i : ℕ) (bs : List Vec) (es : List (List ℤ)) (w : Vec) → spread f i (start bs es) w ≡ spread-over es (map f (start bs es)) i w
spread-is f i [] [] w = refl
spread-is f i [] (e ∷ es) w = refl
spread-is f i (b ∷ bs) [] w = refl
spread-is f i (b ∷ bs) (e ∷ es) w = ap (λ s. nth e i *ℤ dot (f (record { vector = b; u = e; v = e })) w +ℤ s) (spread-is f i bs es w)

over_skip : (es : List (List ℤ)) (gs : List Vec) (i : ℕ) (w : Vec) → spread-over (map (λ l. pos 0 ∷ l) es) gs (suc i) w ≡ spread-over es gs i w
over_skip [] gs i w = refl
over_skip (e ∷ es) [] i w = refl
over_skip (e ∷ es) (g ∷ gs) i w = ap (λ s. nth e i *ℤ dot g w +ℤ s) (over_skip es gs i w)

over_none : (es : List (List ℤ)) (gs : List Vec) (w : Vec) → spread-over (map (λ l. pos 0 ∷ l) es) gs 0 w ≡ pos 0
over_none [] gs w = refl
over_none (e ∷ es) [] w = refl
over_none (e ∷ es) (g ∷ gs) w = ap₂ ◌+ℤ◌ (zero-*ℤ (dot g w)) (over_none es gs w)

over-units : (gs : List Vec) (i : ℕ) (w : Vec) → spread-over (units (length gs)) gs i w ≡ dot (get_or gs i []) w
over-units [] i w = sym (nil-dot w)
over-units (g ∷ gs) zero w = ap₂ ◌+ℤ◌ (pos-one-*ℤ (dot g w)) (over_none (units (length gs)) gs w) ∙ +ℤ_idr (dot g w)
over-units (g ∷ gs) (suc i) w =
    ap₂ ◌+ℤ◌ (ap (λ s. s *ℤ dot g w) (nth-replicate (length gs) i) ∙ zero-*ℤ (dot g w)) (over_skip (units (length gs)) gs i w ∙ over-units gs i w)
    ∙ +ℤ_idl (dot (get_or gs i []) w)

pub start-vectors : (bs : List Vec) (es : List (List ℤ)) → length es ≡ length bs → map (λ r. r.vector) (start bs es) ≡ bs
start-vectors [] es e = refl
start-vectors (b ∷ bs) [] e = absurd (omega arith)
start-vectors (b ∷ bs) (c ∷ es) e = ap (λ l. b ∷ l) (start-vectors bs es (omega arith))

pub start-us : (bs : List Vec) (es : List (List ℤ)) → length es ≡ length bs → map (λ r. r.u) (start bs es) ≡ es
start-us [] [] e = refl
start-us [] (c ∷ es) e = absurd (omega arith)
start-us (b ∷ bs) [] e = absurd (omega arith)
start-us (b ∷ bs) (c ∷ es) e = ap (λ l. c ∷ l) (start-us bs es (omega arith))

pub spread-start : (f : Row → Vec) (bs gs : List Vec) → map f (start bs (units (length bs))) ≡ gs → length gs ≡ length bs → (i : ℕ) (w : Vec)
    → spread f i (start bs (units (length bs))) w ≡ dot (get_or gs i []) w
spread-start f bs gs e h i w =
    spread-is f i bs (units (length bs)) w ∙ ap₂ (λ n l. spread-over (units n) l i w) (sym h) e ∙ over-units gs i w

-- ---- the numbers of places: m in every vector, d in every row of U and column of V
pub record Sized (m d : ℕ) (r : Row) : Type 0 where
  pub vector : length r.vector ≡ m
  pub u : length r.u ≡ d
  pub v : length r.v ≡ d

-- a list of vectors of m coordinates each
abbrev pub Coordinates : ℕ → List Vec → Type 0
Coordinates m [] = Unit {0}
Coordinates m (b ∷ bs) = (length b ≡ m) × Coordinates m bs

pub comb-places : (m : ℕ) (x : List ℤ) (bs : List Vec) → Coordinates m bs → length (comb x bs) ≤ m
unfolding comb
comb-places m [] bs h = omega arith
comb-places m (x ∷ xs) [] h = omega arith
comb-places m (x ∷ xs) (b ∷ bs) h = omega (arith, length-⊕ (x ⊙ b) (comb xs bs), length-⊙ x b, h.0, comb-places m xs bs h.1)

pub every_coordinates : (m : ℕ) (f : Row → Vec) (rows : List Row) → All (λ r. length (f r) ≡ m) rows → Coordinates m (map f rows)
every_coordinates m f [] h = tt
every_coordinates m f (r ∷ rows) h = (h.0, every_coordinates m f rows h.1)

pub minus-places : (m : ℕ) (a b : Vec) → length a ≡ m → length b ≤ m → length (a ⊖ b) ≡ m
minus-places m a b e h = omega (arith, length-⊕ a (negsuc 0 ⊙ b), length-⊙ (negsuc 0) b)

pub sized-vectors : (m d : ℕ) (rows : List Row) → All (Sized m d) rows → Coordinates m (vectors rows)
sized-vectors m d rows h = every_coordinates m (λ r. r.vector) rows (all_imp (λ r s. s.vector) rows h)

pub sized-us : (m d : ℕ) (rows : List Row) → All (Sized m d) rows → Coordinates d (map (λ r. r.u) rows)
sized-us m d rows h = every_coordinates d (λ r. r.u) rows (all_imp (λ r s. s.u) rows h)

pub moves-sized : (m d : ℕ) {a b : List Row} → Moves a b → All (Sized m d) a → All (Sized m d) b
moves-sized m d = moves-all (Sized m d)
    (λ r s x h k. record { vector = h.vector; u = h.u; v = omega (arith, length-⊕ r.v (x ⊙ s.v), length-⊙ x s.v, h.v, k.v) })
    (λ x rows r k h p. record {
      vector = minus-places m r.vector (comb x (vectors rows)) p.vector (comb-places m x (vectors rows) (sized-vectors m d rows h));
      u = minus-places d r.u (comb x (map (λ r. r.u) rows)) p.u (comb-places d x (map (λ r. r.u) rows) (sized-us m d rows h));
      v = p.v;
    })

start-sized : (m d : ℕ) (bs : List Vec) (es : List (List ℤ)) → Coordinates m bs → Coordinates d es → All (Sized m d) (start bs es)
start-sized m d [] es h k = tt
start-sized m d (b ∷ bs) [] h k = tt
start-sized m d (b ∷ bs) (e ∷ es) h k = (record { vector = h.0; u = k.0; v = k.0 }, start-sized m d bs es h.1 k.1)

skip-coordinates : (d : ℕ) (es : List (List ℤ)) → Coordinates d es → Coordinates (suc d) (map (λ l. pos 0 ∷ l) es)
skip-coordinates d [] h = tt
skip-coordinates d (e ∷ es) h = (ap suc h.0, skip-coordinates d es h.1)

pub units-coordinates : (d : ℕ) → Coordinates d (units d)
units-coordinates zero = tt
units-coordinates (suc d) = (ap suc (length-replicate d (pos 0)), skip-coordinates d (units d) (units-coordinates d))

pub sized-start : (m : ℕ) (bs : List Vec) → Coordinates m bs → All (Sized m (length bs)) (start bs (units (length bs)))
sized-start m bs h = start-sized m (length bs) bs (units (length bs)) h (units-coordinates (length bs))

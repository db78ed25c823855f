-- The descent through the layers on its way: the steps so far, and the squared length m of what they leave.
use Rattle.std.specs.Prelude.{◌≡◌, refl, true, false, List, [], ◌∷◌, ℕ, ◌≤◌, ◌<◌, ℤ, pos, ◌+ℤ◌, replicate, Option, Some, IsNone}
use Rattle.std.proofs.Common.{sym, ap, ap₂, ◌∙◌, subst, inl, arith}
use Rattle.std.proofs.Math.IntN.{+ℤ_assoc, +ℤ_idr}
use Rattle.integers.specs.Identity.{by_ring, reads}
use Rattle.integers.specs.Size.{Within}
use Rattle.integers.specs.ListLaws.{same, nth-⊕, nth-replicate, length-⊕-same}
use Rattle.lattices.specs.Vector.{nth, ◌⊕◌}
use Rattle.lattices.specs.Laws.Vector.{◌≈◌}
use Rattle.successive_minima.specs.Laws.Digits.{Bounded}
use Rattle.nearest_steps.specs.Numbers.{moved, gain_of}
use Rattle.nearest_steps.specs.Link.{gain-residual}
use Rattle.nearest_steps.specs.Moves.{Moved, moved_none, moved_then, moved-from, gains, still-nothing}
use Rattle.nearest_steps.specs.Stepped.{Descends}
use Rattle.nearest_steps.specs.State.{measure, small, descends, from-zeros}
use Rattle.nearest_search.specs.MeantNear.{KnownNear}
use Rattle.nearest_search.specs.LayerLaws.{known, near-known, square-within}
use Rattle.nearest_search.specs.Turns.{Turned, Jumped, AllPassed, Descended}

pub record Descending (n : ℤ) (g : List (List ℤ)) (r₀ r x : List ℤ) (m : ℤ) : Type 0 where
  pub moves : Moved 4 4 g r₀ (replicate 4 (pos 0)) r x false
  pub square : m ≡ n +ℤ gain_of g r₀ x

pub descending-start : (n : ℤ) (g : List (List ℤ)) (r : List ℤ) {x : List ℤ} → x ≡ replicate 4 (pos 0) → Descending n g r r x n
descending-start n g r {x} e = subst (λ y. Descending n g r r y n) (sym e) (record {
  moves = moved_none 4 4 g r (replicate 4 (pos 0)) refl;
  square = sym (ap (λ z. n +ℤ z) (still-nothing 4 g r) ∙ +ℤ_idr n);
})

module _ {n : ℤ} {g : List (List ℤ)} {r₀ : List ℤ} (w : KnownNear 4 n g r₀) where
  module _ {r x : List ℤ} {m : ℤ} (s : Descending n g r₀ r x m) where
    pub descending-known : KnownNear 4 m g r
    descending-known = subst (λ z. KnownNear 4 z g r) (ap (λ z. n +ℤ gain_of g r₀ z) (from-zeros s.moves) ∙ sym s.square) (near-known w s.moves)

    pub descending-small : Bounded 30000000 x
    descending-small = small w.near.meant s.moves (omega arith) (omega arith)

    pub descending-within : Within 400000000 m
    descending-within = let k = descending-known in square-within k.near m k.square

    pub descending-next : {P : Type 0} {r' x' : List ℤ} {o : Option ℤ} {v : ℤ} → Turned P g r x r' x' o → o ≡ Some v → Descending n g r₀ r' x' (m +ℤ v)
    descending-next {P} {r'} {x'} {o} {v} t h = record {
      moves = moved_then 4 g r₀ (known w) false (λ e. inl e) refl s.moves p;
      square = ap₂ ◌+ℤ◌ s.square (sym (t.gained h)) ∙ +ℤ_assoc n (gain_of g r₀ x) (gain_of g r p.step) ∙ ap (λ z. n +ℤ z) (sym total);
    }
      where
        p : Moved 4 4 g r x r' x' true
        p = t.better h

        total : gain_of g r₀ x' ≡ gain_of g r₀ x +ℤ gain_of g r p.step
        total = ap (gain_of g r₀) p.coefficients ∙ gains 4 g r₀ (known w) x p.step
            ∙ ap (λ z. gain_of g r₀ x +ℤ z) (sym (gain-residual g p.step (subst (λ z. r ≈ moved g r₀ z) (from-zeros s.moves) s.moves.left)))

    pub descending-less : {P : Type 0} {r' x' : List ℤ} {o : Option ℤ} {v : ℤ} → Turned P g r x r' x' o → o ≡ Some v → measure g r₀ x' < measure g r₀ x
    descending-less t h = descends (omega arith) (omega arith) (known w) s.moves (t.better h)

    pub descending-end : {r' x' : List ℤ} {o : Option ℤ} → Turned (AllPassed m g r) g r x r' x' o → IsNone o → Descended n g r₀ r' x'
    descending-end {r'} {x'} t h = subst (λ y. Descended n g r₀ y x') (sym (t.same h).0) (subst (λ y. Descended n g r₀ r y) (sym (t.same h).1) (record {
      moves = s.moves;
      none = subst (λ z. AllPassed z g r) s.square (t.none h);
    }))

-- ---- a start, and the descent from there

pub jumped_known : {d : ℕ} {n v : ℤ} {g : List (List ℤ)} {r x r' x' : List ℤ} → KnownNear d n g r → Jumped d g r x r' x' v → KnownNear d (n +ℤ v) g r'
jumped_known {d} {n} {v} {g} {r} {x} {r'} w s = subst (λ z. KnownNear d (n +ℤ z) g r') s.gained (near-known w s.moves)

pub jumped_descended : {n v : ℤ} {g : List (List ℤ)} {r r' r'' x x' y : List ℤ} → KnownNear 4 n g r → x ≡ replicate 4 (pos 0) → Jumped 4 g r x r' x' v → Descended (n +ℤ v) g r' r'' y → Descended n g r r'' (x' ⊕ y)
jumped_descended {n} {v} {g} {r} {r'} {r''} {x} {x'} {y} w e s t = record {
  moves = moved_then 4 g r (known w) false (λ e. inl e) refl first (subst (λ z. Moved 4 4 g r' x' r'' (x' ⊕ z) false) (from-zeros t.moves) (moved-from t.moves x'));
  none = subst (λ z. AllPassed z g r'') total t.none;
}
  where
    first : Moved 4 4 g r (replicate 4 (pos 0)) r' x' false
    first = subst (λ z. Moved 4 4 g r z r' x' false) e s.moves

    start : s.moves.step ≡ x'
    start = sym (s.moves.coefficients ∙ ap (λ z. z ⊕ s.moves.step) e ∙ same (length-⊕-same (replicate 4 (pos 0)) s.moves.step (sym s.moves.count) ∙ sym s.moves.count)
        (λ i. nth-⊕ (replicate 4 (pos 0)) s.moves.step i ∙ ap (λ z. z +ℤ nth s.moves.step i) (nth-replicate 4 i) ∙ by_ring (nth s.moves.step i ∷ []) (search reads) (search reads) tt))

    total : n +ℤ v +ℤ gain_of g r' y ≡ n +ℤ gain_of g r (x' ⊕ y)
    total = +ℤ_assoc n v (gain_of g r' y) ∙ ap (λ z. n +ℤ z) (ap₂ ◌+ℤ◌ (sym s.gained ∙ ap (gain_of g r) start) (gain-residual g y (subst (λ z. r' ≈ moved g r z) start s.moves.left)) ∙ sym (gains 4 g r (known w) x' y))

pub jumped_within : {n v : ℤ} {g : List (List ℤ)} {r x r' x' : List ℤ} → KnownNear 4 n g r → Jumped 4 g r x r' x' v → Within 400000000 (n +ℤ v)
jumped_within {n} {v} w s = let k = jumped_known w s in square-within k.near (n +ℤ v) k.square

pub jumped_small : {d : ℕ} {n v : ℤ} {g : List (List ℤ)} {r x r' x' : List ℤ} → d ≤ 4 → KnownNear d n g r → x ≡ replicate 4 (pos 0) → Jumped d g r x r' x' v → Bounded 30000000 x'
jumped_small {d} {n} {v} {g} {r} {x} {r'} {x'} few w e s = small w.near.meant (subst (λ z. Moved 4 d g r z r' x' false) e s.moves) few few

pub descended-small : {n : ℤ} {g : List (List ℤ)} {r r' x : List ℤ} → KnownNear 4 n g r → Descended n g r r' x → Bounded 30000000 x
descended-small w s = small w.near.meant s.moves (omega arith) (omega arith)

-- steps through the layers from the coefficients x on
pub record Layered (n : ℤ) (g : List (List ℤ)) (r x r' x' : List ℤ) : Type 0 where
  pub list : List ℤ
  pub sum : x' ≡ x ⊕ list
  pub descended : Descended n g r r' list

pub jumped_layered : {n v : ℤ} {g : List (List ℤ)} {r r' r'' x x' x'' : List ℤ} → KnownNear 4 n g r → x ≡ replicate 4 (pos 0) → Jumped 4 g r x r' x' v → Layered (n +ℤ v) g r' x' r'' x'' → Descended n g r r'' x''
jumped_layered {n} {v} {g} {r} {r'} {r''} w e s t = subst (Descended n g r r'') (sym t.sum) (jumped_descended w e s t.descended)

-- a start, and the search among at most three vectors from there
pub jumped_searched : {d : ℕ} {n v : ℤ} {g : List (List ℤ)} {r r' r'' x x' x'' : List ℤ} → KnownNear d n g r → x ≡ replicate 4 (pos 0) → Jumped d g r x r' x' v → Descends d g r' x' r'' x''
    → Moved 4 d g r (replicate 4 (pos 0)) r'' x'' false
jumped_searched {d} {n} {v} {g} {r} {r'} {r''} {x} {x'} w e s t = moved_then d g r (known w) false (λ e. inl e) refl (subst (λ z. Moved 4 d g r z r' x' false) e s.moves) t.moves

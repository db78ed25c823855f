-- The tables U and V along the moves: U·inputs = vectors and V·vectors = inputs hold throughout, and V·U is the unit table.
use Rattle.std.specs.Prelude.{◌≡◌, refl, ℕ, ℤ, negsuc, ◌+ℤ◌, ◌*ℤ◌, length}
use Rattle.std.proofs.Math.Path.{sym, ap, ap₂}
use Rattle.std.proofs.Common.{◌∙◌, arith}
use mathlib.Core.List.{List, [], ◌∷◌, ◌++◌, map}
use Rattle.std.proofs.Math.IntN.{pos, +ℤ_idl, +ℤ_assoc, *ℤ-zero}
use Rattle.integers.specs.Ring.{+ℤ-left_comm}
use Rattle.integers.specs.Identity.{by_ring, reads}
use Rattle.integers.specs.ListLaws.{nth-⊕, nth-⊙}
use Rattle.lattices.specs.Vector.{Vec, nth, dot, ◌⊕◌, ◌⊙◌, ◌⊖◌, comb}
use Rattle.lattices.specs.Laws.Vector.{◌≈◌, ≈_refl, ≈_trans, ≈-⊕, ≈-⊙, nil-dot, dot-⊕, dot-⊙, comb-⊕, comb-⊙}
use Rattle.lattices.specs.Laws.Permutation.{Perm, same, skip, swap, then}
use Rattle.lattices.specs.Greedy.{Row, vectors, less, credited}
use Rattle.integers.specs.All.{All}
use Rattle.greedy_reduction.specs.Every.{moves-all}
use Rattle.greedy_reduction.specs.Moves.{Moves, none, after, exchange, subtract}

-- ---- U: each row of U gives its vector
abbrev pub Exact : List Vec → List Row → Type 0
Exact ins = All (λ r. comb r.u ins ≈ r.vector)

abbrev us : List Row → List (List ℤ)
us = map (λ r. r.u)

comb_exact : (ins : List Vec) (x : List ℤ) (rows : List Row) → Exact ins rows → comb (comb x (us rows)) ins ≈ comb x (vectors rows)
unfolding comb
comb_exact ins [] rows h = ≈_refl
comb_exact ins (x ∷ xs) [] h = ≈_refl
comb_exact ins (x ∷ xs) (r ∷ rows) h =
    ≈_trans (comb-⊕ (x ⊙ r.u) (comb xs (us rows)) ins)
    (≈-⊕ (≈_trans (comb-⊙ x r.u ins) (≈-⊙ x h.0)) (comb_exact ins xs rows h.1))

exact_less : (ins : List Vec) (x : List ℤ) (rows : List Row) (r : Row) → Exact ins rows → comb r.u ins ≈ r.vector → comb (less x rows r).u ins ≈ (less x rows r).vector
exact_less ins x rows r h k =
    ≈_trans (comb-⊕ r.u (negsuc 0 ⊙ comb x (us rows)) ins)
    (≈-⊕ k (≈_trans (comb-⊙ (negsuc 0) (comb x (us rows)) ins) (≈-⊙ (negsuc 0) (comb_exact ins x rows h))))

pub moves_exact : (ins : List Vec) {a b : List Row} → Moves a b → Exact ins a → Exact ins b
moves_exact ins = moves-all (λ r. comb r.u ins ≈ r.vector) (λ r s x h k. h) (λ x rows r k h p. exact_less ins x rows r h p)

-- ---- V: the columns spread the vectors over the inputs. `f` is a row's vector, or its row of U
abbrev pub spread : (Row → Vec) → ℕ → List Row → Vec → ℤ
spread f i [] w = pos 0
spread f i (r ∷ rows) w = nth r.v i *ℤ dot (f r) w +ℤ spread f i rows w

-- f does not look at the column, and a pass subtracts from it what it subtracts from the vector
pub record Linear (f : Row → Vec) : Type 0 where
  pub blind : (r : Row) (v : List ℤ) → f (record { vector = r.vector; u = r.u; v = v }) ≡ f r
  pub linear : (x : List ℤ) (rows : List Row) (r : Row) → f (less x rows r) ≡ f r ⊖ comb x (map f rows)

module _ (f : Row → Vec) (L : Linear f) where
  spread-append : (i : ℕ) (a b : List Row) (w : Vec) → spread f i (a ++ b) w ≡ spread f i a w +ℤ spread f i b w
  spread-append i [] b w = sym (+ℤ_idl (spread f i b w))
  spread-append i (r ∷ a) b w = ap (λ s. nth r.v i *ℤ dot (f r) w +ℤ s) (spread-append i a b w) ∙ sym (+ℤ_assoc (nth r.v i *ℤ dot (f r) w) (spread f i a w) (spread f i b w))

  -- what the others gain is the combination of the last one's share
  spread-credited : (i : ℕ) (x v : List ℤ) (rows : List Row) (w : Vec) → length x ≡ length rows
      → spread f i (credited x v rows) w ≡ spread f i rows w +ℤ nth v i *ℤ dot (comb x (map f rows)) w
  unfolding credited comb
  spread-credited i [] v [] w e = sym (ap (λ s. pos 0 +ℤ nth v i *ℤ s) (nil-dot w) ∙ +ℤ_idl (nth v i *ℤ pos 0) ∙ *ℤ-zero (nth v i))
  spread-credited i [] v (r ∷ rows) w e = absurd (omega arith)
  spread-credited i (x ∷ xs) v [] w e = absurd (omega arith)
  spread-credited i (x ∷ xs) v (r ∷ rows) w e =
      ap₂ (λ m s. m +ℤ s)
      (ap₂ (λ m z. m *ℤ dot z w) (nth-⊕ r.v (x ⊙ v) i ∙ ap (λ m. nth r.v i +ℤ m) (nth-⊙ x v i)) (L.blind r (r.v ⊕ x ⊙ v)))
      (spread-credited i xs v rows w (omega arith))
      ∙ by_ring (nth r.v i ∷ nth v i ∷ x ∷ dot (f r) w ∷ spread f i rows w ∷ dot (comb xs (map f rows)) w ∷ [])
      {y = nth r.v i *ℤ dot (f r) w +ℤ spread f i rows w +ℤ nth v i *ℤ (x *ℤ dot (f r) w +ℤ dot (comb xs (map f rows)) w)}
      (search reads depth 20) (search reads depth 20) tt
      ∙ ap (λ d. nth r.v i *ℤ dot (f r) w +ℤ spread f i rows w +ℤ nth v i *ℤ d) (sym (dot-⊕ (x ⊙ f r) (comb xs (map f rows)) w ∙ ap (λ d. d +ℤ dot (comb xs (map f rows)) w) (dot-⊙ x (f r) w)))

  spread_perm : (i : ℕ) {a b : List Row} → Perm a b → (w : Vec) → spread f i a w ≡ spread f i b w
  spread_perm i (same l) w = refl
  spread_perm i (skip x p) w = ap (λ s. nth x.v i *ℤ dot (f x) w +ℤ s) (spread_perm i p w)
  spread_perm i (swap x y l) w = +ℤ-left_comm (nth x.v i *ℤ dot (f x) w) (nth y.v i *ℤ dot (f y) w) (spread f i l w)
  spread_perm i (then p q) w = spread_perm i p w ∙ spread_perm i q w

  pub moves-spread : (i : ℕ) {a b : List Row} → Moves a b → (w : Vec) → spread f i a w ≡ spread f i b w
  moves-spread i (none a) w = refl
  moves-spread i (after p q) w = moves-spread i p w ∙ moves-spread i q w
  moves-spread i (exchange p) w = spread_perm i p w
  moves-spread i (subtract x rows r rest e k) w =
      spread-append i rows (r ∷ rest) w
      ∙ by_ring (spread f i rows w ∷ nth r.v i ∷ dot (f r) w ∷ dot (comb x (map f rows)) w ∷ spread f i rest w ∷ [])
      {y = spread f i rows w +ℤ nth r.v i *ℤ dot (comb x (map f rows)) w +ℤ (nth r.v i *ℤ (dot (f r) w +ℤ negsuc 0 *ℤ dot (comb x (map f rows)) w) +ℤ spread f i rest w)}
      (search reads depth 20) (search reads depth 20) tt
      ∙ ap₂ (λ a d. a +ℤ (nth r.v i *ℤ d +ℤ spread f i rest w)) (sym (spread-credited i x r.v rows w e)) (sym lost)
      ∙ sym (spread-append i (credited x r.v rows) (less x rows r ∷ rest) w)
    where
      lost : dot (f (less x rows r)) w ≡ dot (f r) w +ℤ negsuc 0 *ℤ dot (comb x (map f rows)) w
      lost = ap (λ z. dot z w) (L.linear x rows r) ∙ dot-⊕ (f r) (negsuc 0 ⊙ comb x (map f rows)) w ∙ ap (λ d. dot (f r) w +ℤ d) (dot-⊙ (negsuc 0) (comb x (map f rows)) w)

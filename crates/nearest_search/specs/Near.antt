-- What the nearest vector asks of its vectors and its target, and the sizes that follow.
use Rattle.std.specs.Prelude.{◌≡◌, List, [], ◌∷◌, ℕ, zero, suc, ◌+◌, ◌*◌, ◌≤◌, ◌<◌, ℤ, pos, nat_abs, length, get_or, take, ◌≤ℤ◌}
use Rattle.std.proofs.Common.{sym, ◌∙◌, subst, arith, get_or-take}
use Rattle.std.proofs.Math.Path.{ap}
use Rattle.std.proofs.Math.Decide.{dec_lt}
use Rattle.std.proofs.Math.ListN.{length-take}
use Rattle.std.specs.Int.Signed.{le_z_yes}
use Rattle.integers.specs.Order.{≤ℤ_trans, ≤ℤ_of_≡}
use Rattle.integers.specs.Ring.{pos-one-*ℤ}
use Rattle.integers.specs.Size.{Within, load, within-mul, root-within}
use Rattle.lattices.specs.Vector.{Vec, N, nth, comb, ◌⊖◌}
use Rattle.lattices.specs.Laws.Vector.{◌≈◌, ≈-N, square-≤}
use Rattle.lattices.specs.Nearest.{nearest}
use Rattle.lattices.specs.Answer.{padded}
use Rattle.lattices.specs.Laws.Answer.{take-padded}
use Rattle.successive_minima.specs.Reduced.{Reduced}
use Rattle.successive_minima.specs.Laws.NearestLaws.{nearest-shorter, nearest-count}
use Rattle.successive_minima.specs.Laws.Digits.{Bounded}
use Rattle.row_operations.specs.Minus.{room}
use Rattle.nearest_steps.specs.Searchable.{Searchable, behind, rows-bounded, coordinates as long}
use Rattle.nearest_steps.specs.Formed.{ProductsOf, GramOf, meant-formed}
use Rattle.nearest_search.specs.MeantNear.{MeantNear, KnownNear}

-- the first d vectors of b are reduced, and neither they nor the target are longer than 20,000
pub record Near (d : ℕ) (b : List Vec) (t : Vec) : Type 0 where
  pub reduced : Reduced (take d b)
  pub short : (i : ℕ) → i < d → N (get_or b i []) ≤ℤ pos 400000000
  pub target : N t ≤ℤ pos 400000000

pub searchable : {d : ℕ} {b : List Vec} {t : Vec} → d ≤ length b → Near d b t → Searchable d b t
searchable h n = record { enough = h; reduced = n.reduced; short = n.short; target = ≤ℤ_trans n.target (le_z_yes tt) }

-- ---- the numbers formed of them

module _ (d : ℕ) (b : List Vec) (t : Vec) (h : d ≤ length b) (v : Near d b t) {g : List (List ℤ)} {r : List ℤ} (q : GramOf (take d b) g) (p : ProductsOf (take d b) t r) where
  pub near-formed : MeantNear (pos 1) d (take d b) t g r
  near-formed = record { meant = meant-formed d b t (searchable h v) q p; close = subst (λ n. N t ≤ℤ n) (sym (pos-one-*ℤ (pos 400000000))) v.target }

  pub near-known-formed : KnownNear d (N t) g r
  near-known-formed = record { factor = pos 1; vectors = take d b; target = t; near = near-formed; square = pos-one-*ℤ (N t) }

-- ---- sizes of numbers

pub coordinates : (v : Vec) → N v ≤ℤ pos 400000000 → Bounded 20000 v
coordinates v h i = root-within {B = 20000} (≤ℤ_trans (square-≤ v i) h)

-- what the nearest vector leaves
pub left-bounded : {d : ℕ} {b : List Vec} {v r : Vec} → Near d b v → r ≈ v ⊖ comb (nearest (take d b) v) (take d b) → Bounded 100000 r
left-bounded {d} {b} {v} {r} n e = long r (≤ℤ_trans (≤ℤ_of_≡ (≈-N e)) (≤ℤ_trans (nearest-shorter (take d b) v) (≤ℤ_trans n.target (le_z_yes tt))))

-- the coefficients that the search gives
module _ (d : ℕ) (b : List Vec) (t : Vec) (few : d ≤ 4) (h : d ≤ length b) {x : List ℤ} (e : x ≡ padded 4 (nearest (take d b) t)) where
  w : List ℤ
  w = nearest (take d b) t

  count : length w ≡ d
  unfolding w
  count = nearest-count (take d b) t ∙ omega (arith, length-take d b)

  pub taken : take d x ≡ nearest (take d b) t
  unfolding w
  taken = ap (take d) e ∙ take-padded d 4 w count few

-- ---- room to take them away
load-within : (n A B : ℕ) (x : List ℤ) (t : List Vec) (i : ℕ) → length t ≤ n → Bounded A x → ((j : ℕ) → Within B (nth (get_or t j []) i)) → load x t i ≤ n * (A * B)
unfolding load
load-within n A B [] t i h f g = omega arith
load-within n A B (y ∷ x) [] i h f g = omega arith
load-within zero A B (y ∷ x) (r ∷ t) i h f g = absurd (omega arith)
load-within (suc n) A B (y ∷ x) (r ∷ t) i h f g =
    let m = (within-mul {A = A} {B = B} {a = y} {b = nth r i} (f 0) (g 0)).within in
    let q = load-within n A B x t i (omega arith) (λ j. f (suc j)) (λ j. g (suc j)) in
    omega (arith, m, q)

pub rest-room : {d : ℕ} {b : List Vec} {t : Vec} (x : List ℤ) → d ≤ 4 → d ≤ length b → Near d b t → Bounded 30000000 x → (i : ℕ) → nat_abs (nth t i) + load x (take d b) i ≤ room
rest-room {d} {b} {t} x few h n f i =
    let l = load-within 4 30000000 100000 x (take d b) i (omega (arith, length-take d b)) f (λ j. row j (dec_lt j d)) in
    omega (arith, l, (coordinates t n.target i).within)
  where
    row : (j : ℕ) → Dec (j < d) → Within 100000 (nth (get_or (take d b) j []) i)
    row j (yes l) = rw (get_or-take d b j [] l) (rows-bounded (searchable h n) j l i)
    row j (no l) = rw (behind d j b (omega (arith, l))) (record { within = omega arith })

-- Gram matrix and inner products formed of vectors: the numbers themselves, so the factor is 1. Beyond the last vector they are 0.
use Rattle.std.specs.Prelude.{◌≡◌, List, [], ℕ, ◌≤◌, ◌<◌, ℤ, pos, length, get_or, take, ◌≤ℤ◌}
use Rattle.std.proofs.Common.{sym, subst, arith, length-take, get_or-take, take-take}
use Rattle.std.proofs.Math.Decide.{dec_lt}
use Rattle.std.specs.Int.Signed.{lt_z_yes}
use Rattle.integers.specs.Certificate.{nn-pos}
use Rattle.integers.specs.Ring.{pos-one-*ℤ}
use Rattle.lattices.specs.Vector.{Vec, N}
use Rattle.lattices.specs.Laws.Vector.{nil-dot}
use Rattle.nearest_steps.specs.Meant.{Products, Gram, Meant}
use Rattle.nearest_steps.specs.Searchable.{behind, Searchable}

-- the inner products of the vectors with v, four places
pub record ProductsOf (vs : List Vec) (v : Vec) (r : List ℤ) : Type 0 where
  pub products : Products (pos 1) vs v r
  pub long : length r ≡ 4

pub record GramOf (vs : List Vec) (g : List (List ℤ)) : Type 0 where
  pub gram : Gram (pos 1) vs g
  pub count : length g ≡ 4
  pub long : (i : ℕ) → length (get_or g i []) ≤ 4

-- they are the numbers of the search among the first k vectors
module _ (k : ℕ) (b : List Vec) (t : Vec) (v : Searchable k b t) {g : List (List ℤ)} {r : List ℤ} (q : GramOf (take k b) g) (p : ProductsOf (take k b) t r) where
  pub meant-formed : Meant (pos 1) k (take k b) t g r
  meant-formed = record {
    positive = lt_z_yes tt;
    enough = omega (arith, length-take k b, v.enough);
    reduced = rw (take-take k k b (omega arith)) v.reduced;
    short = λ i. subst (λ n. N (get_or (take k b) i []) ≤ℤ n) (sym (pos-one-*ℤ (pos 400000000))) (pick i (dec_lt i k));
    target = subst (λ n. N t ≤ℤ n) (sym (pos-one-*ℤ (pos 3600000000))) v.target;
    gram = q.gram;
    products = p.products;
    wide = λ i. omega (arith, q.long i, p.long);
  }
    where
      pick : (i : ℕ) → Dec (i < k) → N (get_or (take k b) i []) ≤ℤ pos 400000000
      pick i (yes h) = rw (get_or-take k b i [] h) (v.short i h)
      pick i (no h) = rw (behind k i b (omega (arith, h)), nil-dot []) (nn-pos 400000000)

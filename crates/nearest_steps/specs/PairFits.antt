-- What fits on the way to the sums and the squares of the table's lists, and how large they are.
use Rattle.std.specs.Prelude.{List, [], ℕ, zero, suc, ℤ, pos, ◌+ℤ◌, ◌-ℤ◌, ◌*ℤ◌, get_or}
use Rattle.std.proofs.Common.{arith, SFits}
use Rattle.std.specs.Int.{w64}
use Rattle.integers.specs.Size.{Within, within-le, within-add, within-sub, fits-within}
use Rattle.successive_minima.specs.Laws.Digits.{Bounded}
use Rattle.lattices.specs.Vector.{nth}
use Rattle.nearest_steps.specs.Numbers.{Sized}
use Rattle.nearest_steps.specs.Multiples.{within-twice}
use Rattle.nearest_steps.specs.Pairs.{squares_of, squares_in}

pub record SumsFit (a b c : ℤ) : Type 0 where
  pub ab : SFits w64 (a +ℤ b)
  pub a-b : SFits w64 (a -ℤ b)
  pub ac : SFits w64 (a +ℤ c)
  pub a_c : SFits w64 (a -ℤ c)
  pub bc : SFits w64 (b +ℤ c)
  pub b-c : SFits w64 (b -ℤ c)
  pub abc : SFits w64 (a +ℤ b +ℤ c)
  pub ab-c : SFits w64 (a +ℤ b -ℤ c)
  pub a-bc : SFits w64 (a -ℤ b +ℤ c)
  pub a-b-c : SFits w64 (a -ℤ b -ℤ c)

pub sums-fit : {a b c : ℤ} → Within 4000000000 a → Within 4000000000 b → Within 4000000000 c → SumsFit a b c
sums-fit ha hb hc = record {
  ab = fits-within (within-add ha hb) tt;
  a-b = fits-within (within-sub ha hb) tt;
  ac = fits-within (within-add ha hc) tt;
  a_c = fits-within (within-sub ha hc) tt;
  bc = fits-within (within-add hb hc) tt;
  b-c = fits-within (within-sub hb hc) tt;
  abc = fits-within (within-add (within-add ha hb) hc) tt;
  ab-c = fits-within (within-sub (within-add ha hb) hc) tt;
  a-bc = fits-within (within-add (within-sub ha hb) hc) tt;
  a-b-c = fits-within (within-sub (within-sub ha hb) hc) tt;
}

pub record SquaresFit (a b c d e f : ℤ) : Type 0 where
  pub ad : SFits w64 (a +ℤ d)
  pub af : SFits w64 (a +ℤ f)
  pub df : SFits w64 (d +ℤ f)
  pub all : SFits w64 (a +ℤ d +ℤ f)
  pub all-b : SFits w64 (a +ℤ d +ℤ f +ℤ b)
  pub all-less-b : SFits w64 (a +ℤ d +ℤ f -ℤ b)
  pub ce : SFits w64 (c +ℤ e)
  pub c-e : SFits w64 (c -ℤ e)
  pub ad-b : SFits w64 (a +ℤ d +ℤ b)
  pub ad-less-b : SFits w64 (a +ℤ d -ℤ b)
  pub af-c : SFits w64 (a +ℤ f +ℤ c)
  pub af-less-c : SFits w64 (a +ℤ f -ℤ c)
  pub df-e : SFits w64 (d +ℤ f +ℤ e)
  pub df-less-e : SFits w64 (d +ℤ f -ℤ e)
  pub one : SFits w64 (a +ℤ d +ℤ f +ℤ b +ℤ (c +ℤ e))
  pub two : SFits w64 (a +ℤ d +ℤ f +ℤ b -ℤ (c +ℤ e))
  pub three : SFits w64 (a +ℤ d +ℤ f -ℤ b +ℤ (c -ℤ e))
  pub four : SFits w64 (a +ℤ d +ℤ f -ℤ b -ℤ (c -ℤ e))

module _ {a b c d e f : ℤ} (ha : Within 400000000 a) (hb : Within 800000000 b) (hc : Within 800000000 c) (hd : Within 400000000 d) (he : Within 800000000 e) (hf : Within 400000000 f) where
  pub squares-fit : SquaresFit a b c d e f
  squares-fit = record {
    ad = fits-within (within-add ha hd) tt;
    af = fits-within (within-add ha hf) tt;
    df = fits-within (within-add hd hf) tt;
    all = fits-within (within-add (within-add ha hd) hf) tt;
    all-b = fits-within (within-add (within-add (within-add ha hd) hf) hb) tt;
    all-less-b = fits-within (within-sub (within-add (within-add ha hd) hf) hb) tt;
    ce = fits-within (within-add hc he) tt;
    c-e = fits-within (within-sub hc he) tt;
    ad-b = fits-within (within-add (within-add ha hd) hb) tt;
    ad-less-b = fits-within (within-sub (within-add ha hd) hb) tt;
    af-c = fits-within (within-add (within-add ha hf) hc) tt;
    af-less-c = fits-within (within-sub (within-add ha hf) hc) tt;
    df-e = fits-within (within-add (within-add hd hf) he) tt;
    df-less-e = fits-within (within-sub (within-add hd hf) he) tt;
    one = fits-within (within-add (within-add (within-add (within-add ha hd) hf) hb) (within-add hc he)) tt;
    two = fits-within (within-sub (within-add (within-add (within-add ha hd) hf) hb) (within-add hc he)) tt;
    three = fits-within (within-add (within-sub (within-add (within-add ha hd) hf) hb) (within-sub hc he)) tt;
    four = fits-within (within-sub (within-sub (within-add (within-add ha hd) hf) hb) (within-sub hc he)) tt;
  }

  pub squares-bounded : Bounded 20000000000 (squares_of a b c d e f)
  squares-bounded zero = within-le (omega arith) ha
  squares-bounded (suc zero) = within-le (omega arith) hd
  squares-bounded (suc (suc zero)) = within-le (omega arith) (within-add (within-add ha hd) hb)
  squares-bounded (suc (suc (suc zero))) = within-le (omega arith) (within-sub (within-add ha hd) hb)
  squares-bounded (suc (suc (suc (suc zero)))) = within-le (omega arith) hf
  squares-bounded (suc (suc (suc (suc (suc zero))))) = within-le (omega arith) (within-add (within-add ha hf) hc)
  squares-bounded (suc (suc (suc (suc (suc (suc zero)))))) = within-le (omega arith) (within-sub (within-add ha hf) hc)
  squares-bounded (suc (suc (suc (suc (suc (suc (suc zero))))))) = within-le (omega arith) (within-add (within-add hd hf) he)
  squares-bounded (suc (suc (suc (suc (suc (suc (suc (suc zero)))))))) = within-le (omega arith) (within-sub (within-add hd hf) he)
  squares-bounded (suc (suc (suc (suc (suc (suc (suc (suc (suc zero))))))))) = within-le (omega arith) (within-add (within-add (within-add (within-add ha hd) hf) hb) (within-add hc he))
  squares-bounded (suc (suc (suc (suc (suc (suc (suc (suc (suc (suc zero)))))))))) = within-le (omega arith) (within-sub (within-add (within-add (within-add ha hd) hf) hb) (within-add hc he))
  squares-bounded (suc (suc (suc (suc (suc (suc (suc (suc (suc (suc (suc zero))))))))))) = within-le (omega arith) (within-add (within-sub (within-add (within-add ha hd) hf) hb) (within-sub hc he))
  squares-bounded (suc (suc (suc (suc (suc (suc (suc (suc (suc (suc (suc (suc zero)))))))))))) = within-le (omega arith) (within-sub (within-sub (within-add (within-add ha hd) hf) hb) (within-sub hc he))
  squares-bounded (suc (suc (suc (suc (suc (suc (suc (suc (suc (suc (suc (suc (suc i))))))))))))) = record { within = omega arith }

-- ---- the numbers that they are made of

pub record NumbersFit (g : List (List ℤ)) (r : List ℤ) : Type 0 where
  pub entry : (i j : ℕ) → SFits w64 (nth (get_or g i []) j)
  pub doubled : (i j : ℕ) → SFits w64 (pos 2 *ℤ nth (get_or g i []) j)
  pub product : (j : ℕ) → SFits w64 (nth r j)
  pub twice : (j : ℕ) → SFits w64 (pos 2 *ℤ nth r j)

pub numbers_fit : {g : List (List ℤ)} {r : List ℤ} → Sized g r → NumbersFit g r
numbers_fit s = record {
  entry = λ i j. fits-within (s.gram i j) tt;
  doubled = λ i j. fits-within (within-twice (s.gram i j)) tt;
  product = λ j. fits-within (s.products j) tt;
  twice = λ j. fits-within (within-twice (s.products j)) tt;
}

pub squares-small : {g : List (List ℤ)} {r : List ℤ} → Sized g r → Bounded 20000000000 (squares_in g)
squares-small s = squares-bounded (s.gram 0 0) (within-twice (s.gram 0 1)) (within-twice (s.gram 0 2)) (s.gram 1 1) (within-twice (s.gram 1 2)) (s.gram 2 2)

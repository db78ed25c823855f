-- What fits when a multiple of a list is taken away from a list, entry by entry.
use Rattle.std.specs.Prelude.{◌≡◌, List, ℕ, suc, ◌+◌, ◌≤◌, ◌<◌, ℤ, pos, nat_abs, ◌-ℤ◌, ◌*ℤ◌, length, set}
use Rattle.std.proofs.Common.{sym, ◌∙◌, arith, SFits}
use Rattle.std.specs.Int.{w64}
use Rattle.integers.specs.Ring.{negsuc-zero-*ℤ}
use Rattle.integers.specs.Size.{size-sub, fits-within}
use Rattle.integers.specs.ListLaws.{entries, length-⊖-same, length-⊙}
use Rattle.lattices.specs.Vector.{nth, ◌⊖◌, ◌⊙◌}
use Rattle.row_operations.specs.Front.{front, front-suc, get_d_front}

pub nth-minus : (a : List ℤ) (q : ℤ) (b : List ℤ) (i : ℕ) → nth (a ⊖ q ⊙ b) i ≡ nth a i -ℤ q *ℤ nth b i
nth-minus a q b i = simp (entries, negsuc-zero-*ℤ)

pub length-minus : (a : List ℤ) (q : ℤ) (b : List ℤ) → length a ≡ length b → length (a ⊖ q ⊙ b) ≡ length a
length-minus a q b e = length-⊖-same a (q ⊙ b) (e ∙ sym (length-⊙ q b))

-- the largest size that an entry may reach: below 2 ^ 63
abbrev pub room : ℕ
room = 9000000000000000000

fits : (z : ℤ) → nat_abs z ≤ room → SFits w64 z
fits z h = fits-within {B = room} (record { within = h }) tt

-- what fits at place i: the entry, the multiple and the difference
pub record MinusTurn (a : List ℤ) (q : ℤ) (b : List ℤ) (i : ℕ) : Type 0 where
  pub entry : SFits w64 (nth a i)
  pub multiple : SFits w64 (q *ℤ nth b i)
  pub difference : SFits w64 (nth a i -ℤ q *ℤ nth b i)

pub minus-turn : (a : List ℤ) (q : ℤ) (b : List ℤ) (i : ℕ) → nat_abs (nth a i) + nat_abs (q *ℤ nth b i) ≤ room → MinusTurn a q b i
minus-turn a q b i h = record {
  entry = fits (nth a i) (omega arith);
  multiple = fits (q *ℤ nth b i) (omega arith);
  difference = fits (nth a i -ℤ q *ℤ nth b i) (omega (arith, size-sub (nth a i) (q *ℤ nth b i)));
}

-- the difference, filled in from the front
module _ (a : List ℤ) (q : ℤ) (b : List ℤ) (i : ℕ) (e : length a ≡ length b) (h : i < length a) where
  pub minus-entry : nth (front i (a ⊖ q ⊙ b) a) i ≡ nth a i
  minus-entry = get_d_front i i (a ⊖ q ⊙ b) a (pos 0) (omega (arith, length-minus a q b e)) (omega arith) (omega arith)

  pub minus-next : set (front i (a ⊖ q ⊙ b) a) i (nth a i -ℤ q *ℤ nth b i) ≡ front (suc i) (a ⊖ q ⊙ b) a
  minus-next = rw (← nth-minus a q b i) (front-suc i (a ⊖ q ⊙ b) a (pos 0) (omega (arith, length-minus a q b e)) h)

-- A lattice that is made of the first minor and the cofactors is known.
use Rattle.std.specs.Prelude.{◌≡◌, refl, List, [], ◌∷◌, ◌++◌, map, ℕ, zero, suc, ◌≤◌, ◌<◌, ℤ, pos, drop, ◌≤ℤ◌, true, Option, Some, None, is_some}
use Rattle.std.proofs.Math.Path.{sym, ap, ap₂, subst}
use Rattle.std.proofs.Common.{◌∙◌, true≢false, arith, length-take, get_or-take}
use Rattle.std.proofs.Math.ListN.{length, get_or, take, length-map}
use Rattle.integers.specs.AllLaws.{get_d_map}
use Rattle.integers.specs.Filled.{filled}
use Rattle.integers.specs.FilledLaws.{length-filled}
use Rattle.lattices.specs.Vector.{Vec, N}
use Rattle.lattices.specs.Volume.{Index, volume}
use Rattle.lattices.specs.Answer.{padded}
use Rattle.lattices.specs.Laws.Answer.{length-padded}
use Rattle.lattices.specs.Refusal.{most_vectors, most_coordinates}
use Rattle.exterior_algebra.specs.Dependence.{Fit, independent-exactly}
use Rattle.exterior_algebra.specs.Minors.{marks}
use Rattle.exterior_algebra.specs.Sizes.{Short}
use Rattle.input_checks.specs.Lengths.{short-from}
use Rattle.successive_minima.specs.Reduced.{Reduced}
use Rattle.successive_minima.specs.Laws.ReducedLaws.{reduced-independent}
use Rattle.row_operations.specs.Rows.{first_four}
use Rattle.input_checks.specs.declared.minors.Minor.{Minor}
use Rattle.input_checks.specs.Choice.{places, four_at}
use Rattle.input_checks.specs.Determinant.{unit_rows, cofactors_of}
use Rattle.input_checks.specs.FirstMinor.{Chosen, FirstMinor, all-zero, cofactors-give, table-small}
use Rattle.lattice_membership.specs.declared.Lattice.{Lattice}
use Rattle.lattice_membership.specs.Cofactor.{cofactor_rows}
use Rattle.lattice_membership.specs.Known.{KnownChoice, ReducedBasis, Known, Cofactors, left_in, vectors_in, row_in}
use Rattle.lattice_membership.specs.Laws.Cofactors.{cofactors-small, first-four}

-- the vectors of a lattice that was made of b
pub vectors-left : (l : Lattice) {d m passes : ℕ} (b : List Vec) {squares : List ℤ} → left_in l ≡ record { d = d; m = m; vectors = b; squares = squares; passes = passes } → vectors_in l ≡ take d b
vectors-left l b e = ap (λ k. take k.d k.vectors) e

filled_row : (n : ℕ) (z : Vec) (l : List Vec) (i : ℕ) → i < length l → i < n → get_or (filled z n l) i [] ≡ get_or l i []
filled_row zero z l i h k = absurd (omega arith)
filled_row (suc n) z [] i h k = absurd (omega arith)
filled_row (suc n) z (y ∷ l) zero h k = refl
filled_row (suc n) z (y ∷ l) (suc i) h k = filled_row n z l i (omega arith) (omega arith)

pub row_of : (t : List Vec) (d j : ℕ) → d ≤ 4 → j < d → get_or (cofactor_rows t d) j [] ≡ cofactors_of t j
row_of t d j few h =
    let f : ℕ → Vec = cofactors_of t in
    let long : length (take d first_four) ≡ d = omega (arith, length-take d first_four) in
    filled_row 4 (padded 4 []) (map f (take d first_four)) j (omega (arith, length-map (take d first_four) f, long)) (omega arith)
    ∙ get_d_map f (take d first_four) 0 [] j (omega (arith, long))
    ∙ ap f (get_or-take d first_four j 0 h ∙ first-four j (omega arith))

-- a reduced list has a minor that is not zero
pub has-minor : {d : ℕ} {b : List Vec} → ReducedBasis d b → (o : Option Minor) → FirstMinor (take d b) o → is_some o ≡ true
has-minor {d} {b} r None k = absurd (true≢false
    (sym (all-zero (take d b) k) ∙ (independent-exactly most_coordinates (take d b) r.fit).1 (reduced-independent (take d b) r.reduced (omega (arith, length-take d b, r.few)))))
has-minor r (Some m) k = refl

module _ (d : ℕ) (b : List Vec) (r : ReducedBasis d b) (four-rows : length b ≡ 4) (m : Minor) (k : FirstMinor (take d b) (Some m)) where
  chosen : Chosen (take d b) m.at m.minor
  chosen = k.1

  s : Index
  s = chosen.index

  vectors-count : length (take d b) ≡ d
  vectors-count = omega (arith, length-take d b, r.few, four-rows)

  count-first : marks s ≡ d
  unfolding s
  count-first = chosen.count ∙ vectors-count

  taken : take d m.at ≡ places 0 s
  unfolding s
  taken = ap (λ n. take n m.at) (sym vectors-count) ∙ chosen.taken

  -- the coordinates of its vectors there, unit rows behind them
  abbrev pub table : List Vec
  table = map (four_at m.at) (take d b) ++ drop d unit_rows

  pub first_below : (i : ℕ) → i < most_vectors → get_or m.at i 0 < most_coordinates
  first_below = chosen.below

  pub made : (l : Lattice) → l.d ≡ d → l.vectors ≡ b → l.choice ≡ m.at → l.minor ≡ m.minor
      → l.cofactors ≡ cofactor_rows table d → most_vectors ≤ length m.at → Known l
  unfolding s
  made l e-d e-vectors e-choice e-minor e-rows long = record {
    few = subst (λ n. n ≤ 4) (sym e-d) r.few;
    four = (ap length e-vectors ∙ four-rows, ap length e-rows ∙ length-filled (padded 4 []) 4 (map (cofactors_of table) (take d first_four)));
    reduced = subst Reduced (sym vs) r.reduced;
    short = subst (Short (pos 400000000)) (sym vs) (short-from 400000000 d 0 b r.short);
    below = subst (λ at. (i : ℕ) → i < most_vectors → get_or at i 0 < most_coordinates) (sym e-choice) first_below;
    index = s;
    at-index = e-minor ∙ chosen.minor ∙ ap (λ l. volume l s) (sym vs);
    nonzero = λ e. k.0 (sym e-minor ∙ e);
    rows = λ j h. subst (λ bs. Cofactors bs l.choice s j (row_in l j)) (sym vs) (subst (λ at. Cofactors (take d b) at s j (row_in l j)) (sym e-choice) (subst (Cofactors (take d b) m.at s j) (sym (row j (subst (λ n. j < n) e-d h))) (cofactors-known j (subst (λ n. j < n) e-d h))));
  }
    where
      vs : vectors_in l ≡ take d b
      vs = ap₂ take e-d e-vectors

      row : (j : ℕ) → j < d → row_in l j ≡ cofactors_of table j
      row j h = ap (λ rs. get_or rs j []) e-rows ∙ row_of table d j r.few h

      cofactors-known : (j : ℕ) → j < d → Cofactors (take d b) m.at s j (cofactors_of table j)
      cofactors-known j h = record {
        give = cofactors-give m.at d r.few long s count-first taken (take d b) vectors-count j h;
        small = cofactors-small table (table-small m.at d b r.short) j;
      }

  pub made-chosen : (l : Lattice) → l.d ≡ d → l.vectors ≡ b → l.choice ≡ m.at → l.minor ≡ m.minor
      → l.cofactors ≡ cofactor_rows table d → most_vectors ≤ length m.at → KnownChoice l
  unfolding s made
  made-chosen l e-d e-vectors e-choice e-minor e-rows long = record {
    known = made l e-d e-vectors e-choice e-minor e-rows long;
    count = count-first ∙ sym e-d;
    taken = ap₂ take e-d e-choice ∙ taken;
  }

-- ---- the basis that a reduction leaves: vectors filled up to the width

fit-padded : (n : ℕ) (vs : List Vec) → Fit n (map (padded n) vs)
fit-padded n [] i = omega arith
fit-padded n (v ∷ vs) zero = omega (arith, length-padded n v)
fit-padded n (v ∷ vs) (suc i) = fit-padded n vs i

pub basis-padded : (d : ℕ) (b vs : List Vec) → d ≤ most_vectors → take d b ≡ map (padded most_coordinates) vs → Reduced (take d b)
    → ((i : ℕ) → i < d → N (get_or b i []) ≤ℤ pos 400000000) → ReducedBasis d b
basis-padded d b vs few e reduced short = record { few = few; reduced = reduced; short = short; fit = subst (Fit most_coordinates) (sym e) (fit-padded most_coordinates vs) }

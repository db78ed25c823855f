-- Each of the five on a small catalogue, entries of five and eight coordinates, 17 on either side, and the catalogue's own refusal first.
use Rattle.std.specs.Prelude.{◌≡◌, refl, List, [], ◌∷◌, map, ℕ, pos}
use Rattle.lattices.specs.Vector.{dot, comb, ◌⊕◌, ◌⊙◌}
use Rattle.lattices.specs.Volume.{squared_volume, is_dependent}
use Rattle.lattices.specs.Nearest.{least_by, nearest_by}
use Rattle.lattices.specs.Greedy.{credited, greedy_by, insert_by, order_by}
use Rattle.successive_minima.specs.Member.{is_member}
use Rattle.catalogue_rules.specs.Word.{decode, bytes_of}
use Rattle.catalogue_rules.specs.Read.{step, read_words, read}
use Rattle.fold_rules.specs.Fold.{same_lattice}
use Rattle.separation_rules.specs.Separation.{same, different_m, different_d, first_outside, second_outside, Separated, refused_at, told, separation, separate_of}

-- 1: (1,0), (4,1); 2: (0,1), (1,0), the same lattice; 3: (2,0), (0,3), a part of it; 4: (2,0), (1,3), with another second vector; 5: (20,0), (10,20);
-- 6: (10,20), (34,9); 7: (3,4), of one vector; 8: (3), of one coordinate
abbrev pub eight : List ℕ
eight =
    0x10000122 ∷ 0x20004E21 ∷ 0x20004E20 ∷ 0x20004E24 ∷ 0x20004E21
    ∷ 0x10000222 ∷ 0x20004E20 ∷ 0x20004E21 ∷ 0x20004E21 ∷ 0x20004E20
    ∷ 0x10000322 ∷ 0x20004E22 ∷ 0x20004E20 ∷ 0x20004E20 ∷ 0x20004E23
    ∷ 0x10000422 ∷ 0x20004E22 ∷ 0x20004E20 ∷ 0x20004E21 ∷ 0x20004E23
    ∷ 0x10000522 ∷ 0x20004E34 ∷ 0x20004E20 ∷ 0x20004E2A ∷ 0x20004E34
    ∷ 0x10000622 ∷ 0x20004E2A ∷ 0x20004E34 ∷ 0x20004E42 ∷ 0x20004E29
    ∷ 0x10000712 ∷ 0x20004E23 ∷ 0x20004E24
    ∷ 0x10000811 ∷ 0x20004E23
    ∷ 0x40000008 ∷ []

-- two numbers and what is answered
pub record Example : Type 0 where
  pub first : ℕ
  pub second : ℕ
  pub answer : Separated

abbrev pub asks : ℕ → ℕ → Separated → Example
asks first second answer = record { first = first; second = second; answer = answer }

abbrev pub examples : List Example
examples =
    asks 1 2 (told same)
    ∷ asks 3 3 (told same)
    -- a part of a lattice, in both orders
    ∷ asks 3 1 (told (second_outside 1 (pos 1)))
    ∷ asks 1 3 (told (first_outside 1 (pos 1)))
    -- another second vector: at position 2, and half of (2,0) away
    ∷ asks 4 3 (told (first_outside 2 (pos 1)))
    ∷ asks 3 4 (told (first_outside 2 (pos 1)))
    -- (40,0) is nearest to (34,9), at 117; the nearest of the reduced vectors, (20,0), is at 277
    ∷ asks 6 5 (told (first_outside 2 (pos 117)))
    -- m differs, d too: m is said
    ∷ asks 1 8 (told different_m)
    ∷ asks 7 8 (told different_m)
    ∷ asks 1 7 (told different_d)
    ∷ asks 9 1 (refused_at 17 0)
    ∷ asks 1 9 (refused_at 17 0)
    ∷ asks 0 0 (refused_at 17 0)
    ∷ []

pub separations_hold : map (λ x. separate_of (bytes_of eight) x.first x.second) examples ≡ map (λ x. x.answer) examples
unfolding dot comb ◌⊕◌ ◌⊙◌ squared_volume is_dependent least_by nearest_by insert_by order_by credited greedy_by is_member decode step read_words read same_lattice separation separate_of
separations_hold = refl

-- five and eight coordinates. 1: (1,−1,0,0,0), (0,1,−1,0,0); 2: (1,0,−1,0,0), (0,1,−1,0,0), the same lattice; 3: as 1, with another fifth coordinate;
-- 4: as 1, with three zeros behind
abbrev pub wide : List ℕ
wide =
    0x10000125 ∷ 0x20004E21 ∷ 0x20004E1F ∷ 0x20004E20 ∷ 0x20004E20 ∷ 0x20004E20 ∷ 0x20004E20 ∷ 0x20004E21 ∷ 0x20004E1F ∷ 0x20004E20 ∷ 0x20004E20
    ∷ 0x10000225 ∷ 0x20004E21 ∷ 0x20004E20 ∷ 0x20004E1F ∷ 0x20004E20 ∷ 0x20004E20 ∷ 0x20004E20 ∷ 0x20004E21 ∷ 0x20004E1F ∷ 0x20004E20 ∷ 0x20004E20
    ∷ 0x10000325 ∷ 0x20004E21 ∷ 0x20004E1F ∷ 0x20004E20 ∷ 0x20004E20 ∷ 0x20004E20 ∷ 0x20004E20 ∷ 0x20004E21 ∷ 0x20004E1F ∷ 0x20004E20 ∷ 0x20004E21
    ∷ 0x10000428 ∷ 0x20004E21 ∷ 0x20004E1F ∷ 0x20004E20 ∷ 0x20004E20 ∷ 0x20004E20 ∷ 0x20004E20 ∷ 0x20004E20 ∷ 0x20004E20 ∷ 0x20004E20 ∷ 0x20004E21 ∷ 0x20004E1F ∷ 0x20004E20 ∷ 0x20004E20 ∷ 0x20004E20 ∷ 0x20004E20 ∷ 0x20004E20
    ∷ 0x40000004 ∷ []

abbrev pub wide_examples : List Example
wide_examples =
    asks 1 2 (told same)
    ∷ asks 1 3 (told (first_outside 2 (pos 1)))
    ∷ asks 3 2 (told (first_outside 2 (pos 1)))
    ∷ asks 1 4 (told different_m)
    ∷ []

pub wide_separations : map (λ x. separate_of (bytes_of wide) x.first x.second) wide_examples ≡ map (λ x. x.answer) wide_examples
unfolding dot comb ◌⊕◌ ◌⊙◌ squared_volume is_dependent least_by nearest_by insert_by order_by credited greedy_by is_member decode step read_words read same_lattice separation separate_of
wide_separations = refl

-- no bytes: the catalogue's own refusal, not 17
pub refused-first : separate_of [] 1 2 ≡ refused_at 10 0
unfolding decode step read_words read separate_of
refused-first = refl

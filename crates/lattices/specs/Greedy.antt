-- The greedy steps 1 to 6 of document 01 (source 000, the recursive algorithm), with the tables U and V and the count of passes.
use Rattle.std.specs.Prelude.{Bool, true, false, List, [], ◌∷◌, ◌++◌, map, ℕ, zero, suc, ◌+◌, ℤ, pos, nat_abs, ◌+ℤ◌, length, replicate}
use Rattle.std.specs.Int.Signed.{lt_z}
use Rattle.lattices.specs.Vector.{Vec, N, ◌⊕◌, ◌⊖◌, ◌⊙◌, comb}
use Rattle.lattices.specs.Nearest.{nearest_by}

-- R3.8: a vector of the list with its row of U (its coefficients on the inputs) and its column of V (its coefficient in each input)
pub record Row : Type 0 where
  pub vector : Vec
  pub u : List ℤ
  pub v : List ℤ

abbrev pub vectors : List Row → List Vec
vectors = map (λ r. r.vector)

-- R3.3: the last of r, rows; and those before it
abbrev pub last_of : Row → List Row → Row
last_of r [] = r
last_of r (s ∷ rows) = last_of s rows

-- R3.3
abbrev pub before : Row → List Row → List Row
before r [] = []
before r (s ∷ rows) = r ∷ before s rows

-- R3.5, R3.8: step 5 for the last vector: the combination x of the rows is subtracted from it, and from its row of U
abbrev pub less : List ℤ → List Row → Row → Row
less x rows r = record {
  vector = r.vector ⊖ comb x (vectors rows);
  u = r.u ⊖ comb x (map (λ s. s.u) rows);
  v = r.v;
}

-- R3.5, R3.8: step 5 for the columns of V: what the last vector loses, the others gain in every input
unfoldable pub credited : List ℤ → List ℤ → List Row → List Row
credited [] v rows = rows
credited (x ∷ xs) v [] = []
credited (x ∷ xs) v (r ∷ rows) = record { vector = r.vector; u = r.u; v = r.v ⊕ x ⊙ v } ∷ credited xs v rows

-- R3.7: a list with the count of passes made for it
pub record Counted : Type 0 where
  pub rows : List Row
  pub passes : ℕ

-- R3.7: the first d−1 vectors and the last, with the count of passes made for them
pub record Pass : Type 0 where
  pub first : List Row
  pub last : Row
  pub passes : ℕ

-- R3.6
abbrev pub joined : Pass → List Row
joined p = p.first ++ (p.last ∷ [])

-- R3.8: the unit lists of d numbers: 1 at place i, else 0
abbrev pub units : ℕ → List (List ℤ)
units zero = []
units (suc d) = (pos 1 ∷ replicate d (pos 0)) ∷ map (λ l. pos 0 ∷ l) (units d)

-- R3.8: the rows at the start: each vector is itself, U and V are unit tables
abbrev pub start : List Vec → List (List ℤ) → List Row
start [] es = []
start (b ∷ bs) [] = []
start (b ∷ bs) (e ∷ es) = record { vector = b; u = e; v = e } ∷ start bs es

-- S is the squared length
module _ (S : Vec → ℤ) where
  -- R3.2: step 2: shortest first; equal lengths stay in their order
  unfoldable pub insert_by : Row → List Row → List Row
  insert_by r [] = r ∷ []
  insert_by r (s ∷ rows) = elim (lt_z (S s.vector) (S r.vector)) [ true ↦ s ∷ insert_by r rows | false ↦ r ∷ (s ∷ rows) ]

  -- R3.2
  unfoldable pub order_by : List Row → List Row
  order_by [] = []
  order_by (r ∷ rows) = insert_by r (order_by rows)

  -- R3.4, R3.7: steps 4 and 5, one pass: the vector nearest to the last one in the lattice of the others is subtracted from it
  abbrev pub pass_by : Counted → Row → Pass
  pass_by c r =
      let x = nearest_by S (vectors c.rows) r.vector in
      record { first = credited x r.v c.rows; last = less x c.rows r; passes = suc c.passes }

  -- R3.3: steps 2 to 5, where `reduce` does step 3 for the first d−1 vectors
  abbrev pub round_by : (List Row → Counted) → List Row → Pass
  round_by reduce [] = record { first = []; last = record { vector = []; u = []; v = [] }; passes = 0 }
  round_by reduce (r ∷ rows) = pass_by (reduce (before r rows)) (last_of r rows)

  -- R3.6: step 6: is the last vector shorter than the one before it?
  abbrev pub shorter_by : Row → List Row → Bool
  shorter_by r [] = false
  shorter_by r (s ∷ rows) = lt_z (S r.vector) (S (last_of s rows).vector)

  -- R3.6: steps 2 to 6, repeated until the last vector is kept; the fuel is always enough (`greedy-steps` of greedy_reduction/specs/Fuel.antt)
  abbrev pub repeat_by : (List Row → Counted) → ℕ → List Row → Counted
  repeat_by reduce zero rows = record { rows = rows; passes = 0 }
  repeat_by reduce (suc fuel) rows =
      let p = round_by reduce (order_by rows) in
      elim (shorter_by p.last p.first) [
        | false ↦ record { rows = joined p; passes = p.passes }
        | true ↦ let c = repeat_by reduce fuel (joined p) in record { rows = c.rows; passes = p.passes + c.passes }
      ]

  -- the sum of the squared lengths, which falls at each repetition
  abbrev pub total_by : List Row → ℤ
  total_by [] = pos 0
  total_by (r ∷ rows) = S r.vector +ℤ total_by rows

  -- R3.1 to R3.7: steps 1 to 6 for a list of d vectors
  unfoldable pub greedy_by : ℕ → List Row → Counted
  greedy_by zero rows = record { rows = rows; passes = 0 }
  greedy_by (suc zero) rows = record { rows = rows; passes = 0 }
  greedy_by (suc (suc d)) rows = repeat_by (greedy_by (suc d)) (suc (nat_abs (total_by rows))) rows

  -- R3: the greedy reduction of a list of vectors
  abbrev pub reduction_by : List Vec → Counted
  reduction_by bs = greedy_by (length bs) (start bs (units (length bs)))

-- R3: the same for vectors, whose squared length is N
abbrev pub insert : Row → List Row → List Row
insert = insert_by N

abbrev pub order : List Row → List Row
order = order_by N

abbrev pub pass : Counted → Row → Pass
pass = pass_by N

abbrev pub round : (List Row → Counted) → List Row → Pass
round = round_by N

abbrev pub shorter : Row → List Row → Bool
shorter = shorter_by N

abbrev pub repeat : (List Row → Counted) → ℕ → List Row → Counted
repeat = repeat_by N

abbrev pub total : List Row → ℤ
total = total_by N

abbrev pub greedy : ℕ → List Row → Counted
greedy = greedy_by N

abbrev pub reduction : List Vec → Counted
reduction = reduction_by N

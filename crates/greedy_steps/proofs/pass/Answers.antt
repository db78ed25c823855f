-- `pass`: the search, then the row operations on the four tables.
use mathlib.Core.Path.{◌≡◌, refl, ap, ◌∙◌}
use mathlib.Core.List.{List, []}
use lib.IntN.{ℤ}
use lib.ListN.{length, get_or, take}
use mir.Syntax.{w64}
use mir.Val.{of_z, to_z}
use mir.Facts.{to_z-of_z}
use Rattle.lattices.specs.Vector.{nth}
use Rattle.lattices.specs.Answer.{padded}
use Rattle.gram_matrix.specs.Cross.{crossed}
use Rattle.greedy_steps.specs.Passing.{coefficients}
use Rattle.greedy_steps.specs.Tables.{Passable, known, found, left-room, square-room, zero-behind, vectors_lose, us_lose, vs-gain, tied-after}
use Rattle.greedy_steps.proofs.pass.Goals as goal

pub among-requires : goal.among-requires
among-requires c =
    let four : length c.args.g.now ≡ 4 = c.told-g in
    let given : Passable c.args.k c.args.g.now c.args.w.now.vectors c.args.w.now.u c.args.w.now.v =
    c.requires.passable in
    -- the number read as the squared length of row k
    let read : let n = nth (get_or c.args.g.now c.args.k []) c.args.k in to_z w64 (of_z w64 n) ≡ n =
    to_z-of_z {w = w64} (record { sfits = c.among-arg-1.given }) in
    let t = given.tied in record {
      d_nonzero = c.requires.k_nonzero;
      x_value = refl;
      known_near = known t given.ready c.requires.k_nonzero.1 four read;
    }

pub lose_combination-requires : goal.lose_combination-requires
lose_combination-requires c =
    let four : length c.args.g.now ≡ 4 = c.told-g in
    let given : Passable c.args.k c.args.g.now c.args.w.now.vectors c.args.w.now.u c.args.w.now.v =
    c.requires.passable in
    -- what the search finds, whatever rows the tables belong to
    let found-list : List ℤ =
    c.among.new.x in
    -- the number read as the squared length of row k
    let read : let n = nth (get_or c.args.g.now c.args.k []) c.args.k in to_z w64 (of_z w64 n) ≡ n =
    to_z-of_z {w = w64} (record { sfits = c.among-arg-1.given }) in
    let x-of : (p : Passable c.args.k c.args.g.now c.args.w.now.vectors c.args.w.now.u c.args.w.now.v) → found-list ≡ padded 4 (coefficients c.args.k p.rows) =
    λ p. found p.tied p.ready c.requires.k_nonzero.1 four read c.among.ensures.x_after in
    let x-here : found-list ≡ padded 4 (coefficients c.args.k given.rows) =
    x-of given in
    let t = given.tied in
    let r = given.ready in rw x-here (record {
      k_bound = c.requires.k_nonzero.1;
      loses = vectors_lose t r c.requires.k_nonzero.1 four;
      loses_2 = us_lose t r c.requires.k_nonzero.1 four;
      gains = vs-gain t r c.requires.k_nonzero.1 four;
    })

pub cross-requires : goal.cross-requires
cross-requires c =
    let four : length c.args.g.now ≡ 4 = c.told-g in
    let given : Passable c.args.k c.args.g.now c.args.w.now.vectors c.args.w.now.u c.args.w.now.v =
    c.requires.passable in
    -- what the search finds, whatever rows the tables belong to
    let found-list : List ℤ =
    c.among.new.x in
    -- the number read as the squared length of row k
    let read : let n = nth (get_or c.args.g.now c.args.k []) c.args.k in to_z w64 (of_z w64 n) ≡ n =
    to_z-of_z {w = w64} (record { sfits = c.among-arg-1.given }) in
    let x-of : (p : Passable c.args.k c.args.g.now c.args.w.now.vectors c.args.w.now.u c.args.w.now.v) → found-list ≡ padded 4 (coefficients c.args.k p.rows) =
    λ p. found p.tied p.ready c.requires.k_nonzero.1 four read c.among.ensures.x_after in
    let x-here : found-list ≡ padded 4 (coefficients c.args.k given.rows) =
    x-of given in
    let t = given.tied in
    let r = given.ready in
    rw c.among.ensures.r_after (rw x-here (record {
      k_bound = c.requires.k_nonzero.1;
      by_index = left-room t r c.requires.k_nonzero.1 four;
      within = square-room t r c.requires.k_nonzero.1 four;
      by_index_2 = zero-behind t r c.requires.k_nonzero.1 four;
    }))

pub returns : goal.returns
returns c =
    let four : length c.args.g.now ≡ 4 = c.told-g in
    -- what the search finds, whatever rows the tables belong to
    let found-list : List ℤ =
    c.among.new.x in
    -- the number read as the squared length of row k
    let read : let n = nth (get_or c.args.g.now c.args.k []) c.args.k in to_z w64 (of_z w64 n) ≡ n =
    to_z-of_z {w = w64} (record { sfits = c.among-arg-1.given }) in
    let x-of : (p : Passable c.args.k c.args.g.now c.args.w.now.vectors c.args.w.now.u c.args.w.now.v) → found-list ≡ padded 4 (coefficients c.args.k p.rows) =
    λ p. found p.tied p.ready c.requires.k_nonzero.1 four read c.among.ensures.x_after in
    let y = take c.args.k found-list in
    let eg = c.cross.ensures ∙ ap (λ r. crossed y c.args.k r c.args.g.now) c.among.ensures.r_after in record {
      belongs = λ p. rw (eg, c.lose_combination.ensures.vectors_after, c.lose_combination.ensures.u_after, c.lose_combination.ensures.v_after) (rw (x-of p) (tied-after p.tied p.ready c.requires.k_nonzero.1 four));
      passes = c.lose_combination.ensures.passes;
    }

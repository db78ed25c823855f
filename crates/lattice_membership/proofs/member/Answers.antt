use mathlib.Core.Path.{◌≡◌, sym, ap, ap₂, ◌∙◌, subst}
use mathlib.Core.Bool.{true}
use mathlib.Core.List.{List, []}
use Prim.Native.Nat.{ℕ, ◌≤◌, ◌<◌, ◌+◌, ◌*◌}
use native.Mathlib.Omega.{arith}
use lib.IntN.{ℤ, pos, nat_abs, ◌*ℤ◌}
use lib.ListN.{take}
use lib.Signed.{◌≤ℤ◌, quot_z}
use mir.Facts.{to_z-of_z}
use mir.Syntax.{w64}
use mir.Val.{of_z, to_z, SFits}
use Rattle.integers.specs.Size.{Within, fits-within}
use Rattle.integers.specs.Tests.{not_false}
use Rattle.lattices.specs.Vector.{Vec, N, dot, nth, comb, ◌⊙◌, ◌⊖◌}
use Rattle.lattices.specs.Laws.Vector.{◌≈◌, ≈_trans, ≈_of_≡}
use Rattle.input_checks.specs.Lengths.{short-within}
use Rattle.row_operations.specs.Dot.{weight}
use Rattle.row_operations.specs.Minus.{room}
use Rattle.lattice_membership.specs.declared.Lattice.{Lattice}
use Rattle.lattice_membership.specs.Known.{Known, row_in, quotients_of, is_whole}
use Rattle.lattice_membership.specs.Laws.Members.{not_true, quot-within, divisor-pos, left-none, p, top, vector_at, not-member, left_decides, minor-within, top-room, top-within, turn-room, turn_small, turn-left}
use borrow.Author.Rules.{rules}
use Rattle.lattice_membership.proofs.member.Goals as goal

pub pick-p-requires : goal.pick-p-requires
pick-p-requires c = c.requires.known.below

pub loop-j-init : goal.loop-j-init
loop-j-init c = let s = c in (search rules, (left-none s.args.v.now [] [], short-within s.args.v.now s.requires.v_bound))

pub offset_bounds-l-j : goal.offset_bounds-l-j
offset_bounds-l-j c = record { fits = let k = c.requires.known.few in omega (arith, k) }

pub bounds-l-j : goal.bounds-l-j
bounds-l-j c = let k = c.requires.known.few in omega (arith, k)

pub dot-n-requires : goal.dot-n-requires
dot-n-requires c =
    let h : c.loop-j.j < c.args.l.now.d = search rules in
    (search rules, subst (λ x. weight (row_in c.args.l.now c.loop-j.j) x ≤ room) (sym c.pick-p.ensures) (top-room c.args.l.now c.requires.known c.args.v.now c.requires.v_bound c.loop-j.j h))

-- the numerator z of a turn, and the minor, as numbers
module _ (l : Lattice) (k : Known l) (v : Vec) (h : N v ≤ℤ pos 400000000) (turn : ℕ) (x : List ℤ) (picks : x ≡ p l k v h) (z : ℤ) (is : z ≡ dot (row_in l turn) x) (below : turn < l.d) where
  top-is : z ≡ top l k v h turn
  top-is = is ∙ ap (dot (row_in l turn)) picks

  pub size : Within 3840000000000000000 z
  size = subst (Within 3840000000000000000) (sym top-is) (top-within l k v h turn below)

  top-plain : to_z w64 (of_z w64 z) ≡ z
  top-plain = to_z-of_z {w = w64} (fits-within size tt)

  minor-plain : to_z w64 (of_z w64 l.minor) ≡ l.minor
  minor-plain = to_z-of_z {w = w64} (fits-within (minor-within l k) tt)

  whole_is : is_whole (to_z w64 (of_z w64 z)) (to_z w64 (of_z w64 l.minor)) ≡ is_whole (top l k v h turn) l.minor
  whole_is = ap₂ is_whole (top-plain ∙ top-is) minor-plain

  quotient_fits : SFits w64 (quot_z z l.minor)
  quotient_fits = fits-within (quot-within z l.minor size) tt

  quotient_is : to_z w64 (of_z w64 (quot_z (to_z w64 (of_z w64 z)) (to_z w64 (of_z w64 l.minor)))) ≡ quot_z (top l k v h turn) l.minor
  quotient_is = ap (λ z. to_z w64 (of_z w64 z)) (ap₂ quot_z top-plain minor-plain) ∙ to_z-of_z quotient_fits ∙ ap (λ z. quot_z z l.minor) top-is

pub whole-requires : goal.whole-requires
whole-requires c = record {
  within = subst (Within 3840000000000000000) (sym (top-plain c.args.l.now c.requires.known c.args.v.now c.requires.v_bound c.loop-j.j c.pick-p.result c.pick-p.ensures c.dot-n.result c.dot-n.ensures (search rules))) (size c.args.l.now c.requires.known c.args.v.now c.requires.v_bound c.loop-j.j c.pick-p.result c.pick-p.ensures c.dot-n.result c.dot-n.ensures (search rules));
  m_nonzero = λ e. c.requires.known.nonzero (sym (minor-plain c.args.l.now c.requires.known c.args.v.now c.requires.v_bound c.loop-j.j c.pick-p.result c.pick-p.ensures c.dot-n.result c.dot-n.ensures (search rules)) ∙ e);
}

pub returns-then-not-whole : goal.returns-then-not-whole
returns-then-not-whole c =
    not-member c.args.l.now c.requires.known c.args.v.now c.requires.v_bound c.loop-j.j (search rules) (sym (whole_is c.args.l.now c.requires.known c.args.v.now c.requires.v_bound c.loop-j.j c.pick-p.result c.pick-p.ensures c.dot-n.result c.dot-n.ensures (search rules)) ∙ sym c.whole.ensures ∙ not_true c.whole.result c.if-not-whole.true-raw)

pub offset_bounds-l-j-in-loop-j : goal.offset_bounds-l-j-in-loop-j
offset_bounds-l-j-in-loop-j c = record { fits = let h : c.loop-j.j < c.args.l.now.d = search rules in let k = c.requires.known.few in omega (arith, h, k) }

pub bounds-l-j-in-loop-j : goal.bounds-l-j-in-loop-j
bounds-l-j-in-loop-j c = let h : c.loop-j.j < c.args.l.now.d = search rules in let k = c.requires.known.few in omega (arith, h, k)

pub nonzero_div-n : goal.nonzero_div-n
nonzero_div-n c = (
  divisor-pos (of_z w64 c.args.l.now.minor) (λ e. c.requires.known.nonzero (sym (minor-plain c.args.l.now c.requires.known c.args.v.now c.requires.v_bound c.loop-j.j c.pick-p.result c.pick-p.ensures c.dot-n.result c.dot-n.ensures (search rules)) ∙ ap (to_z w64) e)),
  subst (SFits w64) (sym (ap₂ quot_z (top-plain c.args.l.now c.requires.known c.args.v.now c.requires.v_bound c.loop-j.j c.pick-p.result c.pick-p.ensures c.dot-n.result c.dot-n.ensures (search rules)) (minor-plain c.args.l.now c.requires.known c.args.v.now c.requires.v_bound c.loop-j.j c.pick-p.result c.pick-p.ensures c.dot-n.result c.dot-n.ensures (search rules)))) (quotient_fits c.args.l.now c.requires.known c.args.v.now c.requires.v_bound c.loop-j.j c.pick-p.result c.pick-p.ensures c.dot-n.result c.dot-n.ensures (search rules)),
)

pub lose-requires : goal.lose-requires
lose-requires c =
    let h : c.loop-j.j < c.args.l.now.d = search rules in
    let yes : is_whole (top c.args.l.now c.requires.known c.args.v.now c.requires.v_bound c.loop-j.j) c.args.l.now.minor ≡ true =
    sym (whole_is c.args.l.now c.requires.known c.args.v.now c.requires.v_bound c.loop-j.j c.pick-p.result c.pick-p.ensures c.dot-n.result c.dot-n.ensures (search rules)) ∙ sym c.whole.ensures ∙ not_false c.whole.result c.if-not-whole.false-raw in (
      search rules,
      λ i. subst (λ q. nat_abs (nth c.loop-j.rest i) + nat_abs (q *ℤ nth (vector_at c.args.l.now c.requires.known c.args.v.now c.requires.v_bound c.loop-j.j) i) ≤ room) (sym (quotient_is c.args.l.now c.requires.known c.args.v.now c.requires.v_bound c.loop-j.j c.pick-p.result c.pick-p.ensures c.dot-n.result c.dot-n.ensures (search rules)))
          (turn-room c.args.l.now c.requires.known c.args.v.now c.requires.v_bound c.loop-j.j h c.loop-j.rest c.loop-j.invariant.1.1 yes i),
    )

pub loop-j-preserved : goal.loop-j-preserved
loop-j-preserved c =
    let l = c.args.l.now in
    let k = c.requires.known in
    let v = c.args.v.now in
    let b = c.requires.v_bound in
    let j = c.loop-j.j in
    let left = c.loop-j.rest in
    let h : c.loop-j.j < c.args.l.now.d = search rules in
    let yes : is_whole (top c.args.l.now c.requires.known c.args.v.now c.requires.v_bound c.loop-j.j) c.args.l.now.minor ≡ true =
    sym (whole_is c.args.l.now c.requires.known c.args.v.now c.requires.v_bound c.loop-j.j c.pick-p.result c.pick-p.ensures c.dot-n.result c.dot-n.ensures (search rules)) ∙ sym c.whole.ensures ∙ not_false c.whole.result c.if-not-whole.false-raw in
    let next = c.lose.ensures ∙ ap (λ q. left ⊖ q ⊙ vector_at l k v b j) (quotient_is c.args.l.now c.requires.known c.args.v.now c.requires.v_bound c.loop-j.j c.pick-p.result c.pick-p.ensures c.dot-n.result c.dot-n.ensures (search rules)) in (
      search rules,
      (
        subst (λ x. c.lose.new.a ≈ v ⊖ comb (take (j + 1) (quotients_of l x)) (take (j + 1) l.vectors)) (sym c.pick-p.ensures)
            (≈_trans (≈_of_≡ next) (turn-left l k v b j h left c.loop-j.invariant.1.1 yes
            (subst (λ x. left ≈ v ⊖ comb (take j (quotients_of l x)) (take j l.vectors)) c.pick-p.ensures c.loop-j.invariant.1.0))),
        λ i. subst (λ r. Within (20000 + (j + 1) * 21600000000) (nth r i)) (sym next)
            (turn_small l k v b j h left c.loop-j.invariant.1.1 yes i),
      ),
    )

pub returns : goal.returns
returns c =
    let picks = c.pick-p.ensures in
    let a = c in
    let s = a in
    let v = s.args.v.now in
    let end : a.loop-j.j ≡ s.args.l.now.d = omega arith in
    c.is_zero.ensures ∙ left_decides s.args.l.now s.requires.known s.args.v.now s.requires.v_bound {r = a.loop-j.rest}
    (subst (λ j. a.loop-j.rest ≈ v ⊖ comb (take j (quotients_of s.args.l.now (p s.args.l.now s.requires.known v s.requires.v_bound))) (take j s.args.l.now.vectors)) end
    (subst (λ x. a.loop-j.rest ≈ v ⊖ comb (take a.loop-j.j (quotients_of s.args.l.now x)) (take a.loop-j.j s.args.l.now.vectors)) (picks) a.loop-j.invariant.1.0))

use Rattle.std.specs.Prelude.{◌≡◌, List, ℤ, ℕ, ◌≤◌, ◌+◌, ◌-◌, length}
use Rattle.std.proofs.Common.{sym, ap, ◌∙◌, subst, arith, rules}
use Rattle.lattices.specs.Greedy.{Row}
use Rattle.gram_matrix.specs.Tied.{Kind, tied-length-gram, shorter_in}
use Rattle.gram_matrix.specs.Work.{Belongs}
use Rattle.gram_matrix.specs.declared.work.Work.{Work}
use Rattle.greedy_steps.specs.State.{order_rows, greedy_rows, greedy_passes}
use Rattle.greedy_steps.specs.Tables.{Passable}
use Rattle.greedy_steps.specs.Repeat.{Reducible, Round, next_rows, shorter_at, most_passes, begin, round-now, few-rows, tested, trace-falls, repeated, ended}
use Rattle.greedy_steps.proofs.+turns.Goals as goal
use Rattle.greedy_steps.proofs.+turns.Goals.{After-order, then-n-gt2, else-n-gt2}

pub loop-g-init : goal.loop-g-init
loop-g-init t c = (c.told-g, begin)

-- what is known of the rows that the tables belonged to at the start
abbrev Begun : (t : ℕ) → After-order t → Type 0
Begun t a = Reducible a.args.n a.args.w.passes a.args.g.now a.args.w.vectors a.args.w.u a.args.w.v

-- the rows that the tables belong to now, and what holds of the turn
abbrev now : (t : ℕ) (a : After-order t) → Begun t a → List Row
now t a p = (a.loop-g.invariant.1 p).now

turn : (t : ℕ) (a : After-order t) (p : Begun t a) → Round p.kind a.args.n (a.args.n - 1) a.loop-g.w.passes (now t a p)
turn t a p = round-now a.requires.n_bound.0 a.requires.n_bound.1 p (a.loop-g.invariant.1 p)

-- what the call for one vector fewer is given
abbrev fewer : (t : ℕ) (a : After-order t) (p : Begun t a) (g : List (List ℤ)) (w : Work) → Belongs p.kind (order_rows a.args.n (now t a p)) g w → w.passes ≡ a.loop-g.w.passes → Reducible (a.args.n - 1) w.passes g w.vectors w.u w.v
fewer t a p g w o e = record { kind = p.kind; rows = order_rows a.args.n (now t a p); tied = o; fine = (turn t a p).fewer; few = rw e (turn t a p).fewer-room }

pub turns-w-requires : goal.turns-w-requires
turns-w-requires t c =
    let a : After-order t = c.before.before in
    let p : Begun t a = c.requires.reducible in
    (search rules, (omega (arith, c.requires.n_bound), fewer t a p c.order.new.g c.order.new.w (c.order.ensures.belongs p.kind (now t a p) (c.loop-g.invariant.1 p).tied) c.order.ensures.passes))

-- after step 3
abbrev rows-first : (t : ℕ) (a : After-order t) → Begun t a → List Row
rows-first t a p = greedy_rows (a.args.n - 1) (order_rows a.args.n (now t a p))

-- where the loop's turn begins
abbrev start_of : (t : ℕ) → goal.After-w-in-loop-g-1 t → After-order t
start_of t q = q.before.before.before

-- the same tables, as they are called where the branches join
moved : {K : Kind} {rows : List Row} {g h : List (List ℤ)} {w u : Work} → g ≡ h → w ≡ u → Belongs K rows h u → Belongs K rows g w
moved e f t = rw (e, f) t

first : (t : ℕ) (q : goal.After-w-in-loop-g-1 t) (p : Begun t (start_of t q)) →
    Belongs p.kind (rows-first t (start_of t q) p) q.if-n-gt2.g q.if-n-gt2.w
    × (q.if-n-gt2.w.passes ≡ q.loop-g.w.passes + greedy_passes (q.args.n - 1) (order_rows q.args.n (now t (start_of t q) p)))
first t q p =
    let a = start_of t q in
    let n = q.args.n in
    let rows = order_rows n (now t a p) in
    let s : Belongs p.kind rows q.order.new.g q.order.new.w = q.order.ensures.belongs p.kind (now t a p) (q.loop-g.invariant.1 p).tied in
    let z : q.order.new.w.passes ≡ q.loop-g.w.passes = q.order.ensures.passes in
    elim q.if-n-gt2.branch [
      | then-n-gt2 w ↦
          let o = w.turns-w.ensures (fewer t a p _ _ s z) in
          (moved w.g-is w.w-is o.tied, ap (λ u. u.passes) w.w-is ∙ omega (arith, o.passes, z))
      | else-n-gt2 w ↦
          let e = few-rows (n - 1) (omega (arith, w.if-n-gt2.false)) rows in
          (moved w.g-is w.w-is (subst (λ x. Belongs p.kind x q.order.new.g q.order.new.w) (sym e.0) s), ap (λ u. u.passes) w.w-is ∙ omega (arith, e.1, z))
    ]

-- what the pass is given
abbrev passable : (t : ℕ) (q : goal.After-w-in-loop-g-1 t) → Begun t (start_of t q) → Passable (q.args.n - 1) q.if-n-gt2.g q.if-n-gt2.w.vectors q.if-n-gt2.w.u q.if-n-gt2.w.v
passable t q p = let a = start_of t q in record { kind = p.kind; rows = rows-first t a p; tied = (first t q p).0; ready = (turn t a p).ready }

pub pass-requires-clause-passable : goal.pass-requires-clause-passable
pass-requires-clause-passable t c = passable t c c.requires.reducible

pub overflow_add-w : goal.overflow_add-w
overflow_add-w t c =
    let q : goal.After-w-in-loop-g-1 t = c.before in
    let p : Begun t (start_of t q) = c.requires.reducible in
    let h : c.if-n-gt2.w.passes ≤ 1000000000000 = subst (λ m. m ≤ most_passes) (sym (first t q p).1) (turn t (start_of t q) p).fewer-room in
    omega (arith, c.pass.ensures.passes, h)

-- the rows after the pass
abbrev next : (t : ℕ) (q : goal.After-w-in-loop-g-1 t) → Begun t (start_of t q) → List Row
next t q p = next_rows q.args.n (q.args.n - 1) (now t (start_of t q) p)

-- they are four, so the test of step 6 is that of the numbers
test : (t : ℕ) (q : goal.After-w-in-loop-g-1 t) (p : Begun t (start_of t q)) (g : List (List ℤ)) (w : Work) → Belongs p.kind (next t q p) g w → length g ≡ 4 → shorter_at (q.args.n - 1) (next t q p) ≡ shorter_in g (q.args.n - 1)
test t q p g w o four = tested o (q.args.n - 1) (omega (arith, tied-length-gram o, four, q.requires.n_bound, q.requires.n_bound.0))

pub loop-g-smaller : goal.loop-g-smaller
loop-g-smaller t c =
    let q : goal.After-w-in-loop-g-1 t = c.before.before.before in
    let p : Begun t (start_of t q) = c.requires.reducible in
    let s = c.loop-g.invariant.1 p in
    let o = c.pass.ensures.belongs (passable t q p) in
    trace-falls {n = c.args.n} s.tied o (omega (arith, tied-length-gram s.tied, c.loop-g.invariant.0, c.requires.n_bound)) (omega (arith, tied-length-gram o, c.pass.array_long, c.requires.n_bound))
    ((turn t (start_of t q) p).falls (test t q p c.pass.new.g c.pass.new.w o c.pass.array_long ∙ sym c.shorter.ensures ∙ c.if-not-shorter.false))

pub loop-g-preserved : goal.loop-g-preserved
loop-g-preserved t c =
    let q : goal.After-w-in-loop-g-1 t = c.before.before.before in (
      c.pass.array_long,
      λ p. let o = c.pass.ensures.belongs (passable t q p) in
          repeated (c.loop-g.invariant.1 p) (turn t (start_of t q) p) o (omega (arith, (first t q p).1, c.pass.ensures.passes)) (test t q p c.pass.new.g c.pass.new.w o c.pass.array_long ∙ sym c.shorter.ensures ∙ c.if-not-shorter.false),
    )

pub returns : goal.returns
returns t c = λ p.
    let q : goal.After-w-in-loop-g-1 t = c.before.before.before in
    let o = c.pass.ensures.belongs (passable t q p) in
    ended _ (c.loop-g.invariant.1 p) (turn t (start_of t q) p) o (omega (arith, (first t q p).1, c.pass.ensures.passes)) (test t q p c.pass.new.g c.pass.new.w o c.pass.array_long ∙ sym c.shorter.ensures ∙ c.if-not-shorter.true)

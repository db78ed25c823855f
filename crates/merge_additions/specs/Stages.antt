-- How far an addition has come: what a word that may stand changes, and that it is read as the definition reads it.
use Rattle.std.specs.Prelude.{◌≡◌, refl, ◌⊎◌, Bool, true, false, cond, List, [], ◌∷◌, ◌++◌, ℕ, ◌+◌, ◌≤◌, eqb, ℤ, length, take, Option, Some, None}
use Rattle.std.proofs.Common.{sym, ap, ◌∙◌, subst, inl, inr, true≢false, arith, length-append, eqb-true, lt-ltb}
use Rattle.std.proofs.Math.Option.{some}
use Rattle.integers.specs.Filled.{filled}
use Rattle.integers.specs.FilledLaws.{take-filled}
use Rattle.integers.specs.Tests.{both}
use Rattle.lattices.specs.Vector.{Vec}
use Rattle.catalogue_rules.specs.Word.{Word, head, coordinate, see, end, draft, head_number, head_size, other, kind_of}
use Rattle.catalogue_rules.specs.Catalogue as definition
use Rattle.catalogue_rules.specs.Catalogue.{Head, See, coordinates, most_entries}
use Rattle.catalogue_rules.specs.Read.{State, outside, numbered, inside, after, closed, stop, coordinate_of, with_entry, with_vector, with_coordinate, step}
use Rattle.catalogue_rules.proofs.Laws.Moves.{Moves, by-head, by_number, by_size, by-coordinate, by-draft, by-see, by_end, between, unreferred}
use Rattle.catalogue_records.specs.declared.Entry.{Entry}
use Rattle.catalogue_records.specs.Stored.{entry_of}
use Rattle.merge_rules.specs.Addition.{may_stand, add_step}
use Rattle.catalogue_steps.specs.Forms.{form_held, held-entry}
use Rattle.catalogue_steps.specs.Readings.{stopped, step_read}
use Rattle.catalogue_steps.specs.States.{reading_of, step_of, numbers, numbers_of, length-numbers, Fine, step-shown}
use Rattle.catalogue_steps.specs.Cells.{Cells, made, made-entry}
use Rattle.merge_additions.specs.Turns.{add_read, kept_read, stands-shown, outside-numbers}

-- fs is es with one entry more, which e is as it is stored
pub record OneMore (es : List definition.Entry) (e : Option Entry) (fs : List definition.Entry) : Type 0 where
  pub entry : definition.Entry
  pub is : fs ≡ es ++ (entry ∷ [])
  pub kept : e ≡ Some (entry_of entry)

-- a state of an addition after es, e being the entry kept, if there is one
abbrev pub Stage : List definition.Entry → Option Entry → State → Type 0
Stage es e (outside fs) = ((fs ≡ es) × (e ≡ None)) ⊎ OneMore es e fs
Stage es e (numbered fs n p) = fs ≡ es
Stage es e (inside fs h vs v) = fs ≡ es
Stage es e (after fs h vs marked) = fs ≡ es
Stage es e (closed fs) = Unit {0}

pub more-long : {es fs : List definition.Entry} {e : Option Entry} → OneMore es e fs → length fs ≡ length es + 1
more-long {es} m = ap length m.is ∙ length-append es (m.entry ∷ [])

-- where a head may stand, no entry came since
head-stage : (es fs : List definition.Entry) (e : Option Entry) → eqb (length fs) (length es) ≡ true → ((fs ≡ es) × (e ≡ None)) ⊎ OneMore es e fs → fs ≡ es
head-stage es fs e t (inl q) = q.0
head-stage es fs e t (inr m) = absurd (omega (arith, more-long m, eqb-true (length fs) (length es) t))

-- ---- a word that may stand

module _ (es : List definition.Entry) (e : Option Entry) where
  stage-vector : (fs : List definition.Entry) (h : Head) (vs : List Vec) → fs ≡ es → Stage es e (with_vector fs h vs)
  stage-vector fs h vs q = go (eqb (length vs) h.d)
    where
      go : (t : Bool) → Stage es e (elim t [ true ↦ after fs h vs false | false ↦ inside fs h vs [] ])
      go true = q
      go false = q

  stage-coordinate : (fs : List definition.Entry) (h : Head) (vs : List Vec) (v : Vec) → fs ≡ es → Stage es e (with_coordinate fs h vs v)
  stage-coordinate fs h vs v q = go (eqb (length v) h.m)
    where
      go : (t : Bool) → Stage es e (elim t [ true ↦ with_vector fs h (vs ++ (v ∷ [])) | false ↦ inside fs h vs v ])
      go true = stage-vector fs h (vs ++ (v ∷ [])) q
      go false = q

-- the entry that a see word makes whole
see-kept : (e : Option Entry) (fs : List definition.Entry) (h : Head) (vs : List Vec) (marked : Bool) (s : See) (l : List ℤ) → Cells (after fs h vs marked) l → Fine (after fs h vs marked)
    → kept_read e (reading_of (after fs h vs marked)) (reading_of (outside (with_entry fs h vs marked (some s)))) l s.place (see s.number)
    ≡ Some (entry_of (record { head = h; vectors = vs; draft = marked; see = some s }))
see-kept e fs h vs marked s l c fine =
    let x : definition.Entry = record { head = h; vectors = vs; draft = marked; see = some s } in
    let f = form_held (fs ++ (x ∷ [])) in
    ap (λ t. cond t (Some (made fs h vs marked (some s) l c f (take (length (coordinates vs ++ [])) l))) e) (lt-ltb (length fs) (length (fs ++ (x ∷ []))) (omega (arith, length-append fs (x ∷ []))))
    ∙ ap Some (made-entry fs h vs marked (some s) l c f (held-entry fs x fine.1))

pub stage-moves : (es : List definition.Entry) (e : Option Entry) (l : List ℤ) {s t : State} {i : ℕ} {w : Word} → Moves s i w t → may_stand (length es) s w ≡ true → Fine s → Cells s l
    → Stage es e s → Stage es (kept_read e (reading_of s) (reading_of t) l i w) t
stage-moves es e l (by-head n d m i (between fs) p) may fine c q = head-stage es fs e (both (eqb (length fs) (length es)) false may).0 q
stage-moves es e l (by-head n d m i (unreferred fs h vs marked) p) may fine c q = absurd (true≢false (sym may))
stage-moves es e l (by_number n i (between fs) p) may fine c q = head-stage es fs e (both (eqb (length fs) (length es)) true may).0 q
stage-moves es e l (by_number n i (unreferred fs h vs marked) p) may fine c q = absurd (true≢false (sym may))
stage-moves es e l (by_size fs n p d m r) may fine c q = q
stage-moves es e l (by-coordinate fs h vs v n p) may fine c q = stage-coordinate es _ fs h vs (v ++ (coordinate_of n ∷ [])) q
stage-moves es e l (by-draft fs h vs) may fine c q = q
stage-moves es e l (by-see fs h vs marked s) may fine c q = inr (record {
  entry = record { head = h; vectors = vs; draft = marked; see = some s };
  is = ap (λ k. with_entry k h vs marked (some s)) q;
  kept = see-kept e fs h vs marked s l c fine;
})
stage-moves es e l (by_end b) may fine c q = tt

-- ---- it is read as the definition reads it

module _ (es : List definition.Entry) (few : length es ≤ most_entries) (ns : List ℕ) (noted : take (length es) ns ≡ numbers es) where
  same_numbers : take (length es) ns ≡ take (length es) (filled 0 most_entries (numbers es))
  same_numbers =
      noted
      ∙ sym (take-filled 0 most_entries (numbers es) (omega (arith, length-numbers es)))
      ∙ ap (λ n. take n (filled 0 most_entries (numbers es))) (length-numbers es)

  -- the numbers of the entries before are all that it looks at
  step-numbers : (e : Option Entry) (s : State) (i : ℕ) (w : Word) → Stage es e s → may_stand (length es) s w ≡ true → step_read ns (reading_of s) i w ≡ step_read (filled 0 most_entries (numbers_of s)) (reading_of s) i w
  step-numbers e (outside fs) i w q may =
      let first = head-stage es fs e (both (eqb (length fs) (length es)) (eqb (kind_of w) 6) may).0 q in
      outside-numbers ns (filled 0 most_entries (numbers fs)) (reading_of (outside fs)) i w (subst (λ k. take (length k) ns ≡ take (length k) (filled 0 most_entries (numbers k))) (sym first) same_numbers)
  step-numbers e (numbered fs n p) i w q may = refl
  step-numbers e (inside fs h vs v) i w q may = refl
  step-numbers e (after fs h vs marked) i (head number d m) q may = absurd (true≢false (sym may))
  step-numbers e (after fs h vs marked) i (coordinate l) q may = refl
  step-numbers e (after fs h vs marked) i (see number) q may = refl
  step-numbers e (after fs h vs marked) i (end count) q may = refl
  step-numbers e (after fs h vs marked) i (draft l) q may = refl
  step-numbers e (after fs h vs marked) i (head_number number) q may = absurd (true≢false (sym may))
  step-numbers e (after fs h vs marked) i (head_size high d m) q may = refl
  step-numbers e (after fs h vs marked) i (other k l) q may = refl
  step-numbers e (closed fs) i w q may = refl

  pub add-shown : (e : Option Entry) (s : State) (i : ℕ) (w : Word) → Stage es e s → Fine s → add_read ns (length es) (reading_of s) i w ≡ step_of (add_step (length es) s i w)
  add-shown e s i w q fine = ap (λ t. cond t (step_read ns (reading_of s) i w) (stopped 10)) (stands-shown (length es) s w) ∙ go (may_stand (length es) s w) refl
    where
      go : (t : Bool) → may_stand (length es) s w ≡ t → cond t (step_read ns (reading_of s) i w) (stopped 10) ≡ step_of (elim t [ true ↦ step s i w | false ↦ stop 10 ])
      go true may = step-numbers e s i w q may ∙ step-shown s i w fine
      go false may = refl

-- An accepted addition gives one entry more, and what reading checks of a file holds of all.
use Rattle.std.specs.Prelude.{◌≡◌, ◌≢◌, ◌⊎◌, Bool, ℕ, suc, ◌+◌, eqb, length}
use Rattle.std.proofs.Math.Path.{refl}
use Rattle.std.proofs.Common.{sym, ap, ◌∙◌, subst, inl, inr, true≢false, length-append, eqb-true}
use Rattle.std.proofs.Math.Bool.{true, false}
use mathlib.Core.List.{List, [], ◌∷◌, ◌++◌}
use Rattle.std.proofs.Math.Option.{Option, none, some}
use native.Mathlib.Omega.{arith}
use Rattle.std.proofs.lemmas.Bool.{eqb-false}
use Rattle.integers.specs.All.{All}
use Rattle.integers.specs.AllLaws.{all_imp}
use Rattle.integers.specs.First.{first_given}
use Rattle.integers.specs.FirstLaws.{none-given}
use Rattle.integers.specs.Tests.{both}
use Rattle.lattices.specs.Vector.{Vec}
use Rattle.catalogue_rules.specs.Word.{Word, decode, words_of}
use Rattle.catalogue_rules.proofs.Laws.Word.{decode_range}
use Rattle.catalogue_rules.specs.Catalogue.{new, Head, Entry, Outcome, refused, accepted}
use Rattle.catalogue_rules.specs.Read.{State, outside, numbered, inside, after, closed, Step, next, stop, with_entry, with_vector, with_coordinate, coordinate_of, step, dependent_at}
use Rattle.catalogue_rules.specs.Form.{Entered, EntryIndependent}
use Rattle.catalogue_rules.proofs.Laws.Moves.{between, unreferred, Moves, by-head, by_number, by_size, by-coordinate, by-draft, by-see, by_end, Going, moved, WhenAccepted, checked_case}
use Rattle.catalogue_rules.proofs.Laws.WellFormed.{Known, known-moves, not_dependent}
-- before any law the examples are checked, so that a wrong definition is refused there
use Rattle.merge_rules.specs.Addition.{may_stand, add_last, add_words, after_addition, addition_rows, addition}

-- fs is es with one entry more, in the new form
pub record OneMore (es fs : List Entry) : Type 0 where
  pub entry : Entry
  pub is : fs ≡ es ++ (entry ∷ [])
  pub form : entry.head.form ≡ new

more-long : {es fs : List Entry} → OneMore es fs → length fs ≡ suc (length es)
more-long {es} m = ap length m.is ∙ length-append es (m.entry ∷ []) ∙ add-one (length es)
  where
    add-one : (n : ℕ) → n + 1 ≡ suc n
    add-one n = omega arith

-- how far an addition after es has come
abbrev Stage : List Entry → State → Type 0
Stage es (outside fs) = (fs ≡ es) ⊎ OneMore es fs
Stage es (numbered fs n p) = fs ≡ es
Stage es (inside fs h vs v) = (fs ≡ es) × (h.form ≡ new)
Stage es (after fs h vs marked) = (fs ≡ es) × (h.form ≡ new)
Stage es (closed fs) = ⊥

stage-vector : (es fs : List Entry) (h : Head) (vs : List Vec) → (fs ≡ es) × (h.form ≡ new) → Stage es (with_vector fs h vs)
stage-vector es fs h vs q = go (eqb (length vs) h.d)
  where
    go : (t : Bool) → Stage es (elim t [ true ↦ after fs h vs false | false ↦ inside fs h vs [] ])
    go true = q
    go false = q

stage-coordinate : (es fs : List Entry) (h : Head) (vs : List Vec) (v : Vec) → (fs ≡ es) × (h.form ≡ new) → Stage es (with_coordinate fs h vs v)
stage-coordinate es fs h vs v q = go (eqb (length v) h.m)
  where
    go : (t : Bool) → Stage es (elim t [ true ↦ with_vector fs h (vs ++ (v ∷ [])) | false ↦ inside fs h vs v ])
    go true = stage-vector es fs h (vs ++ (v ∷ [])) q
    go false = q

head-stage : (es fs : List Entry) → eqb (length fs) (length es) ≡ true → (fs ≡ es) ⊎ OneMore es fs → fs ≡ es
head-stage es fs e (inl q) = q
head-stage es fs e (inr m) = let l = more-long m in let q = eqb-true (length fs) (length es) e in absurd (omega arith)

stage-moves : (es : List Entry) {s t : State} {i : ℕ} {w : Word} → Moves s i w t → may_stand (length es) s w ≡ true → Stage es s → Stage es t
stage-moves es (by-head n d m i (between fs) p) t q = absurd (true≢false (sym (both (eqb (length fs) (length es)) false t).1))
stage-moves es (by-head n d m i (unreferred fs g vs marked) p) t q = absurd (true≢false (sym t))
stage-moves es (by_number n i (between fs) p) t q = head-stage es fs (both (eqb (length fs) (length es)) true t).0 q
stage-moves es (by_number n i (unreferred fs g vs marked) p) t q = absurd (true≢false (sym t))
stage-moves es (by_size fs n i d m p) t q = (q, refl)
stage-moves es (by-coordinate fs h vs v l p) t q = stage-coordinate es fs h vs (v ++ (coordinate_of l ∷ [])) q
stage-moves es (by-draft fs h vs) t q = q
stage-moves es (by-see fs h vs marked s) t q = inr (record { entry = record { head = h; vectors = vs; draft = marked; see = some s }; is = ap (λ l. with_entry l h vs marked (some s)) q.0; form = q.1 })
stage-moves es (by_end (between fs)) t q = absurd (true≢false (sym (both (eqb (length fs) (length es)) false t).1))
stage-moves es (by_end (unreferred fs h vs marked)) t q = absurd (true≢false (sym t))

-- what the words of an accepted addition give
pub record Gives (es fs : List Entry) : Type 0 where
  pub one : OneMore es fs
  pub entered : Entered fs

-- and the addition
pub record Adds (es fs : List Entry) : Type 0 where
  pub one : OneMore es fs
  pub entered : Entered fs
  pub independent : All EntryIndependent fs

module _ (es : List Entry) where
  last-gives : (s : State) (i : ℕ) → Known s → Stage es s → WhenAccepted (Gives es) (add_last (length es) s i)
  last-gives (outside fs) i k q = go (eqb (length fs) (length es)) refl q
    where
      go : (t : Bool) → eqb (length fs) (length es) ≡ t → (fs ≡ es) ⊎ OneMore es fs → WhenAccepted (Gives es) (elim t as (λ t. Outcome) [ true ↦ refused 10 i | false ↦ accepted fs ])
      go true e q = omega arith
      go false e (inl q) = absurd (eqb-false (length fs) (length es) e (ap length q))
      go false e (inr m) = record { one = m; entered = k }
  last-gives (numbered fs n p) i k q = omega arith
  last-gives (inside fs h vs v) i k q = omega arith
  last-gives (after fs h vs marked) i k q =
      let e : Entry = record { head = h; vectors = vs; draft = marked; see = none } in
      record {
        one = record { entry = e; is = ap (λ l. with_entry l h vs marked none) q.0; form = q.1 };
        entered = known-moves {i = 0} (by_end (unreferred fs h vs marked)) (let l = length-append fs (e ∷ []) in let few = k.0.before.few in omega arith) k;
      }
  last-gives (closed fs) i k q = absurd q

  words-give : (words : List ℕ) (s : State) (i : ℕ) → Known s → Stage es s → WhenAccepted (Gives es) (add_words (length es) s i words)
  unfolding add_words
  words-give [] s i k q = last-gives s i k q
  words-give (w ∷ words) s i k q = go (may_stand (length es) s (decode w)) refl (step s i (decode w)) (moved s i (decode w)) (λ t l r. words-give words t (suc i) l r)
    where
      go : (b : Bool) → may_stand (length es) s (decode w) ≡ b → (r : Step) → Going (Moves s i (decode w)) r
          → ((t : State) → Known t → Stage es t → WhenAccepted (Gives es) (add_words (length es) t (suc i) words))
          → WhenAccepted (Gives es) (elim (elim b as (λ b. Step) [ true ↦ r | false ↦ stop 10 ]) as (λ r. Outcome) [ next t ↦ add_words (length es) t (suc i) words | stop k ↦ refused k i ])
      go true e (next t) m more = more t (known-moves m (decode_range w) k) (stage-moves es m e q)
      go true e (stop n) m more = m
      go false e r m more = omega arith

  after-adds : (o : Outcome) → WhenAccepted (Gives es) o → WhenAccepted (Adds es) (after_addition o)
  after-adds (refused k p) h = h
  after-adds (accepted fs) g = go (first_given dependent_at fs) refl
    where
      go : (o : Option ℕ) → first_given dependent_at fs ≡ o → WhenAccepted (Adds es) (elim o as (λ o. Outcome) [ some p ↦ refused 5 p | none ↦ accepted fs ])
      go (some p) e = omega arith
      go none e = record { one = g.one; entered = g.entered; independent = all_imp not_dependent fs (none-given dependent_at fs e) }

  pub addition-gives : Entered es → (bytes : List ℕ) → WhenAccepted (Adds es) (addition es bytes)
  unfolding addition
  addition-gives k bytes =
      checked_case (λ n. n ≢ 0) (WhenAccepted (Adds es)) (λ n. refused n 0) (addition_rows bytes)
      (after_addition (add_words (length es) (outside es) 0 (words_of bytes))) (λ n h. h) (omega arith)
      (λ r. after-adds (add_words (length es) (outside es) 0 (words_of bytes)) (words-give (words_of bytes) (outside es) 0 k (inl refl)))

  -- one entry more, all as reading a file would have checked
  pub addition-adds : Entered es → (bytes : List ℕ) (fs : List Entry) → addition es bytes ≡ accepted fs → Adds es fs
  addition-adds k bytes fs e = subst (WhenAccepted (Adds es)) e (addition-gives k bytes)

-- Demand 3 for fold and lookup: `Folds` and `LooksUp` (Meaning.antt) hold of every accepted file. The statement for every service is
-- `every_service` (promises/specs/Demand.antt).
use Rattle.std.specs.Prelude.{◌≡◌, Bool, true, false, List, ℕ, ◌≤◌, ◌<◌, length}
use Rattle.std.proofs.Common.{sym, ap, ◌∙◌, subst, le-ltb, lt-ltb}
use Rattle.std.proofs.Math.Option.{some}
use Rattle.integers.specs.All.{Some}
use Rattle.integers.specs.AllLaws.{all_imp, some_imp}
use Rattle.catalogue_rules.specs.Catalogue.{Entry, accepted}
use Rattle.catalogue_rules.specs.Read.{read}
use Rattle.catalogue_rules.specs.Write.{write}
use Rattle.catalogue_rules.specs.Output.{Output, untouched, filled_with, output}
use Rattle.catalogue_rules.specs.Form.{Names, WellFormed}
use Rattle.catalogue_rules.proofs.Laws.WellFormed.{well_formed}
use Rattle.fold_rules.specs.Fold.{same_lattice, standing, closed_list, lookup, folded}
use Rattle.fold_rules.specs.Services.{folded_outcome, fold_of, looked_up, looked_in, lookup_of}
use Rattle.fold_rules.specs.Meaning.{Among, OneLattice, Stands, Sees, Prints, Folds, Finds, LooksUp}
use Rattle.fold_rules.proofs.Laws.SameLattice.{sound-entries, one_trans, one-lattice}
use Rattle.fold_rules.proofs.Laws.First.{all_self}
use Rattle.fold_rules.proofs.Laws.Standing.{one_number, stands-once, standing-is, standing-among, standing-one, standing-twice}
use Rattle.fold_rules.proofs.Laws.Lookup.{numbered, unused, lookup-finds, lookup_misses}
use Rattle.fold_rules.proofs.Laws.FoldedForm.{folded-accepted}
use Rattle.fold_rules.proofs.Laws.Again.{folded-twice}
use Rattle.fold_rules.proofs.Laws.Printing.{From, printing-from, folded-prints, printing-some, printing-apart}

-- ---- the answers for an accepted file

pub accepted-fold : (file : List ℕ) (es : List Entry) → read file ≡ accepted es → (out : List ℕ) → fold_of file out ≡ output (accepted (folded es)) out
unfolding fold_of
accepted-fold file es e out = ap (λ o. output (folded_outcome o) out) e

pub accepted-lookup : (file : List ℕ) (es : List Entry) → read file ≡ accepted es → (n : ℕ) → lookup_of file n ≡ looked_up (lookup (closed_list es) n)
unfolding lookup_of
accepted-lookup file es e n = ap (λ o. looked_in o n) e

-- with room for the bytes or without
given : List ℕ → List ℕ → Bool → Output
given bytes out b = elim b [ true ↦ untouched 16 0 out | false ↦ filled_with bytes out ]

pub enough-room : (es : List Entry) (out : List ℕ) → length (write es) ≤ length out → output (accepted es) out ≡ filled_with (write es) out
unfolding given
enough-room es out h = ap (given (write es) out) (le-ltb (length out) (length (write es)) h)

pub no_room : (es : List Entry) (out : List ℕ) → length out < length (write es) → output (accepted es) out ≡ untouched 16 0 out
unfolding given
no_room es out h = ap (given (write es) out) (lt-ltb (length out) (length (write es)) h)

-- ---- the fold

-- a see word names an entry
word-named : (es : List Entry) (g : Entry) → Names es g.see → (n : ℕ) → Sees g n → Some (λ h. h.head.number ≡ n) es
word-named es g m n s =
    let f = numbered s.word.number es (subst (Names es) s.carried m) in
    some_imp (λ h q. ap (λ x. x.head.number) q ∙ f.number ∙ s.number) es f.among

pub fold_theorem : (file : List ℕ) (es : List Entry) → read file ≡ accepted es → Folds file es
fold_theorem file es e =
    let w = well_formed file es e in
    let fs = folded es in
    let readable = folded-accepted es w in
    record {
      written = λ out h. accepted-fold file es e out ∙ enough-room fs out h;
      short = λ out h. accepted-fold file es e out ∙ no_room fs out h;
      readable = readable;
      again = λ out. accepted-fold (write fs) fs readable out ∙ ap (λ gs. output (accepted gs) out) (folded-twice es w) ∙ sym (accepted-fold file es e out);
      printing = folded-prints es w;
      unique = λ a b s t o. stands-once one-lattice o s t;
      apart = printing-apart fs (folded-prints es w) w.entered.distinct;
      named = all_imp (word-named fs) fs (well_formed (write fs) fs readable).named;
    }

-- ---- lookups

module _ (file : List ℕ) (es : List Entry) (e : read file ≡ accepted es) where
  w : WellFormed es
  w = well_formed file es e

  looked : (f : Entry) → Among f es → lookup_of file f.head.number ≡ looked_up (some (standing es f).head.number)
  looked f a = accepted-lookup file es e f.head.number ∙ ap looked_up (lookup-finds same_lattice es es w.entered.distinct f a)

  finds : (f : Entry) → Among f es → Finds file es f.head.number f
  finds f a =
      let sound = sound-entries es w in
      let s = standing es f in
      let there = standing-among one-lattice es sound f a in
      let gives : s.head.number ≡ (lookup_of file f.head.number).standing = ap (λ r. r.standing) (sym (looked f a)) in
      let same : (g : Entry) → From es es g → g.head.number ≡ (lookup_of file f.head.number).standing → OneLattice g f =
      λ g p q. one_trans p.prints.one (subst (λ x. OneLattice x f)
      (sym (one_number es w.entered.distinct p.entry s p.among there (sym p.prints.number ∙ q ∙ sym gives))) (standing-one one-lattice es sound f a)) in
      record {
        accepted = ap (λ r. r.refusal) (looked f a);
        standing = some_imp (λ h q. (ap (λ x. x.head.number) q ∙ gives, subst (Stands es f) (sym q) (standing-is one-lattice es sound f a))) es there;
        printed = some_imp (λ g (p : Prints es s g). p.number ∙ gives) (folded es)
            (printing-some (folded es) (folded-prints es w) s there (subst (Stands es s) (standing-twice one-lattice es sound f a) (standing-is one-lattice es sound s there)));
        one = all_imp same (folded es) (printing-from (folded es) (folded-prints es w));
      }

  sees-found : (f : Entry) → Names es f.see → (n : ℕ) → Sees f n → Some (λ h. (h.head.number ≡ n) × Finds file es n h) es
  sees-found f m n s =
      let g = numbered s.word.number es (subst (Names es) s.carried m) in
      let number : g.entry.head.number ≡ n = g.number ∙ s.number in
      some_imp (λ h q. (ap (λ x. x.head.number) q ∙ number, subst (λ k. Finds file es k h) (ap (λ x. x.head.number) q ∙ number) (finds h (subst (λ x. Among x es) (sym q) g.among)))) es g.among

  pub lookup_theorem : LooksUp file es
  lookup_theorem = record {
    entries = all_imp finds es (all_self es);
    sees = all_imp sees-found es w.named;
    others = λ n h. accepted-lookup file es e n ∙ ap looked_up (lookup_misses same_lattice es es n (unused n es h));
  }

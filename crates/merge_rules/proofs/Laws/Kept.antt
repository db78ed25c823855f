-- What holds of every merge that calls made of the empty one.
use Rattle.std.specs.Prelude.{◌≡◌, refl, Bool, true, false, List, [], ◌∷◌, ◌++◌, ℕ}
use Rattle.std.proofs.Common.{sym, ap, ◌∙◌, subst, true≢false}
use Rattle.std.proofs.Math.Option.{Option, none, some}
use Rattle.integers.specs.All.{All}
use Rattle.integers.specs.AllLaws.{all_imp, all_snoc}
use Rattle.integers.specs.First.{first_given}
use Rattle.integers.specs.FirstLaws.{none-given}
use Rattle.catalogue_rules.specs.Catalogue.{new, Entry, Outcome, refused, accepted}
use Rattle.catalogue_rules.specs.Read.{lost_at, read}
use Rattle.catalogue_rules.specs.Form.{Entered, EntryIndependent, WellFormed, entry_at, placed}
use Rattle.catalogue_rules.proofs.Laws.Moves.{WhenAccepted}
use Rattle.catalogue_rules.proofs.Laws.Placed.{placed-again}
use Rattle.catalogue_rules.proofs.Laws.WellFormed.{not-lost, nothing_read}
use Rattle.catalogue_rules.proofs.Laws.ReadBack.{read-written}
use Rattle.catalogue_rules.proofs.Laws.ReadEntries.{past_entries}
use Rattle.merge_rules.specs.Addition.{addition}
use Rattle.merge_rules.specs.Merge.{Merge, start, file_of, Said, said, refused_at, if_open, added, add_to, closing, close_of, Call, add, look, close, call, after, Made}
use Rattle.merge_rules.proofs.Laws.Adding.{OneMore, Adds, addition-gives}
use Rattle.merge_rules.proofs.Laws.Placing.{placed_snoc, forms-placed, independent-placed, entered-placed}

-- its entries stand at their places in a file in the new form and were all checked; closed, no see word of it is lost
pub record Kept (M : Merge) : Type 0 where
  pub entered : Entered M.entries
  pub new : All (λ e. e.head.form ≡ new) M.entries
  pub independent : All EntryIndependent M.entries
  pub in_place : placed 0 M.entries ≡ M.entries
  pub found : M.closed ≡ true → first_given (lost_at M.entries) M.entries ≡ none

pub kept-start : Kept start
kept-start = record { entered = nothing_read; new = tt; independent = tt; in_place = refl; found = λ e. refl }

-- ---- adding

-- the entries with one more, at its place
pub added_snoc : {M : Merge} → Kept M → (fs : List Entry) → (m : OneMore M.entries fs) → placed 0 fs ≡ M.entries ++ (entry_at (past_entries 0 M.entries) m.entry ∷ [])
added_snoc {M} k fs m =
    ap (placed 0) m.is ∙ placed_snoc 0 M.entries m.entry ∙ ap (λ l. l ++ (entry_at (past_entries 0 M.entries) m.entry ∷ [])) k.in_place

kept-added : (M : Merge) → Kept M → (o : Outcome) → WhenAccepted (Adds M.entries) o → Kept (added M o).merge
kept-added M k (refused n p) a = k
kept-added M k (accepted fs) a = record {
  entered = entered-placed 0 fs a.entered;
  new = forms-placed new 0 fs (subst (All (λ e. e.head.form ≡ new)) (sym a.one.is) (all_snoc (λ e. e.head.form ≡ new) M.entries a.one.entry k.new a.one.form));
  independent = independent-placed 0 fs a.independent;
  in_place = placed-again 0 fs;
  found = λ e. absurd (true≢false (sym e));
}

kept_open : (M : Merge) → Kept M → (r : Said) → (M.closed ≡ false → Kept r.merge) → Kept (if_open M r).merge
kept_open M k r h = go M.closed refl
  where
    go : (b : Bool) → M.closed ≡ b → Kept (elim b as (λ b. Said) [ true ↦ said M (refused_at 21 0) | false ↦ r ]).merge
    go true e = k
    go false e = h e

pub kept-add : (M : Merge) → Kept M → (bytes : List ℕ) → Kept (add_to M bytes).merge
unfolding add_to
kept-add M k bytes = kept_open M k (added M (addition M.entries bytes)) (λ e. kept-added M k (addition M.entries bytes) (addition-gives M.entries k.entered bytes))

-- ---- closing

kept-closing : (M : Merge) → Kept M → (o : Option ℕ) → first_given (lost_at M.entries) M.entries ≡ o → Kept (closing M o).merge
kept-closing M k (some p) e = k
kept-closing M k none e = record { entered = k.entered; new = k.new; independent = k.independent; in_place = k.in_place; found = λ c. e }

pub kept-close : (M : Merge) → Kept M → Kept (close_of M).merge
unfolding close_of
kept-close M k = kept_open M k (closing M (first_given (lost_at M.entries) M.entries)) (λ e. kept-closing M k _ refl)

-- ---- any sequence of calls

kept-call : (M : Merge) → Kept M → (c : Call) → Kept (call M c).merge
kept-call M k (add bytes) = kept-add M k bytes
kept-call M k (look n) = k
kept-call M k close = kept-close M k

kept-after : (M : Merge) → Kept M → (cs : List Call) → Kept (after M cs)
kept-after M k [] = k
kept-after M k (c ∷ cs) = kept-after (call M c).merge (kept-call M k c) cs

pub every_merge : {M : Merge} → Made M → Kept M
every_merge m = subst Kept m.by-calls (kept-after start kept-start m.calls)

-- one call more
after_snoc : (M : Merge) (cs : List Call) (c : Call) → after M (cs ++ (c ∷ [])) ≡ (call (after M cs) c).merge
after_snoc M [] c = refl
after_snoc M (d ∷ cs) c = after_snoc (call M d).merge cs c

pub made-start : Made start
made-start = record { calls = []; by-calls = refl }

pub made-call : {M : Merge} → Made M → (c : Call) → Made (call M c).merge
made-call m c = record { calls = m.calls ++ (c ∷ []); by-calls = after_snoc start m.calls c ∙ ap (λ M. (call M c).merge) m.by-calls }

-- ---- the file of a closed merge

pub closed-formed : {M : Merge} → Kept M → M.closed ≡ true → WellFormed M.entries
closed-formed {M} k c = record {
  entered = k.entered;
  independent = k.independent;
  named = all_imp (not-lost M.entries) M.entries (none-given (lost_at M.entries) M.entries (k.found c));
}

-- it is accepted, with the entries added in their order
pub closed-file : {M : Merge} → Kept M → M.closed ≡ true → read (file_of M) ≡ accepted M.entries
closed-file {M} k c = read-written M.entries (closed-formed k c) ∙ ap accepted k.in_place

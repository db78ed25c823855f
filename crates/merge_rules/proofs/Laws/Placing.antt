-- Entries at their places in the file: one more at the end, each by its index, and what was checked of them.
use Rattle.std.specs.Prelude.{◌≡◌, refl, List, [], ◌∷◌, ◌++◌, ℕ, zero, suc, ◌≤◌, ◌<◌, length, get_or}
use Rattle.std.proofs.Common.{sym, ap, ◌∙◌, subst, arith}
use Rattle.integers.specs.All.{All}
use Rattle.catalogue_rules.specs.Catalogue.{Form, Entry, most_entries}
use Rattle.catalogue_rules.specs.Form.{EntryFits, EntryIndependent, Distinct, Entered, past_see, past_mark, entry_at, placed}
use Rattle.catalogue_rules.proofs.Laws.Placed.{length-placed, all_placed}
use Rattle.catalogue_rules.proofs.Laws.ReadEntries.{past_entries}
use Rattle.catalogue_rules.proofs.Laws.ReadBack.{numbered-placed}

-- ---- one entry more

pub placed_snoc : (i : ℕ) (es : List Entry) (e : Entry) → placed i (es ++ (e ∷ [])) ≡ placed i es ++ (entry_at (past_entries i es) e ∷ [])
placed_snoc i [] e = refl
placed_snoc i (f ∷ es) e = ap (λ l. entry_at i f ∷ l) (placed_snoc (past_see (past_mark i f) f.see) es e)

-- the index after the entries
pub past_snoc : (i : ℕ) (es : List Entry) (e : Entry) → past_entries i (es ++ (e ∷ [])) ≡ past_see (past_mark (past_entries i es) e) e.see
past_snoc i [] e = refl
past_snoc i (f ∷ es) e = past_snoc (past_see (past_mark i f) f.see) es e

-- an entry by its index: the same, at some place
pub record At (e f : Entry) : Type 0 where
  pub place : ℕ
  pub is : f ≡ entry_at place e

pub placed_at : (i : ℕ) (es : List Entry) (o : Entry) (k : ℕ) → k < length es → At (get_or es k o) (get_or (placed i es) k o)
placed_at i [] o k h = absurd (omega arith)
placed_at i (e ∷ es) o zero h = record { place = i; is = refl }
placed_at i (e ∷ es) o (suc k) h = placed_at (past_see (past_mark i e) e.see) es o k (omega arith)

-- ---- what was checked

distinct-placed : (i : ℕ) (es : List Entry) → Distinct es → Distinct (placed i es)
distinct-placed i [] d = tt
distinct-placed i (e ∷ es) d =
    let j = past_see (past_mark i e) e.see in (numbered-placed e.head.number j es ∙ d.0, distinct-placed j es d.1)

fits-at : (i : ℕ) (e : Entry) → EntryFits e → EntryFits (entry_at i e)
fits-at i e p = record { head = record { number = p.head.number; d = p.head.d; m = p.head.m }; count = p.count; vectors = p.vectors }

pub forms-placed : (f : Form) (i : ℕ) (es : List Entry) → All (λ e. e.head.form ≡ f) es → All (λ e. e.head.form ≡ f) (placed i es)
forms-placed f i es p = all_placed (λ e. e.head.form ≡ f) (λ e. e.head.form ≡ f) (λ j e q. q) i es p

pub independent-placed : (i : ℕ) (es : List Entry) → All EntryIndependent es → All EntryIndependent (placed i es)
independent-placed i es p = all_placed EntryIndependent EntryIndependent (λ j e q. q) i es p

pub entered-placed : (i : ℕ) (es : List Entry) → Entered es → Entered (placed i es)
entered-placed i es k = record {
  one = record { form = k.one.form; heads = forms-placed k.one.form i es k.one.heads };
  few = subst (λ n. n ≤ most_entries) (sym (length-placed i es)) k.few;
  fits = all_placed EntryFits EntryFits fits-at i es k.fits;
  distinct = distinct-placed i es k.distinct;
}

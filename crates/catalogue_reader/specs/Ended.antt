-- The rows "after reading", as the code decides them entry by entry.
use Rattle.std.specs.Prelude.{◌≡◌, refl, true, false, ◌≤◌, List, [], ◌∷◌, map, ℕ, length, take, Some}
use Rattle.std.proofs.Common.{sym, ap, ◌∙◌, arith}
use Rattle.std.proofs.Math.Option.{Option, none, some}
use Rattle.std.proofs.lemmas.List.{length-map}
use Rattle.lattices.specs.Volume.{is_dependent}
use Rattle.integers.specs.Every.{any}
use Rattle.integers.specs.Filled.{filled}
use Rattle.integers.specs.FilledLaws.{any-map, take-filled}
use Rattle.catalogue_rules.specs.Catalogue as definition
use Rattle.catalogue_rules.specs.Catalogue.{most_entries}
use Rattle.catalogue_rules.specs.Read.{is_numbered, dependent_at, lost_at}
use Rattle.catalogue_records.specs.declared.See.{See}
use Rattle.catalogue_records.specs.declared.Entry.{Entry}
use Rattle.catalogue_steps.specs.Readings.{is_number}
use Rattle.catalogue_records.specs.EntriesIn.{see_in, entry_in}

-- what the test of an entry gives
module _ (e : Entry) where
  pub dependent-here : is_dependent e.m (entry_in e).vectors ≡ true → dependent_at (entry_in e) ≡ some e.place
  dependent-here h = ap (λ t. elim t as (λ t. Option ℕ) [ true ↦ some e.place | false ↦ none ]) h

  pub dependent-none : is_dependent e.m (entry_in e).vectors ≡ false → dependent_at (entry_in e) ≡ none
  dependent-none h = ap (λ t. elim t as (λ t. Option ℕ) [ true ↦ some e.place | false ↦ none ]) h

-- the numbers that the code looks through are those of the entries
pub any-numbers : (n : ℕ) (es : List definition.Entry) → any (is_number n) (map (λ e. e.head.number) es) ≡ any (is_numbered n) es
any-numbers n es = any-map (is_number n) (λ e. e.head.number) es

told-numbers : (l : List Entry) → map (λ e. e.number) l ≡ map (λ e. e.head.number) (map entry_in l)
told-numbers [] = refl
told-numbers (e ∷ l) = ap (λ ns. e.number ∷ ns) (told-numbers l)

pub first-numbers : (l : List Entry) → length l ≤ most_entries → take (length l) (filled 0 most_entries (map (λ e. e.number) l)) ≡ map (λ e. e.head.number) (map entry_in l)
first-numbers l few =
    let n = length-map l (λ e. e.number) in
    ap (λ k. take k (filled 0 most_entries (map (λ e. e.number) l))) (sym n) ∙ take-filled 0 most_entries (map (λ e. e.number) l) (omega (arith, n)) ∙ told-numbers l

module _ (es : List definition.Entry) (e : Entry) where
  lost : Option definition.See → Option ℕ
  lost o = elim o [ none ↦ none | some s ↦ elim (any (is_numbered s.number) es) [ true ↦ none | false ↦ some s.place ] ]

  module _ {s : See} (is : e.see ≡ Some s) where
    pub lost-here : any (is_numbered s.number) es ≡ false → lost_at es (entry_in e) ≡ some s.place
    unfolding lost
    lost-here h = ap (λ s. lost (see_in s)) is ∙ ap (λ t. elim t as (λ t. Option ℕ) [ true ↦ none | false ↦ some s.place ]) h

    pub lost-named : any (is_numbered s.number) es ≡ true → lost_at es (entry_in e) ≡ none
    unfolding lost
    lost-named h = ap (λ s. lost (see_in s)) is ∙ ap (λ t. elim t as (λ t. Option ℕ) [ true ↦ none | false ↦ some s.place ]) h

-- A whole addition: 8 before the words and 5 after them.
use Rattle.std.specs.Prelude.{◌≡◌, ◌≢◌, Bool, true, false, not, List, [], ◌∷◌, ◌++◌, ℕ, ◌%◌, length}
use Rattle.std.proofs.Math.Path.{sym}
use Rattle.std.proofs.Common.{ap, ◌∙◌, subst, eq-eqb, ne_eqb}
use Rattle.std.proofs.Math.Option.{Option, none, some}
use Rattle.integers.specs.All.{All}
use Rattle.integers.specs.AllLaws.{all_imp}
use Rattle.integers.specs.First.{first_given}
use Rattle.integers.specs.FirstLaws.{given-none, given-next}
use Rattle.lattices.specs.Volume.{is_dependent}
use Rattle.catalogue_rules.specs.Word.{words_of}
use Rattle.catalogue_rules.specs.Catalogue as definition
use Rattle.catalogue_rules.specs.Catalogue.{Outcome, refused, accepted}
use Rattle.catalogue_rules.specs.Read.{outside, checked, dependent_at}
use Rattle.catalogue_rules.specs.Form.{EntryFits, EntryIndependent}
use Rattle.catalogue_records.specs.declared.Entry.{Entry}
use Rattle.catalogue_records.specs.Stored.{entry_of}
use Rattle.catalogue_records.specs.EntriesIn.{entry_in}
use Rattle.catalogue_records.specs.Entries.{entry-back}
use Rattle.merge_rules.specs.Addition.{add_words, after_addition, addition}
use Rattle.merge_additions.specs.Progress.{Gives}

-- ---- 5

not-given : (e : definition.Entry) → EntryIndependent e → dependent_at e ≡ none
not-given e h = ap (λ t. elim t as (λ t. Option ℕ) [ true ↦ some e.head.place | false ↦ none ]) h

module _ (es : List definition.Entry) (independent : All EntryIndependent es) (o : Outcome) (e : Entry) (g : Gives es o e) where
  told : entry_in e ≡ g.entry
  told = ap entry_in g.kept ∙ entry-back g.entry g.fits

  pub fits : EntryFits (entry_in e)
  fits = subst EntryFits (sym told) g.fits

  pub kept : e ≡ entry_of (entry_in e)
  kept = g.kept ∙ ap entry_of (sym told)

  -- refused where it is dependent
  by : Bool → Outcome
  by t = elim (elim t as (λ t. Option ℕ) [ true ↦ some e.place | false ↦ none ]) as (λ p. Outcome) [ some p ↦ refused 5 p | none ↦ accepted (es ++ (entry_in e ∷ [])) ]

  judged : {t : Bool} → is_dependent e.m (entry_in e).vectors ≡ t → by t ≡ after_addition o
  unfolding by
  judged h =
      let x = entry_in e in
      let first : first_given dependent_at (es ++ (x ∷ [])) ≡ dependent_at x = given-next dependent_at es x (given-none dependent_at es (all_imp not-given es independent)) in
      sym (ap by h)
      ∙ sym (ap (λ p. elim p as (λ p. Outcome) [ some p ↦ refused 5 p | none ↦ accepted (es ++ (x ∷ [])) ]) first)
      ∙ ap (λ x. after_addition (accepted (es ++ (x ∷ [])))) told
      ∙ ap after_addition g.is

  pub judged_5 : is_dependent e.m (entry_in e).vectors ≡ true → refused 5 e.place ≡ after_addition o
  unfolding by
  judged_5 h = judged h

  pub judged_well : is_dependent e.m (entry_in e).vectors ≡ false → accepted (es ++ (entry_in e ∷ [])) ≡ after_addition o
  unfolding by
  judged_well h = judged h

-- ---- 8

module _ (es : List definition.Entry) (bytes : List ℕ) where
  abbrev by_length : Bool → Outcome
  by_length t = checked (λ n. refused n 0) ((not t, 8) ∷ []) (after_addition (add_words (length es) (outside es) 0 (words_of bytes)))

  pub not-whole : length bytes % 4 ≢ 0 → refused 8 0 ≡ addition es bytes
  unfolding addition
  not-whole h = sym (ap by_length (ne_eqb _ 0 h))

  pub whole_words : length bytes % 4 ≡ 0 → after_addition (add_words (length es) (outside es) 0 (words_of bytes)) ≡ addition es bytes
  unfolding addition
  whole_words h = sym (ap by_length (eq-eqb _ 0 h))

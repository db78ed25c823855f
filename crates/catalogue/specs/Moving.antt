-- What the moves hand back: the refusals of reading, 19, or the entries in the other form as they are written.
use Rattle.std.specs.Prelude.{◌≡◌, List, map, ℕ, ◌≤◌, take, Ok, Err}
use Rattle.std.proofs.Math.Path.{sym, ap}
use Rattle.std.proofs.Common.{◌∙◌, subst, arith}
use Rattle.std.proofs.Math.Option.{none, some}
use Rattle.integers.specs.First.{first_given}
use Rattle.catalogue_rules.specs.Catalogue as definition
use Rattle.catalogue_rules.specs.Catalogue.{refused, accepted, most_entries}
use Rattle.catalogue_rules.specs.Read.{checked}
use Rattle.catalogue_rules.specs.Form.{WellFormed}
use Rattle.catalogue_rules.specs.Output.{untouched, filled_with, lent_rows, output}
use Rattle.catalogue_rules.specs.Moving.{entry_to_form, to_form, read_to_move, over_at, moved, move_of}
use Rattle.catalogue_rules.proofs.Laws.Moving.{to-form-written, form-formed, numbers_fit, read_first}
use Rattle.refusals.specs.declared.Refused.{Refused}
use Rattle.catalogue_records.specs.declared.Form.{Form}
use Rattle.catalogue_records.specs.declared.Entry.{Entry}
use Rattle.catalogue_records.specs.declared.Catalogue.{Catalogue}
use Rattle.catalogue_records.specs.EntriesIn.{form_in, entry_in, entries_in, outcome_in, output_in}
use Rattle.catalogue_moves.specs.Moved.{catalogue_in, in_form}
use Rattle.catalogue_standing.specs.ReducedEntries.{WasRead, ready-read}

-- the output asks for no places
written-alike : (f : definition.Form) (es : List definition.Entry) (out : List ℕ) → output (accepted (map (entry_to_form f) es)) out ≡ output (accepted (to_form f es)) out
written-alike f es out = ap (λ bytes. checked (λ n. untouched n 0 out) (lent_rows bytes out) (filled_with bytes out)) (sym (to-form-written f es))

module _ (f : Form) (bytes : List ℕ) where
  pub not-moved : (r : Refused) → outcome_in (Err r) ≡ read_to_move (form_in f) bytes → (out : List ℕ) → output_in (Err r) out ≡ move_of (form_in f) bytes out
  unfolding move_of
  not-moved r is out = ap (λ o. output (moved (form_in f) o) out) is

  module _ (c : Catalogue) (is : outcome_in (Ok c) ≡ read_to_move (form_in f) bytes) {l : List Entry} (e : l ≡ take c.count c.entries) where
    pub was-read : WasRead l
    was-read = ready-read bytes c (sym (read_first (form_in f) bytes (entries_in c) (sym is))) e

    moves_as : (out : List ℕ) → output (moved (form_in f) (accepted (map entry_in l))) out ≡ move_of (form_in f) bytes out
    unfolding move_of
    moves_as out = ap (λ l. output (moved (form_in f) (accepted (map entry_in l))) out) e ∙ ap (λ o. output (moved (form_in f) o) out) is

    -- the first number that is too large
    pub too_large : {p : ℕ} → some p ≡ first_given (over_at (form_in f)) (map entry_in l) → (out : List ℕ) → untouched 19 p out ≡ move_of (form_in f) bytes out
    too_large q out = ap (λ o. output (elim o [ some p ↦ refused 19 p | none ↦ accepted (to_form (form_in f) (map entry_in l)) ]) out) q ∙ moves_as out

    module _ (all_fit : none ≡ first_given (over_at (form_in f)) (map entry_in l)) {m : Catalogue} (made : m ≡ catalogue_in f l) where
      pub few_in : m.count ≤ most_entries
      few_in = omega (arith, ap (λ m. m.count) made, was-read.few)

      module _ {k : List Entry} (held : k ≡ take m.count m.entries) where
        are : map entry_in k ≡ map (entry_to_form (form_in f)) (map entry_in l)
        are = ap (map entry_in) held ∙ ap entries_in made ∙ in_form f l was-read.few

        pub formed_in : WellFormed (map entry_in k)
        formed_in = subst WellFormed (sym are) (form-formed (form_in f) (map entry_in l) was-read.formed (numbers_fit (form_in f) (map entry_in l) (sym all_fit)))

        pub move-written : (out : List ℕ) → output (accepted (map entry_in k)) out ≡ move_of (form_in f) bytes out
        move-written out =
            ap (λ es. output (accepted es) out) are
            ∙ written-alike (form_in f) (map entry_in l) out
            ∙ ap (λ o. output (elim o [ some p ↦ refused 19 p | none ↦ accepted (to_form (form_in f) (map entry_in l)) ]) out) all_fit
            ∙ moves_as out

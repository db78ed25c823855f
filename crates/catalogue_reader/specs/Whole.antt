-- A whole file: what the code finds row by row is what the definition reads.
use Rattle.std.specs.Prelude.{◌≡◌, [], ℕ, ◌≤◌, List, Ok}
use Rattle.std.proofs.Math.Path.{sym}
use Rattle.std.proofs.Common.{subst, arith}
use Rattle.catalogue_rules.specs.Word.{words_of}
use Rattle.catalogue_rules.specs.Catalogue.{Outcome, most_entries}
use Rattle.catalogue_rules.specs.Read.{outside, read_words}
use Rattle.catalogue_rules.specs.Form.{Entered}
use Rattle.catalogue_rules.proofs.Laws.Moves.{WhenAccepted}
use Rattle.catalogue_rules.proofs.Laws.WellFormed.{words-entered}
use Rattle.catalogue_records.specs.declared.Catalogue.{Catalogue}
use Rattle.catalogue_records.specs.Catalogues.{IsStored}
use Rattle.catalogue_records.specs.EntriesIn.{entries_in, outcome_in}

-- the words' outcome
abbrev pub words : List ℕ → Outcome
words bytes = read_words (outside []) 0 (words_of bytes)

-- ---- what the words gave

module _ (bytes : List ℕ) (c : Catalogue) (is : outcome_in (Ok c) ≡ words bytes) where
  pub entered : Entered (entries_in c)
  entered = subst (WhenAccepted Entered) (sym is) (words-entered (words_of bytes))

  pub few-entries : IsStored c → c.count ≤ most_entries
  few-entries s = omega (arith, s.count, entered.few)

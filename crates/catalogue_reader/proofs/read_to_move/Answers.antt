use Rattle.std.proofs.Common.{Bool, List, [], ◌∷◌, ℕ, sym, ap, ◌∙◌, rules}
use Rattle.catalogue_rules.specs.Word.{words_of}
use Rattle.catalogue_rules.specs.Catalogue.{Outcome, refused}
use Rattle.catalogue_rules.specs.Read.{checked, opens_in, read_all}
use Rattle.catalogue_records.specs.EntriesIn.{form_in}
use Rattle.catalogue_reader.proofs.read_to_move.Goals as goal

-- after the rows of the whole file: the form that is to be written
abbrev judged : List ℕ → Bool → Outcome
judged bytes t = checked (λ n. refused n 0) ((t, 10) ∷ []) (read_all bytes)

pub returns-in_err-file-clause-outcome : goal.returns-in_err-file-clause-outcome
returns-in_err-file-clause-outcome c =
    let bytes = c.args.bytes.now in
    let e = c.in_err-file.ensures (judged bytes (opens_in (form_in c.args.form) (words_of bytes))) in
    search rules

pub returns-then-opens_in-clause-outcome : goal.returns-then-opens_in-clause-outcome
returns-then-opens_in-clause-outcome c =
    let bytes = c.args.bytes.now in
    ap (judged bytes) (sym c.if-opens_in.true ∙ c.opens_in.ensures) ∙ c.in_ok-file.ensures (judged bytes (opens_in (form_in c.args.form) (words_of bytes)))

pub returns-clause-outcome : goal.returns-clause-outcome
returns-clause-outcome c =
    let bytes = c.args.bytes.now in
    c.read_all.ensures.outcome ∙ ap (judged bytes) (sym c.if-opens_in.false ∙ c.opens_in.ensures)
    ∙ c.in_ok-file.ensures (judged bytes (opens_in (form_in c.args.form) (words_of bytes)))

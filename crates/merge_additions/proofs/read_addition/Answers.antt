-- 8, then what the words gave, then 5.
use Rattle.std.proofs.Common.{sym, ap, ◌∙◌, List, ℕ, length, rules}
use Rattle.catalogue_rules.specs.Word.{words_of}
use Rattle.catalogue_rules.specs.Catalogue as definition
use Rattle.catalogue_rules.specs.Catalogue.{Outcome}
use Rattle.catalogue_rules.specs.Read.{outside}
use Rattle.merge_rules.specs.Addition.{add_words, after_addition}
use Rattle.merge_additions.specs.Judged.{fits, kept, judged_5, judged_well, not-whole, whole_words}
use Rattle.merge_additions.proofs.read_addition.Goals as goal

abbrev words : List definition.Entry → List ℕ → Outcome
words es bytes = add_words (length es) (outside es) 0 (words_of bytes)

pub returns-then-bytes-ne0-clause-outcome : goal.returns-then-bytes-ne0-clause-outcome
returns-then-bytes-ne0-clause-outcome c = λ p. not-whole p.entries c.args.bytes.now c.if-bytes-ne0.true

pub returns-in_err-e-clause-outcome : goal.returns-in_err-e-clause-outcome
returns-in_err-e-clause-outcome c = λ p.
    let refused = ap after_addition (c.in_err-e.ensures p) ∙ whole_words p.entries c.args.bytes.now c.if-bytes-ne0.false in
    search rules

pub dependent-requires : goal.dependent-requires
dependent-requires c =
    let p = c.requires in
    fits p.entries p.independent (words p.entries c.args.bytes.now) c.in_ok-e.e (c.in_ok-e.ensures p)

pub returns-then-dependent-clause-outcome : goal.returns-then-dependent-clause-outcome
returns-then-dependent-clause-outcome c = λ p.
    judged_5 p.entries p.independent (words p.entries c.args.bytes.now) c.in_ok-e.e (c.in_ok-e.ensures p) (sym c.dependent.ensures ∙ c.if-dependent.true)
    ∙ whole_words p.entries c.args.bytes.now c.if-bytes-ne0.false

pub returns-clause-outcome : goal.returns-clause-outcome
returns-clause-outcome c = λ p.
    judged_well p.entries p.independent (words p.entries c.args.bytes.now) c.in_ok-e.e (c.in_ok-e.ensures p) (sym c.dependent.ensures ∙ c.if-dependent.false)
    ∙ whole_words p.entries c.args.bytes.now c.if-bytes-ne0.false

pub returns-clause-stored : goal.returns-clause-stored
returns-clause-stored c =
    let p = c.requires in
    kept p.entries p.independent (words p.entries c.args.bytes.now) c.in_ok-e.e (c.in_ok-e.ensures p)

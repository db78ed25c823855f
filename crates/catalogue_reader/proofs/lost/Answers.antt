use Rattle.std.proofs.Common.{sym, ap, ◌∙◌}
use Rattle.integers.specs.Every.{any}
use Rattle.catalogue_steps.specs.Readings.{is_number}
use Rattle.catalogue_reader.specs.Ended.{any-numbers, lost-named, lost-here}
use Rattle.catalogue_reader.proofs.lost.Goals as goal

pub returns-then-contains : goal.returns-then-contains
returns-then-contains c = λ es is.
    let n = c.in_ok-see.see.number in
    let named = sym (any-numbers n es) ∙ sym (ap (any (is_number n)) is) ∙ sym c.contains.ensures.value ∙ c.if-contains.true in
    sym (lost-named es c.args.e.now c.in_ok-see.was named)

pub returns : goal.returns
returns c = λ es is.
    let n = c.in_ok-see.see.number in
    let none = sym (any-numbers n es) ∙ sym (ap (any (is_number n)) is) ∙ sym c.contains.ensures.value ∙ c.if-contains.false in
    sym (lost-here es c.args.e.now c.in_ok-see.was none)

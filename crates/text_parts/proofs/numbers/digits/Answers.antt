-- The first byte that is no digit stands behind the digits.
use Rattle.std.proofs.Common.{rules, ◌∙◌, not}
use Rattle.std.proofs.lemmas.Iterator.{YieldsList-from_slice}
use Rattle.std.proofs.lemmas.Iterator.Search.{position_from_yields_List}
use borrow.Author.Tests.{tests}
use Rattle.text_parts.specs.Numbers.{is_digit}
use Rattle.text_parts.specs.NumberLaws.{leading-found}
use Rattle.text_parts.proofs.numbers.digits.Goals as goal

pub returns-clause-value : goal.returns-clause-value
returns-clause-value c =
    let first = position_from_yields_List (λ b. not (is_digit b)) _ _ c.position.result c.position.ensures.ran (YieldsList-from_slice c.args.s.now cc) (λ x b q k. search (rules, tests)) in
    c.unwrap_or.ensures ∙ leading-found is_digit c.args.s.now c.position.result first

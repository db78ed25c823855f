-- The first byte b stands behind the others.
use Rattle.std.proofs.Common.{rules, ◌∙◌, not}
use Rattle.std.proofs.lemmas.Iterator.{YieldsList-from_slice}
use Rattle.std.proofs.lemmas.Iterator.Search.{position_from_yields_List}
use borrow.Author.Tests.{tests}
use Rattle.text_parts.specs.NumberLaws.{leading-found}
use Rattle.text_lines.specs.Lengths.{is_other}
use Rattle.text_lines.proofs.length_before.Goals as goal

pub returns-clause-value : goal.returns-clause-value
returns-clause-value c =
    let first = position_from_yields_List (λ x. not (is_other c.args.b x)) _ _ c.position.result c.position.ensures.ran (YieldsList-from_slice c.args.s.now cc) (λ x b q k. search (rules, tests)) in
    c.unwrap_or.ensures ∙ leading-found (is_other c.args.b) c.args.s.now c.position.result first

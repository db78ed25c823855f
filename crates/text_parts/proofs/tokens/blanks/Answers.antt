-- The first byte that is no blank stands behind the blanks.
use Rattle.std.proofs.Common.{rules, ◌∙◌, not}
use Rattle.std.proofs.lemmas.Iterator.{YieldsList-from_slice}
use Rattle.std.proofs.lemmas.Iterator.Search.{position_from_yields_List}
use borrow.Author.Tests.{tests}
use Rattle.text_parts.specs.Tokens.{is_blank}
use Rattle.text_parts.specs.NumberLaws.{leading-found}
use Rattle.text_parts.proofs.tokens.blanks.Goals as goal

pub returns-clause-value : goal.returns-clause-value
returns-clause-value c =
    let first = position_from_yields_List (λ b. not (is_blank b)) _ _ c.position.result c.position.ensures.ran (YieldsList-from_slice c.args.s.now cc) (λ x b q k. search (rules, tests)) in
    c.unwrap_or.ensures ∙ leading-found is_blank c.args.s.now c.position.result first

use Rattle.std.proofs.Common.{◌≡◌, map, take, length, sym, ap, ◌∙◌, rules}
use Rattle.catalogue_rules.specs.Read.{lost_at}
use Rattle.catalogue_records.specs.EntriesIn.{option_in, entry_in}
use Rattle.catalogue_records.specs.Entries.{first-here, first-later}
use Rattle.catalogue_reader.specs.Ended.{first-numbers}
use Rattle.catalogue_reader.proofs.first_lost.Goals as goal

pub returns-in-Some : goal.returns-in-Some
returns-in-Some c =
    let l = c.args.entries.now in
    let es = map entry_in l in
    let all : take (length l) c.numbers-numbers.result ≡ map (λ e. e.head.number) es = ap (take (length l)) c.numbers-numbers.ensures ∙ first-numbers l c.requires in
    sym (c.loop-e.invariant ∙ first-here l _ (search rules) (lost_at es) (sym (c.lost.ensures es all) ∙ ap option_in c.in-Some.is))

pub loop-e-preserved : goal.loop-e-preserved
loop-e-preserved c =
    let l = c.args.entries.now in
    let es = map entry_in l in
    let all : take (length l) c.numbers-numbers.result ≡ map (λ e. e.head.number) es = ap (take (length l)) c.numbers-numbers.ensures ∙ first-numbers l c.requires in
    c.loop-e.invariant ∙ first-later l _ (search rules) (lost_at es) (sym (c.lost.ensures es all) ∙ ap option_in c.in_default.is)

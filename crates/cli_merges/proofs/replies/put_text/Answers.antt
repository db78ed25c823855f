-- The text, put again.
use Rattle.std.proofs.Common.{◌≡◌, subst, arith, take, map}
use Rattle.catalogue_records.specs.EntriesIn.{entry_in}
use Rattle.text_rules.specs.Text.{text_of}
use Rattle.text_output.specs.Puts.{Puts}
use Rattle.cli_merges.specs.Prefix.{take-puts}
use Rattle.cli_merges.proofs.replies.put_text.Goals as goal

pub returns-clause-puts : goal.returns-clause-puts
returns-clause-puts c =
    let whole : take c.put_entries-n.result c.put_entries-n.new.out ≡ text_of (map entry_in c.args.entries.now) = take-puts (omega (arith, c.requires.length_bound)) c.put_entries-n.ensures in
    subst (λ t. Puts t c.args.out.now c.args.at c.put_bytes.new.out c.put_bytes.result) whole c.put_bytes.ensures

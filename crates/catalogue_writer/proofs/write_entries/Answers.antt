-- The length is known first; then the entries, then the end word.
use Rattle.std.proofs.Common.{◌≡◌, sym, ap, ap₂, ◌∙◌, List, ℕ, map, ◌+◌, ◌*◌, ◌≤◌, arith, length}
use Rattle.catalogue_rules.specs.Write.{write}
use Rattle.catalogue_rules.proofs.Laws.Output.{too_short, long-enough}
use Rattle.catalogue_rules.proofs.Laws.ReadBack.{sees-fit}
use Rattle.catalogue_records.specs.EntriesIn.{entry_in}
use Rattle.catalogue_records.specs.Entries.{length-entries}
use Rattle.catalogue_rules.specs.Word.{end, encode}
use Rattle.catalogue_writer.specs.Upto.{few_words}
use Rattle.catalogue_writer.specs.Writing.{length-write, end-written}
use Rattle.catalogue_rules.specs.Output.{Output}
use Rattle.catalogue_writer.proofs.write_entries.Goals as goal

filled : ℕ → List ℕ → Output
filled n lent = record { refusal = 0; place = 0; written = n; lent = lent }

pub overflow_mul-n : goal.overflow_mul-n
overflow_mul-n c =
    let w = c.requires.entered in
    omega (arith, c.count_words.ensures, few_words c.args.entries.now (omega (arith, w.few, length-entries c.args.entries.now)) w.fits)

pub overflow_add-n : goal.overflow_add-n
overflow_add-n c =
    let w = c.requires.entered in
    omega (arith, c.count_words.ensures, few_words c.args.entries.now (omega (arith, w.few, length-entries c.args.entries.now)) w.fits)

pub returns-then-out-n : goal.returns-then-out-n
returns-then-out-n c =
    let es = map entry_in c.args.entries.now in
    too_short es c.args.out.now (omega (arith, c.count_words.ensures, length-write es, c.if-out-n.true))

pub put_entries-k-requires-clause-all_2 : goal.put_entries-k-requires-clause-all_2
put_entries-k-requires-clause-all_2 c =
    let es = map entry_in c.args.entries.now in
    sees-fit es es c.requires.entered.fits c.requires.named

pub returns : goal.returns
unfolding filled
returns c =
    let es = map entry_in c.args.entries.now in
    let out = c.args.out.now in
    let size : c.count_words.result * 4 + 4 ≡ length (write es) = omega (arith, c.count_words.ensures, length-write es) in
    let room : length (write es) ≤ length out = omega (arith, size, c.if-out-n.false) in
    let lent = end-written es out room c.put_entries-k.ensures (c.end_word.ensures ∙ ap (λ n. encode (end n)) (sym (length-entries c.args.entries.now))) c.put_word.ensures in
    ap₂ filled size lent ∙ long-enough es out room

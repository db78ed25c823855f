-- The text is put into an array that has room for every listing; then the output is long enough for it or not.
use Rattle.std.proofs.Common.{◌≤◌, sym, ap, ◌∙◌, subst, map, length, arith}
use Rattle.catalogue_rules.proofs.Laws.Output.{does_not-fit, does_fit}
use Rattle.fold_rules.specs.Services.{listing_text}
use Rattle.catalogue_records.specs.EntriesIn.{entry_in}
use Rattle.text_output.specs.Puts.{Puts}
use Rattle.catalogue_listing.specs.Listed.{text-small, put-end, put_first, put_all, put-counts}
use Rattle.catalogue_listing.proofs.list_read.Goals as goal

pub put_catalogue-n-requires-clause-entries_in_bounds : goal.put_catalogue-n-requires-clause-entries_in_bounds
put_catalogue-n-requires-clause-entries_in_bounds c = omega (arith, text-small (map entry_in c.args.entries.now) c.requires.formed)

pub returns-then-out-n-clause-value : goal.returns-then-out-n-clause-value
returns-then-out-n-clause-value c = does_not-fit listing_text (map entry_in c.args.entries.now) c.args.out.now (omega (arith, put-end c.put_catalogue-n.ensures))

pub slice_bounds-text-end : goal.slice_bounds-text-end
slice_bounds-text-end c = omega (arith, put-end c.put_catalogue-n.ensures, text-small (map entry_in c.args.entries.now) c.requires.formed)

pub slice_bounds-put_bytes-end : goal.slice_bounds-put_bytes-end
slice_bounds-put_bytes-end c =
    let text-is = put_first c.put_catalogue-n.ensures (omega (arith, text-small (map entry_in c.args.entries.now) c.requires.formed)) in
    put-end c.put_catalogue-n.ensures ∙ sym (ap length text-is)

pub returns : goal.returns
returns c =
    let es = map entry_in c.args.entries.now in
    let text = listing_text es in
    let text-is = put_first c.put_catalogue-n.ensures (omega (arith, text-small es c.requires.formed)) in
    let room : length (listing_text es) ≤ length c.args.out.now = omega (arith, put-end c.put_catalogue-n.ensures) in
    let put = subst (λ t. Puts t c.args.out.now 0 c.put_bytes.new.out c.put_bytes.result) text-is c.put_bytes.ensures in
    record { value = put_all put room ∙ does_fit listing_text es c.args.out.now room; prefix_len = put-counts put room }

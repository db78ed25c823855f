use Rattle.std.proofs.Common.{◌≡◌, ◌≤◌, ◌/◌, [], refl, sym, ap, ◌∙◌, subst, arith, rules, length, set, pos}
use lib.ListN.{replicate}
use Rattle.catalogue_rules.specs.Word.{words_of}
use Rattle.catalogue_rules.specs.Catalogue.{refused, most_entries, most_numbers}
use Rattle.integers.specs.Filled.{filled}
use Rattle.catalogue_records.specs.Catalogues.{stored}
use Rattle.catalogue_steps.specs.Words.{word_in}
use Rattle.catalogue_steps.specs.Parts.{whole_at}
use Rattle.catalogue_steps.specs.Held.{held-ready, cells-room}
use Rattle.catalogue_reader.specs.Store.{put}
use Rattle.catalogue_reader.specs.Progress.{Reached, at-start, numbers-long, refuses, keeps, few-next, counted-next, counted-head, stores_one, stores-none, missing, read-all, stored-all}
use Rattle.catalogue_reader.proofs.read_words.Goals as goal
use Rattle.catalogue_reader.proofs.read_words.Goals.{then-s-t, else-s-t}

pub loop-i-init : goal.loop-i-init
loop-i-init c =
    let words = words_of c.args.bytes.now in
    let zeros = replicate most_numbers (pos 0) in
    subst (λ e. Reached words 0 (replicate most_entries e) (filled 0 most_entries []) zeros c.start-s.result) (sym c.empty-entries.ensures)
    (subst (Reached words 0 (stored []) (filled 0 most_entries []) zeros) (sym c.start-s.ensures) (at-start words zeros refl))

pub step-requires : goal.step-requires
step-requires c =
    let r = c.loop-i.invariant in
    held-ready r.state r.held (numbers-long _ _ r)

pub returns-in-Err-clause-outcome : goal.returns-in-Err-clause-outcome
returns-in-Err-clause-outcome c =
    refuses _ _ c.loop-i.invariant c.loop-i-test.true c.word_at.ensures c.decode-w.ensures _ c.step.ensures c.in-Err.is

-- there is room for the coordinates, the entry, the coordinate and the number
pub first_numbers-requires : goal.first_numbers-requires
first_numbers-requires c =
    let r = c.loop-i.invariant in
    (cells-room r.state r.held).0

pub bounds-entries-s : goal.bounds-entries-s
bounds-entries-s c =
    let few : c.in-Ok.t.count ≤ most_entries =
    few-next _ _ c.loop-i.invariant c.loop-i-test.true c.word_at.ensures c.decode-w.ensures _ c.step.ensures c.in-Ok.is in
    omega (arith, few)

pub store-requires : goal.store-requires
store-requires c =
    counted-next _ _ c.loop-i.invariant c.loop-i-test.true c.word_at.ensures c.decode-w.ensures _ c.step.ensures c.in-Ok.is

pub note-requires : goal.note-requires
note-requires c =
    counted-head _ _ c.loop-i.invariant c.loop-i-test.true c.word_at.ensures c.decode-w.ensures _ c.step.ensures c.in-Ok.is

pub loop-i-preserved : goal.loop-i-preserved
loop-i-preserved c =
    let i = c.loop-i.i in
    let s = c.loop-i.s in
    let w = word_in c.decode-w.result in
    let t = c.in-Ok.t in
    let stores : c.if-s-t.entries ≡ put c.loop-i.entries s t c.loop-i.coordinates i w =
    elim c.if-s-t.branch [
      | then-s-t b ↦
          b.entries-is ∙ ap (set c.loop-i.entries s.count) (b.whole.ensures ∙ ap (λ cs. whole_at s.part t.form cs i w) b.first_numbers.ensures)
          ∙ stores_one c.loop-i.entries s t c.loop-i.coordinates i w b.if-s-t.true
      | else-s-t b ↦ b.entries-is ∙ stores-none c.loop-i.entries s t c.loop-i.coordinates i w b.if-s-t.false
    ] in
    keeps _ _ c.loop-i.invariant c.loop-i-test.true c.word_at.ensures c.decode-w.ensures _ c.step.ensures c.in-Ok.is stores c.note.ensures c.store.ensures

pub returns-then-ne-clause-outcome : goal.returns-then-ne-clause-outcome
returns-then-ne-clause-outcome c =
    let n : length c.args.bytes.now / 4 ≡ c.loop-i.i = omega arith in
    ap (refused 10) n ∙ missing _ _ c.loop-i.invariant c.loop-i-test.false (search rules)

pub returns-clause-outcome : goal.returns-clause-outcome
returns-clause-outcome c = read-all _ _ c.loop-i.invariant c.loop-i-test.false (search rules)

pub returns-clause-stored : goal.returns-clause-stored
returns-clause-stored c = stored-all _ _ c.loop-i.invariant c.loop-i-test.false (search rules)

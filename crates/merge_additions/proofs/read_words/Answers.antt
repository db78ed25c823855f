use Rattle.std.proofs.Common.{◌≡◌, ℕ, ◌≤◌, ◌/◌, List, refl, sym, ap, ap₂, ◌∙◌, subst, arith, length, take, pos, None}
use Rattle.std.specs.Prelude.{ok_or}
use lib.ListN.{replicate}
use Rattle.catalogue_rules.specs.Word.{words_of}
use Rattle.catalogue_rules.specs.Catalogue.{most_entries, most_numbers}
use Rattle.catalogue_steps.specs.Words.{word_in}
use Rattle.catalogue_steps.specs.States.{numbers}
use Rattle.catalogue_steps.specs.Held.{held-ready, cells-room}
use Rattle.merge_additions.specs.Additions.{Earlier}
use Rattle.merge_additions.specs.Turns.{start_read, add_read}
use Rattle.merge_additions.specs.Progress.{Read, due, Reached, at-start, refuses, counted, keeps, ends}
use Rattle.merge_additions.proofs.read_words.Goals as goal

-- what is known of the entries before
few : {ns : List ℕ} {count : ℕ} (p : Earlier ns count) → length p.entries ≤ most_entries
few p = p.entered.few

noted : {ns : List ℕ} {count : ℕ} (p : Earlier ns count) → take (length p.entries) ns ≡ numbers p.entries
noted {ns} p = ap (λ n. take n ns) (sym p.counted) ∙ p.numbered

pub loop-i-init : goal.loop-i-init
loop-i-init c =
    let words = words_of c.args.bytes.now in
    let zeros = replicate most_numbers (pos 0) in
    λ p. subst (Reached p.entries words 0 None zeros) (sym (c.start-s.ensures ∙ ap start_read p.counted)) (at-start p.entries p.entered p.new words zeros refl)

pub step-requires : goal.step-requires
step-requires c =
    let r = c.loop-i.invariant c.requires in
    held-ready r.state r.held c.requires.long

pub returns-in-Err : goal.returns-in-Err
returns-in-Err c = λ p.
    let read = c.step.ensures ∙ ap (λ n. add_read c.args.numbers.now n c.loop-i.s c.loop-i.i (word_in c.decode-w.result)) p.counted in
    refuses p.entries (few p) _ (noted p) _ _ (c.loop-i.invariant p) c.loop-i-test.true c.word_at.ensures c.decode-w.ensures _ read c.in-Err.is

-- there is room for the coordinates
pub kept-entry-requires : goal.kept-entry-requires
kept-entry-requires c =
    let r = c.loop-i.invariant c.requires in
    (cells-room r.state r.held).0

pub store-requires : goal.store-requires
store-requires c =
    let p = c.requires in
    let read = c.step.ensures ∙ ap (λ n. add_read c.args.numbers.now n c.loop-i.s c.loop-i.i (word_in c.decode-w.result)) p.counted in
    counted p.entries (few p) _ (noted p) _ _ (c.loop-i.invariant p) c.loop-i-test.true c.word_at.ensures c.decode-w.ensures _ read c.in-Ok.is

pub loop-i-preserved : goal.loop-i-preserved
loop-i-preserved c = λ p.
    let read = c.step.ensures ∙ ap (λ n. add_read c.args.numbers.now n c.loop-i.s c.loop-i.i (word_in c.decode-w.result)) p.counted in
    keeps p.entries (few p) _ (noted p) _ _ (c.loop-i.invariant p) c.loop-i-test.true c.word_at.ensures c.decode-w.ensures _ read c.in-Ok.is c.kept-entry.ensures c.store.ensures

pub last-requires : goal.last-requires
last-requires c =
    let r = c.loop-i.invariant c.requires in
    (cells-room r.state r.held).0

pub returns : goal.returns
returns c = λ p.
    let n : length c.args.bytes.now / 4 ≡ c.loop-i.i = omega arith in
    subst (Read p.entries _) (sym (c.ok_or.ensures.value ∙ ap₂ (λ o n. ok_or o (due n)) c.last.ensures n)) (ends p.entries _ _ (c.loop-i.invariant p) c.loop-i-test.false)

-- Two words.
use Rattle.std.proofs.Common.{refl, [], ◌∷◌, ◌+◌, arith, sym, subst}
use Rattle.catalogue_rules.specs.Word.{head_number, head_size}
use Rattle.catalogue_rules.specs.Write.{head_words_in}
use Rattle.catalogue_records.specs.EntriesIn.{form_in}
use Rattle.catalogue_writer.specs.Puts.{HasRoom, Puts, puts_one, puts_both}
use Rattle.catalogue_writer.proofs.put_head.Goals as goal

pub returns-in-New : goal.returns-in-New
returns-in-New c =
    let e = c.args.e.now in
    let out = c.args.out.now in
    let k = c.args.k in
    let room = subst (λ f. HasRoom out k (head_words_in (form_in f) e.number e.d e.m)) c.in-New.is c.requires.room in
    subst (λ f. Puts out k (head_words_in (form_in f) e.number e.d e.m) c.put_word-in-New-2.new.out (k + 2)) (sym c.in-New.is)
    (puts_both (head_number e.number ∷ []) (head_size 0 e.d e.m ∷ []) (omega (arith, room))
    (puts_one (head_number e.number) c.head_number_word.ensures c.put_word-in-New.ensures refl)
    (puts_one (head_size 0 e.d e.m) c.head_size_word.ensures c.put_word-in-New-2.ensures (omega arith)))

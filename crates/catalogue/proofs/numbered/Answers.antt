use Rattle.std.proofs.Common.{◌∙◌, ap, subst, sym, map}
use Rattle.std.specs.Option.{ok_or}
use Rattle.catalogue.specs.Finding.{no_such_entry, NumberedAt, numbered-at}
use Rattle.catalogue.proofs.numbered.Goals as goal

pub returns : goal.returns
returns c =
    let l = c.args.entries.now in
    let n = c.args.number in
    subst (NumberedAt (map (λ e. e.number) l) n) (sym (c.ok_or.ensures.value ∙ ap (λ o. ok_or o no_such_entry) c.place_of.ensures)) (numbered-at l n)

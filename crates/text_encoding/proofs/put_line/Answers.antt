-- The head, of one word or two, the coordinates, the mark, the see word.
use Rattle.text_encoding.specs.Stores.{Room, stores-room, stores-then}
use Rattle.text_encoding.proofs.put_line.Goals as goal

pub returns : goal.returns
returns c =
    let first : Room c.put-first.new.out c.put-first.result = stores-room c.requires.room c.put-first.ensures in
    let second : Room c.put_told-second.new.out c.put_told-second.result = stores-room first c.put_told-second.ensures in
    let third : Room c.put_words-third.new.out c.put_words-third.result = stores-room second c.put_words-third.ensures in
    stores-then c.requires.room c.put-first.ensures
    (stores-then first c.put_told-second.ensures (stores-then second c.put_words-third.ensures (stores-then third c.put_draft-fourth.ensures c.put_told.ensures)))

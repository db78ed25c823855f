-- The end word after the entries.
use Rattle.std.specs.Prelude.{◌≡◌, refl, List, [], ◌∷◌, ◌++◌, map, ℕ, ◌+◌, ◌*◌, ◌≤◌, length, drop}
use Rattle.std.proofs.Common.{◌∙◌, arith, length-append}
use Rattle.std.proofs.lemmas.List.{length-map}
use Rattle.catalogue_rules.specs.Word.{end, encode}
use Rattle.catalogue_rules.proofs.Laws.Word.{length-bytes}
use Rattle.catalogue_rules.specs.Catalogue.{Entry}
use Rattle.catalogue_rules.specs.Write.{entries_words, catalogue_words, write}
use Rattle.catalogue_writer.specs.Over.{over_words, over-start}
use Rattle.catalogue_writer.specs.Puts.{Puts, puts_one, puts_both}

pub length-write : (es : List Entry) → length (write es) ≡ length (entries_words es) * 4 + 4
unfolding write
length-write es =
    omega (arith, length-bytes (map encode (catalogue_words es)), length-map (catalogue_words es) encode, length-append (entries_words es) (end (length es) ∷ []))

-- the entries, then the end word: all is written
pub end-written : (es : List Entry) (out : List ℕ) {now after : List ℕ} {k n : ℕ} → length (write es) ≤ length out
    → Puts out 0 (entries_words es) now k → n ≡ encode (end (length es)) → after ≡ over_words now k (n ∷ []) → after ≡ write es ++ drop (length (write es)) out
unfolding write
end-written es out {k = k} room p e f =
    let ws = entries_words es in
    let w = end (length es) in
    (puts_both ws (w ∷ []) (omega (arith, room, length-write es)) p (puts_one {end = k + 1} w e f refl)).bytes ∙ over-start out (map encode (catalogue_words es))

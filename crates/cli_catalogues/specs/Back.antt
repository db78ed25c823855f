-- What `decode` writes of an accepted catalogue is read by `encode`: it is short enough, no line of it is wrong, and its words are those of the
-- catalogue.
use Rattle.std.specs.Prelude.{◌≡◌, false, List, map, ◌≤◌, length}
use Rattle.catalogue_rules.specs.Word.{encode}
use Rattle.catalogue_rules.specs.Catalogue.{Entry}
use Rattle.catalogue_rules.specs.Write.{catalogue_words}
use Rattle.catalogue_rules.specs.Form.{WellFormed}
use Rattle.catalogue_rules.proofs.Laws.ReadBack.{sees-fit}
use Rattle.text_rules.specs.Text.{text_of}
use Rattle.text_rules.specs.RoundTrip.{text-back}
use Rattle.text_encoding.specs.Encoded.{most_text, text_words, text_wrong}
use Rattle.text_encoding.specs.Tells.{told-words}
use Rattle.text_decoding.specs.Size.{text-fits}

pub decoded_short : (es : List Entry) → WellFormed es → length (text_of es) ≤ most_text
decoded_short es w = text-fits es w

pub decoded_told : (es : List Entry) → WellFormed es → (text_wrong (text_of es) ≡ false) × (text_words (text_of es) ≡ map encode (catalogue_words es))
decoded_told es w =
    told-words (text_of es) (catalogue_words es) (decoded_short es w) (text-back es w.entered.one w.entered.fits (sees-fit es es w.entered.fits w.named))

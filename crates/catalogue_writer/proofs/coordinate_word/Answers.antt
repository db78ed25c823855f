-- The sum is not negative and has 16 bits.
use mir.Facts.{to_z-of_z}
use Rattle.catalogue_rules.specs.Word.{encode}
use Rattle.catalogue_writer.specs.Loads.{load_fits}
use Rattle.catalogue_writer.proofs.coordinate_word.Goals as goal

pub returns : goal.returns
unfolding encode
returns c =
    let fits = load_fits c.args.x c.requires in
    simp (to_z-of_z, c.ranges.x, fits)

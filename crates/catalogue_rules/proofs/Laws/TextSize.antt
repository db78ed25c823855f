-- How many bytes the texts about a catalogue take at most: its listing, and its own text.
use Rattle.std.specs.Prelude.{ℕ, ◌+◌, ◌*◌}
use Rattle.lattices.specs.Refusal.{most_vectors, most_coordinates}
use Rattle.catalogue_rules.specs.Catalogue.{most_entries}

-- a vector's line: its first letter, seven for a coordinate, the end
abbrev pub most_vector_line : ℕ
most_vector_line = most_coordinates * 7 + 2

-- the lines of a standing entry's vectors
abbrev pub most_shown : ℕ
most_shown = most_vectors * most_vector_line

-- those of all entries, each with a line of its own before its vectors, and the first line
abbrev pub most_text : ℕ
most_text = most_entries * (42 + most_shown) + 8

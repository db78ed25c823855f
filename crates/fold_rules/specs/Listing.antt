-- The text that the listing program writes (document 01, "A catalogue in full"), as bytes, for every list of bytes that it reads.
use Rattle.std.specs.Prelude.{true, false, List, [], ◌∷◌, ◌++◌, map, ℕ, length}
use Rattle.integers.specs.Decimal.{decimal, signed}
use Rattle.text_layout.specs.Fields.{line}
use Rattle.lattices.specs.Vector.{Vec}
use Rattle.lattices.specs.Greedy.{reduction}
use Rattle.catalogue_rules.specs.Catalogue.{Outcome, refused, accepted, see_number}
use Rattle.catalogue_rules.specs.Read.{read}
use Rattle.fold_rules.specs.Fold.{reduced_of, Stood, closed_list, stands, standing_in, leads}

-- R11.6: "refused"
abbrev pub refused_word : List ℕ
refused_word = 114 ∷ 101 ∷ 102 ∷ 117 ∷ 115 ∷ 101 ∷ 100 ∷ []

-- R11.5: `a line "v" and the coordinates for each reduced vector`
abbrev pub vector_lines : List Vec → List ℕ
vector_lines [] = []
vector_lines (v ∷ vs) = line (118 ∷ []) (map signed v) ++ vector_lines vs

-- R11.3, R11.4: "number that its own see word leads to (0 for none, or for its own standing entry)"
abbrev pub entry_line : List Stood → Stood → List ℕ
entry_line ss s =
    line (decimal s.entry.head.number)
    (decimal s.standing.head.number ∷ decimal (see_number (leads ss s)) ∷ decimal (reduction s.entry.vectors).passes ∷ [])

-- R11.5: "A standing entry is followed by" its vectors
abbrev pub vectors_shown : Stood → List ℕ
vectors_shown s = elim (stands s) [ true ↦ vector_lines (reduced_of s.entry) | false ↦ [] ]

-- R11.5
abbrev pub entry_lines : List Stood → List Stood → List ℕ
entry_lines ss [] = []
entry_lines ss (s ∷ more) = entry_line ss s ++ (vectors_shown s ++ entry_lines ss more)

-- R11.2: "Its first line holds entries and standing entries."
abbrev pub catalogue_lines : List Stood → List ℕ
catalogue_lines ss = line (decimal (length ss)) (decimal (length (standing_in ss)) ∷ []) ++ entry_lines ss ss

-- R11.6
abbrev pub listed : Outcome → List ℕ
listed (refused n p) = line refused_word (decimal n ∷ decimal p ∷ [])
listed (accepted es) = catalogue_lines (closed_list es)

-- R11.6
unfoldable pub listing_of : List ℕ → List ℕ
listing_of file = listed (read file)

-- Sequences of calls and their answers: one table, one theorem; and the files of two merges.
use Rattle.std.specs.Prelude.{◌≡◌, refl, List, [], ◌∷◌, map, ℕ, ◌+◌}
use Rattle.lattices.specs.Vector.{dot, comb, ◌⊕◌, ◌⊙◌}
use Rattle.lattices.specs.Volume.{squared_volume, is_dependent}
use Rattle.lattices.specs.Nearest.{least_by, nearest_by}
use Rattle.lattices.specs.Greedy.{credited, greedy_by, insert_by, order_by}
use Rattle.successive_minima.specs.Member.{is_member}
use Rattle.catalogue_rules.specs.Word.{decode, encode, bytes_of}
use Rattle.catalogue_rules.specs.Read.{step, read_words, read}
use Rattle.catalogue_rules.specs.Write.{write}
use Rattle.fold_rules.specs.Fold.{same_lattice, first_by, standing_by}
use Rattle.fold_rules.specs.Services.{lookup_of}
use Rattle.merge_rules.specs.Addition.{add_words, addition}
use Rattle.merge_rules.specs.Merge.{start, file_of, Answer, done, refused_at, provisional, final, not_yet, add_to, look_in, close_of, Call, add, look, close, after, answers}

pub record Example : Type 0 where
  pub calls : List Call
  pub said : List Answer

abbrev pub gives : List Call → List Answer → Example
gives calls said = record { calls = calls; said = said }

-- an entry of one vector with one coordinate: 2, -2 and 3
abbrev pub two : (number : ℕ) → List ℕ → Call
two number rest = add (bytes_of ((0x60000000 + number) ∷ 0x70000011 ∷ 0x20004E22 ∷ rest))

abbrev pub minus_two : (number : ℕ) → List ℕ → Call
minus_two number rest = add (bytes_of ((0x60000000 + number) ∷ 0x70000011 ∷ 0x20004E1E ∷ rest))

abbrev pub three : (number : ℕ) → List ℕ → Call
three number rest = add (bytes_of ((0x60000000 + number) ∷ 0x70000011 ∷ 0x20004E23 ∷ rest))

abbrev pub examples : List Example
examples =
    -- open and empty; closed, it takes nothing more, and 21 comes before 8
    gives (look 1 ∷ close ∷ close ∷ two 1 [] ∷ add (0 ∷ []) ∷ look 1 ∷ []) (refused_at 17 0 ∷ done ∷ refused_at 21 0 ∷ refused_at 21 0 ∷ refused_at 21 0 ∷ refused_at 17 0 ∷ [])
    -- 9 is named and comes later, of the same lattice; once closed the answers are final
    ∷ gives (two 7 (0x30000009 ∷ []) ∷ look 7 ∷ look 9 ∷ look 8 ∷ close ∷ minus_two 9 [] ∷ look 9 ∷ close ∷ look 9 ∷ look 8 ∷ [])
    (done ∷ provisional 7 ∷ not_yet ∷ refused_at 17 0 ∷ refused_at 12 3 ∷ done ∷ provisional 7 ∷ done ∷ final 7 ∷ refused_at 17 0 ∷ [])
    -- the first lost word is that of the second entry, after a mark
    ∷ gives (three 1 (0x30000001 ∷ []) ∷ two 2 (0x50000001 ∷ 0x30000005 ∷ []) ∷ close ∷ look 5 ∷ []) (done ∷ done ∷ refused_at 12 8 ∷ not_yet ∷ [])
    -- a provisional answer changes when an entry comes that is no draft
    ∷ gives (two 1 (0x50000001 ∷ []) ∷ minus_two 2 (0x50000001 ∷ []) ∷ look 2 ∷ two 3 [] ∷ look 2 ∷ close ∷ look 1 ∷ []) (done ∷ done ∷ provisional 1 ∷ done ∷ provisional 3 ∷ done ∷ final 3 ∷ [])
    -- refused, and the merge is as it was: no bytes; no multiple of 4; another kind first; a word missing; words after the entry, an end word among them
    ∷ gives (add [] ∷ add (0 ∷ []) ∷ add (bytes_of (0x10000111 ∷ 0x20004E22 ∷ [])) ∷ add (bytes_of (0x40000000 ∷ [])) ∷ add (bytes_of (0x60000001 ∷ 0x70000011 ∷ []))
    ∷ two 1 (0x40000001 ∷ []) ∷ two 1 (0x60000002 ∷ []) ∷ two 1 (0x30000001 ∷ 0x50000001 ∷ []) ∷ look 1 ∷ [])
    (refused_at 10 0 ∷ refused_at 8 0 ∷ refused_at 10 0 ∷ refused_at 10 0 ∷ refused_at 10 2 ∷ refused_at 10 3 ∷ refused_at 10 3 ∷ refused_at 10 4 ∷ refused_at 17 0 ∷ [])
    -- number zero, number used before the size is looked at; bits above d; d is 5; a load over 40,000; a mark with load 2; dependent, at its head
    ∷ gives (two 0 [] ∷ two 1 [] ∷ add (bytes_of (0x60000001 ∷ 0x70000051 ∷ [])) ∷ add (bytes_of (0x60000002 ∷ 0x70000151 ∷ [])) ∷ add (bytes_of (0x60000002 ∷ 0x70000051 ∷ []))
    ∷ add (bytes_of (0x60000002 ∷ 0x70000011 ∷ 0x20009C41 ∷ [])) ∷ two 2 (0x50000002 ∷ []) ∷ add (bytes_of (0x60000002 ∷ 0x70000011 ∷ 0x20004E20 ∷ [])) ∷ look 2 ∷ [])
    (refused_at 11 0 ∷ done ∷ refused_at 11 0 ∷ refused_at 20 1 ∷ refused_at 1 1 ∷ refused_at 4 2 ∷ refused_at 18 3 ∷ refused_at 5 0 ∷ refused_at 17 0 ∷ [])
    ∷ []

pub examples_hold : map (λ x. answers start x.calls) examples ≡ map (λ x. x.said) examples
unfolding dot comb ◌⊕◌ ◌⊙◌ squared_volume is_dependent least_by nearest_by credited greedy_by insert_by order_by is_member decode encode step read_words read write same_lattice first_by standing_by lookup_of add_words addition add_to look_in close_of
examples_hold = refl

-- a merge without entries has the sole end word for a file
pub empty-file : file_of (after start (close ∷ [])) ≡ bytes_of (0x40000000 ∷ [])
unfolding encode write close_of
empty-file = refl

-- refused additions and lookups leave nothing in it
pub file_of_two : file_of (after start (two 7 (0x30000009 ∷ []) ∷ two 7 [] ∷ look 9 ∷ three 9 [] ∷ close ∷ []))
    ≡ bytes_of (0x60000007 ∷ 0x70000011 ∷ 0x20004E22 ∷ 0x30000009 ∷ 0x60000009 ∷ 0x70000011 ∷ 0x20004E23 ∷ 0x40000002 ∷ [])
unfolding dot squared_volume is_dependent decode encode step write add_words addition add_to close_of
file_of_two = refl

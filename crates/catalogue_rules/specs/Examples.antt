-- The catalogue in full of document 01, its sole end word, entries of more than four coordinates, catalogues of the new form, and a small catalogue
-- for each refusal but 9 and 15: one table, one theorem. 9 beside it; then the moves between the forms.
use Rattle.std.specs.Prelude.{◌≡◌, refl, Bool, true, false, List, [], ◌∷◌, ◌++◌, map, ℕ, pos, replicate}
use Rattle.std.proofs.Math.Option.{Option, none, some}
use Rattle.lattices.specs.Vector.{Vec, dot}
use Rattle.lattices.specs.Volume.{squared_volume, is_dependent}
use Rattle.catalogue_rules.specs.Word.{decode, encode, bytes_of}
use Rattle.catalogue_rules.specs.Catalogue.{Form, old, new, See, Entry, Outcome, refused, accepted}
use Rattle.catalogue_rules.specs.Read.{step, read_words, read}
use Rattle.catalogue_rules.specs.Write.{write}
use Rattle.catalogue_rules.specs.Output.{untouched, filled_with}
use Rattle.catalogue_rules.specs.Moving.{read_to_move, moved, move_of}

pub record Example : Type 0 where
  pub bytes : List ℕ
  pub outcome : Outcome

abbrev pub gives : List ℕ → Outcome → Example
gives bytes outcome = record { bytes = bytes; outcome = outcome }

-- a vector of two coordinates
abbrev pub pair : ℕ → ℕ → Vec
pair x y = pos x ∷ pos y ∷ []

-- an entry of two such vectors
abbrev pub entry : (number place : ℕ) → Vec → Vec → Option See → Entry
entry number place u v see = record {
  head = record { form = old; number = number; d = 2; m = 2; place = place };
  vectors = u ∷ v ∷ [];
  draft = false;
  see = see;
}

-- an entry of one vector with one coordinate
abbrev pub single : Form → (number place x : ℕ) → Bool → Option See → Entry
single form number place x draft see = record {
  head = record { form = form; number = number; d = 1; m = 1; place = place };
  vectors = (pos x ∷ []) ∷ [];
  draft = draft;
  see = see;
}

abbrev pub refers : (number place : ℕ) → Option See
refers number place = some (record { number = number; place = place })

abbrev pub full : List ℕ
full =
    0x10000722 ∷ 0x20004E21 ∷ 0x20004E20 ∷ 0x20004E24 ∷ 0x20004E21
    ∷ 0x10000922 ∷ 0x20004E22 ∷ 0x20004E20 ∷ 0x20004E20 ∷ 0x20004E23 ∷ 0x3000000C
    ∷ 0x10000C22 ∷ 0x20004E20 ∷ 0x20004E21 ∷ 0x20004E21 ∷ 0x20004E20 ∷ 0x30000009
    ∷ 0x40000003 ∷ []

abbrev pub examples : List Example
examples =
    gives (bytes_of full)
    (accepted
    (entry 7 0 (pair 1 0) (pair 4 1) none
    ∷ entry 9 5 (pair 2 0) (pair 0 3) (refers 12 10)
    ∷ entry 12 11 (pair 0 1) (pair 1 0) (refers 9 16)
    ∷ []))
    ∷ gives (bytes_of (0x40000000 ∷ [])) (accepted [])
    ∷ gives [] (refused 10 0)
    -- not a multiple of 4
    ∷ gives (0 ∷ 0 ∷ 0 ∷ 64 ∷ 0 ∷ []) (refused 8 0)
    -- a coordinate where a head or the end is due, a see word where a coordinate is, and a kind that no word has
    ∷ gives (bytes_of (0x20004E20 ∷ [])) (refused 10 0)
    ∷ gives (bytes_of (0x10000112 ∷ 0x20004E21 ∷ 0x30000001 ∷ [])) (refused 10 2)
    ∷ gives (bytes_of (0x10000111 ∷ 0x20004E21 ∷ 0x80000001 ∷ 0x40000001 ∷ [])) (refused 10 2)
    -- a second see word, and a coordinate too many
    ∷ gives (bytes_of (0x10000111 ∷ 0x20004E21 ∷ 0x30000001 ∷ 0x30000001 ∷ [])) (refused 10 3)
    ∷ gives (bytes_of (0x10000111 ∷ 0x20004E21 ∷ 0x20004E21 ∷ [])) (refused 10 2)
    -- drafts, the first with a see word
    ∷ gives (bytes_of (0x10000111 ∷ 0x20004E22 ∷ 0x50000001 ∷ 0x30000002 ∷ 0x10000211 ∷ 0x20004E23 ∷ 0x50000001 ∷ 0x40000002 ∷ []))
    (accepted (single old 1 0 2 true (refers 2 3) ∷ single old 2 4 3 true none ∷ []))
    -- a mark where a head is due, where a coordinate is, after a see word, once more, and after the end
    ∷ gives (bytes_of (0x50000001 ∷ [])) (refused 10 0)
    ∷ gives (bytes_of (0x10000112 ∷ 0x50000001 ∷ [])) (refused 10 1)
    ∷ gives (bytes_of (0x10000111 ∷ 0x20004E21 ∷ 0x30000001 ∷ 0x50000001 ∷ [])) (refused 10 3)
    ∷ gives (bytes_of (0x10000111 ∷ 0x20004E21 ∷ 0x50000001 ∷ 0x50000001 ∷ [])) (refused 10 3)
    ∷ gives (bytes_of (0x40000000 ∷ 0x50000001 ∷ [])) (refused 14 1)
    -- its load is 0, or 2; where no mark can stand, its load is not looked at
    ∷ gives (bytes_of (0x10000111 ∷ 0x20004E21 ∷ 0x50000000 ∷ [])) (refused 18 2)
    ∷ gives (bytes_of (0x10000111 ∷ 0x20004E21 ∷ 0x50000002 ∷ [])) (refused 18 2)
    ∷ gives (bytes_of (0x10000111 ∷ 0x20004E21 ∷ 0x50000001 ∷ 0x50000002 ∷ [])) (refused 10 3)
    ∷ gives (bytes_of (0x10000112 ∷ 0x50000002 ∷ [])) (refused 10 1)
    -- no word where a coordinate is due, and none where the end is
    ∷ gives (bytes_of (0x10000112 ∷ 0x20004E21 ∷ [])) (refused 10 2)
    ∷ gives (bytes_of (0x10000111 ∷ 0x20004E21 ∷ 0x30000001 ∷ [])) (refused 10 3)
    -- d is 5; m is 0; m is 9; number zero; number used
    ∷ gives (bytes_of (0x10000051 ∷ [])) (refused 1 0)
    ∷ gives (bytes_of (0x10000010 ∷ [])) (refused 2 0)
    ∷ gives (bytes_of (0x10000019 ∷ [])) (refused 2 0)
    ∷ gives (bytes_of (0x10000011 ∷ [])) (refused 11 0)
    ∷ gives (bytes_of (0x10000111 ∷ 0x20004E21 ∷ 0x10000111 ∷ [])) (refused 11 2)
    -- 20,001 and (20000, 1); 20,000 is accepted
    ∷ gives (bytes_of (0x10000112 ∷ 0x20009C41 ∷ [])) (refused 4 1)
    ∷ gives (bytes_of (0x10000112 ∷ 0x20009C40 ∷ 0x20004E21 ∷ [])) (refused 4 2)
    ∷ gives (bytes_of (0x10000111 ∷ 0x20009C40 ∷ 0x40000001 ∷ []))
    (accepted (single old 1 0 20000 false none ∷ []))
    -- eight coordinates; the last of them makes the vector too long
    ∷ gives (bytes_of (0x10000118 ∷ 0x20004E21 ∷ 0x20004E22 ∷ 0x20004E23 ∷ 0x20004E24 ∷ 0x20004E25 ∷ 0x20004E26 ∷ 0x20004E27 ∷ 0x20004E28 ∷ 0x40000001 ∷ []))
    (accepted (record { head = record { form = old; number = 1; d = 1; m = 8; place = 0 }; vectors = (pos 1 ∷ pos 2 ∷ pos 3 ∷ pos 4 ∷ pos 5 ∷ pos 6 ∷ pos 7 ∷ pos 8 ∷ []) ∷ []; draft = false; see = none } ∷ []))
    ∷ gives (bytes_of (0x10000118 ∷ 0x20009C40 ∷ 0x20004E20 ∷ 0x20004E20 ∷ 0x20004E20 ∷ 0x20004E20 ∷ 0x20004E20 ∷ 0x20004E20 ∷ 0x20004E21 ∷ [])) (refused 4 8)
    -- the new form: the greatest number, a see word and a mark; the least
    ∷ gives (bytes_of (0x6FFFFFFF ∷ 0x70000011 ∷ 0x20004E22 ∷ 0x50000001 ∷ 0x30000001 ∷ 0x60000001 ∷ 0x70000011 ∷ 0x20004E23 ∷ 0x40000002 ∷ []))
    (accepted (single new 268435455 0 2 true (refers 1 4) ∷ single new 1 5 3 false none ∷ []))
    -- number zero before the second word is looked at; number used; a second word missing, or of another kind
    ∷ gives (bytes_of (0x60000000 ∷ 0x70000051 ∷ [])) (refused 11 0)
    ∷ gives (bytes_of (0x60000001 ∷ 0x70000011 ∷ 0x20004E21 ∷ 0x60000001 ∷ 0x10000111 ∷ [])) (refused 11 3)
    ∷ gives (bytes_of (0x60000001 ∷ [])) (refused 10 1)
    ∷ gives (bytes_of (0x60000001 ∷ 0x60000002 ∷ [])) (refused 10 1)
    ∷ gives (bytes_of (0x60000001 ∷ 0x40000000 ∷ [])) (refused 10 1)
    -- a second word by itself; bits 8 and 27 of it, before d is 5; d is 0; m is 9
    ∷ gives (bytes_of (0x70000011 ∷ [])) (refused 10 0)
    ∷ gives (bytes_of (0x60000001 ∷ 0x70000151 ∷ [])) (refused 20 1)
    ∷ gives (bytes_of (0x60000001 ∷ 0x78000051 ∷ [])) (refused 20 1)
    ∷ gives (bytes_of (0x60000001 ∷ 0x70000009 ∷ [])) (refused 1 1)
    ∷ gives (bytes_of (0x60000001 ∷ 0x70000019 ∷ [])) (refused 2 1)
    -- heads of both forms, before anything else of the head is looked at
    ∷ gives (bytes_of (0x10000111 ∷ 0x20004E21 ∷ 0x60000000 ∷ [])) (refused 10 2)
    ∷ gives (bytes_of (0x60000001 ∷ 0x70000011 ∷ 0x20004E21 ∷ 0x30000001 ∷ 0x10000051 ∷ [])) (refused 10 4)
    -- dependent, at the kind 6 word
    ∷ gives (bytes_of (0x60000001 ∷ 0x70000011 ∷ 0x20004E20 ∷ 0x40000001 ∷ [])) (refused 5 0)
    -- the count differs, before words follow; words follow
    ∷ gives (bytes_of (0x40000001 ∷ 0x40000000 ∷ [])) (refused 13 0)
    ∷ gives (bytes_of (0x40000000 ∷ 0x40000000 ∷ [])) (refused 14 1)
    -- the second entry is dependent, though the first one's see word names no entry; without the second entry
    ∷ gives (bytes_of (0x10000111 ∷ 0x20004E21 ∷ 0x30000009 ∷ 0x10000211 ∷ 0x20004E20 ∷ 0x40000002 ∷ [])) (refused 5 3)
    ∷ gives (bytes_of (0x10000111 ∷ 0x20004E21 ∷ 0x30000009 ∷ 0x40000001 ∷ [])) (refused 12 2)
    ∷ []

-- reading the table's bytes gives the table's outcomes
pub examples_hold : map (λ x. read x.bytes) examples ≡ map (λ x. x.outcome) examples
unfolding dot squared_volume is_dependent decode step read_words read
examples_hold = refl

-- a word more than there can be
pub too_many : read (replicate 35848 0) ≡ refused 9 0
unfolding decode step read_words read
too_many = refl

pub too_many_new : read (bytes_of (0x60000001 ∷ []) ++ replicate 36868 0) ≡ refused 9 0
unfolding decode step read_words read
too_many_new = refl

-- no more than the limit of the new form: the second word is judged
pub not_too_many : read (bytes_of (0x60000001 ∷ []) ++ replicate 36864 0) ≡ refused 10 1
unfolding decode step read_words read
not_too_many = refl

-- ---- the moves

pub record Move : Type 0 where
  pub to : Form
  pub words : List ℕ
  pub outcome : Outcome

abbrev pub moves : Form → List ℕ → Outcome → Move
moves to words outcome = record { to = to; words = words; outcome = outcome }

-- number 1,048,575 with a see word, in both forms
abbrev pub old_words : List ℕ
old_words = 0x1FFFFF11 ∷ 0x20004E21 ∷ 0x300FFFFF ∷ 0x40000001 ∷ []

abbrev pub new_words : List ℕ
new_words = 0x600FFFFF ∷ 0x70000011 ∷ 0x20004E21 ∷ 0x300FFFFF ∷ 0x40000001 ∷ []

abbrev pub move_table : List Move
move_table =
    moves new old_words (accepted (single new 1048575 0 1 false (refers 1048575 3) ∷ []))
    ∷ moves old new_words (accepted (single old 1048575 0 1 false (refers 1048575 2) ∷ []))
    -- without entries both ways
    ∷ moves new (0x40000000 ∷ []) (accepted [])
    ∷ moves old (0x40000000 ∷ []) (accepted [])
    -- the wrong form, before the number zero
    ∷ moves old (0x10000011 ∷ []) (refused 10 0)
    ∷ moves new (0x60000000 ∷ []) (refused 10 0)
    -- the refusals of reading
    ∷ moves new (0x10000111 ∷ 0x20004E20 ∷ 0x40000001 ∷ []) (refused 5 0)
    ∷ moves old (0x60100000 ∷ 0x70000011 ∷ 0x20004E21 ∷ 0x30000009 ∷ 0x40000001 ∷ []) (refused 12 3)
    -- 1,048,576 in the second entry
    ∷ moves old (0x60000001 ∷ 0x70000011 ∷ 0x20004E21 ∷ 0x60100000 ∷ 0x70000011 ∷ 0x20004E21 ∷ 0x40000002 ∷ []) (refused 19 3)
    ∷ []

pub moves_hold : map (λ x. moved x.to (read_to_move x.to (bytes_of x.words))) move_table ≡ map (λ x. x.outcome) move_table
unfolding dot squared_volume is_dependent decode step read_words
moves_hold = refl

-- the bytes of one form written in the other
pub written_new : move_of new (bytes_of old_words) (replicate 20 0) ≡ filled_with (bytes_of new_words) (replicate 20 0)
unfolding dot squared_volume is_dependent decode encode step read_words write move_of
written_new = refl

-- 19 before 16
pub too_large : move_of old (bytes_of (0x60100000 ∷ 0x70000011 ∷ 0x20004E21 ∷ 0x40000001 ∷ [])) [] ≡ untouched 19 0 []
unfolding dot squared_volume is_dependent decode encode step read_words write move_of
too_large = refl

pub too_short : move_of new (bytes_of old_words) (replicate 19 0) ≡ untouched 16 0 (replicate 19 0)
unfolding dot squared_volume is_dependent decode encode step read_words write move_of
too_short = refl

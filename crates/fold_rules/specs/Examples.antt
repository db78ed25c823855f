-- "A catalogue in full" of document 01, folded, looked up and listed, in both forms; drafts; the sole end word; and what is refused in the call alone.
use Rattle.std.specs.Prelude.{◌≡◌, refl, List, [], ◌∷◌, ◌++◌, map, ℕ, replicate}
use Rattle.lattices.specs.Vector.{dot, comb, ◌⊕◌, ◌⊙◌}
use Rattle.lattices.specs.Volume.{squared_volume, is_dependent}
use Rattle.lattices.specs.Nearest.{least_by, nearest_by}
use Rattle.lattices.specs.Greedy.{credited, greedy_by, insert_by, order_by}
use Rattle.successive_minima.specs.Member.{is_member}
use Rattle.catalogue_rules.specs.Word.{decode, encode, bytes_of}
use Rattle.catalogue_rules.specs.Read.{step, read_words, read}
use Rattle.catalogue_rules.specs.Write.{write}
use Rattle.catalogue_rules.specs.Output.{Output, untouched, filled_with}
use Rattle.catalogue_rules.specs.Catalogue.{new}
use Rattle.catalogue_rules.specs.Moving.{move_of}
use Rattle.catalogue_rules.specs.Examples.{full}
use Rattle.fold_rules.specs.Fold.{same_lattice, first_by, standing_by, folded}
use Rattle.fold_rules.specs.Services.{Lookup, nowhere, fold_of, lookup_of}
use Rattle.fold_rules.specs.Listing.{listing_of}

-- entry 12 is folded into 7, so 7 carries its see word, and that of entry 9 names 7
abbrev pub full_folded : List ℕ
full_folded =
    0x10000722 ∷ 0x20004E21 ∷ 0x20004E20 ∷ 0x20004E20 ∷ 0x20004E21 ∷ 0x30000009
    ∷ 0x10000922 ∷ 0x20004E22 ∷ 0x20004E20 ∷ 0x20004E20 ∷ 0x20004E23 ∷ 0x30000007
    ∷ 0x40000002 ∷ []

-- the same in the new form, and its fold
abbrev pub full_new : List ℕ
full_new =
    0x60000007 ∷ 0x70000022 ∷ 0x20004E21 ∷ 0x20004E20 ∷ 0x20004E24 ∷ 0x20004E21
    ∷ 0x60000009 ∷ 0x70000022 ∷ 0x20004E22 ∷ 0x20004E20 ∷ 0x20004E20 ∷ 0x20004E23 ∷ 0x3000000C
    ∷ 0x6000000C ∷ 0x70000022 ∷ 0x20004E20 ∷ 0x20004E21 ∷ 0x20004E21 ∷ 0x20004E20 ∷ 0x30000009
    ∷ 0x40000003 ∷ []

abbrev pub full_new_folded : List ℕ
full_new_folded =
    0x60000007 ∷ 0x70000022 ∷ 0x20004E21 ∷ 0x20004E20 ∷ 0x20004E20 ∷ 0x20004E21 ∷ 0x30000009
    ∷ 0x60000009 ∷ 0x70000022 ∷ 0x20004E22 ∷ 0x20004E20 ∷ 0x20004E20 ∷ 0x20004E23 ∷ 0x30000007
    ∷ 0x40000002 ∷ []

-- "3 2", "7 7 0 1", "v 1 0", "v 0 1", "9 9 7 1", "v 2 0", "v 0 3", "12 7 9 1"
abbrev pub full_listing : List ℕ
full_listing =
    51 ∷ 32 ∷ 50 ∷ 10
    ∷ 55 ∷ 32 ∷ 55 ∷ 32 ∷ 48 ∷ 32 ∷ 49 ∷ 10
    ∷ 118 ∷ 32 ∷ 49 ∷ 32 ∷ 48 ∷ 10
    ∷ 118 ∷ 32 ∷ 48 ∷ 32 ∷ 49 ∷ 10
    ∷ 57 ∷ 32 ∷ 57 ∷ 32 ∷ 55 ∷ 32 ∷ 49 ∷ 10
    ∷ 118 ∷ 32 ∷ 50 ∷ 32 ∷ 48 ∷ 10
    ∷ 118 ∷ 32 ∷ 48 ∷ 32 ∷ 51 ∷ 10
    ∷ 49 ∷ 50 ∷ 32 ∷ 55 ∷ 32 ∷ 57 ∷ 32 ∷ 49 ∷ 10
    ∷ []

-- "refused 10 0"
abbrev pub refused_listing : List ℕ
refused_listing = 114 ∷ 101 ∷ 102 ∷ 117 ∷ 115 ∷ 101 ∷ 100 ∷ 32 ∷ 49 ∷ 48 ∷ 32 ∷ 48 ∷ 10 ∷ []

abbrev pub finds : ℕ → Lookup
finds n = record { refusal = 0; place = 0; standing = n }

-- a see word to a later entry, to itself, and two entries that name each other; 2 is folded into 1, with another sign
abbrev pub circle : List ℕ
circle = 0x10000111 ∷ 0x20004E21 ∷ 0x30000003 ∷ 0x10000211 ∷ 0x20004E1F ∷ 0x10000311 ∷ 0x20004E22 ∷ 0x30000002 ∷ 0x10000411 ∷ 0x20004E23 ∷ 0x30000004 ∷ 0x40000004 ∷ []

abbrev pub circle_folded : List ℕ
circle_folded = 0x10000111 ∷ 0x20004E21 ∷ 0x30000003 ∷ 0x10000311 ∷ 0x20004E22 ∷ 0x30000001 ∷ 0x10000411 ∷ 0x20004E23 ∷ 0x40000003 ∷ []

-- the request's own story: entry 40 is folded into 12, which has no see word
abbrev pub story : List ℕ
story = 0x10000C11 ∷ 0x20004E22 ∷ 0x10002811 ∷ 0x20004E1E ∷ 0x30000007 ∷ 0x10000711 ∷ 0x20004E23 ∷ 0x40000003 ∷ []

abbrev pub story_folded : List ℕ
story_folded = 0x10000C11 ∷ 0x20004E22 ∷ 0x30000007 ∷ 0x10000711 ∷ 0x20004E23 ∷ 0x40000002 ∷ []

-- the own word of 1 leads back to it, and 3, folded into it, has one that leads to 2
abbrev pub word_back : List ℕ
word_back = 0x10000111 ∷ 0x20004E22 ∷ 0x30000003 ∷ 0x10000211 ∷ 0x20004E25 ∷ 0x10000311 ∷ 0x20004E1E ∷ 0x30000002 ∷ 0x40000003 ∷ []

abbrev pub word_back_folded : List ℕ
word_back_folded = 0x10000111 ∷ 0x20004E22 ∷ 0x30000002 ∷ 0x10000211 ∷ 0x20004E25 ∷ 0x40000002 ∷ []

-- the word of 2 leads to the entry that it is folded into, and does not hide that of 3
abbrev pub folded_back : List ℕ
folded_back = 0x10000111 ∷ 0x20004E22 ∷ 0x10000211 ∷ 0x20004E1E ∷ 0x30000001 ∷ 0x10000311 ∷ 0x20004E22 ∷ 0x30000004 ∷ 0x10000411 ∷ 0x20004E25 ∷ 0x40000004 ∷ []

abbrev pub folded_back_folded : List ℕ
folded_back_folded = 0x10000111 ∷ 0x20004E22 ∷ 0x30000004 ∷ 0x10000411 ∷ 0x20004E25 ∷ 0x40000002 ∷ []

-- two entries folded into 1, with different words: the first is carried
abbrev pub two_words : List ℕ
two_words = 0x10000111 ∷ 0x20004E22 ∷ 0x10000211 ∷ 0x20004E23 ∷ 0x10000311 ∷ 0x20004E25 ∷ 0x10000411 ∷ 0x20004E1E ∷ 0x30000003 ∷ 0x10000511 ∷ 0x20004E22 ∷ 0x30000002 ∷ 0x40000005 ∷ []

abbrev pub two_words_folded : List ℕ
two_words_folded = 0x10000111 ∷ 0x20004E22 ∷ 0x30000003 ∷ 0x10000211 ∷ 0x20004E23 ∷ 0x10000311 ∷ 0x20004E25 ∷ 0x40000003 ∷ []

-- the words of 3 and 4 lead to each other's standing entries
abbrev pub folded_circle : List ℕ
folded_circle = 0x10000111 ∷ 0x20004E22 ∷ 0x10000211 ∷ 0x20004E23 ∷ 0x10000311 ∷ 0x20004E1E ∷ 0x30000002 ∷ 0x10000411 ∷ 0x20004E1D ∷ 0x30000003 ∷ 0x40000004 ∷ []

abbrev pub folded_circle_folded : List ℕ
folded_circle_folded = 0x10000111 ∷ 0x20004E22 ∷ 0x30000002 ∷ 0x10000211 ∷ 0x20004E23 ∷ 0x30000001 ∷ 0x40000002 ∷ []

-- words to entries that are folded into the same lattice
abbrev pub within_one : List ℕ
within_one = 0x10000111 ∷ 0x20004E22 ∷ 0x10000211 ∷ 0x20004E1E ∷ 0x30000003 ∷ 0x10000311 ∷ 0x20004E22 ∷ 0x30000001 ∷ 0x40000003 ∷ []

abbrev pub within_one_folded : List ℕ
within_one_folded = 0x10000111 ∷ 0x20004E22 ∷ 0x40000001 ∷ []

-- the own word of 1 leads to 2, so that of 3 is not carried
abbrev pub own_first : List ℕ
own_first = 0x10000111 ∷ 0x20004E22 ∷ 0x30000002 ∷ 0x10000211 ∷ 0x20004E23 ∷ 0x10000311 ∷ 0x20004E1E ∷ 0x30000004 ∷ 0x10000411 ∷ 0x20004E25 ∷ 0x40000004 ∷ []

abbrev pub own_first_folded : List ℕ
own_first_folded = 0x10000111 ∷ 0x20004E22 ∷ 0x30000002 ∷ 0x10000211 ∷ 0x20004E23 ∷ 0x10000411 ∷ 0x20004E25 ∷ 0x40000003 ∷ []

-- 1 is a draft and 2 is none, so 2 stands; the word of 3 leads to it
abbrev pub draft_first : List ℕ
draft_first = 0x10000111 ∷ 0x20004E22 ∷ 0x50000001 ∷ 0x10000211 ∷ 0x20004E1E ∷ 0x10000311 ∷ 0x20004E23 ∷ 0x30000001 ∷ 0x40000003 ∷ []

abbrev pub draft_first_folded : List ℕ
draft_first_folded = 0x10000211 ∷ 0x20004E1E ∷ 0x10000311 ∷ 0x20004E23 ∷ 0x30000002 ∷ 0x40000002 ∷ []

-- both entries of the first lattice are drafts: the first stands, with its mark and its see word; the other lattice has no draft
abbrev pub all_drafts : List ℕ
all_drafts = 0x10000111 ∷ 0x20004E22 ∷ 0x50000001 ∷ 0x30000003 ∷ 0x10000211 ∷ 0x20004E1E ∷ 0x50000001 ∷ 0x10000311 ∷ 0x20004E23 ∷ 0x30000002 ∷ 0x40000003 ∷ []

abbrev pub all_drafts_folded : List ℕ
all_drafts_folded = 0x10000111 ∷ 0x20004E22 ∷ 0x50000001 ∷ 0x30000003 ∷ 0x10000311 ∷ 0x20004E23 ∷ 0x30000001 ∷ 0x40000002 ∷ []

-- the draft 1 comes before 2, which stands, but the own word of 2 is considered first: it leads to 4, that of 1 to 3
abbrev pub own_before : List ℕ
own_before =
    0x10000111 ∷ 0x20004E22 ∷ 0x50000001 ∷ 0x30000003 ∷ 0x10000211 ∷ 0x20004E22 ∷ 0x30000004
    ∷ 0x10000311 ∷ 0x20004E23 ∷ 0x10000411 ∷ 0x20004E25 ∷ 0x40000004 ∷ []

abbrev pub own_before_folded : List ℕ
own_before_folded = 0x10000211 ∷ 0x20004E22 ∷ 0x30000004 ∷ 0x10000311 ∷ 0x20004E23 ∷ 0x10000411 ∷ 0x20004E25 ∷ 0x40000003 ∷ []

-- the own word of 2 leads back to it; then the others in file order, the draft 1 among them: 3, not 4
abbrev pub draft_carried : List ℕ
draft_carried =
    0x10000111 ∷ 0x20004E22 ∷ 0x50000001 ∷ 0x30000003 ∷ 0x10000211 ∷ 0x20004E22 ∷ 0x30000001 ∷ 0x10000511 ∷ 0x20004E1E ∷ 0x30000004
    ∷ 0x10000311 ∷ 0x20004E23 ∷ 0x10000411 ∷ 0x20004E25 ∷ 0x40000005 ∷ []

abbrev pub draft_carried_folded : List ℕ
draft_carried_folded = 0x10000211 ∷ 0x20004E22 ∷ 0x30000003 ∷ 0x10000311 ∷ 0x20004E23 ∷ 0x10000411 ∷ 0x20004E25 ∷ 0x40000003 ∷ []

-- the same vector with a zero coordinate more is in another lattice
abbrev pub wider : List ℕ
wider = 0x10000111 ∷ 0x20004E21 ∷ 0x10000212 ∷ 0x20004E21 ∷ 0x20004E20 ∷ 0x40000002 ∷ []

-- two lattices, each in a basis that is not reduced: (1,0), (4,1) and (2,0), (5,3)
abbrev pub long_bases : List ℕ
long_bases =
    0x10000722 ∷ 0x20004E21 ∷ 0x20004E20 ∷ 0x20004E24 ∷ 0x20004E21
    ∷ 0x10000922 ∷ 0x20004E22 ∷ 0x20004E20 ∷ 0x20004E25 ∷ 0x20004E23
    ∷ 0x40000002 ∷ []

-- both are reduced: (1,0), (0,1) and (2,0), (1,3)
abbrev pub long_bases_folded : List ℕ
long_bases_folded =
    0x10000722 ∷ 0x20004E21 ∷ 0x20004E20 ∷ 0x20004E20 ∷ 0x20004E21
    ∷ 0x10000922 ∷ 0x20004E22 ∷ 0x20004E20 ∷ 0x20004E21 ∷ 0x20004E23
    ∷ 0x40000002 ∷ []

-- (1,−1,0,0,0), (0,1,−1,0,0) from two bases, the second with a see word to a vector of eight coordinates
abbrev pub wide_bases : List ℕ
wide_bases =
    0x10000125 ∷ 0x20004E21 ∷ 0x20004E1F ∷ 0x20004E20 ∷ 0x20004E20 ∷ 0x20004E20 ∷ 0x20004E20 ∷ 0x20004E21 ∷ 0x20004E1F ∷ 0x20004E20 ∷ 0x20004E20
    ∷ 0x10000225 ∷ 0x20004E21 ∷ 0x20004E20 ∷ 0x20004E1F ∷ 0x20004E20 ∷ 0x20004E20 ∷ 0x20004E20 ∷ 0x20004E21 ∷ 0x20004E1F ∷ 0x20004E20 ∷ 0x20004E20 ∷ 0x30000003
    ∷ 0x10000318 ∷ 0x20004E20 ∷ 0x20004E20 ∷ 0x20004E20 ∷ 0x20004E20 ∷ 0x20004E20 ∷ 0x20004E20 ∷ 0x20004E20 ∷ 0x20004E1D
    ∷ 0x40000003 ∷ []

abbrev pub wide_bases_folded : List ℕ
wide_bases_folded =
    0x10000125 ∷ 0x20004E21 ∷ 0x20004E1F ∷ 0x20004E20 ∷ 0x20004E20 ∷ 0x20004E20 ∷ 0x20004E21 ∷ 0x20004E20 ∷ 0x20004E1F ∷ 0x20004E20 ∷ 0x20004E20 ∷ 0x30000003
    ∷ 0x10000318 ∷ 0x20004E20 ∷ 0x20004E20 ∷ 0x20004E20 ∷ 0x20004E20 ∷ 0x20004E20 ∷ 0x20004E20 ∷ 0x20004E20 ∷ 0x20004E1D
    ∷ 0x40000002 ∷ []

-- a file, the lent output, and what the fold gives
pub record Example : Type 0 where
  pub file : List ℕ
  pub lent : List ℕ
  pub output : Output

-- the bytes of these words, or a refusal, for an output of zeros
abbrev pub gives : List ℕ → (room : ℕ) → List ℕ → Example
gives words room folded = record { file = bytes_of words; lent = replicate room 0; output = filled_with (bytes_of folded) (replicate room 0) }

abbrev pub refuses : List ℕ → (room number place : ℕ) → Example
refuses words room number place = record { file = bytes_of words; lent = replicate room 0; output = untouched number place (replicate room 0) }

abbrev pub examples : List Example
examples =
    gives full 54 full_folded
    ∷ gives full 52 full_folded
    ∷ refuses full 51 16 0
    ∷ gives full_folded 52 full_folded
    ∷ gives full_new 60 full_new_folded
    ∷ refuses full_new 59 16 0
    ∷ gives circle 100 circle_folded
    ∷ gives story 64 story_folded
    ∷ gives word_back 64 word_back_folded
    ∷ gives folded_back 64 folded_back_folded
    ∷ gives two_words 64 two_words_folded
    ∷ gives folded_circle 64 folded_circle_folded
    ∷ gives within_one 64 within_one_folded
    ∷ gives own_first 64 own_first_folded
    ∷ gives draft_first 64 draft_first_folded
    ∷ gives all_drafts 64 all_drafts_folded
    ∷ gives all_drafts_folded 32 all_drafts_folded
    ∷ gives own_before 64 own_before_folded
    ∷ gives draft_carried 64 draft_carried_folded
    ∷ gives wider 24 wider
    ∷ gives long_bases 44 long_bases_folded
    ∷ gives (0x40000000 ∷ []) 4 (0x40000000 ∷ [])
    ∷ refuses [] 0 10 0
    ∷ []

pub folds_hold : map (λ x. fold_of x.file x.lent) examples ≡ map (λ x. x.output) examples
unfolding dot comb ◌⊕◌ ◌⊙◌ squared_volume is_dependent least_by nearest_by insert_by order_by credited greedy_by is_member decode encode step read_words read write same_lattice first_by standing_by folded fold_of
folds_hold = refl

-- more than four coordinates
abbrev pub wide_examples : List Example
wide_examples = gives wide_bases 88 wide_bases_folded ∷ []

pub wide-folds : map (λ x. fold_of x.file x.lent) wide_examples ≡ map (λ x. x.output) wide_examples
unfolding dot comb ◌⊕◌ ◌⊙◌ squared_volume is_dependent least_by nearest_by insert_by order_by credited greedy_by is_member decode encode step read_words read write same_lattice first_by standing_by folded fold_of
wide-folds = refl

pub lookups_hold : map (lookup_of (bytes_of full)) (7 ∷ 9 ∷ 12 ∷ 8 ∷ []) ++ (lookup_of (bytes_of full_new) 12 ∷ lookup_of [] 7 ∷ [])
    ≡ finds 7 ∷ finds 9 ∷ finds 7 ∷ nowhere 17 0 ∷ finds 7 ∷ nowhere 10 0 ∷ []
unfolding dot comb ◌⊕◌ ◌⊙◌ squared_volume is_dependent least_by nearest_by insert_by order_by credited greedy_by is_member decode encode step read_words read same_lattice first_by standing_by lookup_of
lookups_hold = refl

-- among the drafts: 1 and 2 of the first lattice both ways
pub draft-lookups : map (lookup_of (bytes_of draft_first)) (1 ∷ 2 ∷ 3 ∷ []) ++ map (lookup_of (bytes_of all_drafts)) (1 ∷ 2 ∷ 3 ∷ []) ≡ finds 2 ∷ finds 2 ∷ finds 3 ∷ finds 1 ∷ finds 1 ∷ finds 3 ∷ []
unfolding dot comb ◌⊕◌ ◌⊙◌ squared_volume is_dependent least_by nearest_by insert_by order_by credited greedy_by is_member decode encode step read_words read same_lattice first_by standing_by lookup_of
draft-lookups = refl

pub listings_hold : map listing_of (bytes_of full ∷ bytes_of full_new ∷ [] ∷ []) ≡ full_listing ∷ full_listing ∷ refused_listing ∷ []
unfolding dot comb ◌⊕◌ ◌⊙◌ squared_volume is_dependent least_by nearest_by insert_by order_by credited greedy_by is_member decode encode step read_words read same_lattice first_by standing_by listing_of
listings_hold = refl

-- the fold of the moved file, and the moved fold
pub fold_of_moved : (move_of new (bytes_of full) (replicate 84 0)).lent ≡ bytes_of full_new
unfolding dot squared_volume is_dependent decode encode step read_words write move_of
fold_of_moved = refl

pub moved-fold : (move_of new (bytes_of full_folded) (replicate 60 0)).lent ≡ bytes_of full_new_folded
unfolding dot squared_volume is_dependent decode encode step read_words write move_of
moved-fold = refl

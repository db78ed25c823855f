-- What the code computes to write an entry: a coordinate plus 20,000, the words of coordinates one by one, and of a stored entry.
use Rattle.std.specs.Prelude.{◌≡◌, false, T, List, [], ◌∷◌, ◌++◌, map, ℕ, suc, ◌+◌, ◌*◌, ◌≤◌, ◌<◌, ℤ, pos, negsuc, nat_abs, ◌+ℤ◌, length, get_or, take}
use Rattle.std.proofs.Common.{sym, ap, ◌∙◌, subst, append_assoc, add-one, arith, length-append, length-take-le, take-suc, SFits}
use Rattle.std.proofs.lemmas.List.{length-map}
use Rattle.std.specs.Int.Signed.{non_neg}
use Rattle.std.specs.Int.{w64}
use Rattle.integers.specs.Order.{sub-ind}
use Rattle.integers.specs.Size.{size-add, fits-within}
use Rattle.integers.specs.Every.{any}
use Rattle.input_checks.specs.Any.{beyond}
use Rattle.catalogue_rules.specs.Word.{Word, encode}
use Rattle.catalogue_rules.specs.Catalogue.{Entry, coordinates, most_numbers}
use Rattle.catalogue_rules.specs.Write.{head_words, coordinate_word, draft_words, see_words, entry_words, encoded_coordinates}
use Rattle.catalogue_rules.specs.Form.{EntryFits}
use Rattle.catalogue_rules.proofs.Laws.EntriesAccepted.{all_near}
use Rattle.catalogue_records.specs.declared.Entry as stored
use Rattle.integers.specs.FilledLaws.{map_snoc}
use Rattle.catalogue_records.specs.EntriesIn.{entry_in}
use Rattle.catalogue_records.specs.Coordinates.{cut, same}

pub load-small : (x : ℤ) → nat_abs x ≤ 20000 → nat_abs (x +ℤ pos 20000) ≤ 40000
load-small x h = omega (arith, size-add x (pos 20000))

pub load_fits : (x : ℤ) → nat_abs x ≤ 20000 → SFits w64 (x +ℤ pos 20000)
load_fits x h = fits-within {B = 40000} (record { within = load-small x h }) tt

pub load-nonneg : (x : ℤ) → nat_abs x ≤ 20000 → T (non_neg (x +ℤ pos 20000))
load-nonneg (pos n) h = tt
load-nonneg (negsuc n) h = sub-ind (λ z. T (non_neg z)) 20000 (suc n) (λ k. absurd (omega arith)) (λ k. tt)

-- ---- the words of the first j coordinates

pub length-first : (cs : List ℤ) (j : ℕ) → j ≤ length cs → length (map coordinate_word (take j cs)) ≡ j
length-first cs j h = length-map (take j cs) coordinate_word ∙ length-take-le j cs h

pub first-more : (cs : List ℤ) (j : ℕ) → j < length cs → map coordinate_word (take j cs) ++ (coordinate_word (get_or cs j (pos 0)) ∷ []) ≡ map coordinate_word (take (j + 1) cs)
first-more cs j h =
    map_snoc coordinate_word (take j cs) (get_or cs j (pos 0))
    ∙ ap (map coordinate_word) (sym (take-suc cs j (pos 0) h) ∙ ap (λ n. take n cs) (sym (add-one j)))

pub encoded-more : (cs : List ℤ) (j : ℕ) → j < length cs → encoded_coordinates (take j cs) ++ (encode (coordinate_word (get_or cs j (pos 0))) ∷ []) ≡ encoded_coordinates (take (j + 1) cs)
encoded-more cs j h = map_snoc encode (map coordinate_word (take j cs)) (coordinate_word (get_or cs j (pos 0))) ∙ ap (map encode) (first-more cs j h)

-- ---- the words of a stored entry

-- its head and coordinates; its mark and its see word come after them
abbrev pub basis_words : Entry → List Word
basis_words e = head_words e.head ++ map coordinate_word (coordinates e.vectors)

parts : (e : Entry) → basis_words e ++ (draft_words e.draft ++ see_words e.see) ≡ entry_words e
parts e = append_assoc (head_words e.head) (map coordinate_word (coordinates e.vectors)) (draft_words e.draft ++ see_words e.see)

pub length-parts : (e : Entry) → length (entry_words e) ≡ length (basis_words e) + length (draft_words e.draft) + length (see_words e.see)
length-parts e =
    omega (
      arith,
      ap length (parts e),
      length-append (basis_words e) (draft_words e.draft ++ see_words e.see),
      length-append (draft_words e.draft) (see_words e.see),
    )

pub entry-parts : (e : Entry) → (basis_words e ++ draft_words e.draft) ++ see_words e.see ≡ entry_words e
entry-parts e = append_assoc (basis_words e) (draft_words e.draft) (see_words e.see) ∙ parts e

-- the words as the code writes them, n being d times m
module _ (e : stored.Entry) (fits : EntryFits (entry_in e)) (long : length e.coordinates ≡ most_numbers) where
  pub near : any beyond (take (e.d * e.m) e.coordinates) ≡ false
  near = subst (λ l. any beyond l ≡ false) (same e fits long) (all_near e.m (entry_in e).vectors fits.vectors)

  pub length-basis : length (basis_words (entry_in e)) ≡ length (head_words (entry_in e).head) + e.d * e.m
  length-basis =
      omega (
        arith,
        length-append (head_words (entry_in e).head) (map coordinate_word (coordinates (entry_in e).vectors)),
        length-map (coordinates (entry_in e).vectors) coordinate_word,
        ap length (same e fits long),
        cut e fits long,
      )

  pub basis-parts : head_words (entry_in e).head ++ map coordinate_word (take (e.d * e.m) e.coordinates) ≡ basis_words (entry_in e)
  basis-parts = ap (λ cs. head_words (entry_in e).head ++ map coordinate_word cs) (sym (same e fits long))

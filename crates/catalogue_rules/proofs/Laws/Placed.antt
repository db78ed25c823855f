-- Entries at their places: they are written alike, and what holds of entries wherever they stand holds of placed ones.
use Rattle.std.specs.Prelude.{◌≡◌, refl, List, [], ◌∷◌, ◌++◌, map, ℕ, suc, length}
use Rattle.std.proofs.Common.{ap, ap₂, ◌∙◌, inl, inr}
use Rattle.std.proofs.Math.Option.{Option, none, some}
use Rattle.integers.specs.All.{All, Some}
use Rattle.catalogue_rules.specs.Word.{Word, end, encode, bytes_of}
use Rattle.catalogue_rules.specs.Catalogue.{See, Entry, coordinates}
use Rattle.catalogue_rules.specs.Write.{head_words, coordinate_word, draft_words, see_words, entries_words, write}
use Rattle.catalogue_rules.specs.Form.{see_at, past_see, past_mark, entry_at, placed}

pub length-placed : (i : ℕ) (es : List Entry) → length (placed i es) ≡ length es
length-placed i [] = refl
length-placed i (e ∷ es) = ap suc (length-placed (past_see (past_mark i e) e.see) es)

-- ---- writing

pub see-words : (i : ℕ) (o : Option See) → see_words (see_at i o) ≡ see_words o
see-words i none = refl
see-words i (some s) = refl

pub entries-words : (i : ℕ) (es : List Entry) → entries_words (placed i es) ≡ entries_words es
entries-words i [] = refl
entries-words i (e ∷ es) =
    ap₂ (λ (s t : List Word). (head_words e.head ++ (map coordinate_word (coordinates e.vectors) ++ (draft_words e.draft ++ s))) ++ t) (see-words (past_mark i e) e.see) (entries-words (past_see (past_mark i e) e.see) es)

pub write-placed : (i : ℕ) (es : List Entry) → write (placed i es) ≡ write es
unfolding write
write-placed i es = ap₂ (λ ws n. bytes_of (map encode (ws ++ (end n ∷ [])))) (entries-words i es) (length-placed i es)

-- ---- placing once more

see-again : (i : ℕ) (o : Option See) → see_at i (see_at i o) ≡ see_at i o
see-again i none = refl
see-again i (some s) = refl

past-again : (i : ℕ) (o : Option See) → past_see i (see_at i o) ≡ past_see i o
past-again i none = refl
past-again i (some s) = refl

pub placed-again : (i : ℕ) (es : List Entry) → placed i (placed i es) ≡ placed i es
placed-again i [] = refl
placed-again i (e ∷ es) =
    let j = past_mark i e in
    ap₂ ◌∷◌ (ap (λ o. record { head = (entry_at i e).head; vectors = e.vectors; draft = e.draft; see = o }) (see-again j e.see))
    (ap (λ k. placed k (placed (past_see j e.see) es)) (past-again j e.see) ∙ placed-again (past_see j e.see) es)

-- ---- properties

module _ (P Q : Entry → Type 0) (moves : (i : ℕ) (e : Entry) → P e → Q (entry_at i e)) where
  pub all_placed : (i : ℕ) (es : List Entry) → All P es → All Q (placed i es)
  all_placed i [] p = tt
  all_placed i (e ∷ es) p = (moves i e p.0, all_placed (past_see (past_mark i e) e.see) es p.1)

  pub some-placed : (i : ℕ) (es : List Entry) → Some P es → Some Q (placed i es)
  some-placed i [] p = p
  some-placed i (e ∷ es) (inl p) = inl (moves i e p)
  some-placed i (e ∷ es) (inr p) = inr (some-placed (past_see (past_mark i e) e.see) es p)

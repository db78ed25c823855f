-- Accepted bytes, written out again, are the same bytes; and so accepted entries, written and read, are the same entries.
use Rattle.std.specs.Prelude.{◌≡◌, refl, Bool, true, false, List, [], ◌∷◌, ◌++◌, map, ℕ, ◌<◌, eqb, ℤ, pos, nat_abs, length, get_or}
use Rattle.std.proofs.Common.{sym, ap, ap₂, ◌∙◌, append_assoc, append-nil}
use Rattle.std.proofs.lemmas.List.{map-append}
use Rattle.std.proofs.Math.Option.{none}
use Rattle.std.proofs.Math.IntN.{ -ℤ-+ℤ_cancel}
use Rattle.lattices.specs.Vector.{Vec}
use Rattle.lattices.specs.Refusal.{most_size}
use Rattle.catalogue_rules.specs.Word.{Word, coordinate, head_number, head_size, decode, encode, words_of, bytes_of}
use Rattle.catalogue_rules.proofs.Laws.Word.{encode-decode, bytes-words}
use Rattle.catalogue_rules.specs.Catalogue.{Head, Entry, coordinates, accepted}
use Rattle.catalogue_rules.specs.Read.{State, outside, numbered, inside, after, closed, with_entry, coordinate_of, with_vector, with_coordinate, read}
use Rattle.catalogue_rules.specs.Write.{head_words, coordinate_word, entry_words, entries_words, catalogue_words, write}
use Rattle.catalogue_rules.proofs.Laws.Moves.{between, unreferred, Moves, by-head, by_number, by_size, by-coordinate, by-draft, by-see, by_end, kept-to-end}

-- the words that a state has read
abbrev pub words_so_far : State → List Word
words_so_far (outside es) = entries_words es
words_so_far (numbered es n i) = entries_words es ++ (head_number n ∷ [])
words_so_far (inside es h vs v) = entries_words es ++ (head_words h ++ map coordinate_word (coordinates vs ++ v))
words_so_far (after es h vs marked) = entries_words (with_entry es h vs marked none)
words_so_far (closed es) = catalogue_words es

pub entries-append : (es fs : List Entry) → entries_words (es ++ fs) ≡ entries_words es ++ entries_words fs
entries-append [] fs = refl
entries-append (e ∷ es) fs = ap (λ l. entry_words e ++ l) (entries-append es fs) ∙ sym (append_assoc (entry_words e) (entries_words es) (entries_words fs))

pub entries_snoc : (es : List Entry) (e : Entry) → entries_words (es ++ (e ∷ [])) ≡ entries_words es ++ entry_words e
entries_snoc es e = entries-append es (e ∷ []) ∙ ap (λ l. entries_words es ++ l) (append-nil (entry_words e))

pub coordinates_snoc : (vs : List Vec) (v : Vec) → coordinates (vs ++ (v ∷ [])) ≡ coordinates vs ++ v
coordinates_snoc [] v = append-nil v
coordinates_snoc (u ∷ vs) v = ap (λ l. u ++ l) (coordinates_snoc vs v) ∙ sym (append_assoc u (coordinates vs) v)

-- a word for each coordinate, whether or not the vector and the entry are whole
vector-words : (es : List Entry) (h : Head) (vs : List Vec) → words_so_far (with_vector es h vs) ≡ words_so_far (inside es h vs [])
vector-words es h vs = go (eqb (length vs) h.d)
  where
    go : (t : Bool) → words_so_far (elim t [ true ↦ after es h vs false | false ↦ inside es h vs [] ]) ≡ words_so_far (inside es h vs [])
    go true = entries_snoc es _ ∙ simp append-nil
    go false = refl

coordinate-words : (es : List Entry) (h : Head) (vs : List Vec) (v : Vec) → words_so_far (with_coordinate es h vs v) ≡ words_so_far (inside es h vs v)
coordinate-words es h vs v = go (eqb (length v) h.m)
  where
    go : (t : Bool) → words_so_far (elim t [ true ↦ with_vector es h (vs ++ (v ∷ [])) | false ↦ inside es h vs v ]) ≡ words_so_far (inside es h vs v)
    go true = vector-words es h (vs ++ (v ∷ [])) ∙ simp (append-nil, coordinates_snoc)
    go false = refl

load-back : (l : ℕ) → coordinate_word (coordinate_of l) ≡ coordinate l
load-back l = ap (λ x. coordinate (nat_abs x)) (-ℤ-+ℤ_cancel (pos l) (pos most_size))

one-coordinate : (es : List Entry) (h : Head) (vs : List Vec) (v : Vec) (x : ℤ) → words_so_far (inside es h vs (v ++ (x ∷ []))) ≡ words_so_far (inside es h vs v) ++ (coordinate_word x ∷ [])
one-coordinate es h vs v x = simp (append_assoc, map-append)

pub grows : {s t : State} {i : ℕ} {w : Word} → Moves s i w t → words_so_far t ≡ words_so_far s ++ (w ∷ [])
grows (by-head n d m i (between es) p) = refl
grows (by-head n d m i (unreferred es g vs marked) p) = refl
grows (by_number n i (between es) p) = refl
grows (by_number n i (unreferred es g vs marked) p) = refl
grows (by_size es n i d m p) = sym (append_assoc (entries_words es) (head_number n ∷ []) (head_size 0 d m ∷ []))
grows (by-coordinate es h vs v l p) =
    coordinate-words es h vs (v ++ (coordinate_of l ∷ []))
    ∙ one-coordinate es h vs v (coordinate_of l)
    ∙ ap (λ w. words_so_far (inside es h vs v) ++ (w ∷ [])) (load-back l)
grows (by-draft es h vs) = simp (entries_snoc, append_assoc, append-nil)
grows (by-see es h vs marked s) = simp (entries_snoc, append_assoc, append-nil)
grows (by_end (between es)) = refl
grows (by_end (unreferred es h vs marked)) = refl

-- the words read are the words that would be written
abbrev Same : List ℕ → State → Type 0
Same past s = map encode (words_so_far s) ≡ past

same_kept : (past : List ℕ) (s t : State) (i w : ℕ) → Same past s → Moves s i (decode w) t → Same (past ++ (w ∷ [])) t
same_kept past s t i w p m = ap (map encode) (grows m) ∙ map-append encode (words_so_far s) (decode w ∷ []) ∙ ap₂ (λ l x. l ++ (x ∷ [])) p (encode-decode w)

-- the words of an accepted file are those of its entries
pub same-words : (bytes : List ℕ) (es : List Entry) → read bytes ≡ accepted es → map encode (catalogue_words es) ≡ words_of bytes
same-words bytes es e = (kept-to-end Same same_kept bytes es refl e).kept

pub same_bytes : (bytes : List ℕ) (es : List Entry) → ((i : ℕ) → get_or bytes i 0 < 256) → read bytes ≡ accepted es → write es ≡ bytes
unfolding write
same_bytes bytes es h e =
    let k = kept-to-end Same same_kept bytes es refl e in
    ap bytes_of k.kept ∙ bytes-words bytes h k.whole

pub same_entries : (bytes : List ℕ) (es : List Entry) → ((i : ℕ) → get_or bytes i 0 < 256) → read bytes ≡ accepted es → read (write es) ≡ accepted es
same_entries bytes es h e = ap read (same_bytes bytes es h e) ∙ e

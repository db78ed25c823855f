-- The words written for well-formed entries have 32 bits, and make no more bytes than their form allows.
use Rattle.std.specs.Prelude.{◌≡◌, refl, Bool, true, false, List, [], ◌∷◌, ◌++◌, map, ℕ, ◌+◌, ◌*◌, ◌^◌, ◌≤◌, ◌<◌, ltb, pos, nat_abs, length}
use Rattle.std.proofs.Common.{sym, subst, mul-le-mul_right, arith, length-append}
use Rattle.std.proofs.lemmas.List.{map-append, length-map}
use Rattle.std.proofs.Math.Option.{Option, none, some}
use Rattle.std.specs.Int.Signed.{lt_z}
use Rattle.lattices.specs.Vector.{Vec, N}
use Rattle.integers.specs.Every.{any}
use Rattle.lattices.specs.Refusal.{most_square, most_size, most_vectors, most_coordinates}
use Rattle.lattices.specs.Laws.Refusal.{one-to}
use Rattle.integers.specs.All.{All}
use Rattle.integers.specs.AllLaws.{all_append, all_map}
use Rattle.catalogue_rules.specs.Word.{Word, end, encode, bytes_of}
use Rattle.catalogue_rules.proofs.Laws.Word.{length-bytes}
use Rattle.catalogue_rules.specs.Catalogue.{Form, old, new, head_length, most_number, Head, See, Entry, coordinates, most_entries, most_numbers, most_bytes}
use Rattle.catalogue_rules.specs.Write.{head_words_in, head_words, coordinate_word, draft_words, see_words, entry_words, entries_words, catalogue_words}
use Rattle.catalogue_rules.specs.Form.{HeadFits, VectorFits, EntryFits}
use Rattle.integers.specs.Tests.{neither}
use Rattle.catalogue_rules.proofs.Laws.EntriesAccepted.{few-coordinates}
use Rattle.catalogue_rules.proofs.Laws.ReadVectors.{load-most}
use Rattle.catalogue_rules.proofs.Laws.ReadEntries.{SeeFits}

abbrev pub SmallWords : Word → Type 0
SmallWords w = encode w < 2 ^ 32

-- ---- 32 bits

small_in : (f : Form) (n d m : ℕ) → n ≤ most_number f → d ≤ most_vectors → m ≤ most_coordinates → All SmallWords (head_words_in f n d m)
unfolding encode
small_in old n d m p q r = (omega arith, tt)
small_in new n d m p q r = (omega arith, (omega arith, tt))

head_small : (h : Head) → HeadFits h → All SmallWords (head_words h)
head_small h p =
    small_in h.form h.number h.d h.m (one-to (most_number h.form) h.number p.number).1 (one-to most_vectors h.d p.d).1 (one-to most_coordinates h.m p.m).1

vector-small : (v : Vec) → any (λ y. ltb most_size (nat_abs y)) v ≡ false → All SmallWords (map coordinate_word v)
unfolding encode
vector-small [] p = tt
vector-small (x ∷ v) p =
    let n = neither (ltb most_size (nat_abs x)) (any (λ y. ltb most_size (nat_abs y)) v) p in
    let r = load-most x n.0 in
    (omega arith, vector-small v n.1)

vectors-small : (m : ℕ) (vs : List Vec) → All (VectorFits m) vs → All SmallWords (map coordinate_word (coordinates vs))
vectors-small m [] p = tt
vectors-small m (v ∷ vs) p =
    let near = neither (any (λ y. ltb most_size (nat_abs y)) v) (lt_z (pos most_square) (N v)) p.0.short in
    subst (All SmallWords) (sym (map-append coordinate_word v (coordinates vs))) (all_append SmallWords (map coordinate_word v) (map coordinate_word (coordinates vs)) (vector-small v near.0) (vectors-small m vs p.1))

see-small : (o : Option See) → SeeFits o → All SmallWords (see_words o)
unfolding encode
see-small none p = tt
see-small (some s) p = (omega arith, tt)

draft-small : (d : Bool) → All SmallWords (draft_words d)
unfolding encode
draft-small true = (omega arith, tt)
draft-small false = tt

entries-small : (es : List Entry) → All EntryFits es → All (λ e. SeeFits e.see) es → All SmallWords (entries_words es)
entries-small [] p q = tt
entries-small (e ∷ es) p q =
    let marks = draft_words e.draft ++ see_words e.see in
    let numbers = map coordinate_word (coordinates e.vectors) in
    all_append SmallWords (entry_words e) (entries_words es)
    (all_append SmallWords (head_words e.head) (numbers ++ marks) (head_small e.head p.0.head)
    (all_append SmallWords numbers marks (vectors-small e.head.m e.vectors p.0.vectors)
    (all_append SmallWords (draft_words e.draft) (see_words e.see) (draft-small e.draft) (see-small e.see q.0))))
    (entries-small es p.1 q.1)

pub words_small : (es : List Entry) → length es ≤ most_entries → All EntryFits es → All (λ e. SeeFits e.see) es → All (λ w. w < 2 ^ 32) (map encode (catalogue_words es))
unfolding encode
words_small es few p q =
    all_map (λ w. w < 2 ^ 32) encode (catalogue_words es) (all_append SmallWords (entries_words es) (end (length es) ∷ []) (entries-small es p q) (omega arith, tt))

-- ---- how many

length-draft : (d : Bool) → length (draft_words d) ≤ 1
length-draft true = omega arith
length-draft false = omega arith

length-see : (o : Option See) → length (see_words o) ≤ 1
length-see none = omega arith
length-see (some s) = omega arith

pub length-head : (h : Head) → length (head_words h) ≡ head_length h.form
length-head h = go h.form
  where
    go : (f : Form) → length (head_words_in f h.number h.d h.m) ≡ head_length f
    go old = refl
    go new = refl

pub length-entry : (e : Entry) → EntryFits e → length (entry_words e) ≤ head_length e.head.form + most_numbers + 2
length-entry e p =
    let cs = coordinates e.vectors in
    omega (
      arith,
      few-coordinates e p,
      length-head e.head,
      length-append (head_words e.head) (map coordinate_word cs ++ (draft_words e.draft ++ see_words e.see)),
      length-append (map coordinate_word cs) (draft_words e.draft ++ see_words e.see),
      length-map cs coordinate_word,
      length-append (draft_words e.draft) (see_words e.see),
      length-draft e.draft,
      length-see e.see,
    )

-- whatever the forms
pub length-any : (es : List Entry) → All EntryFits es → length (entries_words es) ≤ length es * (head_length new + most_numbers + 2)
length-any [] p = omega arith
length-any (e ∷ es) p = omega (arith, length-append (entry_words e) (entries_words es), length-entry e p.0, most e.head.form, length-any es p.1)
  where
    most : (f : Form) → head_length f ≤ head_length new
    most old = omega arith
    most new = omega arith

module _ (f : Form) where
  pub length-entries : (es : List Entry) → All (λ e. e.head.form ≡ f) es → All EntryFits es → length (entries_words es) ≤ length es * (head_length f + most_numbers + 2)
  length-entries [] one p = omega arith
  length-entries (e ∷ es) one p =
      let here : length (entry_words e) ≤ head_length f + most_numbers + 2 = subst (λ g. length (entry_words e) ≤ head_length g + most_numbers + 2) one.0 (length-entry e p.0) in
      omega (arith, length-append (entry_words e) (entries_words es), here, length-entries es one.1 p.1)

  pub length-written : (es : List Entry) → length es ≤ most_entries → All (λ e. e.head.form ≡ f) es → All EntryFits es
      → length (bytes_of (map encode (catalogue_words es))) ≤ most_bytes f
  length-written es few one p =
      let most : length es * (head_length f + most_numbers + 2) ≤ most_entries * (head_length f + most_numbers + 2) = mul-le-mul_right (head_length f + most_numbers + 2) few in
      omega (arith, length-bytes (map encode (catalogue_words es)), length-map (catalogue_words es) encode, length-append (entries_words es) (end (length es) ∷ []), length-entries es one p, most)

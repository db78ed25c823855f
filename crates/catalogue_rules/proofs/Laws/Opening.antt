-- What the first word of a written file shows: the form of its heads; and that the new form has room for all that the old one has.
use Rattle.std.specs.Prelude.{◌≡◌, refl, true, false, List, [], ◌∷◌, ◌++◌, map, ℕ, ◌≤◌, eqb, length}
use Rattle.std.proofs.Common.{sym, ap, ◌∙◌, subst, append_assoc, arith}
use Rattle.std.proofs.lemmas.List.{map-append}
use Rattle.integers.specs.All.{All}
use Rattle.catalogue_rules.specs.Word.{end, encode, bytes_of}
use Rattle.catalogue_rules.specs.Catalogue.{Form, old, new, same_form, most_number, most_entries, most_bytes, Entry, coordinates}
use Rattle.catalogue_rules.specs.Read.{opens_in, form_shown}
use Rattle.catalogue_rules.specs.Write.{head_words_in, head_words, coordinate_word, draft_words, see_words, entries_words, catalogue_words}
use Rattle.catalogue_rules.specs.Form.{EntryFits}
use Rattle.catalogue_rules.proofs.Laws.Word.{InRange, kind-encode}
use Rattle.catalogue_rules.proofs.Laws.ReadEntries.{head_range}
use Rattle.catalogue_rules.proofs.Laws.WrittenSize.{length-written}

pub numbers-room : (f : Form) → most_number f ≤ most_number new
numbers-room old = omega arith
numbers-room new = omega arith

pub bytes-room : (f : Form) → most_bytes f ≤ most_bytes new
bytes-room old = omega arith
bytes-room new = omega arith

-- ---- the first head

opens : (f g : Form) (n d m : ℕ) → All InRange (head_words_in f n d m) → (words : List ℕ) → opens_in g (map encode (head_words_in f n d m) ++ words) ≡ same_form f g
opens old old n d m r words = ap (λ k. eqb k 1) (kind-encode _ r.0)
opens old new n d m r words = ap (λ k. eqb k 6) (kind-encode _ r.0)
opens new old n d m r words = ap (λ k. eqb k 1) (kind-encode _ r.0)
opens new new n d m r words = ap (λ k. eqb k 6) (kind-encode _ r.0)

pub opens-with : (g : Form) (e : Entry) (es : List Entry) → EntryFits e → opens_in g (map encode (catalogue_words (e ∷ es))) ≡ same_form e.head.form g
opens-with g e es p =
    let h = e.head in
    let words = map coordinate_word (coordinates e.vectors) ++ (draft_words e.draft ++ see_words e.see) in
    let more = words ++ (entries_words es ++ (end (length (e ∷ es)) ∷ [])) in
    let split : catalogue_words (e ∷ es) ≡ head_words h ++ more = append_assoc (head_words h ++ words) (entries_words es) (end (length (e ∷ es)) ∷ []) ∙ append_assoc (head_words h) words _ in
    ap (λ ws. opens_in g (map encode ws)) split
    ∙ ap (opens_in g) (map-append encode (head_words h) more)
    ∙ opens h.form g h.number h.d h.m (head_range h p.head) (map encode more)

-- a file without a head of this form does not open in it
pub opens_not : (g : Form) (es : List Entry) → All EntryFits es → All (λ e. same_form e.head.form g ≡ false) es → opens_in g (map encode (catalogue_words es)) ≡ false
unfolding encode
opens_not old [] p q = refl
opens_not new [] p q = refl
opens_not g (e ∷ es) p q = opens-with g e es p.0 ∙ q.0

shown : (f : Form) → elim (same_form f new) [ true ↦ new | false ↦ old ] ≡ f
shown old = refl
shown new = refl

pub form-shown : (e : Entry) (es : List Entry) → EntryFits e → form_shown (map encode (catalogue_words (e ∷ es))) ≡ e.head.form
form-shown e es p = ap (λ t. elim t [ true ↦ new | false ↦ old ]) (opens-with new e es p) ∙ shown e.head.form

-- ---- the length

pub written_allowed : (f : Form) (es : List Entry) → length es ≤ most_entries → All (λ e. e.head.form ≡ f) es → All EntryFits es
    → length (bytes_of (map encode (catalogue_words es))) ≤ most_bytes (form_shown (map encode (catalogue_words es)))
unfolding encode
written_allowed f [] few one p = omega arith
written_allowed f (e ∷ es) few one p =
    subst (λ g. length (bytes_of (map encode (catalogue_words (e ∷ es)))) ≤ most_bytes g) (sym (form-shown e es p.0 ∙ one.0)) (length-written f (e ∷ es) few one p)

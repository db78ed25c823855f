-- The line of an entry that fits tells the words of the entry.
use Rattle.std.specs.Prelude.{◌≡◌, refl, Bool, false, true, not, List, [], ◌∷◌, ◌++◌, map, ℕ, suc, ◌+◌, ◌*◌, ◌≤◌, ltb, ℤ, pos, nat_abs, length, drop}
use Rattle.std.proofs.Common.{sym, ◌∙◌, inr, append_assoc, append-nil, arith}
use Rattle.std.proofs.Math.Path.{ap, ap₂}
use Rattle.std.proofs.Math.Bool.{cond, ◌&&◌}
use Rattle.std.proofs.Math.Option.{Option, none, some}
use Rattle.std.proofs.Math.Seq.{drop-append-add}
use borrow.Author.Tests.{eq-eqb, le-leb, ltb-false}
use Rattle.integers.specs.All.{All}
use Rattle.integers.specs.Tests.{neither}
use Rattle.integers.specs.Decimal.{decimal, signed}
use Rattle.integers.specs.Every.{any}
use Rattle.lattices.specs.Refusal.{most_vectors, most_coordinates, most_size}
use Rattle.lattices.specs.Laws.Refusal.{one-to}
use Rattle.catalogue_rules.specs.Catalogue.{most_number, Head, See, Entry, coordinates}
use Rattle.catalogue_rules.specs.Word.{Word, see, draft}
use Rattle.catalogue_rules.specs.Write.{head_words, coordinate_word, draft_words, see_words, entry_words}
use Rattle.catalogue_rules.specs.Form.{HeadFits, EntryFits}
use Rattle.catalogue_rules.proofs.Laws.EntriesAccepted.{count-coordinates, few-coordinates, all_near}
use Rattle.catalogue_rules.proofs.Laws.ReadEntries.{SeeFits}
use Rattle.catalogue_rules.proofs.Laws.Opening.{numbers-room}
use Rattle.text_parts.specs.declared.Kind.{Kind}
use Rattle.text_parts.specs.declared.Kind.TheVariants.{Semicolon, End}
use Rattle.text_parts.specs.Numbers.{leading, read}
use Rattle.text_parts.specs.Tokens.{is_blank, token_at}
use Rattle.text_parts.specs.Parts.{more, taken_at}
use Rattle.text_rules.specs.Text.{semicolon, draft_word, draft_fields, see_fields, entry_fields, entry_text}
use Rattle.text_rules.specs.Encoding.{see_from, before, begins_with, is_draft, past_draft, after_draft, mark_from, rest_from, are_coordinates, coordinates_from, most_numbers, head_from, line_from}
use Rattle.text_rules.specs.DecimalBack.{Tells, decimal_tells}
use Rattle.text_rules.specs.NumberBack.{Written, digit-is-not, digit-no-blank, signed_reads}
use Rattle.text_rules.specs.PartBack.{spaced, after-spaced, spaced-append, Stop, taken, part-goes, part-back}

-- ---- where parts stop

line-ends : Stop End 0 []
unfolding token_at
line-ends = record { ends = refl; token = refl; last = refl }

at-semicolon : (rest : List ℕ) → Stop Semicolon 2 (32 ∷ 59 ∷ rest)
unfolding token_at
at-semicolon rest = record { ends = refl; token = refl; last = refl }

-- ---- the see word

see-back : (n : ℕ) → n ≤ 268435455 → see_from (taken_at 1 (spaced (decimal n ∷ []))) ≡ some (see n ∷ [])
see-back n h =
    let text = spaced (decimal n ∷ []) in
    ap (λ s. see_from (taken_at 1 s)) (sym (append-nil text))
    ∙ ap see_from (part-back 1 (pos n ∷ []) (omega arith) (omega arith, tt) line-ends)
    ∙ ap (λ b. cond b (some (see n ∷ [])) none) (le-leb n 268435455 h)

-- ---- the mark, and what follows it

-- digits are no mark
told-no-draft : (n : ℕ) (s rest : List ℕ) → Tells n s → is_draft (32 ∷ (s ++ rest)) ≡ false
told-no-draft n [] rest t = absurd (omega (arith, t.one))
told-no-draft n (b ∷ s) rest t =
    let l = s ++ rest in
    ap (λ c. begins_with draft_word (drop (suc (cond c (suc (leading is_blank l)) 0)) (32 ∷ b ∷ l))) (digit-no-blank b t.digits.0)
    ∙ ap (λ c. c && begins_with (114 ∷ 97 ∷ 102 ∷ 116 ∷ []) l) (digit-is-not b 100 t.digits.0 (inr (omega arith)))

unmarked_back : (n : ℕ) → n ≤ 268435455 → mark_from (spaced (decimal n ∷ [])) ≡ some (see n ∷ [])
unmarked_back n h =
    let text = spaced (decimal n ∷ []) in
    ap (λ b. cond b (before (draft 1 ∷ []) (after_draft (past_draft text))) (see_from (taken_at 1 text))) (told-no-draft n (decimal n) [] (decimal_tells n))
    ∙ see-back n h

after-back : (o : Option See) → SeeFits o → after_draft (spaced (see_fields o)) ≡ some (see_words o)
unfolding token_at
after-back none h = refl
after-back (some s) h = see-back s.number (omega arith)

marked_back : (o : Option See) → SeeFits o → mark_from (spaced (draft_word ∷ see_fields o)) ≡ some (draft_words true ++ see_words o)
marked_back o h = ap (before (draft 1 ∷ [])) (after-back o h)

-- ---- coordinates, and what follows them

all-written : (zs : List ℤ) → any (λ z. ltb most_size (nat_abs z)) zs ≡ false → All Written zs
all-written [] e = tt
all-written (z ∷ zs) e =
    let p = neither (ltb most_size (nat_abs z)) (any (λ z. ltb most_size (nat_abs z)) zs) e in
    let h = ltb-false most_size (nat_abs z) p.0 in
    (omega arith, all-written zs p.1)

module _ (zs : List ℤ) (n : ℕ) (few : length zs ≤ most_numbers) (count : length zs ≡ n) (near : any (λ z. ltb most_size (nat_abs z)) zs ≡ false) where
  followed : {k : Kind} {j : ℕ} {rest : List ℕ} (ws : List Word) → Stop k j rest → rest_from k (drop j rest) ≡ some ws
      → let s = spaced (map signed zs) ++ rest in coordinates_from n (taken_at most_numbers s) s ≡ some (map coordinate_word zs ++ ws)
  followed {k} {j} {rest} ws stop e =
      let fields = spaced (map signed zs) in
      let s = fields ++ rest in
      let words = map coordinate_word zs in
      let fit : are_coordinates n zs ≡ true = ap₂ (λ b c. b && not c) (eq-eqb (length zs) n count) near in
      ap (λ p. coordinates_from n p s) (part-back most_numbers zs few (all-written zs near) stop)
      ∙ ap (λ b. cond b (before words (rest_from k (drop (length fields + j) s))) none) fit
      ∙ ap (λ l. before words (rest_from k l)) (drop-append-add fields rest j)
      ∙ ap (before words) e

  coordinates-back : (b : Bool) (o : Option See) → SeeFits o
      → let s = spaced (map signed zs) ++ spaced (draft_fields b ++ see_fields o) in coordinates_from n (taken_at most_numbers s) s ≡ some (map coordinate_word zs ++ (draft_words b ++ see_words o))
  coordinates-back true o h = followed (draft_words true ++ see_words o) (at-semicolon (spaced (draft_word ∷ see_fields o))) (marked_back o h)
  coordinates-back false none h = followed [] line-ends refl
  coordinates-back false (some s) h = followed (see_words (some s)) (at-semicolon (spaced (decimal s.number ∷ []))) (unmarked_back s.number (omega arith))

-- ---- the head

module _ (h : Head) (fits : HeadFits h) (s : List ℕ) where
  abbrev counts : List ℤ
  counts = pos h.d ∷ pos h.m ∷ []

  abbrev headed : List ℕ
  headed = decimal h.number ++ (spaced (map signed counts) ++ (32 ∷ 59 ∷ s))

  abbrev size : ℕ
  size = length (decimal h.number) + (length (spaced (map signed counts)) + 2)

  number-most : h.number ≤ most_number h.form
  number-most = (one-to (most_number h.form) h.number fits.number).1

  d-most : h.d ≤ most_vectors
  d-most = (one-to most_vectors h.d fits.d).1

  m-most : h.m ≤ most_coordinates
  m-most = (one-to most_coordinates h.m fits.m).1

  head-taken : taken_at 3 headed ≡ taken (pos h.number ∷ counts) size Semicolon
  head-taken =
      let n : h.number ≤ 268435455 = omega (arith, number-most, numbers-room h.form) in
      let d : h.d ≤ 15 = omega (arith, d-most) in
      let m : h.m ≤ 15 = omega (arith, m-most) in
      part-goes 2 _ (signed_reads (pos h.number) (omega arith)) refl
      ∙ ap (more (read (length (decimal h.number)) (pos h.number))) (part-back 2 counts (omega arith) (omega arith, (omega arith, tt)) (at-semicolon s))

  head-left : drop size headed ≡ s
  head-left = drop-append-add (decimal h.number) _ _ ∙ drop-append-add (spaced (map signed counts)) (32 ∷ 59 ∷ s) 2

  head-back : (ws : List Word) → coordinates_from (h.d * h.m) (taken_at most_numbers s) s ≡ some ws → line_from h.form headed ≡ some (head_words h ++ ws)
  unfolding line_from
  head-back ws e =
      let f = h.form in
      let p = le-leb h.number (most_number f) number-most in
      let q = ap₂ ◌&&◌ (le-leb h.d 15 (omega (arith, d-most))) (le-leb h.m 15 (omega (arith, m-most))) in
      ap (λ p. head_from f p (drop p.length headed)) head-taken
      ∙ ap (head_from f (taken (pos h.number ∷ counts) size Semicolon)) head-left
      ∙ ap (λ b. cond b (before (head_words h) (coordinates_from (h.d * h.m) (taken_at most_numbers s) s)) none) (ap₂ ◌&&◌ p q)
      ∙ ap (before (head_words h)) e

-- ---- the line

abbrev pub line_of : Entry → List ℕ
line_of e = decimal e.head.number ++ spaced (entry_fields e)

pub text-line : (e : Entry) → entry_text e ≡ line_of e ++ (10 ∷ [])
text-line e = ap (λ l. decimal e.head.number ++ l) (after-spaced (entry_fields e)) ∙ sym (append_assoc (decimal e.head.number) (spaced (entry_fields e)) (10 ∷ []))

pub line-back : (e : Entry) → EntryFits e → SeeFits e.see → line_from e.head.form (line_of e) ≡ some (entry_words e)
line-back e p q =
    let zs = coordinates e.vectors in
    let last = draft_fields e.draft ++ see_fields e.see in
    let two = map signed (pos e.head.d ∷ pos e.head.m ∷ []) in
    ap (λ l. line_from e.head.form (decimal e.head.number ++ l)) (spaced-append two (semicolon ∷ (map signed zs ++ last)))
    ∙ ap (λ s. line_from e.head.form (headed e.head p.head s)) (spaced-append (map signed zs) last)
    ∙ head-back e.head p.head _ _ (coordinates-back zs _ (omega (arith, few-coordinates e p)) (count-coordinates e p) (all_near e.head.m e.vectors p.vectors) e.draft e.see q)

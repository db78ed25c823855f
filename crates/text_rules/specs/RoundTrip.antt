-- The text of a catalogue tells the words of the catalogue; so a file that is accepted, written as text and encoded, is the same file again.
use Rattle.std.specs.Prelude.{◌≡◌, refl, false, cond, ◌||◌, List, [], ◌∷◌, ◌++◌, map, ℕ, ◌<◌, get_or}
use Rattle.std.proofs.Common.{sym, ap, ap₂, ◌∙◌, subst, append_assoc}
use Rattle.std.proofs.Math.Option
use Rattle.std.proofs.Math.Option.{none, some}
use Rattle.std.proofs.lemmas.List.{length-map}
use Rattle.integers.specs.All.{All}
use Rattle.catalogue_rules.specs.Word.{end, encode, bytes_of}
use Rattle.catalogue_rules.specs.Catalogue.{Form, old, new, Entry, accepted}
use Rattle.catalogue_rules.specs.Read.{read}
use Rattle.catalogue_rules.specs.Write.{entry_words, entries_words, catalogue_words, write}
use Rattle.catalogue_rules.specs.Form.{EntryFits, OneForm}
use Rattle.catalogue_rules.proofs.Laws.WellFormed.{well_formed}
use Rattle.catalogue_rules.proofs.Laws.ReadEntries.{SeeFits}
use Rattle.catalogue_rules.proofs.Laws.ReadBack.{sees-fit}
use Rattle.catalogue_rules.proofs.Laws.RoundTrip.{same_bytes}
use Rattle.text_rules.specs.Text.{form_text, entries_text, text_of}
use Rattle.text_rules.specs.Encoding.{line_from, lines_of, content, is_empty, is_new, form_told, entry_lines, is_wrong, listed, line_wrong, line_entry, any_wrong, entries_from, joined, ended, told_wrong, told_entries, encoded}
use Rattle.text_rules.specs.LineBack.{line_of, text-line, line-back}
use Rattle.text_rules.specs.LinesBack.{line_plain, lines_cut, content-all, line-shown, line-no-new}

-- the line of an entry, before other lines
module _ (f : Form) (e : Entry) (one : e.head.form ≡ f) (p : EntryFits e) (q : SeeFits e.see) where
  here : line_from f (content (line_of e)) ≡ some (entry_words e)
  here = ap (λ g. line_from g (content (line_of e))) (sym one) ∙ ap (line_from e.head.form) (content-all (line_of e) (line_plain e)) ∙ line-back e p q

  full : is_empty (content (line_of e)) ≡ false
  full = ap is_empty (content-all (line_of e) (line_plain e)) ∙ line-shown e

  line-right : line_wrong f (line_of e) ≡ false
  line-right = λ i. cond (full i) false (is_wrong (here i))

  line-entry : line_entry f (line_of e) ≡ entry_words e ∷ []
  line-entry = λ i. cond (full i) [] (listed (here i))

cut : (e : Entry) (es : List Entry) → lines_of (entries_text (e ∷ es)) ≡ line_of e ∷ lines_of (entries_text es)
cut e es =
    ap (λ l. lines_of (l ++ entries_text es)) (text-line e)
    ∙ ap lines_of (append_assoc (line_of e) (10 ∷ []) (entries_text es))
    ∙ lines_cut (line_of e) (entries_text es) (line_plain e)

abbrev InForm : Form → List Entry → Type 0
InForm f es = All (λ e. e.head.form ≡ f) es

none-wrong : (f : Form) (es : List Entry) → InForm f es → All EntryFits es → All (λ e. SeeFits e.see) es → any_wrong f (lines_of (entries_text es)) ≡ false
none-wrong f [] one p q = refl
none-wrong f (e ∷ es) one p q = ap (any_wrong f) (cut e es) ∙ ap₂ ◌||◌ (line-right f e one.0 p.0 q.0) (none-wrong f es one.1 p.1 q.1)

entries-back : (f : Form) (es : List Entry) → InForm f es → All EntryFits es → All (λ e. SeeFits e.see) es → entries_from f (lines_of (entries_text es)) ≡ map entry_words es
entries-back f [] one p q = refl
entries-back f (e ∷ es) one p q = ap (entries_from f) (cut e es) ∙ ap₂ ◌++◌ (line-entry f e one.0 p.0 q.0) (entries-back f es one.1 p.1 q.1)

joined_words : (es : List Entry) → joined (map entry_words es) ≡ entries_words es
joined_words [] = refl
joined_words (e ∷ es) = ap (λ ws. entry_words e ++ ws) (joined_words es)

-- ---- the form: a first line that is no `new` is that of an entry

-- what f gives of the form and the lines that a text tells
module _ {X : Type 0} (f : Form → List (List ℕ) → X) where
  plain : (l : List ℕ) (ls : List (List ℕ)) → is_new l ≡ false → f (form_told (l ∷ ls)) (entry_lines (l ∷ ls)) ≡ f old (l ∷ ls)
  plain l ls e = ap (λ b. f (cond b new old) (cond b [] l ∷ ls)) e

  told_in : (g : Form) (e : Entry) (es : List Entry) → (f new ([] ∷ lines_of (entries_text (e ∷ es))) ≡ f new (lines_of (entries_text (e ∷ es))))
      → let ls = lines_of (form_text (some g) ++ entries_text (e ∷ es)) in f (form_told ls) (entry_lines ls) ≡ f g (lines_of (entries_text (e ∷ es)))
  told_in old e es blank =
      ap (λ ls. f (form_told ls) (entry_lines ls)) (cut e es) ∙ plain (line_of e) (lines_of (entries_text es)) (line-no-new e) ∙ sym (ap (f old) (cut e es))
  told_in new e es blank = blank

-- the form of all is that of the first
as_first : (e : Entry) (es : List Entry) → OneForm (e ∷ es) → InForm e.head.form (e ∷ es)
as_first e es one = subst (λ f. InForm f (e ∷ es)) (sym one.heads.0) one.heads

text-right : (es : List Entry) → OneForm es → All EntryFits es → All (λ e. SeeFits e.see) es → told_wrong (lines_of (text_of es)) ≡ false
text-right [] one p q = refl
text-right (e ∷ es) one p q = told_in any_wrong e.head.form e es refl ∙ none-wrong e.head.form (e ∷ es) (as_first e es one) p q

text-entries : (es : List Entry) → OneForm es → All EntryFits es → All (λ e. SeeFits e.see) es → told_entries (lines_of (text_of es)) ≡ map entry_words es
text-entries [] one p q = refl
text-entries (e ∷ es) one p q = told_in entries_from e.head.form e es refl ∙ entries-back e.head.form (e ∷ es) (as_first e es one) p q

pub text-back : (es : List Entry) → OneForm es → All EntryFits es → All (λ e. SeeFits e.see) es → encoded (text_of es) ≡ some (catalogue_words es)
unfolding encoded
text-back es one p q =
    (λ i. cond (text-right es one p q i) none (some (ended (text-entries es one p q i)))) ∙ ap₂ (λ ws n. some (ws ++ (end n ∷ []))) (joined_words es) (length-map es entry_words)

-- ---- an accepted file, as text and as a file again

pub file-back : (bytes : List ℕ) (es : List Entry) → ((i : ℕ) → get_or bytes i 0 < 256) → read bytes ≡ accepted es
    → Option.map (λ ws. bytes_of (map encode ws)) (encoded (text_of es)) ≡ some bytes
unfolding write
file-back bytes es h e =
    let w = well_formed bytes es e in
    let fits = w.entered.fits in
    ap (Option.map (λ ws. bytes_of (map encode ws))) (text-back es w.entered.one fits (sees-fit es es fits w.named)) ∙ ap some (same_bytes bytes es h e)

-- Well-formed entries, written and read again, are accepted as they are, each head and see word at its place; and accepted entries stand at their places.
use Rattle.std.specs.Prelude.{◌≡◌, refl, Bool, true, false, not, ◌||◌, List, [], ◌∷◌, map, ℕ, ◌%◌, ◌≤◌, ◌<◌, length, get_or}
use Rattle.std.proofs.Common.{sym, ap, ◌∙◌, subst, arith, eqb-true, eq-eqb, le-ltb}
use Rattle.std.proofs.lemmas.Bool.{false≢true}
use Rattle.std.proofs.lemmas.List.{map-append}
use Rattle.std.proofs.Math.Option.{Option, none, some}
use Rattle.integers.specs.Every.{any}
use Rattle.integers.specs.All.{All}
use Rattle.integers.specs.First.{first_given}
use Rattle.integers.specs.FirstLaws.{given-none}
use Rattle.catalogue_rules.specs.Word.{end, encode, words_of, bytes_of}
use Rattle.catalogue_rules.proofs.Laws.Word.{words-bytes, length-bytes}
use Rattle.catalogue_rules.specs.Catalogue.{new, most_number, See, Entry, refused, accepted, entries, most_bytes, most_entries}
use Rattle.catalogue_rules.specs.Read.{State, step, outside, closed, form_shown, file_rows, is_numbered, dependent_at, lost_at, after_reading, after_words, read_words, read}
use Rattle.catalogue_rules.specs.Write.{entries_words, catalogue_words, write}
use Rattle.catalogue_rules.specs.Form.{EntryFits, EntryIndependent, Names, WellFormed, see_at, past_mark, entry_at, past_see, placed}
use Rattle.catalogue_rules.proofs.Laws.Placed.{length-placed, all_placed}
use Rattle.catalogue_rules.proofs.Laws.Moves.{Between, between}
use Rattle.catalogue_rules.proofs.Laws.RoundTrip.{same_entries}
use Rattle.catalogue_rules.proofs.Laws.WellFormed.{well_formed}
use Rattle.catalogue_rules.proofs.Laws.ReadVectors.{passes, one_word, at-end}
use Rattle.lattices.specs.Laws.Refusal.{one-to}
use Rattle.catalogue_rules.proofs.Laws.ReadEntries.{SeeFits, past_entries, New, entries-read}
use Rattle.catalogue_rules.proofs.Laws.WrittenSize.{words_small}
use Rattle.catalogue_rules.proofs.Laws.Opening.{numbers-room, written_allowed}

-- ---- see words

number_of : (es : List Entry) (n : ℕ) → All EntryFits es → any (is_numbered n) es ≡ true → n ≤ most_number new
number_of [] n p e = absurd (false≢true e)
number_of (x ∷ es) n p e = go (is_numbered n x) refl e (number_of es n p.1)
  where
    go : (t : Bool) → is_numbered n x ≡ t → (t || any (is_numbered n) es) ≡ true → (any (is_numbered n) es ≡ true → n ≤ most_number new) → n ≤ most_number new
    go true q e more = let r = one-to (most_number x.head.form) x.head.number p.0.head.number in omega (arith, numbers-room x.head.form, eqb-true x.head.number n q)
    go false q e more = more e

see-fits : (es : List Entry) → All EntryFits es → (o : Option See) → Names es o → SeeFits o
see-fits es p none q = tt
see-fits es p (some s) q = let r = number_of es s.number p q in omega arith

pub sees-fit : (all es : List Entry) → All EntryFits all → All (λ e. Names all e.see) es → All (λ e. SeeFits e.see) es
sees-fit all [] p q = tt
sees-fit all (e ∷ es) p q = (see-fits all p e.see q.0, sees-fit all es p q.1)

-- ---- the end

pub numbered-placed : (n i : ℕ) (es : List Entry) → any (is_numbered n) (placed i es) ≡ any (is_numbered n) es
numbered-placed n i [] = refl
numbered-placed n i (e ∷ es) = ap (λ t. is_numbered n e || t) (numbered-placed n (past_see (past_mark i e) e.see) es)

found : (all fs : List Entry) → ((n : ℕ) → any (is_numbered n) fs ≡ any (is_numbered n) all) → (e : Entry) → Names all e.see → (j : ℕ) → lost_at fs (entry_at j e) ≡ none
found all fs same e p j = go e.see p (past_mark j e)
  where
    go : (o : Option See) → Names all o → (k : ℕ)
        → ◌≡◌ {A = Option ℕ} (elim (see_at k o) [ none ↦ none | some s ↦ elim (any (is_numbered s.number) fs) [ true ↦ none | false ↦ some s.place ] ]) none
    go none p k = refl
    go (some s) p k = ap (λ t. elim t [ true ↦ none | false ↦ some k ]) (same s.number ∙ p)

-- entries that are placed: neither row of "after reading" applies
none_dependent : (i : ℕ) (es : List Entry) → All EntryIndependent es → first_given dependent_at (placed i es) ≡ none
none_dependent i es p =
    given-none dependent_at (placed i es) (all_placed EntryIndependent (λ e. dependent_at e ≡ none) (λ j e q. ap (λ t. elim t [ true ↦ some j | false ↦ none ]) q) i es p)

none-lost : (i : ℕ) (es : List Entry) → All (λ e. Names es e.see) es → first_given (lost_at (placed i es)) (placed i es) ≡ none
none-lost i es p =
    let fs = placed i es in
    given-none (lost_at fs) fs (all_placed (λ e. Names es e.see) (λ e. lost_at fs e ≡ none) (λ j e q. found es fs (λ n. numbered-placed n i es) e q j) i es p)

after-passes : (es : List Entry) → first_given dependent_at es ≡ none → first_given (lost_at es) es ≡ none → after_reading es ≡ accepted es
after-passes es p q =
    ap (λ o. elim o [ some p ↦ refused 5 p | none ↦ elim (first_given (lost_at es) es) [ some p ↦ refused 12 p | none ↦ accepted es ] ]) p
    ∙ ap (λ o. elim o [ some p ↦ refused 12 p | none ↦ accepted es ]) q

to_end : (s : State) (es : List Entry) (i n : ℕ) → Between s es → n ≡ length es → n ≤ most_entries → read_words s i (encode (end n) ∷ []) ≡ accepted es
unfolding read_words
to_end s es i n b e few = one_word s (closed es) i (end n) [] (omega arith) (ap (λ c. step s i (end c)) e ∙ at-end i b)

all_new : (es : List Entry) → New [] es
all_new [] = tt
all_new (e ∷ es) = (refl, all_new es)

words-read : (es : List Entry) → WellFormed es → read_words (outside []) 0 (map encode (catalogue_words es)) ≡ accepted (placed 0 es)
words-read es w =
    let fs = placed 0 es in
    let few = w.entered.few in
    let sees = sees-fit es es w.entered.fits w.named in
    let r = entries-read (outside []) [] es 0 (encode (end (length es)) ∷ []) (between []) w.entered.one.form refl w.entered.one.heads (omega arith) w.entered.fits sees w.entered.distinct (all_new es) in
    ap (read_words (outside []) 0) (map-append encode (entries_words es) (end (length es) ∷ []))
    ∙ r.same
    ∙ to_end r.state fs (past_entries 0 es) (length es) r.here (sym (length-placed 0 es)) few

all_pass : (es : List Entry) → WellFormed es → after_reading (placed 0 es) ≡ accepted (placed 0 es)
all_pass es w = after-passes (placed 0 es) (none_dependent 0 es w.independent) (none-lost 0 es w.named)

-- ---- the file

pub read-written : (es : List Entry) → WellFormed es → read (write es) ≡ accepted (placed 0 es)
unfolding read write
read-written es w =
    let words = map encode (catalogue_words es) in
    let few = w.entered.few in
    let fits = w.entered.fits in
    let whole : length (bytes_of words) % 4 ≡ 0 = omega (arith, length-bytes words) in
    let back = words-bytes words (words_small es few fits (sees-fit es es fits w.named)) in
    let room : length (bytes_of words) ≤ most_bytes (form_shown (words_of (bytes_of words))) =
    subst (λ ws. length (bytes_of words) ≤ most_bytes (form_shown ws)) (sym back) (written_allowed w.entered.one.form es few w.entered.one.heads fits) in
    passes (λ n. refused n 0) (file_rows (bytes_of words)) _ (ap not (eq-eqb _ 0 whole), (le-ltb _ _ room, tt))
    ∙ ap after_words (ap (read_words (outside []) 0) back ∙ words-read es w)
    ∙ all_pass es w

-- the heads and see words of accepted entries stand where reading found them
pub places : (bytes : List ℕ) (es : List Entry) → ((i : ℕ) → get_or bytes i 0 < 256) → read bytes ≡ accepted es → placed 0 es ≡ es
places bytes es h e = ap entries (sym (read-written es (well_formed bytes es e)) ∙ same_entries bytes es h e)

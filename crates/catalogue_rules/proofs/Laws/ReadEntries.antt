-- Reading entries that were written: a head, its vectors, its mark and its see word, entry by entry, each at its place.
use Rattle.std.specs.Prelude.{◌≡◌, refl, Bool, true, false, not, ◌||◌, List, [], ◌∷◌, ◌++◌, map, ℕ, suc, ◌+◌, ◌^◌, ◌≤◌, ◌<◌, length}
use Rattle.std.proofs.Common.{sym, ap, ap₂, ◌∙◌, subst, append_assoc, append-nil, arith, length-append, ne_eqb}
use Rattle.std.proofs.lemmas.List.{map-append}
use Rattle.std.proofs.Math.Option.{Option, none, some}
use Rattle.std.proofs.Math.Seq.{append_snoc}
use Rattle.std.proofs.lemmas.Bool.{lt-leb}
use Rattle.lattices.specs.Vector.{Vec}
use Rattle.integers.specs.Every.{any}
use Rattle.lattices.specs.Refusal.{most_vectors, most_coordinates}
use Rattle.integers.specs.Tests.{neither}
use Rattle.lattices.specs.Laws.Refusal.{one-to}
use Rattle.integers.specs.All.{All}
use Rattle.catalogue_rules.specs.Word.{see, draft, head, head_number, head_size, encode}
use Rattle.catalogue_rules.proofs.Laws.Word.{InRange}
use Rattle.catalogue_rules.specs.Catalogue.{Form, old, new, head_length, most_number, Head, See, Entry, Outcome, coordinates, most_entries}
use Rattle.catalogue_rules.specs.Read.{State, outside, numbered, inside, after, form_of, differs, form_rows, size_rows, number_rows, is_numbered, with_entry, step, read_words}
use Rattle.catalogue_rules.specs.Write.{head_words_in, head_words, coordinate_word, draft_words, see_words, entry_words, entries_words, encoded_coordinates}
use Rattle.catalogue_rules.specs.Form.{HeadFits, EntryFits, Distinct, see_at, past_see, past_head, past_vectors, past_draft, past_mark, head_at, entry_at, placed}
use Rattle.catalogue_rules.proofs.Laws.Moves.{NoneOf, Between, between, unreferred}
use Rattle.catalogue_rules.proofs.Laws.ReadVectors.{one_word, at_head_lem, at-number, at_size, all-vectors}
use Rattle.catalogue_rules.proofs.Laws.WellFormed.{any_snoc, eqb_turned}

-- ---- an entry

-- a reading that has come to stand between entries, with these words left
pub record Reached (es : List Entry) (place : ℕ) (words : List ℕ) (o : Outcome) : Type 0 where
  pub state : State
  pub here : Between state es
  pub same : o ≡ read_words state place words

abbrev pub SeeFits : Option See → Type 0
SeeFits none = Unit {0}
SeeFits (some s) = s.number < 2 ^ 28

seen : (es : List Entry) (h : Head) (vs : List Vec) (marked : Bool) (i : ℕ) (o : Option See) (words : List ℕ) → SeeFits o
    → Reached (with_entry es h vs marked (see_at i o)) (past_see i o) words (read_words (after es h vs marked) i (map encode (see_words o) ++ words))
unfolding step
seen es h vs marked i none words p = record { state = after es h vs marked; here = unreferred es h vs marked; same = refl }
seen es h vs marked i (some s) words p =
    let fs = with_entry es h vs marked (see_at i (some s)) in
    record { state = outside fs; here = between fs; same = one_word (after es h vs marked) (outside fs) i (see s.number) words p refl }

marking : (es : List Entry) (h : Head) (vs : List Vec) (d : Bool) (i : ℕ) (words : List ℕ)
    → read_words (after es h vs false) i (map encode (draft_words d) ++ words) ≡ read_words (after es h vs d) (past_draft i d) words
unfolding step
marking es h vs true i words = one_word (after es h vs false) (after es h vs true) i (draft 1) words (omega arith) refl
marking es h vs false i words = refl

-- ---- a head

-- a head may stand after these entries
pub record MayStand (es : List Entry) (h : Head) : Type 0 where
  pub fits : HeadFits h
  pub few : length es < most_entries
  pub one : differs (form_of es) h.form ≡ false
  pub new : any (is_numbered h.number) es ≡ false

module _ (es : List Entry) (h : Head) (p : MayStand es h) where
  number-passes : NoneOf (number_rows es h.number)
  number-passes =
      let n = one-to (most_number h.form) h.number p.fits.number in
      (ap₂ ◌||◌ (ne_eqb h.number 0 (λ e. omega arith)) p.new, tt)

  size-passes : NoneOf (size_rows h.d h.m)
  size-passes = (ap not p.fits.d, (ap not p.fits.m, tt))

  form-passes : NoneOf (form_rows h.form es)
  form-passes = (p.one, (lt-leb most_entries (length es) p.few, tt))

range_in : (f : Form) (n d m : ℕ) → n ≤ most_number f → d < 16 → m < 16 → All InRange (head_words_in f n d m)
range_in old n d m p q r = ((omega arith, q, r), tt)
range_in new n d m p q r = (omega arith, ((omega arith, q, r), tt))

pub head_range : (h : Head) → HeadFits h → All InRange (head_words h)
head_range h p =
    let d = one-to most_vectors h.d p.d in
    let m = one-to most_coordinates h.m p.m in
    range_in h.form h.number h.d h.m (one-to (most_number h.form) h.number p.number).1 (omega arith) (omega arith)

-- one word or two
head_in_lem : (f : Form) (n d m i : ℕ) (s : State) (es : List Entry) (words : List ℕ) → Between s es → MayStand es (record { form = f; number = n; d = d; m = m; place = i })
    → read_words s i (map encode (head_words_in f n d m) ++ words) ≡ read_words (inside es (record { form = f; number = n; d = d; m = m; place = i }) [] []) (head_length f + i) words
head_in_lem old n d m i s es words b p =
    let h : Head = record { form = old; number = n; d = d; m = m; place = i } in
    let f = form-passes es h p in
    let z = size-passes es h p in
    one_word s (inside es h [] []) i (head n d m) words (head_range h p.fits).0 (at_head_lem n d m i b (f.0, (f.1.0, (z.0, (z.1.0, number-passes es h p)))))
    ∙ ap (λ j. read_words (inside es h [] []) j words) (omega arith)
head_in_lem new n d m i s es words b p =
    let h : Head = record { form = new; number = n; d = d; m = m; place = i } in
    let f = form-passes es h p in
    let r = head_range h p.fits in
    one_word s (numbered es n i) i (head_number n) (encode (head_size 0 d m) ∷ words) r.0 (at-number n i b (f.0, (f.1.0, number-passes es h p)))
    ∙ one_word (numbered es n i) (inside es h [] []) (suc i) (head_size 0 d m) words r.1.0 (at_size es n i (suc i) d m (refl, size-passes es h p))
    ∙ ap (λ j. read_words (inside es h [] []) j words) (omega arith)

up-to-mark : (s : State) (es : List Entry) (e : Entry) (words : List ℕ) → Between s es → EntryFits e → MayStand es e.head
    → read_words s e.head.place (map encode (entry_words e) ++ words) ≡ read_words (after es e.head e.vectors e.draft) (past_mark e.head.place e) (map encode (see_words e.see) ++ words)
up-to-mark s es e words b fits may =
    let h = e.head in
    let cs = coordinates e.vectors in
    let more = map encode (see_words e.see) ++ words in
    let mark = map encode (draft_words e.draft) ++ more in
    let split : map encode (head_words h ++ (map coordinate_word cs ++ (draft_words e.draft ++ see_words e.see))) ++ words ≡ map encode (head_words h) ++ (encoded_coordinates cs ++ mark) =
    simp (map-append, append_assoc) in
    ap (read_words s h.place) split
    ∙ head_in_lem h.form h.number h.d h.m h.place s es (encoded_coordinates cs ++ mark) b may
    ∙ all-vectors es h e.vectors (past_head h.place h) mark (one-to most_vectors h.d fits.head.d).0 (one-to most_coordinates h.m fits.head.m).0 fits.vectors fits.count
    ∙ marking es h e.vectors e.draft (past_vectors h.place h e.vectors) more

-- ---- entries

abbrev pub past_entries : ℕ → List Entry → ℕ
past_entries i [] = i
past_entries i (e ∷ es) = past_entries (past_see (past_mark i e) e.see) es

-- none of these numbers is used among the entries before
abbrev pub New : List Entry → List Entry → Type 0
New past es = All (λ e. any (is_numbered e.head.number) past ≡ false) es

new-after : (past : List Entry) (e : Entry) (es : List Entry) → New past es → any (is_numbered e.head.number) es ≡ false → New (past ++ (e ∷ [])) es
new-after past e [] p q = tt
new-after past e (f ∷ es) p q =
    let r = neither (is_numbered e.head.number f) (any (is_numbered e.head.number) es) q in
    (any_snoc (is_numbered f.head.number) past e p.0 (eqb_turned f.head.number e.head.number r.0), new-after past e es p.1 r.1)

fits-at : (i : ℕ) (e : Entry) → EntryFits e → EntryFits (record { head = head_at i e.head; vectors = e.vectors; draft = e.draft; see = e.see })
fits-at i e p = record { head = record { number = p.head.number; d = p.head.d; m = p.head.m }; count = p.count; vectors = p.vectors }

form-after : (past : List Entry) (e : Entry) (f : Form) → e.head.form ≡ f → differs (form_of past) f ≡ false → differs (form_of (past ++ (e ∷ []))) f ≡ false
form-after [] e f p q = subst (λ g. differs (some g) f ≡ false) (sym p) (itself f)
  where
    itself : (f : Form) → differs (some f) f ≡ false
    itself old = refl
    itself new = refl
form-after (x ∷ past) e f p q = q

pub entries-read : (s : State) (past es : List Entry) (i : ℕ) (words : List ℕ) → Between s past
    → (f : Form) → differs (form_of past) f ≡ false → All (λ e. e.head.form ≡ f) es
    → length past + length es ≤ most_entries → All EntryFits es → All (λ e. SeeFits e.see) es → Distinct es → New past es
    → Reached (past ++ placed i es) (past_entries i es) words (read_words s i (map encode (entries_words es) ++ words))
entries-read s past [] i words b f same one few fits sees distinct fresh = record { state = s; here = subst (Between s) (sym (append-nil past)) b; same = refl }
entries-read s past (e ∷ es) i words b f same one few fits sees distinct fresh =
    let g : Entry = record { head = head_at i e.head; vectors = e.vectors; draft = e.draft; see = e.see } in
    let j = past_see (past_mark i e) e.see in
    let more = map encode (entries_words es) ++ words in
    let split : map encode (entry_words e ++ entries_words es) ++ words ≡ map encode (entry_words e) ++ more =
    ap (λ l. l ++ words) (map-append encode (entry_words e) (entries_words es)) ∙ append_assoc (map encode (entry_words e)) (map encode (entries_words es)) words in
    let here = fits-at i e fits.0 in
    let may : MayStand past g.head = record { fits = here.head; few = omega arith; one = subst (λ k. differs (form_of past) k ≡ false) (sym one.0) same; new = fresh.0 } in
    let first = up-to-mark s past g more b here may in
    let r = seen past (head_at i e.head) e.vectors e.draft (past_mark i e) e.see more sees.0 in
    let t = entries-read r.state (past ++ (entry_at i e ∷ [])) es j words r.here f (form-after past (entry_at i e) f one.0 same) one.1 (omega (arith, length-append past (entry_at i e ∷ []))) fits.1 sees.1 distinct.1
    (new-after past (entry_at i e) es fresh.1 distinct.0) in
    record {
      state = t.state;
      here = subst (Between t.state) (append_snoc past (entry_at i e) (placed j es)) t.here;
      same = ap (read_words s i) split ∙ first ∙ r.same ∙ t.same;
    }

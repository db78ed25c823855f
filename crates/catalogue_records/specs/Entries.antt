-- That what was stored is found again, and the first place of which a test speaks, as a loop finds it.
use Rattle.std.specs.Prelude.{◌≡◌, refl, false, List, [], ◌∷◌, map, ℕ, suc, ◌+◌, ◌*◌, ◌≤◌, ◌<◌, pos, length, get_or, take, drop, None}
use Rattle.std.proofs.Math.Path.{sym, ap}
use Rattle.std.proofs.Common.{ap₂, ◌∙◌, subst, add-one, arith, drop_of_length-le, drop-cons}
use Rattle.std.proofs.Math.Option as maybe
use Rattle.std.proofs.lemmas.List.{length-map}
use Rattle.integers.specs.All.{All}
use Rattle.integers.specs.AllLaws.{get_d_map, all-at}
use Rattle.lattices.specs.Refusal.{vectors_of}
use Rattle.catalogue_rules.specs.Catalogue as definition
use Rattle.catalogue_rules.specs.Catalogue.{Form, old, new, Head, coordinates, most_entries, most_numbers}
use Rattle.integers.specs.First.{first_given}
use Rattle.catalogue_rules.specs.Form.{EntryFits}
use Rattle.catalogue_rules.proofs.Laws.EntriesAccepted.{count-coordinates, few-coordinates, vectors-back}
use Rattle.catalogue_records.specs.declared.Form.TheVariants.{Old}
use Rattle.catalogue_records.specs.declared.Entry.{Entry}
use Rattle.catalogue_records.specs.declared.Catalogue.{Catalogue}
use Rattle.catalogue_records.specs.EntriesIn.{form_in, see_in, entry_in, entries_in}
use Rattle.integers.specs.Filled.{filled}
use Rattle.integers.specs.FilledLaws.{take-filled}
use Rattle.catalogue_records.specs.Stored.{no_entry, stored_form, stored_see, entry_of}
use Rattle.catalogue_records.specs.Catalogues.{stored, catalogue_of, IsStored}

-- ---- what was stored is found again

pub see-back : (o : maybe.Option definition.See) → see_in (stored_see o) ≡ o
see-back maybe.none = refl
see-back (maybe.some s) = refl

pub form-back : (f : Form) → form_in (stored_form f) ≡ f
form-back old = refl
form-back new = refl

pub entry-back : (e : definition.Entry) → EntryFits e → entry_in (entry_of e) ≡ e
entry-back e p =
    let h = e.head in
    let cs = coordinates e.vectors in
    let same : take (h.d * h.m) (filled (pos 0) most_numbers cs) ≡ cs =
    ap (λ n. take n (filled (pos 0) most_numbers cs)) (sym (count-coordinates e p)) ∙ take-filled (pos 0) most_numbers cs (few-coordinates e p) in
    let vectors : vectors_of h.d h.m cs ≡ e.vectors = ap (λ d. vectors_of d h.m cs) (sym p.count) ∙ vectors-back h.m e.vectors p.vectors in
    (λ i. record { head = headed (form-back h.form i); vectors = (ap (vectors_of h.d h.m) same ∙ vectors) i; draft = e.draft; see = see-back e.see i })
  where
    headed : Form → Head
    headed f = record { form = f; number = e.head.number; d = e.head.d; m = e.head.m; place = e.head.place }

map_back : (es : List definition.Entry) → All EntryFits es → map entry_in (map entry_of es) ≡ es
map_back [] p = refl
map_back (e ∷ es) p = ap₂ ◌∷◌ (entry-back e p.0) (map_back es p.1)

pub entries-back : (es : List definition.Entry) → length es ≤ most_entries → All EntryFits es → entries_in (catalogue_of es) ≡ es
entries-back es few p =
    let n = length-map es entry_of in
    ap (λ k. map entry_in (take k (stored es))) (sym n) ∙ ap (map entry_in) (take-filled no_entry most_entries (map entry_of es) (omega (arith, n))) ∙ map_back es p

-- so it is a catalogue with empty entries after its own
pub is_stored : (es : List definition.Entry) → length es ≤ most_entries → All EntryFits es → IsStored (catalogue_of es)
is_stored es few p = let back = sym (entries-back es few p) in record { count = ap length back; entries = ap stored back }

pub is_stored-catalogue : {c : Catalogue} → IsStored c → c ≡ catalogue_of (entries_in c)
is_stored-catalogue {c} s = λ i. record { count = s.count i; entries = s.entries i }

-- ---- the k-th entry

-- what an array of entries gives beyond its end
abbrev pub beyond : Entry
beyond = record { form = Old; number = 0; d = 0; m = 0; place = 0; draft = false; see = None; coordinates = [] }

abbrev pub entry_at : List Entry → ℕ → Entry
entry_at l k = get_or l k beyond

module _ (l : List Entry) where
  pub length-entries : length (map entry_in l) ≡ length l
  length-entries = length-map l entry_in

  module _ (k : ℕ) (here : k < length l) where
    pub inside : k < length (map entry_in l)
    inside = omega (arith, length-entries)

    pub at_place : get_or (map entry_in l) k (entry_in beyond) ≡ entry_in (entry_at l k)
    at_place = get_d_map entry_in l beyond (entry_in beyond) k here

    pub entry_has : (P : definition.Entry → Type 0) → All P (map entry_in l) → P (entry_in (entry_at l k))
    entry_has P p = subst P at_place (all-at P (map entry_in l) (entry_in beyond) p k inside)

  module _ (k : ℕ) (here : k < length l) (f : definition.Entry → maybe.Option ℕ) where
    -- what the k-th entry gives, or else the first after it
    told : maybe.Option ℕ → maybe.Option ℕ
    told o = elim o [ maybe.some q ↦ maybe.some q | maybe.none ↦ first_given f (drop (suc k) (map entry_in l)) ]

    first-from : {o : maybe.Option ℕ} → f (entry_in (entry_at l k)) ≡ o → first_given f (drop k (map entry_in l)) ≡ told o
    unfolding told
    first-from e =
        ap (first_given f) (drop-cons (map entry_in l) k (entry_in beyond) (inside k here)) ∙ ap told (ap f (at_place k here) ∙ e)

    pub first-here : {p : ℕ} → f (entry_in (entry_at l k)) ≡ maybe.some p → first_given f (drop k (map entry_in l)) ≡ maybe.some p
    unfolding told
    first-here e = first-from e

    pub first-later : f (entry_in (entry_at l k)) ≡ maybe.none → first_given f (drop k (map entry_in l)) ≡ first_given f (drop (k + 1) (map entry_in l))
    unfolding told
    first-later e = first-from e ∙ ap (λ n. first_given f (drop n (map entry_in l))) (sym (add-one k))

  pub first-end : (f : definition.Entry → maybe.Option ℕ) (k : ℕ) → length l ≤ k → first_given f (drop k (map entry_in l)) ≡ maybe.none
  first-end f k h = ap (first_given f) (drop_of_length-le (map entry_in l) {i = k} (omega (arith, length-entries)))

-- The folded catalogue as the code makes it: the standing entries of the first k entries, printed one after the other.
use Rattle.std.specs.Prelude.{◌≡◌, refl, ◌≢◌, Bool, true, false, ℕ, ◌+◌, ◌≤◌, ◌<◌, eqb, ℤ, pos, length, get_or, set, take, replicate, Option}
use Rattle.std.proofs.Common.{sym, ◌∙◌, add-one, arith, length-append, take-suc, take_all, eq-eqb, ne_eqb}
use Rattle.std.proofs.Math.Path.{ap, ap₂}
use mathlib.Core.List.{List, [], ◌∷◌, ◌++◌, map, append-nil}
use Rattle.std.proofs.Math.Option as maybe
use Rattle.std.proofs.lemmas.List.{length-map}
use Rattle.integers.specs.AllLaws.{map-append}
use Rattle.catalogue_rules.specs.Catalogue as definition
use Rattle.catalogue_rules.specs.Catalogue.{See, coordinates, most_entries, most_numbers}
use Rattle.catalogue_rules.specs.Form.{WellFormed}
use Rattle.fold_rules.specs.Fold.{Stood, stood_of, closed_list, stands, standing_in, carried, printed, printed_in}
use Rattle.fold_rules.proofs.Laws.SameLattice.{Sound}
use Rattle.catalogue_records.specs.declared.Catalogue.{Catalogue}
use Rattle.catalogue_records.specs.declared.Form.{Form}
use Rattle.catalogue_records.specs.declared.Form.TheVariants.{Old, New}
use Rattle.catalogue_records.specs.declared.Entry.{Entry}
use Rattle.catalogue_records.specs.declared.See as records
use Rattle.catalogue_records.specs.Stored.{no_entry, stored_form, stored_see, entry_of}
use Rattle.integers.specs.Filled.{filled}
use Rattle.integers.specs.FilledLaws.{filled_next, map_snoc}
use Rattle.catalogue_records.specs.Catalogues.{stored, catalogue_of}
use Rattle.catalogue_records.specs.EntriesIn.{form_in, entry_in}
use Rattle.lattice_membership.specs.Known.{Left}
use Rattle.catalogue_standing.specs.ReducedEntry.{reduced_entry}
use Rattle.catalogue_fold.specs.Spread.{kept-vectors}
use Rattle.catalogue_fold.specs.Printing.{printed_as}
use Rattle.catalogue_standing.specs.Standing.{StandingPlaces, stands-place}

-- the entries that the fold prints, in the array
abbrev pub folded_of : List Entry → Catalogue
folded_of l = catalogue_of (printed_in (closed_list (map entry_in l)))

-- one entry more: it is printed when it stands
only : Bool → Stood → List Stood
only true s = s ∷ []
only false s = []

standing_snoc : (ss : List Stood) (s : Stood) → standing_in (ss ++ (s ∷ [])) ≡ standing_in ss ++ only (stands s) s
unfolding only
standing_snoc [] s = go (stands s)
  where
    go : (b : Bool) → elim b as (λ b. List Stood) [ true ↦ s ∷ [] | false ↦ [] ] ≡ only b s
    go true = refl
    go false = refl
standing_snoc (t ∷ ss) s = go (stands t) (standing_snoc ss s)
  where
    go : (b : Bool) → standing_in (ss ++ (s ∷ [])) ≡ standing_in ss ++ only (stands s) s
        → elim b as (λ b. List Stood) [ true ↦ t ∷ standing_in (ss ++ (s ∷ [])) | false ↦ standing_in (ss ++ (s ∷ [])) ]
        ≡ elim b as (λ b. List Stood) [ true ↦ t ∷ standing_in ss | false ↦ standing_in ss ] ++ only (stands s) s
    go true e = ap (λ l. t ∷ l) e
    go false e = e

module _ (es : List definition.Entry) where
  abbrev ss : List Stood
  ss = closed_list es

  -- what is printed of the first k entries
  abbrev pub prints : ℕ → List definition.Entry
  prints k = map (printed ss) (standing_in (map (stood_of es) (take k es)))

  pub prints-all : (k : ℕ) → length es ≤ k → prints k ≡ printed_in ss
  prints-all k h = ap (λ l. map (printed ss) (standing_in (map (stood_of es) l))) (take_all k es h)

  module _ (o : definition.Entry) (w : WellFormed es) {places : List ℕ} (stood : StandingPlaces es o places) (k : ℕ) (here : k < length es) where
    abbrev s : Stood
    s = stood_of es (get_or es k o)

    prints-more : prints (k + 1) ≡ prints k ++ map (printed ss) (only (eqb (get_or places k 0) k) s)
    prints-more =
        ap (λ l. map (printed ss) (standing_in (map (stood_of es) l))) (ap (λ n. take n es) (add-one k) ∙ take-suc es k o here)
        ∙ ap (λ l. map (printed ss) (standing_in l)) (sym (map_snoc (stood_of es) (take k es) (get_or es k o)))
        ∙ ap (map (printed ss)) (standing_snoc (map (stood_of es) (take k es)) s ∙ ap (λ b. standing_in (map (stood_of es) (take k es)) ++ only b s) (stands-place es o w stood k here))
        ∙ map-append (printed ss) (standing_in (map (stood_of es) (take k es))) (only (eqb (get_or places k 0) k) s)

    pub prints-yes : get_or places k 0 ≡ k → prints (k + 1) ≡ prints k ++ (printed ss s ∷ [])
    unfolding only
    prints-yes e = prints-more ∙ ap (λ b. prints k ++ map (printed ss) (only b s)) (eq-eqb _ _ e)

    pub prints-no : get_or places k 0 ≢ k → prints (k + 1) ≡ prints k
    unfolding only
    prints-no h = prints-more ∙ ap (λ b. prints k ++ map (printed ss) (only b s)) (ne_eqb _ _ h) ∙ append-nil (prints k)

-- n entries are stored, those printed of the first k
pub record Folds (es : List definition.Entry) (k n : ℕ) (entries : List Entry) : Type 0 where
  pub few : n ≤ k
  pub count : n ≡ length (prints es k)
  pub array : entries ≡ stored (prints es k)

pub folds-none : (es : List definition.Entry) → Folds es 0 0 (replicate most_entries no_entry)
folds-none es = record { few = omega arith; count = refl; array = refl }

module _ (es : List definition.Entry) (o : definition.Entry) (w : WellFormed es) {places : List ℕ} (stood : StandingPlaces es o places) {k n : ℕ} {entries : List Entry}
    (p : Folds es k n entries) (here : k < length es) where
  pub folds-no : get_or places k 0 ≢ k → Folds es (k + 1) n entries
  folds-no h =
      let e = sym (prints-no es o w stood k here h) in
      record { few = omega (arith, p.few); count = p.count ∙ ap length e; array = p.array ∙ ap stored e }

  pub folds-yes : get_or places k 0 ≡ k → {q : Entry} → q ≡ entry_of (printed (closed_list es) (stood_of es (get_or es k o))) → Folds es (k + 1) (n + 1) (set entries n q)
  folds-yes h {q} is =
      let f = printed (closed_list es) (stood_of es (get_or es k o)) in
      let more = sym (prints-yes es o w stood k here h) in
      let ps = prints es k in
      let long : n ≡ length (map entry_of ps) = p.count ∙ sym (length-map ps entry_of) in
      let room : length (map entry_of ps) < most_entries = omega (arith, long, p.few, here, w.entered.few) in
      record {
        few = omega (arith, p.few);
        count = omega (arith, p.count, length-append ps (f ∷ [])) ∙ ap length more;
        array = ap₂ (λ l m. set l m q) p.array long ∙ ap (set (stored ps) (length (map entry_of ps))) is
            ∙ filled_next no_entry most_entries (map entry_of ps) (entry_of f) room ∙ ap (filled no_entry most_entries) (map_snoc entry_of ps f) ∙ ap stored more;
      }

-- ---- an entry as the code prints it
form-stored : (f : Form) → stored_form (form_in f) ≡ f
form-stored Old = refl
form-stored New = refl

module _ (es : List definition.Entry) (e : Entry) (s : Sound (entry_in e)) where
  made : Form → List ℤ → maybe.Option See → Entry
  made f l o = record { form = f; number = e.number; d = e.d; m = e.m; place = e.place; draft = e.draft; see = stored_see o; coordinates = filled (pos 0) most_numbers l }

  pub printed-is : {k : Left} {w : Option records.See} → k ≡ reduced_entry (entry_in e) → w ≡ stored_see (carried (closed_list es) (stood_of es (entry_in e)))
      → printed_as e k w ≡ entry_of (printed (closed_list es) (stood_of es (entry_in e)))
  unfolding made
  printed-is q r =
      ap₂ (printed_as e) q r
      ∙ ap₂ (λ f l. made f l (carried (closed_list es) (stood_of es (entry_in e)))) (sym (form-stored e.form)) (ap coordinates (kept-vectors (entry_in e) s))

-- An entry of the listing as the code has it, and all of them one after another.
use Rattle.std.specs.Prelude.{◌≡◌, refl, ◌≢◌, true, false, List, [], ◌∷◌, ◌++◌, map, ℕ, ◌≤◌, ◌<◌, eqb, length, get_or, take, Option, Some, None}
use Rattle.std.proofs.Common.{sym, ap, ap₂, ◌∙◌, subst, append-nil, append_assoc, arith, length-append, eq-eqb, ne_eqb}
use Rattle.std.proofs.Math.Option as maybe
use Rattle.std.proofs.lemmas.List.{length-map}
use Rattle.integers.specs.AllLaws.{get_d_map}
use Rattle.integers.specs.Decimal.{decimal}
use Rattle.lattices.specs.Vector.{Vec}
use Rattle.lattices.specs.Greedy.{reduction}
use Rattle.catalogue_rules.specs.Catalogue as definition
use Rattle.catalogue_rules.specs.Catalogue.{see_number}
use Rattle.fold_rules.specs.Fold.{reduced_of, standing, Stood, stood_of, closed_list, followed}
use Rattle.text_layout.specs.Fields.{line}
use Rattle.fold_rules.specs.Listing.{vector_lines, entry_line, vectors_shown, entry_lines}
use Rattle.fold_rules.proofs.Laws.SameLattice.{Sound, sound-entries}
use Rattle.fold_rules.proofs.Laws.Deciding.{entry-reduction}
use Rattle.catalogue_records.specs.declared.See.{See}
use Rattle.catalogue_records.specs.declared.Entry.{Entry}
use Rattle.catalogue_records.specs.EntriesIn.{entry_in}
use Rattle.catalogue_records.specs.Stored.{stored_see}
use Rattle.catalogue_records.specs.Entries.{beyond, entry_at, at_place, entry_has}
use Rattle.lattice_membership.specs.declared.Lattice.{Lattice}
use Rattle.lattice_membership.specs.Known.{Left, left_in}
use Rattle.catalogue_standing.specs.ReducedEntry.{basis_in}
use Rattle.catalogue_standing.specs.SameLattice.{no_lattice}
use Rattle.catalogue_standing.specs.Standing.{StandingPlaces}
use Rattle.catalogue_standing.specs.ReducedEntries.{WasRead, HoldReduced, ready-length, ready-numbers}
use Rattle.catalogue_fold.specs.Spread.{Full, kept_full, kept-vectors}
use Rattle.catalogue_fold.specs.Printing.{Led}
use Rattle.text_output.specs.Joined.{joined}

-- the reduced vectors of what is kept
abbrev pub vectors_of : Left → List Vec
vectors_of k = map (take k.m) (basis_in k)

-- the number of a see word that the code has
abbrev pub lead_of : Option See → ℕ
lead_of (Some s) = s.number
lead_of None = 0

lead-stored : (o : maybe.Option definition.See) → lead_of (stored_see o) ≡ see_number o
lead-stored maybe.none = refl
lead-stored (maybe.some s) = refl

-- an entry's line, and the vectors of one whose standing number is its own
abbrev pub entry_text : (number standing lead passes : ℕ) → List Vec → List ℕ
entry_text number standing lead passes vs =
    line (decimal number) (decimal standing ∷ decimal lead ∷ decimal passes ∷ []) ++ elim (eqb number standing) as (λ b. List ℕ) [ true ↦ vector_lines vs | false ↦ [] ]

module _ (number standing lead passes : ℕ) (vs : List Vec) where
  abbrev pub the_line : List ℕ
  the_line = line (decimal number) (decimal standing ∷ decimal lead ∷ decimal passes ∷ [])

  pub standing-text : number ≡ standing → the_line ++ vector_lines vs ≡ entry_text number standing lead passes vs
  standing-text e = sym (ap (λ b. the_line ++ elim b as (λ b. List ℕ) [ true ↦ vector_lines vs | false ↦ [] ]) (eq-eqb _ _ e))

  pub other_text : number ≢ standing → the_line ≡ entry_text number standing lead passes vs
  other_text h = sym (ap (λ b. the_line ++ elim b as (λ b. List ℕ) [ true ↦ vector_lines vs | false ↦ [] ]) (ne_eqb _ _ h) ∙ append-nil the_line)

  -- what has room for all has room for the line
  pub line-room : length the_line ≤ length (entry_text number standing lead passes vs)
  line-room = omega (arith, length-append the_line (elim (eqb number standing) as (λ b. List ℕ) [ true ↦ vector_lines vs | false ↦ [] ]))

-- of an entry of the closed list
abbrev pub shown : List Stood → Stood → List ℕ
shown ss s = entry_line ss s ++ vectors_shown s

pub entries-joined : (ss more : List Stood) → joined (shown ss) more ≡ entry_lines ss more
entries-joined ss [] = refl
entries-joined ss (s ∷ more) =
    append_assoc (entry_line ss s) (vectors_shown s) (joined (shown ss) more) ∙ ap (λ t. entry_line ss s ++ (vectors_shown s ++ t)) (entries-joined ss more)

-- ---- the entry at place k
module _ (l : List Entry) (r : WasRead l) {list : List Lattice} {places numbers : List ℕ} (kept : HoldReduced l (length l) list) (stood : StandingPlaces (map entry_in l) (entry_in beyond) places)
    (named : numbers ≡ map (λ e. e.number) l) (k : ℕ) (here : k < length l) where
  abbrev es : List definition.Entry
  es = map entry_in l

  abbrev o : definition.Entry
  o = entry_in beyond

  abbrev e : Entry
  e = entry_at l k

  inside : k < length es
  inside = omega (arith, ready-length l r)

  found : get_or es k o ≡ entry_in e
  found = at_place l k here

  sound : Sound (entry_in e)
  sound = entry_has l k here Sound (sound-entries es r.formed)

  pub kept_entry : Full (left_in (get_or list k no_lattice))
  kept_entry = subst Full (sym (kept.at k here).left) (kept_full (entry_in e) sound)

  own : get_or numbers (get_or places k 0) 0 ≡ (standing es (entry_in e)).head.number
  own =
      (ready-numbers l r named).number (get_or places k 0) (stood.within k inside)
      ∙ ap (λ f. f.head.number) (stood.at k inside ∙ ap (standing es) found)

  pub entry-shown : {w : Option See} → Led e (get_or numbers (get_or places k 0) 0) numbers places (length numbers) w → {lead : ℕ} → lead ≡ lead_of w
      → entry_text e.number (get_or numbers (get_or places k 0) 0) lead (get_or list k no_lattice).passes (vectors_of (left_in (get_or list k no_lattice))) ≡ shown (closed_list es) (get_or (closed_list es) k (stood_of es o))
  entry-shown {w} way {lead} is =
      let n = e.number in
      let ss = closed_list es in
      let there = get_or numbers (get_or places k 0) 0 in
      let led : lead ≡ see_number (followed ss there (entry_in e).see) =
      is ∙ ap lead_of (way.leads es o r.formed stood (ready-numbers l r named) (ready-length l r ∙ sym (ap length named ∙ length-map l (λ e. e.number)))) ∙ lead-stored (followed ss there (entry_in e).see) in
      ap (λ i. entry_text n there i (get_or list k no_lattice).passes (vectors_of (left_in (get_or list k no_lattice)))) led
      ∙ ap (λ q. entry_text n there (see_number (followed ss there (entry_in e).see)) q.passes (vectors_of q)) (kept.at k here).left
      ∙ ap₂ (entry_text n there (see_number (followed ss there (entry_in e).see))) (ap (λ a. a.passes) (entry-reduction (entry_in e) sound)) (kept-vectors (entry_in e) sound)
      ∙ ap (λ m. entry_text n m (see_number (followed ss m (entry_in e).see)) (reduction (entry_in e).vectors).passes (reduced_of (entry_in e))) own
      ∙ ap (λ f. shown ss (stood_of es f)) (sym found)
      ∙ ap (shown ss) (sym (get_d_map (stood_of es) es o (stood_of es o) k inside))

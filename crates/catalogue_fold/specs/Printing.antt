-- Where a see word leads, and an entry as it is printed, as the code has them.
use Rattle.std.specs.Prelude.{◌≡◌, ◌≢◌, List, map, ℕ, ◌<◌, eqb, pos, length, get_or, take, position, Option, Some, None}
use Rattle.std.proofs.Common.{sym, ap, ◌∙◌, subst}
use Rattle.std.proofs.Math.Option as maybe
use Rattle.catalogue_rules.specs.Catalogue as definition
use Rattle.catalogue_rules.specs.Catalogue.{coordinates, most_numbers}
use Rattle.catalogue_rules.specs.Form.{WellFormed}
use Rattle.fold_rules.specs.Fold.{closed_list, lookup, led, followed}
use Rattle.fold_rules.proofs.Laws.See.{led-own, led-other}
use Rattle.catalogue_records.specs.declared.Entry.{Entry}
use Rattle.catalogue_records.specs.declared.See.{See}
use Rattle.integers.specs.Filled.{filled}
use Rattle.catalogue_records.specs.Stored.{stored_see}
use Rattle.catalogue_records.specs.EntriesIn.{see_in, entry_in}
use Rattle.lattice_membership.specs.Known.{Left}
use Rattle.catalogue_standing.specs.ReducedEntry.{basis_in}
use Rattle.catalogue_standing.specs.Places.{First, FirstFound, position_found}
use Rattle.catalogue_standing.specs.Standing.{StandingPlaces}
use Rattle.catalogue_standing.specs.Numbers.{Numbers}
use Rattle.catalogue_standing.specs.Looking.{lookup-found, lookup-lost}

-- what is printed of an entry, of what is kept and of the see word that it carries
abbrev pub printed_as : Entry → Left → Option See → Entry
printed_as e k w = record {
  form = e.form;
  number = e.number;
  d = e.d;
  m = e.m;
  place = e.place;
  draft = e.draft;
  see = w;
  coordinates = filled (pos 0) most_numbers (coordinates (map (take k.m) (basis_in k)));
}

-- r is the way of e's see word in every list of entries that the numbers and places are of
pub record Led (e : Entry) (own : ℕ) (numbers places : List ℕ) (count : ℕ) (r : Option See) : Type 0 where
  pub leads : (es : List definition.Entry) (o : definition.Entry) → WellFormed es → StandingPlaces es o places → Numbers es o numbers → length es ≡ count
      → r ≡ stored_see (followed (closed_list es) own (entry_in e).see)

module _ (e : Entry) (own : ℕ) (numbers places : List ℕ) (count : ℕ) where
  pub no_word : e.see ≡ None → Led e own numbers places count None
  no_word h = record { leads = λ es o w stood named n. ap (λ s. stored_see (followed (closed_list es) own (see_in s))) (sym h) }

  module _ {s : See} (word : e.see ≡ Some s) where
    goes : (es : List definition.Entry) {o : maybe.Option ℕ} → lookup (closed_list es) s.number ≡ o
        → followed (closed_list es) own (entry_in e).see ≡ elim o as (λ o. maybe.Option definition.See) [ maybe.none ↦ maybe.none | maybe.some there ↦ led own (record { number = s.number; place = s.place }) there ]
    goes es q =
        ap (λ s. followed (closed_list es) own (see_in s)) word
        ∙ ap (λ o. elim o as (λ o. maybe.Option definition.See) [ maybe.none ↦ maybe.none | maybe.some there ↦ led own (record { number = s.number; place = s.place }) there ]) q

    counted : (es : List definition.Entry) → length es ≡ count → {k : ℕ} → First (λ k. eqb (get_or numbers k 0) s.number) count k → First (λ k. eqb (get_or numbers k 0) s.number) (length es) k
    counted es n {k} first = subst (λ n. First (λ k. eqb (get_or numbers k 0) s.number) n k) (sym n) first

    -- where the numbers were searched for it
    pub sought : length numbers ≡ count → {r : Option ℕ} → r ≡ position (λ m. eqb m s.number) numbers → FirstFound (λ k. eqb (get_or numbers k 0) s.number) count r
    sought n {r} is = subst (λ m. FirstFound (λ k. eqb (get_or numbers k 0) s.number) m r) n (subst (FirstFound (λ k. eqb (get_or numbers k 0) s.number) (length numbers)) (sym is) (position_found (λ m. eqb m s.number) numbers 0))

    pub word-lost : FirstFound (λ k. eqb (get_or numbers k 0) s.number) count None → Led e own numbers places count None
    word-lost first = record { leads = λ es o w stood named n. ap stored_see (sym (goes es (lookup-lost es o w named s.number (counted es n first) (sym n)))) }

    module _ {k : ℕ} (first : FirstFound (λ k. eqb (get_or numbers k 0) s.number) count (Some k)) where
      abbrev there : ℕ
      there = get_or numbers (get_or places k 0) 0

      pub word-own : there ≡ own → Led e own numbers places count None
      word-own q = record {
        leads = λ es o w stood named n.
            ap stored_see (sym (goes es (lookup-found es o w named s.number (counted es n first.0) (subst (λ n. k < n) (sym n) first.1) stood) ∙ led-own own _ there q));
      }

      pub word-other : there ≢ own → Led e own numbers places count (Some (record { number = there; place = s.place }))
      word-other q = record {
        leads = λ es o w stood named n.
            ap stored_see (sym (goes es (lookup-found es o w named s.number (counted es n first.0) (subst (λ n. k < n) (sym n) first.1) stood) ∙ led-other own _ there q));
      }

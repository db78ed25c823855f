-- What `lookup` hands back: the catalogue's own refusals, or what the closed list gives; and the place of a number.
use Rattle.std.specs.Prelude.{◌≡◌, refl, List, map, ℕ, ◌<◌, eqb, length, get_or, take, position, Option, Some, None, Ok, Err}
use Rattle.std.specs.Option.{ok_or}
use Rattle.std.proofs.Common.{sym, ◌∙◌, ap, subst, arith}
use Rattle.std.specs.declared.result.Result.{Result}
use Rattle.std.proofs.Math.Option as maybe
use Rattle.std.proofs.lemmas.List.{length-map}
use Rattle.integers.specs.AllLaws.{get_d_map}
use Rattle.catalogue_rules.specs.Catalogue as definition
use Rattle.catalogue_rules.specs.Read.{read}
use Rattle.fold_rules.specs.Fold.{closed_list, lookup}
use Rattle.fold_rules.specs.Services.{Lookup, nowhere, looked_up, looked_in, lookup_of}
use Rattle.fold_rules.proofs.Laws.Searching.{among-at}
use Rattle.separation_rules.specs.Separation.{with_number}
use Rattle.separation_rules.proofs.Laws.Numbers.{number-finds, number_misses}
use Rattle.refusals.specs.declared.Refusal.TheVariants.{NoSuchEntry}
use Rattle.refusals.specs.declared.Refused.{Refused}
use Rattle.refusals.specs.Number.{number_of}
use Rattle.catalogue_records.specs.declared.Catalogue.{Catalogue}
use Rattle.catalogue_records.specs.declared.Entry.{Entry}
use Rattle.catalogue_records.specs.EntriesIn.{entry_in, outcome_in}
use Rattle.catalogue_records.specs.Entries.{beyond, entry_at, at_place}
use Rattle.catalogue_standing.specs.Places.{First, FirstFound, found-like, position_found}
use Rattle.catalogue_standing.specs.Standing.{StandsAt}
use Rattle.catalogue_standing.specs.Numbers.{Numbers}
use Rattle.catalogue_standing.specs.Looking.{lookup_first, lookup-lost, number-there, number-nowhere}
use Rattle.catalogue_standing.specs.ReducedEntries.{WasRead, ready-length, ready-numbers}

-- the definition's answer as the code gives it
abbrev pub looked_by : Result ℕ Refused → Lookup
looked_by (Ok n) = record { refusal = 0; place = 0; standing = n }
looked_by (Err r) = nowhere (number_of r.refusal) r.place

-- R9.17
abbrev pub no_such_entry : Refused
no_such_entry = record { refusal = NoSuchEntry; place = 0 }

-- the place of a number, or 17
abbrev pub NumberedAt : List ℕ → ℕ → Result ℕ Refused → Type 0
NumberedAt numbers n (Ok k) = FirstFound (λ k. eqb (get_or numbers k 0) n) (length numbers) (Some k)
NumberedAt numbers n (Err r) = FirstFound (λ k. eqb (get_or numbers k 0) n) (length numbers) None × (r ≡ no_such_entry)

-- as the library's search finds it
pub numbered-at : (l : List Entry) (n : ℕ) → NumberedAt (map (λ e. e.number) l) n (ok_or (position (λ e. eqb e.number n) l) no_such_entry)
numbered-at l n = go (position (λ e. eqb e.number n) l) (position_found (λ e. eqb e.number n) l beyond)
  where
    same : (k : ℕ) → k < length l → eqb (entry_at l k).number n ≡ eqb (get_or (map (λ e. e.number) l) k 0) n
    same k h = ap (λ m. eqb m n) (sym (get_d_map (λ e. e.number) l beyond 0 k h))

    go : (o : Option ℕ) → FirstFound (λ k. eqb (entry_at l k).number n) (length l) o → NumberedAt (map (λ e. e.number) l) n (ok_or o no_such_entry)
    go (Some k) p = subst (λ m. FirstFound (λ k. eqb (get_or (map (λ e. e.number) l) k 0) n) m (Some k)) (sym (length-map l (λ e. e.number))) (found-like same (Some k) p)
    go None p = (subst (λ m. FirstFound (λ k. eqb (get_or (map (λ e. e.number) l) k 0) n) m None) (sym (length-map l (λ e. e.number))) (found-like same None p), refl)

-- among entries that were read
module _ (l : List Entry) (r : WasRead l) (n : ℕ) where
  abbrev numbers : List ℕ
  numbers = map (λ e. e.number) l

  abbrev es : List definition.Entry
  es = map entry_in l

  abbrev o : definition.Entry
  o = entry_in beyond

  named : Numbers es o numbers
  named = ready-numbers l r refl

  counted : {k : ℕ} → First (λ k. eqb (get_or numbers k 0) n) (length numbers) k → First (λ k. eqb (get_or numbers k 0) n) (length es) k
  counted {k} = subst (λ m. First (λ k. eqb (get_or numbers k 0) n) m k) (length-map l (λ e. e.number) ∙ sym (ready-length l r))

  module _ {k : ℕ} (found : FirstFound (λ k. eqb (get_or (map (λ e. e.number) l) k 0) n) (length (map (λ e. e.number) l)) (Some k)) where
    pub place-here : k < length l
    place-here = omega (arith, found.1, length-map l (λ e. e.number))

    inside : k < length es
    inside = omega (arith, place-here, ready-length l r)

    pub looked-at : {s : ℕ} → StandsAt es o k s → lookup (closed_list es) n ≡ maybe.some (entry_at l s).number
    looked-at {s} stands =
        lookup_first es o r.formed named n (counted found.0) inside stands
        ∙ ap (λ i. maybe.some i) (get_d_map (λ e. e.number) l beyond 0 s (omega (arith, stands.within, ready-length l r)))

    pub entry-there : with_number n es ≡ maybe.some (entry_in (entry_at l k))
    entry-there =
        ap (λ n. with_number n es) (sym (number-there es o r.formed named n (counted found.0) inside))
        ∙ number-finds es r.formed.entered.distinct (get_or es k o) (among-at es o k inside) ∙ ap (λ e. maybe.some e) (at_place l k place-here)

  module _ (none : FirstFound (λ k. eqb (get_or (map (λ e. e.number) l) k 0) n) (length (map (λ e. e.number) l)) None) where
    end : length numbers ≡ length es
    end = length-map l (λ e. e.number) ∙ sym (ready-length l r)

    pub looked-nowhere : lookup (closed_list es) n ≡ maybe.none
    looked-nowhere = lookup-lost es o r.formed named n (counted none) end

    pub entry-nowhere : with_number n es ≡ maybe.none
    entry-nowhere = number_misses es n (number-nowhere es o r.formed named n (counted none) end)

-- as the service answers
module _ (bytes : List ℕ) (n : ℕ) where
  pub looked-refused : (r : Refused) → outcome_in (Err r) ≡ read bytes → looked_by (Err r) ≡ lookup_of bytes n
  unfolding lookup_of
  looked-refused r is = ap (λ o. looked_in o n) is

  pub looked-in : (c : Catalogue) → outcome_in (Ok c) ≡ read bytes → {l : List Entry} → l ≡ take c.count c.entries → {o : maybe.Option ℕ} → lookup (closed_list (map entry_in l)) n ≡ o → looked_up o ≡ lookup_of bytes n
  unfolding lookup_of
  looked-in c is e q = ap looked_up (sym q) ∙ ap (λ l. looked_up (lookup (closed_list (map entry_in l)) n)) e ∙ ap (λ o. looked_in o n) is

-- See words left aside: the entries without them are well formed whatever the words name, and lookups do not ask for the words.
use Rattle.std.specs.Prelude.{◌≡◌, refl, Bool, true, false, ◌&&◌, ◌||◌, List, [], ◌∷◌, map, ℕ, ◌≤◌}
use Rattle.std.proofs.Math.Path.{ap}
use Rattle.std.proofs.Common.{ap₂, ◌∙◌, subst, sym}
use Rattle.std.proofs.Math.Bool.{not}
use Rattle.std.proofs.Math.Option.{some}
use Rattle.std.proofs.lemmas.List.{length-map}
use Rattle.integers.specs.All.{All}
use Rattle.integers.specs.AllLaws.{all_map, all_imp}
use Rattle.integers.specs.Every.{any}
use Rattle.catalogue_rules.specs.Catalogue.{Entry, most_entries}
use Rattle.catalogue_rules.specs.Read.{is_numbered}
use Rattle.catalogue_rules.specs.Form.{EntryFits, EntryIndependent, Distinct, Names, Entered, WellFormed}
use Rattle.fold_rules.specs.Fold.{same_lattice, first_entry, first_by, standing_by, standing, stood_of, closed_list, lookup}
use Rattle.merge_rules.specs.Merge.{without_see}

-- ---- they are well formed

numbered-aside : (n : ℕ) (es : List Entry) → any (is_numbered n) (map without_see es) ≡ any (is_numbered n) es
numbered-aside n [] = refl
numbered-aside n (e ∷ es) = ap (λ t. is_numbered n e || t) (numbered-aside n es)

distinct-aside : (es : List Entry) → Distinct es → Distinct (map without_see es)
distinct-aside [] d = tt
distinct-aside (e ∷ es) d = (numbered-aside e.head.number es ∙ d.0, distinct-aside es d.1)

fits-aside : (e : Entry) → EntryFits e → EntryFits (without_see e)
fits-aside e p = record { head = p.head; count = p.count; vectors = p.vectors }

nothing-named : (all es : List Entry) → All (λ e. Names all e.see) (map without_see es)
nothing-named all [] = tt
nothing-named all (e ∷ es) = (tt, nothing-named all es)

pub formed-aside : (es : List Entry) → Entered es → All EntryIndependent es → WellFormed (map without_see es)
formed-aside es k d = record {
  entered = record {
    one = record { form = k.one.form; heads = all_map (λ e. e.head.form ≡ k.one.form) without_see es k.one.heads };
    few = subst (λ n. n ≤ most_entries) (sym (length-map es without_see)) k.few;
    fits = all_map EntryFits without_see es (all_imp fits-aside es k.fits);
    distinct = distinct-aside es k.distinct;
  };
  independent = all_map EntryIndependent without_see es d;
  named = nothing-named (map without_see es) es;
}

-- ---- lookups

first-aside : (has hasAside : Entry → Bool) → ((e : Entry) → hasAside (without_see e) ≡ has e) → (o : Entry) (es : List Entry)
    → first_entry hasAside (without_see o) (map without_see es) ≡ without_see (first_entry has o es)
first-aside has hasAside same o [] = refl
first-aside has hasAside same o (e ∷ es) =
    ap₂ (λ (t : Bool) r. elim t [ true ↦ without_see e | false ↦ r ]) (same e) (first-aside has hasAside same o es) ∙ go (has e)
  where
    go : (t : Bool) → elim t [ true ↦ without_see e | false ↦ without_see (first_entry has o es) ] ≡ without_see (elim t [ true ↦ e | false ↦ first_entry has o es ])
    go true = refl
    go false = refl

same-aside : (e f : Entry) → same_lattice (without_see f) (without_see e) ≡ same_lattice f e
unfolding same_lattice
same-aside e f = refl

module _ (es : List Entry) (e : Entry) where
  first-of : first_by same_lattice (map without_see es) (without_see e) ≡ without_see (first_by same_lattice es e)
  unfolding first_by
  first-of = first-aside (λ f. same_lattice f e) (λ f. same_lattice f (without_see e)) (same-aside e) e es

  standing-aside : standing (map without_see es) (without_see e) ≡ without_see (standing es e)
  unfolding standing_by
  standing-aside =
      ap (λ o. first_entry (λ f. same_lattice f (without_see e) && not f.draft) o (map without_see es)) first-of
      ∙ first-aside (λ f. same_lattice f e && not f.draft) (λ f. same_lattice f (without_see e) && not f.draft) (λ f. ap (λ t. t && not f.draft) (same-aside e f)) (first_by same_lattice es e) es

found-aside : (all es : List Entry) (n : ℕ) → lookup (map (stood_of (map without_see all)) (map without_see es)) n ≡ lookup (map (stood_of all) es) n
found-aside all [] n = refl
found-aside all (e ∷ es) n =
    ap₂ (λ k o. elim (is_numbered n e) [ true ↦ some k | false ↦ o ]) (ap (λ s. s.head.number) (standing-aside all e)) (found-aside all es n)

pub lookup-aside : (es : List Entry) (n : ℕ) → lookup (closed_list (map without_see es)) n ≡ lookup (closed_list es) n
lookup-aside es n = found-aside es es n

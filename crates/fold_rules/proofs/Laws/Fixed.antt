-- A catalogue in which every entry stands and every see word names another entry: each entry carries its own word, as it is.
use Rattle.std.specs.Prelude.{◌≡◌, refl, ◌≢◌, ◌⊎◌, Bool, true, false, List, ℕ, eqb}
use Rattle.std.proofs.Common.{sym, ap, ◌∙◌, subst, inl, inr, eqb-true, eq-eqb}
use Rattle.std.proofs.Math.Option.{Option, none, some}
use Rattle.integers.specs.All.{All}
use Rattle.integers.specs.AllLaws.{all_imp, some_imp, all_map, some-map}
use Rattle.integers.specs.First.{first_given}
use Rattle.integers.specs.FirstLaws.{given-none, given-some}
use Rattle.catalogue_rules.specs.Catalogue.{See, Entry}
use Rattle.catalogue_rules.specs.Form.{Distinct, Names}
use Rattle.fold_rules.specs.Fold.{Stood, standing_by, stood_by, closed_by, followed, leads, leads_from, or_else, carried}
use Rattle.fold_rules.specs.Meaning.{Among, Sees}
use Rattle.fold_rules.proofs.Laws.First.{all_self}
use Rattle.fold_rules.proofs.Laws.Standing.{one_number}
use Rattle.fold_rules.proofs.Laws.Lookup.{numbered}
use Rattle.fold_rules.proofs.Laws.See.{led-other, followed-to}

module _ (same : Entry → Entry → Bool) (all : List Entry) (d : Distinct all) (stays : (g : Entry) → Among g all → standing_by same all g ≡ g)
    (g : Entry) (a : Among g all) (named : Names all g.see) (other : (n : ℕ) → Sees g n → n ≢ g.head.number) where
  abbrev ss : List Stood
  ss = closed_by same all

  abbrev there : Entry → ℕ
  there f = (standing_by same all f).head.number

  own : there g ≡ g.head.number
  own = ap (λ x. x.head.number) (stays g a)

  leads-same : leads ss (stood_by same all g) ≡ g.see
  leads-same = go g.see refl named
    where
      go : (o : Option See) → g.see ≡ o → Names all o → followed (closed_by same all) (standing_by same all g).head.number o ≡ o
      go none q m = refl
      go (some v) q m =
          let h = numbered v.number all m in
          let to : there h.entry ≡ v.number = ap (λ x. x.head.number) (stays h.entry h.among) ∙ h.number in
          followed-to same all d (there g) v h.entry h.among h.number
          ∙ led-other (there g) v (there h.entry) (λ r. other v.number (record { word = v; carried = q; number = refl }) (sym to ∙ r ∙ own))
          ∙ ap (λ n. some (record { number = n; place = v.place })) to

  abbrev word : Stood → Option See
  word = leads_from ss g.head.number

  word-own : word (stood_by same all g) ≡ g.see
  word-own = ap (λ b. elim b as (λ b. Option See) [ true ↦ leads ss (stood_by same all g) | false ↦ none ]) (eq-eqb (there g) g.head.number own) ∙ leads-same

  -- no other entry is folded into g
  word-other : (f : Entry) → Among f all → (word (stood_by same all f) ≡ none) ⊎ (word (stood_by same all f) ≡ g.see)
  word-other f b = go (eqb (there f) g.head.number) refl
    where
      go : (t : Bool) → eqb (standing_by same all f).head.number g.head.number ≡ t
          → (leads_from (closed_by same all) g.head.number (stood_by same all f) ≡ none) ⊎ (leads_from (closed_by same all) g.head.number (stood_by same all f) ≡ g.see)
      go false e = inl (ap (λ b. elim b as (λ b. Option See) [ true ↦ leads ss (stood_by same all f) | false ↦ none ]) e)
      go true e =
          let n : f.head.number ≡ g.head.number = sym (ap (λ x. x.head.number) (stays f b)) ∙ eqb-true (there f) g.head.number e in
          inr (subst (λ x. word (stood_by same all x) ≡ g.see) (sym (one_number all d f g b a n)) word-own)

  every_word : All (λ s. (word s ≡ none) ⊎ (word s ≡ g.see)) ss
  every_word = all_map (λ s. (word s ≡ none) ⊎ (word s ≡ g.see)) (stood_by same all) all (all_imp word-other all (all_self all))

  others_same : first_given word ss ≡ g.see
  others_same = go g.see refl
    where
      both-none : (s : Stood) → (leads_from (closed_by same all) g.head.number s ≡ none) ⊎ (leads_from (closed_by same all) g.head.number s ≡ none) → leads_from (closed_by same all) g.head.number s ≡ none
      both-none s (inl e) = e
      both-none s (inr e) = e

      go : (o : Option See) → g.see ≡ o → first_given (leads_from (closed_by same all) g.head.number) (closed_by same all) ≡ o
      go none q = given-none word ss (all_imp both-none ss (subst (λ o. All (λ s. (word s ≡ none) ⊎ (word s ≡ o)) ss) q every_word))
      go (some w) q =
          given-some word w ss (subst (λ o. All (λ s. (word s ≡ none) ⊎ (word s ≡ o)) ss) q every_word)
          (some-map (λ s. word s ≡ some w) (stood_by same all) all (some_imp (λ f e. subst (λ x. word (stood_by same all x) ≡ some w) (sym e) (word-own ∙ q)) all a))

  -- the own word is there before the others, and where it is not, they have none
  pub carried_same : carried ss (stood_by same all g) ≡ g.see
  carried_same = ap (λ o. or_else o (first_given word ss)) leads-same ∙ ap (or_else g.see) others_same ∙ twice g.see
    where
      twice : (o : Option See) → or_else o o ≡ o
      twice none = refl
      twice (some w) = refl

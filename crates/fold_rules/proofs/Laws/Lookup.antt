-- Lookup in the closed list gives the number of the standing entry.
use Rattle.std.specs.Prelude.{◌≡◌, refl, ◌≢◌, Bool, true, false, ◌||◌, List, [], ◌∷◌, map, ℕ}
use Rattle.std.proofs.Common.{sym, ap, ap₂, ◌∙◌, inl, inr, true≢false, eqb-true, eq-eqb, ne_eqb}
use Rattle.std.proofs.lemmas.Bool.{false≢true}
use Rattle.std.proofs.Math.Option.{Option, none, some, some-ne-none, get_or}
use Rattle.integers.specs.All.{All}
use Rattle.integers.specs.Tests.{neither}
use Rattle.integers.specs.Every.{any}
use Rattle.catalogue_rules.specs.Catalogue.{Entry}
use Rattle.catalogue_rules.specs.Read.{is_numbered}
use Rattle.catalogue_rules.specs.Form.{Distinct}
use Rattle.fold_rules.specs.Fold.{standing_by, stood_by, lookup}
use Rattle.fold_rules.specs.Meaning.{Among}
use Rattle.fold_rules.proofs.Laws.Standing.{not-used}

-- the entry with number n
pub record Numbered (n : ℕ) (es : List Entry) : Type 0 where
  pub entry : Entry
  pub among : Among entry es
  pub number : entry.head.number ≡ n

pub numbered : (n : ℕ) (es : List Entry) → any (is_numbered n) es ≡ true → Numbered n es
numbered n [] h = absurd (false≢true h)
numbered n (e ∷ es) h = go (is_numbered n e) refl h (numbered n es)
  where
    go : (b : Bool) → is_numbered n e ≡ b → (b || any (is_numbered n) es) ≡ true → (any (is_numbered n) es ≡ true → Numbered n es) → Numbered n (e ∷ es)
    go true q h more = record { entry = e; among = inl refl; number = eqb-true e.head.number n q }
    go false q h more = let r = more h in record { entry = r.entry; among = inr r.among; number = r.number }

pub unused : (n : ℕ) (es : List Entry) → All (λ e. e.head.number ≢ n) es → any (is_numbered n) es ≡ false
unused n [] h = refl
unused n (e ∷ es) h = ap₂ ◌||◌ (ne_eqb e.head.number n h.0) (unused n es h.1)

module _ (same : Entry → Entry → Bool) where
  -- what lookup gives is the standing number of the entry of that number; `all` is the whole file
  pub lookup-finds : (all es : List Entry) → Distinct es → (e : Entry) → Among e es → lookup (map (stood_by same all) es) e.head.number ≡ some (standing_by same all e).head.number
  lookup-finds all [] d e a = absurd a
  lookup-finds all (g ∷ es) d e a = go (is_numbered e.head.number g) refl a (lookup-finds all es d.1 e)
    where
      go : (b : Bool) → is_numbered e.head.number g ≡ b → Among e (g ∷ es) → (Among e es → lookup (map (stood_by same all) es) e.head.number ≡ some (standing_by same all e).head.number)
          → ◌≡◌ {A = Option ℕ} (elim b [ true ↦ some (standing_by same all g).head.number | false ↦ lookup (map (stood_by same all) es) e.head.number ]) (some (standing_by same all e).head.number)
      go true q (inl r) more = ap (λ h. some (standing_by same all h).head.number) r
      go true q (inr a) more = absurd (not-used g.head.number es d.0 e a (sym (eqb-true g.head.number e.head.number q)))
      go false q (inl r) more = absurd (true≢false (sym (eq-eqb g.head.number e.head.number (ap (λ h. h.head.number) r)) ∙ q))
      go false q (inr a) more = more a

  pub lookup_misses : (all es : List Entry) (n : ℕ) → any (is_numbered n) es ≡ false → lookup (map (stood_by same all) es) n ≡ none
  lookup_misses all [] n h = refl
  lookup_misses all (g ∷ es) n h =
      let p = neither (is_numbered n g) (any (is_numbered n) es) h in
      ap (λ b. elim b [ true ↦ some (standing_by same all g).head.number | false ↦ lookup (map (stood_by same all) es) n ]) p.0 ∙ lookup_misses all es n p.1

  -- and where it gives a number, an entry has the number that was asked for
  pub record Looked (all es : List Entry) (n there : ℕ) : Type 0 where
    pub entry : Entry
    pub among : Among entry es
    pub number : entry.head.number ≡ n
    pub is : (standing_by same all entry).head.number ≡ there

  pub lookup-some : (all es : List Entry) (n there : ℕ) → lookup (map (stood_by same all) es) n ≡ some there → Looked all es n there
  lookup-some all [] n there h = absurd (some-ne-none there (sym h))
  lookup-some all (e ∷ es) n there h = go (is_numbered n e) refl h (lookup-some all es n there)
    where
      go : (b : Bool) → is_numbered n e ≡ b → ◌≡◌ {A = Option ℕ} (elim b [ true ↦ some (standing_by same all e).head.number | false ↦ lookup (map (stood_by same all) es) n ]) (some there)
          → (lookup (map (stood_by same all) es) n ≡ some there → Looked all es n there) → Looked all (e ∷ es) n there
      go true q h more = record { entry = e; among = inl refl; number = eqb-true e.head.number n q; is = ap (λ o. get_or o 0) h }
      go false q h more = let r = more h in record { entry = r.entry; among = inr r.among; number = r.number; is = r.is }

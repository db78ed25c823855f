-- The entry with a number.
use Rattle.std.specs.Prelude.{◌≡◌, refl, Bool, true, false, List, [], ◌∷◌, ℕ}
use Rattle.std.proofs.Common.{sym, ap, ◌∙◌, inl, inr, true≢false, eqb-true, eq-eqb}
use Rattle.std.proofs.Math.Option.{Option, none, some}
use Rattle.integers.specs.Every.{any}
use Rattle.integers.specs.Tests.{neither}
use Rattle.catalogue_rules.specs.Catalogue.{Entry}
use Rattle.catalogue_rules.specs.Read.{is_numbered}
use Rattle.catalogue_rules.specs.Form.{Distinct}
use Rattle.fold_rules.specs.Meaning.{Among}
use Rattle.fold_rules.proofs.Laws.Standing.{not-used}
use Rattle.separation_rules.specs.Separation.{with_number}

-- where no number is used twice, every entry is found under its own
pub number-finds : (es : List Entry) → Distinct es → (e : Entry) → Among e es → with_number e.head.number es ≡ some e
number-finds [] d e a = absurd a
number-finds (g ∷ es) d e a = go (is_numbered e.head.number g) refl a (number-finds es d.1 e)
  where
    go : (b : Bool) → is_numbered e.head.number g ≡ b → Among e (g ∷ es) → (Among e es → with_number e.head.number es ≡ some e)
        → ◌≡◌ {A = Option Entry} (elim b as (λ b. Option Entry) [ true ↦ some g | false ↦ with_number e.head.number es ]) (some e)
    go true q (inl r) more = ap some r
    go true q (inr a) more = absurd (not-used g.head.number es d.0 e a (sym (eqb-true g.head.number e.head.number q)))
    go false q (inl r) more = absurd (true≢false (sym (eq-eqb g.head.number e.head.number (ap (λ h. h.head.number) r)) ∙ q))
    go false q (inr a) more = more a

-- and nothing under a number that none has
pub number_misses : (es : List Entry) (n : ℕ) → any (is_numbered n) es ≡ false → with_number n es ≡ none
number_misses [] n h = refl
number_misses (g ∷ es) n h =
    let p = neither (is_numbered n g) (any (is_numbered n) es) h in
    ap (λ b. elim b as (λ b. Option Entry) [ true ↦ some g | false ↦ with_number n es ]) p.0 ∙ number_misses es n p.1

-- The numbers of entries by place: no number stands at two places, so numbers tell places apart.
use Rattle.std.specs.Prelude.{◌≡◌, refl, Bool, true, false, List, [], ◌∷◌, ℕ, zero, suc, ◌<◌, eqb, length, get_or}
use Rattle.std.proofs.Common.{sym, ap, ◌∙◌, arith, eqb-true, eq-eqb}
use Rattle.catalogue_rules.specs.Catalogue.{Entry}
use Rattle.catalogue_rules.specs.Form.{Distinct}
use Rattle.fold_rules.proofs.Laws.Standing.{not-used}
use Rattle.fold_rules.proofs.Laws.Searching.{among-at}

-- the numbers of the entries, o standing beyond the end
pub record Numbers (es : List Entry) (o : Entry) (numbers : List ℕ) : Type 0 where
  pub number : (k : ℕ) → k < length es → get_or numbers k 0 ≡ (get_or es k o).head.number

-- no number stands at two places
pub apart : (es : List Entry) → Distinct es → (o : Entry) (i j : ℕ) → i < length es → j < length es → (get_or es i o).head.number ≡ (get_or es j o).head.number → i ≡ j
apart [] d o i j h k e = absurd (omega arith)
apart (f ∷ es) d o zero zero h k e = refl
apart (f ∷ es) d o zero (suc j) h k e = absurd (not-used f.head.number es d.0 (get_or es j o) (among-at es o j (omega arith)) (sym e))
apart (f ∷ es) d o (suc i) zero h k e = absurd (not-used f.head.number es d.0 (get_or es i o) (among-at es o i (omega arith)) e)
apart (f ∷ es) d o (suc i) (suc j) h k e = ap suc (apart es d.1 o i j (omega arith) (omega arith) e)

-- two tests of equality that agree
pub eqb_same : (a b c d : ℕ) → (a ≡ b → c ≡ d) → (c ≡ d → a ≡ b) → eqb a b ≡ eqb c d
eqb_same a b c d f g = go (eqb a b) refl (eqb c d) refl
  where
    go : (p : Bool) → eqb a b ≡ p → (q : Bool) → eqb c d ≡ q → p ≡ q
    go true e true h = refl
    go false e false h = refl
    go true e false h = sym (eq-eqb c d (f (eqb-true a b e))) ∙ h
    go false e true h = sym e ∙ eq-eqb a b (g (eqb-true c d h))

pub eqb_turn : (a b : ℕ) → eqb a b ≡ eqb b a
eqb_turn a b = eqb_same a b b a sym sym

-- two places by their numbers
pub number-place : (es : List Entry) → Distinct es → (o : Entry) (i j : ℕ) → i < length es → j < length es → eqb (get_or es i o).head.number (get_or es j o).head.number ≡ eqb i j
number-place es d o i j h k = eqb_same (get_or es i o).head.number (get_or es j o).head.number i j (λ e. apart es d o i j h k e) (λ e. ap (λ i. (get_or es i o).head.number) e)

-- The first of a lattice found place by place, as a loop finds it: the first place where a test says yes, among the first ones before.
use Rattle.std.specs.Prelude.{◌≡◌, refl, Bool, true, false, ◌&&◌, List, [], ◌∷◌, ◌++◌, ℕ, zero, suc, ◌<◌, length, get_or}
use Rattle.std.proofs.Common.{ap, ◌∙◌, inl, inr, arith}
use Rattle.integers.specs.All.{All}
use Rattle.integers.specs.AllLaws.{all_left, all_right}
use Rattle.catalogue_rules.specs.Catalogue.{Entry}
use Rattle.fold_rules.specs.Fold.{first_entry, first_by}
use Rattle.fold_rules.specs.Meaning.{Among}
use Rattle.fold_rules.proofs.Laws.Standing.{Decides}
use Rattle.fold_rules.proofs.Laws.Adding.{is_first, first-new, among-firsts}

pub among-at : (es : List Entry) (d : Entry) (k : ℕ) → k < length es → Among (get_or es k d) es
among-at [] d k h = absurd (omega arith)
among-at (e ∷ es) d zero h = inl refl
among-at (e ∷ es) d (suc k) h = inr (among-at es d k (omega arith))

-- a test that said no at each place before k says yes at k, or at no place
module _ (has : Entry → Bool) (other d : Entry) where
  pub first_found : (es : List Entry) (k : ℕ) → k < length es → ((j : ℕ) → j < k → has (get_or es j d) ≡ false) → has (get_or es k d) ≡ true → first_entry has other es ≡ get_or es k d
  first_found [] k l n h = absurd (omega arith)
  first_found (e ∷ es) zero l n h = ap (λ b. elim b [ true ↦ e | false ↦ first_entry has other es ]) h
  first_found (e ∷ es) (suc k) l n h =
      ap (λ b. elim b [ true ↦ e | false ↦ first_entry has other es ]) (n 0 (omega arith)) ∙ first_found es k (omega arith) (λ j p. n (suc j) (omega arith)) h

  pub first-none : (es : List Entry) → ((j : ℕ) → j < length es → has (get_or es j d) ≡ false) → first_entry has other es ≡ other
  first-none [] n = refl
  first-none (e ∷ es) n = ap (λ b. elim b [ true ↦ e | false ↦ first_entry has other es ]) (n 0 (omega arith)) ∙ first-none es (λ j p. n (suc j) (omega arith))

-- the first of the lattice of an entry: it is compared with the first ones before it only
pub first_past : {same : Entry → Entry → Bool} {One : Entry → Entry → Type 0} {Sound : Entry → Type 0} → Decides same One Sound → (past : List Entry) (e : Entry) (rest : List Entry)
    → All Sound (past ++ (e ∷ rest)) → first_by same (past ++ (e ∷ rest)) e ≡ first_entry (λ f. is_first same past f && same f e) e past
first_past {Sound = Sound} D past e rest sound =
    let s = (all_right Sound past (e ∷ rest) sound).0 in
    first-new D past e rest s ∙ among-firsts D past (all_left Sound past (e ∷ rest) sound) e s

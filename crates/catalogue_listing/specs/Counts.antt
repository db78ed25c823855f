-- How many entries stand: those whose place is their own.
use Rattle.std.specs.Prelude.{◌≡◌, refl, ◌≢◌, Bool, true, false, cond, List, [], ◌∷◌, map, ℕ, zero, suc, ◌+◌, ◌≤◌, eqb, length, get_or, take}
use Rattle.std.proofs.Common.{sym, ap, ap₂, ◌∙◌, add-one, arith, length-append, length-take-le, get_or-take, eq-eqb, ne_eqb}
use Rattle.std.proofs.Math.Decide.{ℕ_discrete}
use Rattle.std.proofs.lemmas.List.{length-map}
use Rattle.integers.specs.Decimal.{decimal}
use Rattle.catalogue_rules.specs.Catalogue as definition
use Rattle.catalogue_rules.specs.Form.{WellFormed}
use Rattle.fold_rules.specs.Fold.{stood_of, closed_list, standing_in, printed}
use Rattle.text_layout.specs.Fields.{line}
use Rattle.catalogue_records.specs.declared.Entry.{Entry}
use Rattle.catalogue_records.specs.EntriesIn.{entry_in}
use Rattle.catalogue_records.specs.Entries.{beyond}
use Rattle.catalogue_standing.specs.Standing.{StandingPlaces}
use Rattle.catalogue_standing.specs.ReducedEntries.{WasRead, ready-length}
use Rattle.catalogue_fold.specs.Folding.{prints, prints-all, prints-yes, prints-no}

abbrev pub one_if_own : ℕ → ℕ → ℕ
one_if_own place k = cond (eqb place k) 1 0

abbrev pub own_places : List ℕ → ℕ → ℕ
own_places places zero = 0
own_places places (suc k) = own_places places k + one_if_own (get_or places k 0) k

-- of the first places
own_cut : (places : List ℕ) (n k : ℕ) → k ≤ n → own_places (take n places) k ≡ own_places places k
own_cut places n zero h = refl
own_cut places n (suc k) h = ap₂ (λ i p. i + one_if_own p k) (own_cut places n k (omega arith)) (get_or-take n places k 0 (omega arith))

-- a place more
pub own_more : (places : List ℕ) (k : ℕ) → get_or places k 0 ≡ k → own_places places k + 1 ≡ own_places places (k + 1)
own_more places k e = ap (λ b. own_places places k + cond b 1 0) (sym (eq-eqb _ _ e)) ∙ ap (own_places places) (sym (add-one k))

pub own_same : (places : List ℕ) (k : ℕ) → get_or places k 0 ≢ k → own_places places k ≡ own_places places (k + 1)
own_same places k h = omega arith ∙ ap (λ b. own_places places k + cond b 1 0) (sym (ne_eqb _ _ h)) ∙ ap (own_places places) (sym (add-one k))

-- no more than there are places
one-most : (b : Bool) → cond b 1 0 ≤ 1
one-most true = omega arith
one-most false = omega arith

pub own-most : (places : List ℕ) (k : ℕ) → own_places places k ≤ k
own-most places zero = omega arith
own-most places (suc k) = omega (arith, own-most places k, one-most (eqb (get_or places k 0) k))

module _ (es : List definition.Entry) (o : definition.Entry) (w : WellFormed es) {places : List ℕ} (stood : StandingPlaces es o places) where
  counted : (k : ℕ) → k ≤ length es → own_places places k ≡ length (prints es k)
  counted zero h = refl
  counted (suc k) h = go (ℕ_discrete (get_or places k 0) k) (counted k (omega arith))
    where
      here : suc k ≡ k + 1
      here = omega arith

      go : Dec (get_or places k 0 ≡ k) → own_places places k ≡ length (prints es k) → own_places places (suc k) ≡ length (prints es (suc k))
      go (yes e) ih =
          let p = printed (closed_list es) (stood_of es (get_or es k o)) in
          let more : length (prints es (suc k)) ≡ length (prints es k) + 1 =
          ap (λ n. length (prints es n)) here ∙ ap length (prints-yes es o w stood k h e) ∙ length-append (prints es k) (p ∷ []) in
          ap (λ b. own_places places k + cond b 1 0) (eq-eqb _ _ e) ∙ omega (arith, ih, more)
      go (no n) ih =
          let same : length (prints es (suc k)) ≡ length (prints es k) = ap (λ n. length (prints es n)) here ∙ ap length (prints-no es o w stood k h n) in
          ap (λ b. own_places places k + cond b 1 0) (ne_eqb _ _ n) ∙ omega (arith, ih, same)

  pub standing-count : own_places places (length es) ≡ length (standing_in (closed_list es))
  standing-count =
      counted (length es) (omega arith) ∙ ap length (prints-all es (length es) (omega arith)) ∙ length-map (standing_in (closed_list es)) (printed (closed_list es))

-- the first line, of what the code counts
abbrev pub counts_line : ℕ → ℕ → List ℕ
counts_line entries standing = line (decimal entries) (decimal standing ∷ [])

pub counts-text : (l : List Entry) (r : WasRead l) {places : List ℕ} → StandingPlaces (map entry_in l) (entry_in beyond) places → length l ≤ length places → {n : ℕ} → n ≡ own_places (take (length l) places) (length (take (length l) places))
    → counts_line (length l) n ≡ counts_line (length (closed_list (map entry_in l))) (length (standing_in (closed_list (map entry_in l))))
counts-text l r {places} stood many is =
    let es = map entry_in l in
    ap₂ counts_line (sym (length-map es (stood_of es) ∙ ready-length l r))
    (is ∙ ap (own_places (take (length l) places)) (length-take-le (length l) places many) ∙ own_cut places (length l) (length l) (omega arith) ∙ ap (own_places places) (sym (ready-length l r))
    ∙ standing-count es (entry_in beyond) r.formed stood)

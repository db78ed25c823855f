-- The places of the first entries of lattices, as the code finds them.
use Rattle.std.specs.Prelude.{◌≡◌, ◌≢◌, Bool, true, false, ◌&&◌, List, ℕ, ◌+◌, ◌≤◌, ◌<◌, eqb, ltb, cond, refl, length, get_or, set, Option, Some, None}
use Rattle.std.specs.List.{position, position_or_len}
use Rattle.std.proofs.lemmas.List.Sums.{fails_before_first, passes_at_first}
use Rattle.std.proofs.lemmas.Bool.{ltb-true, ltb-false}
use Rattle.std.proofs.Common.{sym, ap, ◌∙◌, subst, arith, length-set, get_or-set_same, get_or-set_other, eq-eqb, ne_eqb}
use Rattle.std.proofs.Math.Decide.{dec_lt}
use Rattle.lattice_membership.specs.Known.{Left}
use Rattle.catalogue_standing.specs.ReducedEntry.{no_reduced, same_reduced}
use Rattle.catalogue_rules.specs.Catalogue.{most_entries}

-- r is the first place below n of which a test speaks, and n where it speaks of none
pub record First (f : ℕ → Bool) (n r : ℕ) : Type 0 where
  pub within : r ≤ n
  pub before : (j : ℕ) → j < r → f j ≡ false
  pub here : r < n → f r ≡ true

-- the same, as the code answers: the place, or that there is none
abbrev pub FirstFound : (ℕ → Bool) → ℕ → Option ℕ → Type 0
FirstFound f n (Some r) = First f n r × (r < n)
FirstFound f n None = First f n n

-- entry j is the first of its lattice, and of the lattice of entry k
abbrev pub first_alike : List Left → List ℕ → ℕ → ℕ → Bool
first_alike list places k j = eqb (get_or places j 0) j && same_reduced (get_or list j no_reduced) (get_or list k no_reduced)

module _ (list : List Left) (places : List ℕ) (k j : ℕ) where
  pub not_first : get_or places j 0 ≢ j → first_alike list places k j ≡ false
  not_first h = ap (λ b. b && same_reduced (get_or list j no_reduced) (get_or list k no_reduced)) (ne_eqb _ _ h)

  pub first_alike_lem : get_or places j 0 ≡ j → first_alike list places k j ≡ same_reduced (get_or list j no_reduced) (get_or list k no_reduced)
  first_alike_lem e = ap (λ b. b && same_reduced (get_or list j no_reduced) (get_or list k no_reduced)) (eq-eqb _ _ e)

-- the place of the first entry of its lattice, for each of the first n entries
pub record Firsts (list : List Left) (n : ℕ) (places : List ℕ) : Type 0 where
  pub long : length places ≡ most_entries
  pub first : (k : ℕ) → k < n → First (first_alike list places k) k (get_or places k 0)

-- ---- found place by place

pub first-like : {f g : ℕ → Bool} {n r : ℕ} → ((j : ℕ) → j < n → f j ≡ g j) → First f n r → First g n r
first-like {f} {g} {n} {r} same p = record { within = p.within; before = λ j h. sym (same j (omega (arith, p.within))) ∙ p.before j h; here = λ h. sym (same r h) ∙ p.here h }

pub found-like : {f g : ℕ → Bool} {n : ℕ} → ((j : ℕ) → j < n → f j ≡ g j) → (o : Option ℕ) → FirstFound f n o → FirstFound g n o
found-like same (Some r) p = (first-like same p.0, p.1)
found-like same None p = first-like same p

-- the search of a loop: at its end, and where the test speaks of a place
pub none_found : {f : ℕ → Bool} {n k : ℕ} → ((j : ℕ) → j < k → f j ≡ false) → n ≤ k → FirstFound f n None
none_found h l = record { within = omega arith; before = λ j m. h j (omega arith); here = λ m. absurd (omega arith) }

pub place_found : {f : ℕ → Bool} {n k : ℕ} → ((j : ℕ) → j < k → f j ≡ false) → f k ≡ true → k < n → FirstFound f n (Some k)
place_found h t l = (record { within = omega arith; before = h; here = λ m. t }, l)

-- the library's search
module _ {A : Type 0} (p : A → Bool) (l : List A) (d : A) where
  searched : (b : Bool) → ltb (position_or_len p l) (length l) ≡ b → FirstFound (λ k. p (get_or l k d)) (length l) (cond b (Some (position_or_len p l)) None)
  searched true e =
      let here = ltb-true (position_or_len p l) (length l) e in
      (record { within = omega (arith, here); before = λ j h. fails_before_first p l j d h; here = λ h. passes_at_first p l d h }, here)
  searched false e = record {
    within = omega arith;
    before = λ j h. fails_before_first p l j d (omega (arith, h, ltb-false (position_or_len p l) (length l) e));
    here = λ h. absurd (omega arith);
  }

  pub position_found : FirstFound (λ k. p (get_or l k d)) (length l) (position p l)
  position_found = searched (ltb (position_or_len p l) (length l)) refl

-- one place more is known
pub before_more : (f : ℕ → Bool) (j : ℕ) → ((i : ℕ) → i < j → f i ≡ false) → f j ≡ false → (i : ℕ) → i < j + 1 → f i ≡ false
before_more f j h e i l = go (dec_lt i j)
  where
    go : Dec (i < j) → f i ≡ false
    go (yes m) = h i m
    go (no m) = let same : i ≡ j = omega arith in ap f same ∙ e

pub firsts-none : (list : List Left) (places : List ℕ) → length places ≡ most_entries → Firsts list 0 places
firsts-none list places long = record { long = long; first = λ k h. absurd (omega arith) }

-- one entry more
module _ {list : List Left} {k : ℕ} {places : List ℕ} (c : Firsts list k places) (few : k < most_entries) {r : ℕ} (found : First (first_alike list places k) k r) where
  abbrev after : List ℕ
  after = set places k r

  kept : (i : ℕ) → i < k → get_or after i 0 ≡ get_or places i 0
  kept i h = get_or-set_other places k i r 0 (λ e. absurd (omega arith))

  alike : (j i : ℕ) → i < k → first_alike list places j i ≡ first_alike list after j i
  alike j i h = ap (λ p. eqb p i && same_reduced (get_or list i no_reduced) (get_or list j no_reduced)) (sym (kept i h))

  each : (j : ℕ) → j < k + 1 → First (first_alike list after j) j (get_or after j 0)
  each j h = go (dec_lt j k)
    where
      go : Dec (j < k) → First (first_alike list after j) j (get_or after j 0)
      go (yes l) = subst (First (first_alike list after j) j) (sym (kept j l)) (first-like (λ i m. alike j i (omega arith)) (c.first j l))
      go (no n) =
          let e : j ≡ k = omega arith in
          subst (λ j. First (first_alike list after j) j (get_or after j 0)) (sym e)
          (subst (First (first_alike list after k) k) (sym (get_or-set_same places k r 0 (omega (arith, c.long)))) (first-like (λ i m. alike k i m) found))

  pub firsts_more : Firsts list (k + 1) after
  firsts_more = record { long = length-set places k r ∙ c.long; first = each }

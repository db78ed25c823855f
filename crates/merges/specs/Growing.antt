-- One entry more: what is stored of it, and that the merge with it is one again.
use Rattle.std.specs.Prelude.{◌≡◌, ◌≢◌, Bool, false, ◌&&◌, List, [], ◌∷◌, ℕ, zero, suc, ◌+◌, ◌<◌, eqb, ltb, ℤ, pos, nat_abs, get_or, set}
use Rattle.std.proofs.Math.Path.{refl}
use Rattle.std.proofs.Common.{sym, ap, ◌∙◌, subst, arith, ltb-false}
use Rattle.integers.specs.Every.{any}
use Rattle.integers.specs.Filled.{filled}
use Rattle.integers.specs.Lists.{nth}
use Rattle.integers.specs.Size.{Within}
use Rattle.integers.specs.Tests.{neither}
use Rattle.lattices.specs.Refusal.{most_size}
use Rattle.catalogue_rules.specs.Catalogue as definition
use Rattle.catalogue_rules.specs.Catalogue.{new, coordinates, most_numbers}
use Rattle.catalogue_rules.proofs.Laws.EntriesAccepted.{all_near}
use Rattle.catalogue_records.specs.declared.Entry.{Entry}
use Rattle.catalogue_records.specs.Stored.{entry_of}
use Rattle.catalogue_records.specs.EntriesIn.{entry_in}
use Rattle.fold_rules.specs.Fold.{same_lattice}
use Rattle.fold_rules.proofs.Laws.SameLattice.{Sound}
use Rattle.catalogue_standing.specs.ReducedEntry.{reduced_entry, same-is, Fair, other-squares}
use Rattle.catalogue_standing.specs.Places.{First}
use Rattle.merges.specs.declared.Merge.{Merge}
use Rattle.merges.specs.Stored.{item_in, item_of}
use Rattle.merges.specs.IsMerge.{shortest_of, item_at, IsMerge}
use Rattle.merges.specs.Entries.{sound-at}

-- entry j is the first of its lattice, and that is the lattice of x
abbrev pub is_first_of : Merge → definition.Entry → ℕ → Bool
is_first_of s x j = eqb (item_at s j).first j && same_lattice (item_in (item_at s j)) x

-- an entry as an accepted addition gives it
pub record Readable (e : Entry) : Type 0 where
  pub is : e ≡ entry_of (entry_in e)
  pub sound : Sound (entry_in e)
  pub form : (entry_in e).head.form ≡ new

-- the merge with one entry more
abbrev pub with_item : Merge → Entry → ℤ → ℕ → Merge
with_item s e square first = record { closed = s.closed; count = s.count + 1; items = set s.items s.count (item_of e square first) }

pub record Grown (s : Merge) (e : Entry) (r : Merge) : Type 0 where
  pub first : ℕ
  pub found : First (is_first_of s (entry_in e)) s.count first
  pub is : r ≡ with_item s e (shortest_of (reduced_entry (entry_in e))) first

-- an entry whose lattice has no vector as short is of another lattice
pub other-square : (s : Merge) → IsMerge s → (j : ℕ) → j < s.count → (x : definition.Entry) → Sound x → (item_at s j).shortest ≢ shortest_of (reduced_entry x) → same_lattice (item_in (item_at s j)) x ≡ false
other-square s p j h x t differ =
    let y = item_in (item_at s j) in
    let f = sound-at s p j h in
    let a : Fair (reduced_entry y) = record { entry = y; sound = f; is = refl } in
    let b : Fair (reduced_entry x) = record { entry = x; sound = t; is = refl } in
    sym (same-is y x f t) ∙ sym (other-squares a b (λ e. differ (p.shortest j h ∙ ap (λ l. get_or l 0 (pos 0)) e)))

-- no coordinate is over 20,000, and zeros follow them
near-filled : (n : ℕ) (l : List ℤ) → any (λ x. ltb most_size (nat_abs x)) l ≡ false → (i : ℕ) → Within 20000 (nth (filled (pos 0) n l) i)
near-filled zero l e i = record { within = omega arith }
near-filled (suc n) [] e zero = record { within = omega arith }
near-filled (suc n) [] e (suc i) = near-filled n [] e i
near-filled (suc n) (x ∷ l) e zero = record { within = ltb-false most_size (nat_abs x) (neither (ltb most_size (nat_abs x)) (any (λ x. ltb most_size (nat_abs x)) l) e).0 }
near-filled (suc n) (x ∷ l) e (suc i) = near-filled n l (neither (ltb most_size (nat_abs x)) (any (λ x. ltb most_size (nat_abs x)) l) e).1 i

pub coordinates-small : {e : Entry} → Readable e → (i : ℕ) → Within 20000 (nth e.coordinates i)
coordinates-small {e} q i =
    subst (λ (e : Entry). Within 20000 (nth e.coordinates i)) (sym q.is)
    (near-filled most_numbers (coordinates (entry_in e).vectors) (all_near (entry_in e).head.m (entry_in e).vectors q.sound.fits.vectors) i)

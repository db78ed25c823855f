-- The rounded solution as a step: what it changes the squared length by, and what it is when it does not shorten.
use Rattle.std.specs.Prelude.{◌≡◌, List, [], ◌∷◌, ℕ, ◌≤◌, ℤ, pos, neg_ℤ, ◌+ℤ◌, length, replicate, ◌<ℤ◌}
use Rattle.std.proofs.Common.{sym, ap, ◌∙◌, subst, arith}
use Rattle.integers.specs.Identity.{by_ring, reads}
use Rattle.integers.specs.Size.{within-le}
use Rattle.integers.specs.ListLaws.{same, nth-⊕, nth-replicate, length-⊕-same}
use Rattle.integers.specs.Lex.{below-<}
use Rattle.lattices.specs.Vector.{nth, dot, ◌⊕◌}
use Rattle.lattices.specs.Laws.Vector.{◌≈◌}
use Rattle.successive_minima.specs.Laws.Digits.{Bounded, zeros}
use Rattle.nearest_steps.specs.Numbers.{moved, gain_of, improves_of}
use Rattle.nearest_steps.specs.Moves.{moved_none, moved-better, moved_weaker, still-nothing}
use Rattle.nearest_search.specs.LayerLaws.{gain-by-left}
use Rattle.nearest_search.specs.Turns.{Jumped}

pub jumped_none : (d : ℕ) (g : List (List ℤ)) (r x : List ℤ) → length x ≡ 4 → Jumped d g r x r x (pos 0)
unfolding moved_none
jumped_none d g r x l = record { moves = moved_none 4 d g r x l; gained = still-nothing 4 g r }

pub jumped_by : {d : ℕ} {g : List (List ℤ)} {r x : List ℤ} (e : List ℤ) {s : List ℤ} {v : ℤ} → x ≡ replicate 4 (pos 0) → length e ≡ 4 → Bounded 32768 e → ((j : ℕ) → d ≤ j → nth e j ≡ pos 0)
    → s ≈ moved g r e → length s ≡ length r → v ≡ neg_ℤ (dot e r +ℤ dot e s) → v <ℤ pos 0 → Jumped d g r x s e v
unfolding improves_of moved-better moved_weaker
jumped_by {d} {g} {r} {x} e {s} {v} z l b f p w h n = subst (λ y. Jumped d g r x s y v) whole (record {
  moves = moved_weaker (moved-better 4 d g r x e l f (λ i. within-le (omega arith) (b i)) (below-< e (zeros e) (subst (λ z. z <ℤ pos 0) is n)) p w);
  gained = sym is;
})
  where
    is : v ≡ gain_of g r e
    is = h ∙ sym (gain-by-left g r e p)

    whole : x ⊕ e ≡ e
    whole = ap (λ y. y ⊕ e) z ∙ same (length-⊕-same (replicate 4 (pos 0)) e (sym l) ∙ sym l) (λ i. nth-⊕ (replicate 4 (pos 0)) e i ∙ ap (λ z. z +ℤ nth e i) (nth-replicate 4 i) ∙ by_ring (nth e i ∷ []) (search reads) (search reads) tt)

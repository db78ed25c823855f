-- Reduced lists of one lattice, of at most four vectors, have equally many vectors and the same squared lengths.
use Rattle.std.specs.Prelude.{◌≡◌, List, [], ◌∷◌, ◌++◌, map, ℕ, suc, ◌≤◌, ◌<◌, pos, ◌≤ℤ◌, length, get_or, take, drop}
use Rattle.std.proofs.Common.{sym, ◌∙◌, subst, append-nil, arith, length-take, take-append-drop, ext_get_or, get_or-take}
use Rattle.std.proofs.lemmas.List.{length-map}
use Rattle.std.proofs.Math.Seq.{append_snoc}
use Rattle.integers.specs.All.{All}
use Rattle.integers.specs.AllLaws.{all_left, some-place, get_d_map}
use Rattle.integers.specs.Order.{≤ℤ_trans, ≤ℤ_antisymm}
use Rattle.lattices.specs.Vector.{Vec, N, In}
use Rattle.successive_minima.specs.Reduced.{Reduced}
use Rattle.successive_minima.specs.Laws.ReducedLaws.{reduced-last, reduced-independent}
use Rattle.successive_minima.specs.Laws.Minima.{ascending, no_more, successive}

-- the first vectors of a reduced list are reduced
reduced-left : (bs cs : List Vec) → Reduced (bs ++ cs) → Reduced bs
reduced-left bs [] d = subst Reduced (append-nil bs) d
reduced-left bs (c ∷ cs) d = (reduced-last bs c (reduced-left (bs ++ (c ∷ [])) cs (subst Reduced (sym (append_snoc bs c cs)) d))).1

module _ (bs cs : List Vec) (rb : Reduced bs) (rc : Reduced cs) (four : length bs ≤ 4) (four' : length cs ≤ 4) where
  -- some one of the first k + 1 of cs is at least as long as vector k of bs, and none of them is longer than vector k of cs
  no_longer : All (In bs) cs → (k : ℕ) → k < length bs → k < length cs → N (get_or bs k []) ≤ℤ N (get_or cs k [])
  no_longer h k p q =
      let vs = take (suc k) cs in
      let split : vs ++ drop (suc k) cs ≡ cs = take-append-drop (suc k) cs in
      let n = length-take (suc k) cs in
      let rv = reduced-left vs (drop (suc k) cs) (subst Reduced (sym split) rc) in
      let s = some-place (λ v. N (get_or bs k []) ≤ℤ N v) vs [] (
      successive bs rb four vs (all_left (In bs) vs (drop (suc k) cs) (subst (All (In bs)) (sym split) h)) (reduced-independent vs rv (omega arith)) k (omega arith) p
      ) in
      let j = s.1 in
      ≤ℤ_trans (subst (λ v. N (get_or bs k []) ≤ℤ N v) (get_or-take (suc k) cs s.0 [] (omega arith)) s.2) (ascending cs rc s.0 k (omega arith) q)

module _ (bs cs : List Vec) (rb : Reduced bs) (rc : Reduced cs) (four : length bs ≤ 4) (four' : length cs ≤ 4) (h : All (In bs) cs) (g : All (In cs) bs) where
  pub same_count : length bs ≡ length cs
  same_count = omega (arith, no_more bs cs h (reduced-independent cs rc four'), no_more cs bs g (reduced-independent bs rb four))

  pub same-lengths : map N bs ≡ map N cs
  same-lengths = ext_get_or (pos 0) (map N bs) (map N cs) (length-map bs N ∙ same_count ∙ sym (length-map cs N)) (λ k l. at k (omega (arith, length-map bs N)))
    where
      at : (k : ℕ) → k < length bs → get_or (map N bs) k (pos 0) ≡ get_or (map N cs) k (pos 0)
      at k l = get_d_map N bs [] (pos 0) k l
          ∙ ≤ℤ_antisymm (no_longer bs cs rb rc four four' h k l (omega (arith, same_count))) (no_longer cs bs rc rb four' four g k (omega (arith, same_count)) l)
          ∙ sym (get_d_map N cs [] (pos 0) k (omega (arith, same_count)))

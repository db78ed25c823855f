-- What entries that follow change: the first entry of a lattice stays, and that of a new entry is looked for among the first ones before it. Which
-- entry stands may change, once, by the first one that is no draft. For any test that decides an equivalence.
use Rattle.std.specs.Prelude.{◌≡◌, refl, ◌↔◌, Bool, ◌&&◌, eqb}
use Rattle.std.proofs.Common.{sym, ◌∙◌, subst, true≢false, eqb-true, eq-eqb}
use Rattle.std.proofs.Math.Path.{ap}
use Rattle.std.proofs.Math.Bool.{true, false, not}
use mathlib.Core.List.{List, [], ◌∷◌, ◌++◌}
use Rattle.std.proofs.Math.Seq.{append_snoc}
use Rattle.integers.specs.All.{All}
use Rattle.integers.specs.AllLaws.{all_imp, all_left, all_right, all_append}
use Rattle.integers.specs.Every.{any}
use Rattle.catalogue_rules.specs.Catalogue.{Entry}
use Rattle.catalogue_rules.specs.Read.{is_numbered}
use Rattle.catalogue_rules.specs.Form.{Distinct}
use Rattle.fold_rules.specs.Fold.{first_entry, first_by, standing_by}
use Rattle.fold_rules.specs.Meaning.{Among, First}
use Rattle.fold_rules.proofs.Laws.First.{all_self, all_among, among-left, first-among, first-once, first_then, first-like, first-append, first_any, first-missing}
use Rattle.fold_rules.proofs.Laws.Standing.{Decides, not_same, one_number, first-is, first_one, first-same, first-among_them}

-- an entry is the first of its lattice when the first of it is itself
abbrev pub is_first : (Entry → Entry → Bool) → List Entry → Entry → Bool
is_first same es e = is_numbered (first_by same es e).head.number e

module _ {same : Entry → Entry → Bool} {One : Entry → Entry → Type 0} {Sound : Entry → Type 0} (D : Decides same One Sound) where
  -- ---- the first of a lattice

  -- entries that follow do not change it
  pub first-kept : (es fs : List Entry) → All Sound (es ++ fs) → (e : Entry) → Among e es → first_by same (es ++ fs) e ≡ first_by same es e
  first-kept es fs sound e a =
      first-once (λ g. (λ p. p, λ p. p)) (first-is D (es ++ fs) sound e (among-left es fs e a)) (first_then fs (first-is D es (all_left Sound es fs sound) e a))

  -- that of a new entry is the first of its lattice before it, else itself
  pub first-new : (es : List Entry) (e : Entry) (fs : List Entry) → Sound e → first_by same (es ++ (e ∷ fs)) e ≡ first_entry (λ f. same f e) e es
  unfolding first_by
  first-new [] e fs s = ap (λ b. elim b [ true ↦ e | false ↦ first_entry (λ f. same f e) e fs ]) ((D.exactly e e s s).1 (D.one_refl e))
  first-new (g ∷ es) e fs s = ap (λ r. elim (same g e) [ true ↦ g | false ↦ r ]) (first-new es e fs s)

  -- only first entries need be compared
  module _ (all : List Entry) (sound : All Sound all) (e : Entry) (s : Sound e) where
    abbrev has : Entry → Bool
    has f = same f e

    -- `past` holds no entry of that lattice, so the one that is found is the first
    first-itself : (past : List Entry) → All (λ f. ¬ One f e) past → (f : Entry) (es : List Entry) → past ++ (f ∷ es) ≡ all → Sound f → has f ≡ true → is_first same all f ≡ true
    first-itself past n f es q t h = eq-eqb f.head.number (first_by same all f).head.number (ap (λ g. g.head.number) (first-once (λ g. (λ p. p, λ p. p)) here (first-is D all sound f (first-among here))))
      where
        one : One f e
        one = (D.exactly f e t s).0 h

        here : First (λ g. One g f) all f
        here = record { before = past; after = es; split = sym q; has = D.one_refl f; none = all_imp (λ g m o. m (D.one_trans o one)) past n }

    first_past : (past : List Entry) → All (λ f. ¬ One f e) past → (es : List Entry) → past ++ es ≡ all → first_entry has e es ≡ first_entry (λ f. is_first same all f && has f) e es
    first_past past n [] q = refl
    first_past past n (f ∷ es) q =
        let t : Sound f = (all_right Sound past (f ∷ es) (subst (All Sound) (sym q) sound)).0 in
        go t (has f) refl (is_first same all f) refl
        (λ h. first_past (past ++ (f ∷ [])) (all_append (λ g. ¬ One g e) past (f ∷ []) n (not_same D f e t s h, tt)) es (append_snoc past f es ∙ q))
      where
        go : Sound f → (b : Bool) → same f e ≡ b → (c : Bool) → is_first same all f ≡ c → (same f e ≡ false → first_entry has e es ≡ first_entry (λ f. is_first same all f && has f) e es)
            → ◌≡◌ {A = Entry} (elim b [ true ↦ f | false ↦ first_entry has e es ]) (elim (c && b) [ true ↦ f | false ↦ first_entry (λ f. is_first same all f && has f) e es ])
        go t true h true r more = refl
        go t true h false r more = absurd (true≢false (sym (first-itself past n f es q t h) ∙ r))
        go t false h true r more = more h
        go t false h false r more = more h

    pub among-firsts : first_entry has e all ≡ first_entry (λ f. is_first same all f && has f) e all
    among-firsts = first_past [] tt all refl

  -- ---- the standing entry

  -- with the first of each lattice known, no lattice need be looked at
  pub same-firsts : (es : List Entry) → All Sound es → Distinct es → (f e : Entry) → Among f es → Among e es
      → same f e ≡ eqb (first_by same es f).head.number (first_by same es e).head.number
  same-firsts es sound d f e a b = go (same f e) refl (eqb (first_by same es f).head.number (first_by same es e).head.number) refl
    where
      decided : (same f e ≡ true) ↔ One f e
      decided = D.exactly f e (all_among Sound es sound f a) (all_among Sound es sound e b)

      go : (p : Bool) → same f e ≡ p → (q : Bool) → eqb (first_by same es f).head.number (first_by same es e).head.number ≡ q → p ≡ q
      go true h true k = refl
      go true h false k = sym (eq-eqb _ _ (ap (λ g. g.head.number) (first-same D es sound f e a b (decided.0 h)))) ∙ k
      go false h true k =
          let r : first_by same es f ≡ first_by same es e = one_number es d (first_by same es f) (first_by same es e) (first-among_them D es sound f a) (first-among_them D es sound e b) (eqb-true _ _ k) in
          sym h ∙ decided.1 (D.one_trans (D.one_sym (first_one D es sound f a)) (subst (λ g. One g e) (sym r) (first_one D es sound e b)))
      go false h false k = refl

  pub standing-second : (es : List Entry) → All Sound es → Distinct es → (e : Entry) → Among e es
      → standing_by same es e ≡ first_entry (λ f. eqb (first_by same es f).head.number (first_by same es e).head.number && not f.draft) (first_by same es e) es
  unfolding standing_by
  standing-second es sound d e b =
      first-like _ _ (first_by same es e) es (all_imp (λ f a. ap (λ t. t && not f.draft) (same-firsts es sound d f e a b)) es (all_self es))

  -- ---- one entry more, at the end

  -- an entry of the lattice of e that is no draft, and whether there is one
  abbrev pub is_good : Entry → Entry → Bool
  is_good e f = same f e && not f.draft

  abbrev pub is_checked : List Entry → Entry → Bool
  is_checked es e = any (is_good e) es

  module _ (es fs : List Entry) (sound : All Sound (es ++ fs)) (e : Entry) (a : Among e es) where
    standing-append : standing_by same (es ++ fs) e ≡ first_entry (is_good e) (first_entry (is_good e) (first_by same es e) fs) es
    unfolding standing_by
    standing-append = ap (λ o. first_entry (is_good e) o (es ++ fs)) (first-kept es fs sound e a) ∙ first-append (is_good e) (first_by same es e) es fs

    -- a lattice with an entry that is no draft keeps its standing entry, whatever follows
    pub standing-kept : is_checked es e ≡ true → standing_by same (es ++ fs) e ≡ standing_by same es e
    unfolding standing_by
    standing-kept h = standing-append ∙ first_any (is_good e) (first_entry (is_good e) (first_by same es e) fs) (first_by same es e) es h

    -- a lattice of drafts stands with its first, until one comes that is no draft
    pub standing-moves : is_checked es e ≡ false → standing_by same (es ++ fs) e ≡ first_entry (is_good e) (standing_by same es e) fs
    unfolding standing_by
    standing-moves h =
        standing-append
        ∙ first-missing (is_good e) (first_entry (is_good e) (first_by same es e) fs) es h
        ∙ ap (λ o. first_entry (is_good e) o fs) (sym (first-missing (is_good e) (first_by same es e) es h))

  -- all that one more entry can change
  pub standing-added : (es : List Entry) (x : Entry) → All Sound (es ++ (x ∷ [])) → (e : Entry) → Among e es
      → standing_by same (es ++ (x ∷ [])) e ≡ elim (not (is_checked es e) && is_good e x) [ true ↦ x | false ↦ standing_by same es e ]
  standing-added es x sound e a = go (is_checked es e) refl
    where
      go : (c : Bool) → any (λ f. same f e && not f.draft) es ≡ c
          → standing_by same (es ++ (x ∷ [])) e ≡ elim (not c && (same x e && not x.draft)) as (λ b. Entry) [ true ↦ x | false ↦ standing_by same es e ]
      go true h = standing-kept es (x ∷ []) sound e a h
      go false h = standing-moves es (x ∷ []) sound e a h

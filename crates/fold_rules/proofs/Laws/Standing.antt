-- The first entry of a lattice and the standing one are what the meaning says; entries of one lattice share both, and the standing one stands itself.
-- All of it for any test that decides an equivalence.
use Rattle.std.specs.Prelude.{◌≡◌, ◌↔◌, Bool, ◌&&◌, List, [], ◌∷◌, ℕ}
use Rattle.std.proofs.Math.Path.{refl}
use Rattle.std.proofs.Common.{sym, ap, ap₂, ◌∙◌, subst, inl, inr, true≢false, eqb-true, eq-eqb}
use Rattle.std.proofs.Math.Bool.{true, false, not}
use Rattle.integers.specs.All.{All}
use Rattle.integers.specs.AllLaws.{all_imp}
use Rattle.integers.specs.Tests.{neither, both}
use Rattle.integers.specs.Every.{any}
use Rattle.catalogue_rules.specs.Catalogue.{Entry}
use Rattle.catalogue_rules.specs.Read.{is_numbered}
use Rattle.catalogue_rules.specs.Form.{Distinct}
use Rattle.fold_rules.specs.Fold.{first_by, standing_by, stood_by, stands}
use Rattle.fold_rules.specs.Meaning.{Among, First, StandsBy, checked, drafts}
use Rattle.fold_rules.proofs.Laws.First.{all_among, first-among, first-once, Found, found, missing, searched}

-- one lattice is an equivalence, and the test decides it for entries that are sound
pub record Decides (same : Entry → Entry → Bool) (One : Entry → Entry → Type 0) (Sound : Entry → Type 0) : Type 0 where
  pub one_refl : (e : Entry) → One e e
  pub one_sym : {e f : Entry} → One e f → One f e
  pub one_trans : {e f g : Entry} → One e f → One f g → One e g
  pub exactly : (e f : Entry) → Sound e → Sound f → (same e f ≡ true) ↔ One e f

pub stands-among : {One : Entry → Entry → Type 0} {es : List Entry} {e f : Entry} → StandsBy One es e f → Among f es
stands-among (checked s) = first-among s
stands-among (drafts n s) = first-among s

-- ---- numbers

-- a number that is not used
pub not-used : (n : ℕ) (es : List Entry) → any (is_numbered n) es ≡ false → (e : Entry) → Among e es → ¬ (e.head.number ≡ n)
not-used n [] h e a q = a
not-used n (g ∷ es) h e (inl r) q = true≢false (sym (eq-eqb g.head.number n (ap (λ h. h.head.number) r ∙ q)) ∙ (neither (is_numbered n g) (any (is_numbered n) es) h).0)
not-used n (g ∷ es) h e (inr a) q = not-used n es (neither (is_numbered n g) (any (is_numbered n) es) h).1 e a q

-- no number is used twice
pub one_number : (es : List Entry) → Distinct es → (e f : Entry) → Among e es → Among f es → e.head.number ≡ f.head.number → e ≡ f
one_number [] d e f a b q = absurd a
one_number (g ∷ es) d e f (inl r) (inl t) q = sym r ∙ t
one_number (g ∷ es) d e f (inl r) (inr b) q = absurd (not-used g.head.number es d.0 f b (sym q ∙ ap (λ h. h.head.number) (sym r)))
one_number (g ∷ es) d e f (inr a) (inl t) q = absurd (not-used g.head.number es d.0 e a (q ∙ ap (λ h. h.head.number) (sym t)))
one_number (g ∷ es) d e f (inr a) (inr b) q = one_number es d.1 e f a b q

module _ {same : Entry → Entry → Bool} {One : Entry → Entry → Type 0} {Sound : Entry → Type 0} (D : Decides same One Sound) where
  pub not_same : (e f : Entry) → Sound e → Sound f → same e f ≡ false → ¬ One e f
  not_same e f s t q o = true≢false (sym ((D.exactly e f s t).1 o) ∙ q)

  -- of one lattice with e is of one lattice with f
  one_agree : {e f : Entry} → One e f → (g : Entry) → One g e ↔ One g f
  one_agree o g = (λ p. D.one_trans p o, λ p. D.one_trans p (D.one_sym o))

  good_agree : {e f : Entry} → One e f → (g : Entry) → (One g e × (g.draft ≡ false)) ↔ (One g f × (g.draft ≡ false))
  good_agree o g = (λ p. ((one_agree o g).0 p.0, p.1), λ p. ((one_agree o g).1 p.0, p.1))

  -- one that is no draft, where all are drafts
  clash : {es : List Entry} {e f a : Entry} → One e f → First (λ g. One g e × (g.draft ≡ false)) es a → All (λ g. One g f → g.draft ≡ true) es → ⊥
  clash {es} {e} {f} {a} o s n = true≢false (sym (all_among (λ g. One g f → g.draft ≡ true) es n a (first-among s) ((one_agree o a).0 s.has.0)) ∙ s.has.1)

  -- two entries of one lattice have one standing entry
  pub stands-once : {es : List Entry} {e f a b : Entry} → One e f → StandsBy One es e a → StandsBy One es f b → a ≡ b
  stands-once o (checked s) (checked t) = first-once (good_agree o) s t
  stands-once o (checked s) (drafts n t) = absurd (clash o s n)
  stands-once o (drafts n s) (checked t) = absurd (clash (D.one_sym o) t n)
  stands-once o (drafts n s) (drafts m t) = first-once (one_agree o) s t

  pub stands_one : {es : List Entry} {e f : Entry} → StandsBy One es e f → One f e
  stands_one (checked s) = s.has.0
  stands_one (drafts n s) = s.has

  -- ---- a file of sound entries
  module _ (es : List Entry) (sound : All Sound es) where
    module _ (e : Entry) (a : Among e es) where
      here : Sound e
      here = all_among Sound es sound e a

      decided : (g : Entry) → Sound g → (same g e ≡ true) ↔ One g e
      decided g s = D.exactly g e s here

      -- the first of its lattice, as the definition finds it
      pub first-is : First (λ g. One g e) es (first_by same es e)
      unfolding first_by
      first-is = go (searched (λ g. same g e) (λ g. One g e) e es (all_imp decided es sound))
        where
          go : {f : Entry} → Found (λ g. One g e) es e f → First (λ g. One g e) es f
          go (found s) = s
          go (missing n q) = absurd (all_among (λ g. ¬ One g e) es n e a (D.one_refl e))

      good : (g : Entry) → Sound g → (same g e && not g.draft ≡ true) ↔ (One g e × (g.draft ≡ false))
      good g s = (
        λ h. (let p = both (same g e) (not g.draft) h in ((decided g s).0 p.0, not_true g.draft p.1)),
        λ p. ap₂ (λ b d. b && not d) ((decided g s).1 p.0) p.1,
      )
        where
          not_true : (b : Bool) → not b ≡ true → b ≡ false
          not_true true h = sym h
          not_true false h = refl

      -- every entry has a standing entry, as the definition finds it
      pub standing-is : StandsBy One es e (standing_by same es e)
      unfolding standing_by
      standing-is = go (searched (λ g. same g e && not g.draft) (λ g. One g e × (g.draft ≡ false)) (first_by same es e) es (all_imp good es sound))
        where
          a-draft : (g : Entry) → ¬ (One g e × (g.draft ≡ false)) → One g e → g.draft ≡ true
          a-draft g n o = or-draft g.draft refl
            where
              or-draft : (b : Bool) → g.draft ≡ b → b ≡ true
              or-draft true q = refl
              or-draft false q = absurd (n (o, q))

          go : {f : Entry} → Found (λ g. One g e × (g.draft ≡ false)) es (first_by same es e) f → StandsBy One es e f
          go (found s) = checked s
          go (missing n q) = drafts (all_imp a-draft es n) (subst (First (λ g. One g e) es) (sym q) first-is)

    pub first-among_them : (e : Entry) → Among e es → Among (first_by same es e) es
    first-among_them e a = first-among (first-is e a)

    pub first_one : (e : Entry) → Among e es → One (first_by same es e) e
    first_one e a = (first-is e a).has

    -- entries of one lattice have one first
    pub first-same : (e f : Entry) → Among e es → Among f es → One e f → first_by same es e ≡ first_by same es f
    first-same e f a b o = first-once (one_agree o) (first-is e a) (first-is f b)

    pub standing-among : (e : Entry) → Among e es → Among (standing_by same es e) es
    standing-among e a = stands-among (standing-is e a)

    pub standing-one : (e : Entry) → Among e es → One (standing_by same es e) e
    standing-one e a = stands_one (standing-is e a)

    -- entries of one lattice share it
    pub standing-same : (e f : Entry) → Among e es → Among f es → One e f → standing_by same es e ≡ standing_by same es f
    standing-same e f a b o = stands-once o (standing-is e a) (standing-is f b)

    -- and it stands itself
    pub standing-twice : (e : Entry) → Among e es → standing_by same es (standing_by same es e) ≡ standing_by same es e
    standing-twice e a = standing-same (standing_by same es e) e (standing-among e a) a (standing-one e a)

    -- `stands` compares numbers
    pub stands-itself : (e : Entry) → standing_by same es e ≡ e → stands (stood_by same es e) ≡ true
    stands-itself e q = eq-eqb _ _ (ap (λ h. h.head.number) (sym q))

    pub itself-stands : Distinct es → (e : Entry) → Among e es → stands (stood_by same es e) ≡ true → standing_by same es e ≡ e
    itself-stands d e a q = one_number es d (standing_by same es e) e (standing-among e a) a (sym (eqb-true e.head.number (standing_by same es e).head.number q))

    pub stands_here : Distinct es → (e : Entry) → Among e es → stands (stood_by same es e) ≡ true → StandsBy One es e e
    stands_here d e a t = subst (StandsBy One es e) (itself-stands d e a t) (standing-is e a)

    pub stands-not : (e : Entry) → Among e es → stands (stood_by same es e) ≡ false → ¬ StandsBy One es e e
    stands-not e a t s = true≢false (sym (stands-itself e (stands-once (D.one_refl e) (standing-is e a) s)) ∙ t)

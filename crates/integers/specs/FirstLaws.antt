-- Laws of the first that a function gives.
use Rattle.std.specs.Prelude.{◌≡◌, refl, ◌⊎◌, List, [], ◌∷◌, ◌++◌}
use Rattle.std.proofs.Common.{sym, ap, ◌∙◌, inl, inr}
use Rattle.std.proofs.Math.Option.{Option, none, some, some-ne-none}
use Rattle.integers.specs.All.{All, Some}
use Rattle.integers.specs.First.{first_given}

module _ {A B : Type 0} (f : A → Option B) where
  -- what holds of none and of all that is given holds of the first
  pub given-has : (P : Option B → Type 0) → P none → (l : List A) → All (λ a. P (f a)) l → P (first_given f l)
  given-has P n [] p = n
  given-has P n (a ∷ l) p = go (f a) p.0 (given-has P n l p.1)
    where
      go : (o : Option B) → P o → P (first_given f l) → P (elim o as (λ o. Option B) [ some b ↦ some b | none ↦ first_given f l ])
      go none q r = r
      go (some b) q r = q

  pub given-none : (l : List A) → All (λ a. f a ≡ none) l → first_given f l ≡ none
  given-none l p = given-has (λ o. o ≡ none) refl l p

  -- and where the first is none, nothing is given
  pub none-given : (l : List A) → first_given f l ≡ none → All (λ a. f a ≡ none) l
  none-given [] e = tt
  none-given (a ∷ l) e = go (f a) refl e (none-given l)
    where
      go : (o : Option B) → f a ≡ o → ◌≡◌ {A = Option B} (elim o as (λ o. Option B) [ some b ↦ some b | none ↦ first_given f l ]) none → (first_given f l ≡ none → All (λ a. f a ≡ none) l)
          → (f a ≡ none) × All (λ a. f a ≡ none) l
      go none q e more = (q, more e)
      go (some b) q e more = absurd (some-ne-none b e)

  -- all that is given is one
  pub given-some : (b : B) (l : List A) → All (λ a. (f a ≡ none) ⊎ (f a ≡ some b)) l → Some (λ a. f a ≡ some b) l → first_given f l ≡ some b
  given-some b [] p q = absurd q
  given-some b (a ∷ l) p q = go p.0 q (given-some b l p.1)
    where
      go : (f a ≡ none) ⊎ (f a ≡ some b) → Some (λ a. f a ≡ some b) (a ∷ l) → (Some (λ a. f a ≡ some b) l → first_given f l ≡ some b) → first_given f (a ∷ l) ≡ some b
      go (inr e) q more = ap (λ o. elim o as (λ o. Option B) [ some b ↦ some b | none ↦ first_given f l ]) e
      go (inl e) (inl g) more = absurd (some-ne-none b (sym g ∙ e))
      go (inl e) (inr q) more = ap (λ o. elim o as (λ o. Option B) [ some b ↦ some b | none ↦ first_given f l ]) e ∙ more q

  -- one element more
  given_snoc : (l : List A) (a : A) → first_given f (l ++ (a ∷ [])) ≡ elim (first_given f l) as (λ o. Option B) [ some b ↦ some b | none ↦ f a ]
  given_snoc [] a = go (f a)
    where
      go : (o : Option B) → elim o as (λ o. Option B) [ some b ↦ some b | none ↦ none ] ≡ o
      go none = refl
      go (some b) = refl
  given_snoc (c ∷ l) a = go (f c) (given_snoc l a)
    where
      go : (o : Option B) → first_given f (l ++ (a ∷ [])) ≡ elim (first_given f l) as (λ o. Option B) [ some b ↦ some b | none ↦ f a ]
          → ◌≡◌ {A = Option B} (elim o as (λ o. Option B) [ some b ↦ some b | none ↦ first_given f (l ++ (a ∷ [])) ])
          (elim (elim o as (λ o. Option B) [ some b ↦ some b | none ↦ first_given f l ]) as (λ o. Option B) [ some b ↦ some b | none ↦ f a ])
      go none e = e
      go (some b) e = refl

  module _ (l : List A) (a : A) where
    pub given-next : first_given f l ≡ none → first_given f (l ++ (a ∷ [])) ≡ f a
    given-next e = given_snoc l a ∙ ap (λ o. elim o as (λ o. Option B) [ some b ↦ some b | none ↦ f a ]) e

    pub given-before : (b : B) → first_given f l ≡ some b → first_given f (l ++ (a ∷ [])) ≡ first_given f l
    given-before b e = given_snoc l a ∙ ap (λ o. elim o as (λ o. Option B) [ some b ↦ some b | none ↦ f a ]) e ∙ sym e

    pub given-kept : f a ≡ none → first_given f (l ++ (a ∷ [])) ≡ first_given f l
    given-kept e = given_snoc l a ∙ go (first_given f l)
      where
        go : (o : Option B) → elim o as (λ o. Option B) [ some b ↦ some b | none ↦ f a ] ≡ o
        go none = e
        go (some b) = refl

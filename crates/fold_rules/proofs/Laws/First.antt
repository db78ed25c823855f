-- The first entry of a file with a property: there is only one, and a search for it finds it.
use Rattle.std.specs.Prelude.{◌≡◌, refl, ◌↔◌, Bool, true, false, ◌||◌, get_or}
use Rattle.std.proofs.Common.{sym, ap, ◌∙◌, subst, inl, inr, true≢false}
use mathlib.Core.List.{List, [], ◌∷◌, ◌++◌, tail, append_assoc}
use Rattle.integers.specs.All.{All}
use Rattle.integers.specs.AllLaws.{all_imp}
use Rattle.integers.specs.Every.{any}
use Rattle.integers.specs.Tests.{neither}
use Rattle.catalogue_rules.specs.Catalogue.{Entry}
use Rattle.fold_rules.specs.Fold.{first_entry}
use Rattle.fold_rules.specs.Meaning.{Among, First}

-- ---- entries of a list

-- every entry of a list is among its entries
pub all_self : (es : List Entry) → All (λ e. Among e es) es
all_self [] = tt
all_self (e ∷ es) = (inl refl, all_imp (λ f a. inr a) es (all_self es))

pub all_among : (P : Entry → Type 0) (es : List Entry) → All P es → (e : Entry) → Among e es → P e
all_among P [] p e a = absurd a
all_among P (f ∷ es) p e (inl q) = subst P q p.0
all_among P (f ∷ es) p e (inr a) = all_among P es p.1 e a

pub among-middle : (before : List Entry) (f : Entry) (after : List Entry) → Among f (before ++ (f ∷ after))
among-middle [] f after = inl refl
among-middle (g ∷ before) f after = inr (among-middle before f after)

pub among-left : (es fs : List Entry) (e : Entry) → Among e es → Among e (es ++ fs)
among-left [] fs e a = absurd a
among-left (f ∷ es) fs e (inl q) = inl q
among-left (f ∷ es) fs e (inr a) = inr (among-left es fs e a)

-- ---- the first with a property

pub first-among : {P : Entry → Type 0} {es : List Entry} {f : Entry} → First P es f → Among f es
first-among {f = f} s = subst (Among f) (sym s.split) (among-middle s.before f s.after)

-- there is only one, of two properties that agree
pub first-once : {P Q : Entry → Type 0} {es : List Entry} {a b : Entry} → ((g : Entry) → P g ↔ Q g) → First P es a → First Q es b → a ≡ b
first-once {P} {Q} {es} {a} {b} agree s t = go s.before s.none t.before t.none (sym s.split ∙ t.split)
  where
    go : (k : List Entry) → All (λ g. ¬ P g) k → (l : List Entry) → All (λ g. ¬ Q g) l → k ++ (a ∷ s.after) ≡ l ++ (b ∷ t.after) → a ≡ b
    go [] n [] m r = ap (λ l. get_or l 0 a) r
    go [] n (g ∷ l) m r = absurd (m.0 (subst Q (ap (λ l. get_or l 0 a) r) ((agree a).0 s.has)))
    go (g ∷ k) n [] m r = absurd (n.0 (subst P (sym (ap (λ l. get_or l 0 b) r)) ((agree b).1 t.has)))
    go (g ∷ k) n (h ∷ l) m r = go k n.1 l m.1 (ap tail r)

pub first-here : {P : Entry → Type 0} (e : Entry) (es : List Entry) → P e → First P (e ∷ es) e
first-here e es p = record { before = []; after = es; split = refl; has = p; none = tt }

pub first-later : {P : Entry → Type 0} (e : Entry) {es : List Entry} {f : Entry} → ¬ P e → First P es f → First P (e ∷ es) f
first-later e n s = record { before = e ∷ s.before; after = s.after; split = ap (λ l. e ∷ l) s.split; has = s.has; none = (n, s.none) }

-- entries that follow do not change it
pub first_then : {P : Entry → Type 0} {es : List Entry} {f : Entry} (fs : List Entry) → First P es f → First P (es ++ fs) f
first_then {f = f} fs s = record {
  before = s.before;
  after = s.after ++ fs;
  split = ap (λ l. l ++ fs) s.split ∙ append_assoc s.before (f ∷ s.after) fs;
  has = s.has;
  none = s.none;
}

-- ---- the search

-- what it gives: the first, or the other where there is none
pub data Found (P : Entry → Type 0) (es : List Entry) (other f : Entry) : Type 0 where
  found : First P es f → Found P es other f
  missing : All (λ g. ¬ P g) es → f ≡ other → Found P es other f

pub searched : (has : Entry → Bool) (P : Entry → Type 0) (other : Entry) (es : List Entry) → All (λ g. (has g ≡ true) ↔ P g) es → Found P es other (first_entry has other es)
searched has P other [] h = missing tt refl
searched has P other (e ∷ es) h = go (has e) refl (searched has P other es h.1)
  where
    later : ¬ P e → Found P es other (first_entry has other es) → Found P (e ∷ es) other (first_entry has other es)
    later n (found s) = found (first-later e n s)
    later n (missing m q) = missing (n, m) q

    go : (b : Bool) → has e ≡ b → Found P es other (first_entry has other es) → Found P (e ∷ es) other (elim b as (λ b. Entry) [ true ↦ e | false ↦ first_entry has other es ])
    go true q r = found (first-here e es (h.0.0 q))
    go false q r = later (λ p. true≢false (sym (h.0.1 p) ∙ q)) r

-- tests that agree on the entries of a list
pub first-like : (has test : Entry → Bool) (other : Entry) (es : List Entry) → All (λ g. has g ≡ test g) es → first_entry has other es ≡ first_entry test other es
first-like has test other [] h = refl
first-like has test other (e ∷ es) h =
    ap (λ b. elim b as (λ b. Entry) [ true ↦ e | false ↦ first_entry has other es ]) h.0
    ∙ ap (λ r. elim (test e) as (λ b. Entry) [ true ↦ e | false ↦ r ]) (first-like has test other es h.1)

-- ---- a list in two parts

pub first-append : (has : Entry → Bool) (other : Entry) (es fs : List Entry) → first_entry has other (es ++ fs) ≡ first_entry has (first_entry has other fs) es
first-append has other [] fs = refl
first-append has other (e ∷ es) fs = ap (λ r. elim (has e) [ true ↦ e | false ↦ r ]) (first-append has other es fs)

-- where there is one, the other does not matter
pub first_any : (has : Entry → Bool) (other another : Entry) (es : List Entry) → any has es ≡ true → first_entry has other es ≡ first_entry has another es
first_any has other another [] h = absurd (true≢false (sym h))
first_any has other another (e ∷ es) h = go (has e) h (first_any has other another es)
  where
    go : (b : Bool) → b || any has es ≡ true → (any has es ≡ true → first_entry has other es ≡ first_entry has another es)
        → ◌≡◌ {A = Entry} (elim b [ true ↦ e | false ↦ first_entry has other es ]) (elim b [ true ↦ e | false ↦ first_entry has another es ])
    go true h r = refl
    go false h r = r h

pub first-missing : (has : Entry → Bool) (other : Entry) (es : List Entry) → any has es ≡ false → first_entry has other es ≡ other
first-missing has other [] h = refl
first-missing has other (e ∷ es) h =
    let p = neither (has e) (any has es) h in
    ap (λ b. elim b [ true ↦ e | false ↦ first_entry has other es ]) p.0 ∙ first-missing has other es p.1

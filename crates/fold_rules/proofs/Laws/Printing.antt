-- The folded catalogue prints the standing entries and no others, each as promised; what follows from that for numbers and lattices.
use Rattle.std.specs.Prelude.{◌≡◌, refl, ◌≢◌, ◌↔◌, List, ◌∷◌, ℕ}
use Rattle.std.proofs.Common.{sym, ap, ◌∙◌, subst, inl, inr, arith}
use Rattle.std.proofs.Math.Option.{Option, none, some, some-ne-none}
use Rattle.integers.specs.All.{All, Some}
use Rattle.integers.specs.AllLaws.{all_imp}
use Rattle.successive_minima.specs.Laws.Minima.{successive}
use Rattle.catalogue_rules.specs.Catalogue.{See, Entry, see_number}
use Rattle.catalogue_rules.specs.Form.{Distinct, WellFormed, see_at, entry_at, placed, past_mark}
use Rattle.fold_rules.specs.Fold.{reduced_of, standing, stood_of, closed_list, printed, printed_in, folded}
use Rattle.fold_rules.specs.Meaning.{Among, OneLattice, Stands, LeadsBy, Carries, its_own, folded_in, Sees, Prints, Printing, done, print, pass, Apart}
use Rattle.fold_rules.proofs.Laws.SameLattice.{Sound, sound-entries, entry-basis, entry-lattice, entry-reduced, entry-count, one_sym, one_trans, one-lattice}
use Rattle.fold_rules.proofs.Laws.First.{all_self, all_among}
use Rattle.fold_rules.proofs.Laws.Standing.{stands-among, stands-once, one_number, not-used, itself-stands, stands_here, stands-not}
use Rattle.fold_rules.proofs.Laws.See.{carried_means, means_carried}
use Rattle.fold_rules.proofs.Laws.FoldedForm.{shown_ind}

module _ (all : List Entry) (w : WellFormed all) where
  sound : All Sound all
  sound = sound-entries all w

  distinct : Distinct all
  distinct = w.entered.distinct

  -- ---- an entry that stands
  module _ (e : Entry) (a : Among e all) (own : standing all e ≡ e) where
    see_carries : (n : ℕ) → Sees (printed (closed_list all) (stood_of all e)) n → Carries all e n
    see_carries n s = subst (Carries all e) s.number (carried_means one-lattice all sound distinct e a own s.word s.carried)

    carries_see : (n : ℕ) → Carries all e n → Sees (printed (closed_list all) (stood_of all e)) n
    carries_see n c = let r = means_carried one-lattice all sound distinct e a own n c in record { word = r.word; carried = r.is; number = r.number }

    sound-here : Sound e
    sound-here = all_among Sound all sound e a

    pub entry-prints : Prints all e (printed (closed_list all) (stood_of all e))
    entry-prints =
        let B = entry-basis e sound-here in
        record {
          form = refl;
          number = refl;
          d = refl;
          count = entry-count e sound-here ∙ sound-here.fits.count;
          draft = refl;
          one = record { m = refl; lattice = λ v. ((entry-lattice e sound-here v).1, (entry-lattice e sound-here v).0) };
          minima = λ vs h i k p q. successive (reduced_of e) (entry-reduced e sound-here) (omega (arith, entry-count e sound-here, B.four)) vs
              (all_imp (λ v. (entry-lattice e sound-here v).0) vs h) i k p (omega (arith, entry-count e sound-here, sound-here.fits.count));
          see = λ n. (see_carries n, carries_see n);
        }

  -- ---- all entries, before they are placed
  prints-all : Printing all all (printed_in (closed_list all))
  prints-all = shown_ind all (λ es gs. All (λ e. Among e all) es → Printing all es gs) (λ p. done)
      (λ e es gs t h p. print e (printed (closed_list all) (stood_of all e)) (stands_here one-lattice all sound distinct e p.0 t)
      (entry-prints e p.0 (itself-stands one-lattice all sound distinct e p.0 t)) (h p.1))
      (λ e es gs t h p. pass e (stands-not one-lattice all sound e p.0 t) (h p.1))
      all (all_self all)

-- ---- placed entries print the same
one_placed : (i : ℕ) (g : Entry) {e : Entry} → OneLattice g e → OneLattice (entry_at i g) e
one_placed i g o = record { m = o.m; lattice = o.lattice }

sees-placed : (i : ℕ) (g : Entry) (n : ℕ) → Sees (entry_at i g) n ↔ Sees g n
sees-placed i g n = (
  λ s. back g.see refl s,
  λ s. record { word = record { number = s.word.number; place = past_mark i g }; carried = ap (see_at (past_mark i g)) s.carried; number = s.number },
)
  where
    back : (o : Option See) → g.see ≡ o → Sees (entry_at i g) n → Sees g n
    back none q s = absurd (some-ne-none s.word (sym s.carried ∙ ap (see_at (past_mark i g)) q))
    back (some v) q s = record { word = v; carried = q; number = ap see_number (sym (ap (see_at (past_mark i g)) q) ∙ s.carried) ∙ s.number }

prints-placed : {all : List Entry} {e : Entry} (i : ℕ) (g : Entry) → Prints all e g → Prints all e (entry_at i g)
prints-placed i g p = record {
  form = p.form;
  number = p.number;
  d = p.d;
  count = p.count;
  draft = p.draft;
  one = one_placed i g p.one;
  minima = p.minima;
  see = λ n. (λ s. (p.see n).0 ((sees-placed i g n).0 s), λ l. (sees-placed i g n).1 ((p.see n).1 l));
}

printing-placed : {all es gs : List Entry} → Printing all es gs → (i : ℕ) → Printing all es (placed i gs)
printing-placed done i = done
printing-placed (print e g s p r) i = print e (entry_at i g) s (prints-placed i g p) (printing-placed r _)
printing-placed (pass e s r) i = pass e s (printing-placed r i)

pub folded-prints : (es : List Entry) → WellFormed es → Printing es es (folded es)
unfolding folded
folded-prints es w = printing-placed (prints-all es w) 0

-- the word that leads to the number carried
carries_leads : {all : List Entry} {s : Entry} {n : ℕ} → Carries all s n → (f : Entry) × LeadsBy OneLattice all s f n
carries_leads {s = s} (its_own l) = (s, l)
carries_leads (folded_in n f first l) = (f, l)

-- ---- what follows for any printing

-- the entry for which g is printed
pub record From (all es : List Entry) (g : Entry) : Type 0 where
  pub entry : Entry
  pub among : Among entry es
  pub stands : Stands all entry entry
  pub prints : Prints all entry g

module _ {all : List Entry} where
  later : {es : List Entry} (e : Entry) (g : Entry) → From all es g → From all (e ∷ es) g
  later e g f = record { entry = f.entry; among = inr f.among; stands = f.stands; prints = f.prints }

  pub printing-from : {es : List Entry} (gs : List Entry) → Printing all es gs → All (From all es) gs
  printing-from gs done = tt
  printing-from gs (print e g {gs = hs} s p r) = (record { entry = e; among = inl refl; stands = s; prints = p }, all_imp (later e) hs (printing-from hs r))
  printing-from gs (pass e s r) = all_imp (later e) gs (printing-from gs r)

  -- every standing entry is printed
  pub printing-some : {es : List Entry} (gs : List Entry) → Printing all es gs → (f : Entry) → Among f es → Stands all f f → Some (Prints all f) gs
  printing-some gs done f a t = a
  printing-some gs (print e g s p r) f (inl q) t = inl (subst (λ h. Prints all h g) q p)
  printing-some gs (print e g {gs = hs} s p r) f (inr a) t = inr (printing-some hs r f a t)
  printing-some gs (pass e s r) f (inl q) t = absurd (s (subst (λ h. Stands all h h) (sym q) t))
  printing-some gs (pass e s r) f (inr a) t = printing-some gs r f a t

  -- no two entries printed generate one lattice
  pub printing-apart : {es : List Entry} (gs : List Entry) → Printing all es gs → Distinct es → Apart gs
  printing-apart gs done d = tt
  printing-apart gs (print e g {es = es} {gs = hs} s p r) d = (all_imp other hs (printing-from hs r), printing-apart hs r d.1)
    where
      other : (h : Entry) → From all es h → ¬ OneLattice g h
      other h f o =
          let q : e ≡ f.entry = stands-once one-lattice (one_trans (one_sym p.one) (one_trans o f.prints.one)) s f.stands in
          not-used e.head.number es d.0 f.entry f.among (ap (λ x. x.head.number) (sym q))
  printing-apart gs (pass e s r) d = printing-apart gs r d.1

  -- a see word printed names another entry than the one that carries it
  pub printing-other : Distinct all → (gs : List Entry) → Printing all all gs → All (λ g. (n : ℕ) → Sees g n → n ≢ g.head.number) gs
  printing-other d gs r = all_imp other gs (printing-from gs r)
    where
      other : (g : Entry) → From all all g → (n : ℕ) → Sees g n → n ≢ g.head.number
      other g f n s q =
          let l = carries_leads ((f.prints.see n).0 s) in
          l.1.other (one_number all d l.1.standing f.entry (stands-among l.1.stands) f.among (l.1.there ∙ q ∙ f.prints.number))

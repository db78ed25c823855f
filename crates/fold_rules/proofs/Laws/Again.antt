-- Folding a folded catalogue gives the same catalogue: its vectors are reduced already, each of its entries stands and carries its own see word.
use Rattle.std.specs.Prelude.{◌≡◌, refl, ◌≢◌, List, [], ◌∷◌, ℕ}
use Rattle.std.proofs.Common.{sym, ap, ap₂, ◌∙◌, subst, inl, inr, true≢false}
use Rattle.integers.specs.All.{All}
use Rattle.lattices.specs.Greedy.{vectors, reduction}
use Rattle.greedy_reduction.specs.Again.{reduction-again}
use Rattle.catalogue_rules.specs.Catalogue.{Entry}
use Rattle.catalogue_rules.specs.Write.{write}
use Rattle.catalogue_rules.specs.Form.{Names, WellFormed, placed}
use Rattle.catalogue_rules.proofs.Laws.Placed.{all_placed, placed-again}
use Rattle.catalogue_rules.proofs.Laws.WellFormed.{well_formed}
use Rattle.fold_rules.specs.Fold.{reduced_of, same_lattice, standing, stood_of, closed_list, printed, printed_in, folded}
use Rattle.fold_rules.specs.Meaning.{Among, OneLattice, Sees, Apart}
use Rattle.fold_rules.proofs.Laws.SameLattice.{Sound, sound-entries, entry-basis, one_sym, one-lattice}
use Rattle.fold_rules.proofs.Laws.First.{all_self, all_among}
use Rattle.fold_rules.proofs.Laws.Standing.{standing-among, standing-one, stands-itself}
use Rattle.fold_rules.proofs.Laws.Fixed.{carried_same}
use Rattle.fold_rules.proofs.Laws.FoldedForm.{shown_ind, folded-accepted}
use Rattle.fold_rules.proofs.Laws.Printing.{folded-prints, printing-apart, printing-other}

-- ---- reduced vectors, reduced once more
reduced-again : (e : Entry) → Sound e → vectors (reduction (reduced_of e)).rows ≡ reduced_of e
reduced-again e s = let B = entry-basis e s in reduction-again e.head.m e.vectors B.full B.some B.four B.volume

prints-reduced : (es : List Entry) → All Sound es → All (λ g. reduced_of g ≡ g.vectors) (printed_in (closed_list es))
prints-reduced es = shown_ind es (λ fs gs. All Sound fs → All (λ g. reduced_of g ≡ g.vectors) gs) (λ p. tt) (λ e fs gs q h p. (reduced-again e p.0, h p.1)) (λ e fs gs q h p. h p.1) es

-- ---- a catalogue whose entries are apart
apart-one : (gs : List Entry) → Apart gs → (a b : Entry) → Among a gs → Among b gs → OneLattice a b → a ≡ b
apart-one [] p a b i j o = absurd i
apart-one (g ∷ gs) p a b (inl q) (inl r) o = sym q ∙ r
apart-one (g ∷ gs) p a b (inl q) (inr j) o = absurd (all_among (λ h. ¬ OneLattice g h) gs p.0 b j (subst (λ x. OneLattice x b) (sym q) o))
apart-one (g ∷ gs) p a b (inr i) (inl r) o = absurd (all_among (λ h. ¬ OneLattice g h) gs p.0 a i (subst (λ x. OneLattice x a) (sym r) (one_sym o)))
apart-one (g ∷ gs) p a b (inr i) (inr j) o = apart-one gs p.1 a b i j o

-- each entry is reduced, and its see word names another
record Fixed (all : List Entry) (g : Entry) : Type 0 where
  among : Among g all
  reduced : reduced_of g ≡ g.vectors
  named : Names all g.see
  other : (n : ℕ) → Sees g n → n ≢ g.head.number

module _ (all : List Entry) (w : WellFormed all) (apart : Apart all) where
  stays : (g : Entry) → Among g all → standing all g ≡ g
  stays g a =
      let sound = sound-entries all w in
      apart-one all apart (standing all g) g (standing-among one-lattice all sound g a) a (standing-one one-lattice all sound g a)

  entry-same : (g : Entry) → Fixed all g → printed (closed_list all) (stood_of all g) ≡ g
  entry-same g f = ap₂ (λ vs o. record { head = g.head; vectors = vs; draft = g.draft; see = o }) f.reduced (carried_same same_lattice all w.entered.distinct stays g f.among f.named f.other)

  prints-same : All (Fixed all) all → printed_in (closed_list all) ≡ all
  prints-same = shown_ind all (λ es gs. All (Fixed all) es → gs ≡ es) (λ p. refl)
      (λ e es gs t h p. ap₂ ◌∷◌ (entry-same e p.0) (h p.1))
      (λ e es gs t h p. absurd (true≢false (sym (stands-itself one-lattice all (sound-entries all w) e (stays e p.0.among)) ∙ t))) all

-- ---- the folded catalogue
all_fixed : (all es : List Entry) → All (λ g. Among g all) es → All (λ g. reduced_of g ≡ g.vectors) es → All (λ g. Names all g.see) es
    → All (λ g. (n : ℕ) → Sees g n → n ≢ g.head.number) es → All (Fixed all) es
all_fixed all [] a r m o = tt
all_fixed all (g ∷ es) a r m o = (record { among = a.0; reduced = r.0; named = m.0; other = o.0 }, all_fixed all es a.1 r.1 m.1 o.1)

folded-reduced : (es : List Entry) → WellFormed es → All (λ g. reduced_of g ≡ g.vectors) (folded es)
unfolding folded
folded-reduced es w = all_placed (λ g. reduced_of g ≡ g.vectors) (λ g. reduced_of g ≡ g.vectors) (λ i e p. p) 0 (printed_in (closed_list es)) (prints-reduced es (sound-entries es w))

folded-placed : (es : List Entry) → placed 0 (folded es) ≡ folded es
unfolding folded
folded-placed es = placed-again 0 (printed_in (closed_list es))

folded-is : (es : List Entry) → folded es ≡ placed 0 (printed_in (closed_list es))
unfolding folded
folded-is es = refl

-- the folded catalogue is what its own fold gives
pub folded-twice : (es : List Entry) → WellFormed es → folded (folded es) ≡ folded es
folded-twice es w =
    let fs = folded es in
    let v = well_formed (write fs) fs (folded-accepted es w) in
    let printing = folded-prints es w in
    let distinct = w.entered.distinct in
    folded-is fs
    ∙ ap (placed 0) (prints-same fs v (printing-apart fs printing distinct) (all_fixed fs fs (all_self fs) (folded-reduced es w) v.named (printing-other distinct fs printing)))
    ∙ folded-placed es

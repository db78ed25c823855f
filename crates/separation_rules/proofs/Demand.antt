-- Demand 3 for the service that says what separates two entries: `SeparatesAll` (Meaning.antt) holds of every accepted file.
use Rattle.std.specs.Prelude.{◌≡◌, refl, ◌⊎◌, ◌≢◌, List, ℕ}
use Rattle.std.proofs.Common.{ap, ap₂, ◌∙◌, inl, inr}
use Rattle.std.proofs.Math.Option.{Option, none, some}
use Rattle.integers.specs.All.{All}
use Rattle.catalogue_rules.specs.Catalogue.{Entry, accepted}
use Rattle.catalogue_rules.specs.Read.{read}
use Rattle.catalogue_rules.specs.Form.{WellFormed}
use Rattle.catalogue_rules.proofs.Laws.WellFormed.{well_formed}
use Rattle.fold_rules.specs.Meaning.{Among}
use Rattle.fold_rules.proofs.Laws.SameLattice.{Sound, sound-entries}
use Rattle.fold_rules.proofs.Laws.First.{all_among}
use Rattle.fold_rules.proofs.Laws.Lookup.{unused}
use Rattle.separation_rules.specs.Separation.{refused_at, with_number, separated_by, separated_in, separation, separate_of}
use Rattle.separation_rules.specs.Meaning.{Answers, SeparatesAll}
use Rattle.separation_rules.proofs.Laws.Separating.{separation-separates}
use Rattle.separation_rules.proofs.Laws.Numbers.{number-finds, number_misses}

pub accepted_separate : (file : List ℕ) (es : List Entry) → read file ≡ accepted es → (first second : ℕ) → separate_of file first second ≡ separated_by (with_number first es) (with_number second es)
unfolding separate_of
accepted_separate file es e first second = ap (λ o. separated_in o first second) e

-- either of the two is unknown
pub either_unknown : (o : Option Entry) → separated_by o none ≡ refused_at 17 0
either_unknown none = refl
either_unknown (some e) = refl

pub separation_theorem : (file : List ℕ) (es : List Entry) → read file ≡ accepted es → SeparatesAll file es
separation_theorem file es e = record { entries = entries; others = others }
  where
    w : WellFormed es
    w = well_formed file es e

    sound : (f : Entry) → Among f es → Sound f
    sound f a = all_among Sound es (sound-entries es w) f a

    entries : (f g : Entry) → Among f es → Among g es → Answers file f g
    entries f g a b = record {
      given = separation f g;
      answered = accepted_separate file es e f.head.number g.head.number
          ∙ ap₂ separated_by (number-finds es w.entered.distinct f a) (number-finds es w.entered.distinct g b);
      separates = separation-separates f g (sound f a) (sound g b);
    }

    others : (first second : ℕ) → All (λ e. e.head.number ≢ first) es ⊎ All (λ e. e.head.number ≢ second) es → separate_of file first second ≡ refused_at 17 0
    others first second (inl h) = accepted_separate file es e first second ∙ ap (λ o. separated_by o (with_number second es)) (number_misses es first (unused first es h))
    others first second (inr h) = accepted_separate file es e first second ∙ ap (separated_by (with_number first es)) (number_misses es second (unused second es h)) ∙ either_unknown (with_number first es)

-- "Each entry of an accepted catalogue is an accepted basis": the engine's own checks of vectors pass.
use Rattle.std.specs.Prelude.{◌≡◌, refl, true, false, not, ◌||◌, List, [], ◌∷◌, ◌++◌, ℕ, zero, suc, ◌*◌, ◌≤◌, ltb, ℤ, pos, nat_abs, length, take, drop}
use Rattle.std.proofs.Common.{sym, ap, ap₂, ◌∙◌, mul-le-mul, arith, length-append, length-drop, take-append-drop, take_at, drop_at, eq-eqb}
use Rattle.std.specs.Int.Signed.{lt_z}
use Rattle.lattices.specs.Vector.{Vec, N}
use Rattle.lattices.specs.Volume.{is_dependent}
use Rattle.lattices.specs.Refusal.{Input, Check, vectors_of, too_long, first_of, vector_checks, most_vectors, most_coordinates, most_size, most_square}
use Rattle.integers.specs.Every.{any}
use Rattle.integers.specs.Tests.{neither}
use Rattle.lattices.specs.Laws.Refusal.{one-to}
use Rattle.integers.specs.All.{All}
use Rattle.catalogue_rules.specs.Catalogue.{Entry, coordinates, input_of, accepted, most_numbers}
use Rattle.catalogue_rules.specs.Read.{read}
use Rattle.catalogue_rules.specs.Form.{VectorFits, EntryFits, EntryIndependent}
use Rattle.catalogue_rules.proofs.Laws.WellFormed.{any_append, well_formed}

none-applies : (cs : List Check) (i : Input) → All (λ c. c.condition i ≡ false) cs → first_of cs i ≡ 0
none-applies [] i p = refl
none-applies (c ∷ cs) i p = ap (λ t. elim t [ true ↦ c.number | false ↦ first_of cs i ]) p.0 ∙ none-applies cs i p.1

pub length-coordinates : (m : ℕ) (vs : List Vec) → All (VectorFits m) vs → length (coordinates vs) ≡ length vs * m
length-coordinates m [] p = omega arith
length-coordinates m (v ∷ vs) p = length-append v (coordinates vs) ∙ omega (arith, p.0.full, length-coordinates m vs p.1)

-- d times m coordinates, no more than an entry may have
pub count-coordinates : (e : Entry) → EntryFits e → length (coordinates e.vectors) ≡ e.head.d * e.head.m
count-coordinates e p = length-coordinates e.head.m e.vectors p.vectors ∙ ap (λ d. d * e.head.m) p.count

pub few-coordinates : (e : Entry) → EntryFits e → length (coordinates e.vectors) ≤ most_numbers
few-coordinates e p =
    let d = one-to most_vectors e.head.d p.head.d in
    let m = one-to most_coordinates e.head.m p.head.m in
    omega (arith, count-coordinates e p, mul-le-mul d.1 m.1)

-- the vectors, given as numbers and cut again
pub vectors-back : (m : ℕ) (vs : List Vec) → All (VectorFits m) vs → vectors_of (length vs) m (coordinates vs) ≡ vs
vectors-back m [] p = refl
vectors-back m (v ∷ vs) p =
    ap₂ ◌∷◌ (take_at v (coordinates vs) m p.0.full)
    (ap (vectors_of (length vs) m) (drop_at v (coordinates vs) m p.0.full) ∙ vectors-back m vs p.1)

-- and numbers, cut into vectors and given again
pub numbers-back : (d m : ℕ) (l : List ℤ) → length l ≡ d * m → coordinates (vectors_of d m l) ≡ l
numbers-back zero m [] e = refl
numbers-back zero m (x ∷ l) e = absurd (omega (arith, e))
numbers-back (suc d) m l e = ap (λ k. take m l ++ k) (numbers-back d m (drop m l) (omega (arith, e, length-drop m l))) ∙ take-append-drop m l

-- no coordinate is beyond the limit
pub all_near : (m : ℕ) (vs : List Vec) → All (VectorFits m) vs → any (λ x. ltb most_size (nat_abs x)) (coordinates vs) ≡ false
all_near m [] p = refl
all_near m (v ∷ vs) p = any_append (λ x. ltb most_size (nat_abs x)) v (coordinates vs) (neither _ (lt_z (pos most_square) (N v)) p.0.short).0 (all_near m vs p.1)

pub all_short : (m : ℕ) (vs : List Vec) → All (VectorFits m) vs → any too_long vs ≡ false
all_short m [] p = refl
all_short m (v ∷ vs) p = ap₂ ◌||◌ p.0.short (all_short m vs p.1)

pub is-basis : (e : Entry) → EntryFits e → EntryIndependent e → first_of vector_checks (input_of e) ≡ 0
is-basis e p q =
    let m = e.head.m in
    let vs = e.vectors in
    let same : vectors_of e.head.d m (coordinates vs) ≡ vs = ap (λ d. vectors_of d m (coordinates vs)) (sym p.count) ∙ vectors-back m vs p.vectors in
    none-applies vector_checks (input_of e) (
      ap not p.head.d,
      (
        ap not p.head.m,
        (
          ap not (eq-eqb _ _ (count-coordinates e p)),
          (
            ap (any too_long) same ∙ all_short m vs p.vectors,
            (ap (is_dependent m) same ∙ q, tt),
          ),
        ),
      ),
    )

all_bases : (es : List Entry) → All EntryFits es → All EntryIndependent es → All (λ e. first_of vector_checks (input_of e) ≡ 0) es
all_bases [] p q = tt
all_bases (e ∷ es) p q = (is-basis e p.0 q.0, all_bases es p.1 q.1)

pub entries-accepted : (bytes : List ℕ) (es : List Entry) → read bytes ≡ accepted es → All (λ e. first_of vector_checks (input_of e) ≡ 0) es
entries-accepted bytes es e =
    let w = well_formed bytes es e in
    all_bases es w.entered.fits w.independent

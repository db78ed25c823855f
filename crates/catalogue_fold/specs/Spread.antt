-- Rows written one after the other into an array of coordinates.
use Rattle.std.specs.Prelude.{◌≡◌, refl, List, [], ◌∷◌, ◌++◌, map, ℕ, zero, suc, ◌+◌, ◌*◌, ◌≤◌, ◌<◌, ℤ, pos, length, get_or, set, take}
use Rattle.std.proofs.Common.{sym, ap, ap₂, ◌∙◌, append-nil, add-one, arith, length-append, take-suc, length-take-le}
use Rattle.std.proofs.lemmas.List.Edits.{sets}
use Rattle.std.proofs.Math.Seq.{append_snoc}
use Rattle.lattices.specs.Vector.{Vec}
use Rattle.lattices.specs.Laws.Refusal.{one-to}
use Rattle.lattices.specs.Answer.{padded, table}
use Rattle.lattices.specs.Laws.Answer.{length-padded, take-padded}
use Rattle.greedy_reduction.specs.Start.{Coordinates}
use Rattle.catalogue_rules.specs.Catalogue.{Entry, coordinates}
use Rattle.catalogue_rules.proofs.Laws.RoundTrip.{coordinates_snoc}
use Rattle.fold_rules.specs.Fold.{reduced_of}
use Rattle.fold_rules.proofs.Laws.SameLattice.{Sound, entry-full}
use Rattle.integers.specs.Filled.{filled}
use Rattle.integers.specs.FilledLaws.{filled_next, map_snoc}
use Rattle.lattice_membership.specs.Known.{Left}
use Rattle.catalogue_standing.specs.ReducedEntry.{reduced_entry, basis_in, basis-are, rows-table, length-table}
use Rattle.lattices.specs.Refusal.{most_vectors, most_coordinates}

sets_snoc : (out : List ℤ) (n : ℕ) (l : List ℤ) (x : ℤ) → set (sets out n l) (n + length l) x ≡ sets out n (l ++ (x ∷ []))
sets_snoc out n [] x = ap (λ k. set out k x) (omega arith)
sets_snoc out n (y ∷ l) x =
    let e : n + suc (length l) ≡ suc n + length l = omega arith in
    ap (λ k. set (sets (set out n y) (suc n) l) k x) e ∙ sets_snoc (set out n y) (suc n) l x

pub sets_more : (out : List ℤ) (n : ℕ) (v : List ℤ) (j : ℕ) → j < length v → set (sets out n (take j v)) (n + j) (get_or v j (pos 0)) ≡ sets out n (take (j + 1) v)
sets_more out n v j h =
    ap (λ k. set (sets out n (take j v)) (n + k) (get_or v j (pos 0))) (sym (length-take-le j v (omega arith)))
    ∙ sets_snoc out n (take j v) (get_or v j (pos 0))
    ∙ ap (sets out n) (sym (take-suc v j (pos 0) h) ∙ ap (λ k. take k v) (sym (add-one j)))

-- an array that is filled up to there is filled further
pub put-filled : (z : ℤ) (n : ℕ) (l v : List ℤ) → length l + length v ≤ n → sets (filled z n l) (length l) v ≡ filled z n (l ++ v)
put-filled z n l [] h = ap (filled z n) (sym (append-nil l))
put-filled z n l (x ∷ v) h =
    let long : suc (length l) ≡ length (l ++ (x ∷ [])) = sym (length-append l (x ∷ []) ∙ add-one (length l)) in
    ap₂ (λ out k. sets out k v) (filled_next z n l x (omega arith)) long
    ∙ put-filled z n (l ++ (x ∷ [])) v (omega (arith, long))
    ∙ ap (filled z n) (append_snoc l x v)

-- ---- what is kept: rows as wide as vectors can be

pub record Full (k : Left) : Type 0 where
  pub few : k.d ≤ most_vectors
  pub narrow : k.m ≤ most_coordinates
  pub rows : (i : ℕ) → i < k.d → length (get_or k.vectors i []) ≡ most_coordinates
  pub count : k.d ≤ length k.vectors

-- the first i rows, cut to m numbers
abbrev pub cut : ℕ → List Vec → ℕ → List ℤ
cut m rows i = coordinates (map (take m) (take i rows))

module _ (m : ℕ) (rows : List Vec) where
  pub cut-more : (i : ℕ) → i < length rows → cut m rows (i + 1) ≡ cut m rows i ++ take m (get_or rows i [])
  cut-more i h =
      ap (λ l. coordinates (map (take m) l)) (ap (λ k. take k rows) (add-one i) ∙ take-suc rows i [] h)
      ∙ ap coordinates (sym (map_snoc (take m) (take i rows) (get_or rows i [])))
      ∙ coordinates_snoc (map (take m) (take i rows)) (take m (get_or rows i []))

  pub length_cut : (i : ℕ) → i ≤ length rows → ((j : ℕ) → j < i → m ≤ length (get_or rows j [])) → length (cut m rows i) ≡ i * m
  length_cut zero h w = omega arith
  length_cut (suc i) h w =
      let e : suc i ≡ i + 1 = omega arith in
      ap (λ k. length (cut m rows k)) e
      ∙ ap length (cut-more i (omega arith))
      ∙ length-append (cut m rows i) (take m (get_or rows i []))
      ∙ omega (arith, length_cut i (omega arith) (λ j l. w j (omega arith)), length-take-le m (get_or rows i []) (w i (omega arith)))

-- of an entry: its reduced vectors
back : (m : ℕ) → m ≤ most_coordinates → (vs : List Vec) → Coordinates m vs → map (take m) (map (padded most_coordinates) vs) ≡ vs
back m h [] c = refl
back m h (v ∷ vs) c = ap₂ ◌∷◌ (take-padded m most_coordinates v c.0 h) (back m h vs c.1)

pub kept-vectors : (e : Entry) → Sound e → map (take e.head.m) (basis_in (reduced_entry e)) ≡ reduced_of e
kept-vectors e s = ap (map (take e.head.m)) (basis-are e s) ∙ back e.head.m (one-to most_coordinates e.head.m s.fits.head.m).1 (reduced_of e) (entry-full e s)

-- and its rows are full
length-row : (h w : ℕ) (rows : List Vec) (i : ℕ) → i < h → length (get_or (table h w rows) i []) ≡ w
length-row zero w rows i l = absurd (omega arith)
length-row (suc h) w [] zero l = length-padded w []
length-row (suc h) w [] (suc i) l = length-row h w [] i (omega arith)
length-row (suc h) w (r ∷ rows) zero l = length-padded w r
length-row (suc h) w (r ∷ rows) (suc i) l = length-row h w rows i (omega arith)

pub kept_full : (e : Entry) → Sound e → Full (reduced_entry e)
kept_full e s =
    let few : e.head.d ≤ most_vectors = (one-to most_vectors e.head.d s.fits.head.d).1 in
    let vs = reduced_of e in
    let same = rows-table e s in
    record {
      few = few;
      narrow = (one-to most_coordinates e.head.m s.fits.head.m).1;
      rows = λ i h. ap (λ l. length (get_or l i [])) same ∙ length-row most_vectors most_coordinates vs i (omega arith);
      count = omega (arith, ap length same ∙ length-table most_vectors most_coordinates vs);
    }

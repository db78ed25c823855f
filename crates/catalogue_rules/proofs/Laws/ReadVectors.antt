-- Reading words that were written: a head, a see word, the end, and the coordinates of an entry whose vectors fit.
use Rattle.std.specs.Prelude.{◌≡◌, refl, Bool, true, false, not, ◌&&◌, ◌||◌, List, [], ◌∷◌, ◌++◌, ℕ, suc, ◌+◌, ◌-◌, ◌≤◌, ltb, eqb, ℤ, pos, negsuc, nat_abs, ◌+ℤ◌, length}
use Rattle.std.proofs.Common.{sym, ap, ap₂, ◌∙◌, append_assoc, append-nil, arith, length-append, eq-eqb, ne_eqb, ltb-false, le-ltb}
use Rattle.std.proofs.lemmas.List.{map-append}
use Rattle.std.proofs.Math.Option.{none}
use Rattle.std.proofs.Math.IntN.{+ℤ-neg_ℤ_cancel}
use Rattle.std.proofs.Math.Seq.{append_snoc}
use Rattle.std.specs.Int.Signed.{lt_z}
use Rattle.integers.specs.Order.{sub-ind}
use Rattle.integers.specs.Size.{size-add}
use Rattle.lattices.specs.Vector.{Vec, N}
use Rattle.integers.specs.Every.{any}
use Rattle.lattices.specs.Refusal.{most_square, most_size}
use Rattle.integers.specs.All.{All}
use Rattle.catalogue_rules.specs.Word.{Word, head, end, head_number, head_size, encode}
use Rattle.catalogue_rules.proofs.Laws.Word.{InRange, decode-encode}
use Rattle.catalogue_rules.specs.Catalogue.{old, new, Head, Entry, refused, coordinates, most_load}
use Rattle.catalogue_rules.specs.Read.{State, numbered, inside, after, closed, next, stop, checked, head_rows, head_number_rows, head_size_rows, coordinate_rows, end_rows, with_entry, coordinate_of, with_vector, with_coordinate, at_end, step, read_words}
use Rattle.catalogue_rules.specs.Write.{coordinate_word, encoded_coordinates}
use Rattle.catalogue_rules.specs.Form.{VectorFits}
use Rattle.catalogue_rules.proofs.Laws.Moves.{NoneOf, Between, between, unreferred}
use Rattle.integers.specs.Tests.{neither}

-- ---- one word

pub passes : {A : Type 0} (refuse : ℕ → A) (rows : List (Bool × ℕ)) (a : A) → NoneOf rows → checked refuse rows a ≡ a
passes refuse [] a p = refl
passes refuse (r ∷ rows) a p = ap (λ t. elim t [ true ↦ refuse r.1 | false ↦ checked refuse rows a ]) p.0 ∙ passes refuse rows a p.1

pub one_word : (s t : State) (i : ℕ) (w : Word) (words : List ℕ) → InRange w → step s i w ≡ next t → read_words s i (encode w ∷ words) ≡ read_words t (suc i) words
unfolding read_words
one_word s t i w words h e =
    ap (λ r. elim r [ next t ↦ read_words t (suc i) words | stop n ↦ refused n i ]) (ap (step s i) (decode-encode w h) ∙ e)

pub at_head_lem : {s : State} {es : List Entry} (n d m i : ℕ) → Between s es → NoneOf (head_rows es n d m)
    → step s i (head n d m) ≡ next (inside es (record { form = old; number = n; d = d; m = m; place = i }) [] [])
unfolding step
at_head_lem n d m i (between es) p = passes stop (head_rows es n d m) _ p
at_head_lem n d m i (unreferred es g vs marked) p = passes stop (head_rows (with_entry es g vs marked none) n d m) _ p

pub at-number : {s : State} {es : List Entry} (n i : ℕ) → Between s es → NoneOf (head_number_rows es n) → step s i (head_number n) ≡ next (numbered es n i)
unfolding step
at-number n i (between es) p = passes stop (head_number_rows es n) _ p
at-number n i (unreferred es g vs marked) p = passes stop (head_number_rows (with_entry es g vs marked none) n) _ p

pub at_size : (es : List Entry) (n p i d m : ℕ) → NoneOf (head_size_rows 0 d m)
    → step (numbered es n p) i (head_size 0 d m) ≡ next (inside es (record { form = new; number = n; d = d; m = m; place = p }) [] [])
unfolding step
at_size es n p i d m q = passes stop (head_size_rows 0 d m) _ q

end-passes : (es : List Entry) → at_end es (length es) ≡ next (closed es)
end-passes es = passes stop (end_rows es (length es)) (next (closed es)) (ap not (eq-eqb (length es) (length es) refl), tt)

pub at-end : {s : State} {es : List Entry} (i : ℕ) → Between s es → step s i (end (length es)) ≡ next (closed es)
unfolding step
at-end i (between es) = end-passes es
at-end i (unreferred es h vs marked) = end-passes (with_entry es h vs marked none)

-- ---- a coordinate

abbrev pub load : ℤ → ℕ
load x = nat_abs (x +ℤ pos most_size)

pub load-most : (x : ℤ) → ltb most_size (nat_abs x) ≡ false → load x ≤ most_load
load-most x h = let p = ltb-false most_size (nat_abs x) h in omega (arith, size-add x (pos most_size))

coordinate-back : (x : ℤ) → ltb most_size (nat_abs x) ≡ false → coordinate_of (load x) ≡ x
coordinate-back (pos n) h = +ℤ-neg_ℤ_cancel (pos n) (pos most_size)
coordinate-back (negsuc n) h =
    let p : suc n ≤ most_size = ltb-false most_size (suc n) h in
    sub-ind (λ z. coordinate_of (nat_abs z) ≡ negsuc n) most_size (suc n) (λ k. absurd (omega arith))
    (λ k. sub-ind (λ z. z ≡ negsuc n) (most_size - suc n) most_size (λ j. ap negsuc (omega arith)) (λ j. absurd (omega arith)))

-- u is the vector up to this coordinate
at-coordinate : (es : List Entry) (h : Head) (vs : List Vec) (v u : Vec) (x : ℤ) (i : ℕ) (words : List ℕ)
    → ltb most_size (nat_abs x) ≡ false → v ++ (x ∷ []) ≡ u → (eqb (length u) h.m && lt_z (pos most_square) (N u)) ≡ false
    → read_words (inside es h vs v) i (encode (coordinate_word x) ∷ words) ≡ read_words (with_coordinate es h vs u) (suc i) words
unfolding step
at-coordinate es h vs v u x i words near e short =
    let q : v ++ (coordinate_of (load x) ∷ []) ≡ u = ap (λ y. v ++ (y ∷ [])) (coordinate-back x near) ∙ e in
    let most = load-most x near in
    one_word (inside es h vs v) (with_coordinate es h vs u) i (coordinate_word x) words (omega arith)
    (ap (λ z. checked stop (coordinate_rows h z (load x)) (next (with_coordinate es h vs z))) q
    ∙ passes stop (coordinate_rows h u (load x)) _ (ap₂ ◌||◌ (le-ltb most_load (load x) most) short, tt))

-- ---- vectors

whole-vector : (es : List Entry) (h : Head) (vs : List Vec) (v : Vec) → length v ≡ h.m → with_coordinate es h vs v ≡ with_vector es h (vs ++ (v ∷ []))
whole-vector es h vs v e = ap (λ t. elim t [ true ↦ with_vector es h (vs ++ (v ∷ [])) | false ↦ inside es h vs v ]) (eq-eqb (length v) h.m e)

part-vector : (es : List Entry) (h : Head) (vs : List Vec) (v : Vec) → eqb (length v) h.m ≡ false → with_coordinate es h vs v ≡ inside es h vs v
part-vector es h vs v e = ap (λ t. elim t [ true ↦ with_vector es h (vs ++ (v ∷ [])) | false ↦ inside es h vs v ]) e

and_false : (s t : Bool) → t ≡ false → (s && t) ≡ false
and_false true t e = e
and_false false t e = refl

-- the coordinates of u that follow those of v
rest_of_vector : (es : List Entry) (h : Head) (vs : List Vec) (u v : Vec) (x : ℤ) (xs : Vec) (i : ℕ) (words : List ℕ)
    → any (λ y. ltb most_size (nat_abs y)) (x ∷ xs) ≡ false → v ++ (x ∷ xs) ≡ u → length u ≡ h.m → lt_z (pos most_square) (N u) ≡ false
    → read_words (inside es h vs v) i (encoded_coordinates (x ∷ xs) ++ words) ≡ read_words (with_vector es h (vs ++ (u ∷ []))) (i + length (x ∷ xs)) words
rest_of_vector es h vs u v x [] i words near e full short =
    at-coordinate es h vs v u x i words (neither _ _ near).0 e (and_false (eqb (length u) h.m) _ short)
    ∙ ap₂ (λ s j. read_words s j words) (whole-vector es h vs u full) (omega arith)
rest_of_vector es h vs u v x (y ∷ xs) i words near e full short =
    let w = v ++ (x ∷ []) in
    let part : eqb (length w) h.m ≡ false = ne_eqb (length w) h.m (λ p. omega (arith, length-append v (x ∷ []), length-append v (x ∷ y ∷ xs), ap length e)) in
    let n = neither (ltb most_size (nat_abs x)) (any (λ y. ltb most_size (nat_abs y)) (y ∷ xs)) near in
    at-coordinate es h vs v w x i (encoded_coordinates (y ∷ xs) ++ words) n.0 refl (ap (λ t. t && lt_z (pos most_square) (N w)) part)
    ∙ ap (λ s. read_words s (suc i) (encoded_coordinates (y ∷ xs) ++ words)) (part-vector es h vs w part)
    ∙ rest_of_vector es h vs u w y xs (suc i) words n.1 (append_snoc v x (y ∷ xs) ∙ e) full short
    ∙ ap (λ j. read_words (with_vector es h (vs ++ (u ∷ []))) j words) (omega arith)

one-vector : (es : List Entry) (h : Head) (vs : List Vec) (u : Vec) (i : ℕ) (words : List ℕ) → 1 ≤ h.m → VectorFits h.m u
    → read_words (inside es h vs []) i (encoded_coordinates u ++ words) ≡ read_words (with_vector es h (vs ++ (u ∷ []))) (i + length u) words
one-vector es h vs [] i words one fits = absurd (let p = fits.full in omega arith)
one-vector es h vs (x ∷ xs) i words one fits =
    let p = neither (any (λ y. ltb most_size (nat_abs y)) (x ∷ xs)) (lt_z (pos most_square) (N (x ∷ xs))) fits.short in
    rest_of_vector es h vs (x ∷ xs) [] x xs i words p.0 refl fits.full p.1

encoded-append : (xs ys : List ℤ) (words : List ℕ) → encoded_coordinates (xs ++ ys) ++ words ≡ encoded_coordinates xs ++ (encoded_coordinates ys ++ words)
encoded-append xs ys words = simp (map-append, append_assoc)

-- the vectors that follow those of vs
rest_of_vectors : (es : List Entry) (h : Head) (vs : List Vec) (u : Vec) (us : List Vec) (i : ℕ) (words : List ℕ)
    → 1 ≤ h.m → All (VectorFits h.m) (u ∷ us) → length (vs ++ (u ∷ us)) ≡ h.d
    → read_words (inside es h vs []) i (encoded_coordinates (coordinates (u ∷ us)) ++ words) ≡ read_words (after es h (vs ++ (u ∷ us)) false) (i + length (coordinates (u ∷ us))) words
rest_of_vectors es h vs u [] i words one fits count =
    ap (read_words (inside es h vs []) i) (encoded-append u [] words)
    ∙ one-vector es h vs u i words one fits.0
    ∙ ap₂ (λ s j. read_words s j words) (ap (λ t. elim t [ true ↦ after es h (vs ++ (u ∷ [])) false | false ↦ inside es h (vs ++ (u ∷ [])) [] ]) (eq-eqb _ _ count))
    (ap (λ l. i + length l) (sym (append-nil u)))
rest_of_vectors es h vs u (y ∷ us) i words one fits count =
    let more = encoded_coordinates (coordinates (y ∷ us)) ++ words in
    let part : eqb (length (vs ++ (u ∷ []))) h.d ≡ false = ne_eqb (length (vs ++ (u ∷ []))) h.d (λ p. omega (arith, length-append vs (u ∷ []), length-append vs (u ∷ y ∷ us))) in
    ap (read_words (inside es h vs []) i) (encoded-append u (coordinates (y ∷ us)) words)
    ∙ one-vector es h vs u i more one fits.0
    ∙ ap (λ s. read_words s (i + length u) more) (ap (λ t. elim t [ true ↦ after es h (vs ++ (u ∷ [])) false | false ↦ inside es h (vs ++ (u ∷ [])) [] ]) part)
    ∙ rest_of_vectors es h (vs ++ (u ∷ [])) y us (i + length u) words one fits.1 (ap length (append_snoc vs u (y ∷ us)) ∙ count)
    ∙ ap₂ (λ l j. read_words (after es h l false) j words) (append_snoc vs u (y ∷ us)) (omega (arith, length-append u (coordinates (y ∷ us))))

pub all-vectors : (es : List Entry) (h : Head) (vs : List Vec) (i : ℕ) (words : List ℕ) → 1 ≤ h.d → 1 ≤ h.m → All (VectorFits h.m) vs → length vs ≡ h.d
    → read_words (inside es h [] []) i (encoded_coordinates (coordinates vs) ++ words) ≡ read_words (after es h vs false) (i + length (coordinates vs)) words
all-vectors es h [] i words one full fits count = absurd (omega arith)
all-vectors es h (u ∷ us) i words one full fits count = rest_of_vectors es h [] u us i words full fits count

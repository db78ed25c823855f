-- The three tables after a pass are the rows that the definition gives.
use Rattle.std.specs.Prelude.{◌≡◌, refl, List, [], ◌∷◌, ◌++◌, map, ℕ, suc, ◌<◌, ℤ, length, get_or, take, drop, set}
use Rattle.std.proofs.Common.{sym, ap, ap₂, ◌∙◌, append_assoc, arith, length-take-le}
use Rattle.std.proofs.lemmas.List.{length-map}
use Rattle.std.proofs.Math.Seq.{split_at, take-append_seam, get_or-append_seam, set-append_seam}
use Rattle.integers.specs.AllLaws.{map-append}
use Rattle.lattices.specs.Vector.{◌⊕◌, ◌⊙◌, ◌⊖◌, comb}
use Rattle.lattices.specs.Greedy.{Row, less, credited}
use Rattle.row_operations.specs.Rows.{rows_of, gained, rows_of-parts, credited-columns}
use Rattle.gram_matrix.specs.Gram.{losing}
use Rattle.greedy_steps.specs.State.{blank}

pub rows_of-append : (bs us vs cs ws xs : List (List ℤ)) → length us ≡ length bs → length vs ≡ length bs → rows_of (bs ++ cs) (us ++ ws) (vs ++ xs) ≡ rows_of bs us vs ++ rows_of cs ws xs
unfolding rows_of
rows_of-append [] [] [] cs ws xs e f = refl
rows_of-append [] (u ∷ us) vs cs ws xs e f = absurd (omega arith)
rows_of-append [] [] (v ∷ vs) cs ws xs e f = absurd (omega arith)
rows_of-append (b ∷ bs) [] vs cs ws xs e f = absurd (omega arith)
rows_of-append (b ∷ bs) (u ∷ us) [] cs ws xs e f = absurd (omega arith)
rows_of-append (b ∷ bs) (u ∷ us) (v ∷ vs) cs ws xs e f = ap (λ l. record { vector = b; u = u; v = v } ∷ l) (rows_of-append bs us vs cs ws xs (omega arith) (omega arith))

gained-append : (x v : List ℤ) (t s : List (List ℤ)) → length x ≡ length t → gained x v (t ++ s) ≡ gained x v t ++ s
unfolding gained
gained-append [] v [] s e = refl
gained-append [] v (r ∷ t) s e = absurd (omega arith)
gained-append (x ∷ xs) v [] s e = absurd (omega arith)
gained-append (x ∷ xs) v (r ∷ t) s e = ap (λ l. (r ⊕ x ⊙ v) ∷ l) (gained-append xs v t s (omega arith))

pub length-gained : (x v : List ℤ) (t : List (List ℤ)) → length (gained x v t) ≡ length t
unfolding gained
length-gained [] v t = refl
length-gained (x ∷ xs) v [] = refl
length-gained (x ∷ xs) v (r ∷ t) = ap suc (length-gained xs v t)

-- ---- a table with row k apart
module _ (f : Row → List ℤ) (front : List Row) (r : Row) (rest : List Row) where
  abbrev whole : List (List ℤ)
  whole = map f (front ++ (r ∷ rest))

  whole_is : whole ≡ map f front ++ (f r ∷ map f rest)
  whole_is = map-append f front (r ∷ rest)

  taken : take (length front) whole ≡ map f front
  taken = ap₂ take (sym (length-map front f)) whole_is ∙ take-append_seam (map f front) (f r ∷ map f rest)

  at_seam : get_or whole (length front) [] ≡ f r
  at_seam = ap₂ (λ n l. get_or l n []) (sym (length-map front f)) whole_is ∙ get_or-append_seam (map f front) (f r) (map f rest) []

  set_seam : (y : List ℤ) → set whole (length front) y ≡ map f front ++ (y ∷ map f rest)
  set_seam y = ap₂ (λ n l. set l n y) (sym (length-map front f)) whole_is ∙ set-append_seam (map f front) (f r) (map f rest) y

  -- what row operations do to it
  lost : (x : List ℤ) → set whole (length front) (get_or whole (length front) [] ⊖ comb x (take (length front) whole)) ≡ map f front ++ ((f r ⊖ comb x (map f front)) ∷ map f rest)
  lost x = set_seam (get_or whole (length front) [] ⊖ comb x (take (length front) whole)) ∙ ap₂ (λ a t. map f front ++ ((a ⊖ comb x t) ∷ map f rest)) at_seam taken

  gain : (x : List ℤ) → length x ≡ length front → gained x (get_or whole (length front) []) whole ≡ gained x (f r) (map f front) ++ (f r ∷ map f rest)
  gain x e = ap₂ (gained x) at_seam whole_is ∙ gained-append x (f r) (map f front) (f r ∷ map f rest) (e ∙ sym (length-map front f))

pass_seam : (front : List Row) (r : Row) (rest : List Row) (x : List ℤ) → length x ≡ length front
    → rows_of (map (λ s. s.vector) front ++ ((r.vector ⊖ comb x (map (λ s. s.vector) front)) ∷ map (λ s. s.vector) rest))
    (map (λ s. s.u) front ++ ((r.u ⊖ comb x (map (λ s. s.u) front)) ∷ map (λ s. s.u) rest)) (gained x r.v (map (λ s. s.v) front) ++ (r.v ∷ map (λ s. s.v) rest))
    ≡ (credited x r.v front ++ (less x front r ∷ [])) ++ rest
unfolding rows_of
pass_seam front r rest x e =
    rows_of-append (map (λ s. s.vector) front) (map (λ s. s.u) front) (gained x r.v (map (λ s. s.v) front))
    ((r.vector ⊖ comb x (map (λ s. s.vector) front)) ∷ map (λ s. s.vector) rest) ((r.u ⊖ comb x (map (λ s. s.u) front)) ∷ map (λ s. s.u) rest) (r.v ∷ map (λ s. s.v) rest)
    (length-map front (λ s. s.u) ∙ sym (length-map front (λ s. s.vector)))
    (length-gained x r.v (map (λ s. s.v) front) ∙ length-map front (λ s. s.v) ∙ sym (length-map front (λ s. s.vector)))
    ∙ ap₂ (λ a l. a ++ (less x front r ∷ l)) (sym (credited-columns x r.v front)) (rows_of-parts rest)
    ∙ sym (append_assoc (credited x r.v front) (less x front r ∷ []) rest)

-- the rows before row k gain multiples of row k
abbrev pub gaining : List ℤ → List (List ℤ) → ℕ → List (List ℤ)
gaining x t k = gained x (get_or t k []) t

module _ (k : ℕ) (rows : List Row) (h : k < length rows) (x : List ℤ) (e : length x ≡ k) where
  abbrev front : List Row
  front = take k rows

  abbrev row : Row
  row = get_or rows k blank

  abbrev rest : List Row
  rest = drop (suc k) rows

  count : length front ≡ k
  count = length-take-le k rows (omega arith)

  losing-is : (f : Row → List ℤ) → losing x (map f rows) k ≡ map f front ++ ((f row ⊖ comb x (map f front)) ∷ map f rest)
  losing-is f = ap₂ (λ l n. losing x (map f l) n) (split_at rows k blank h) (sym count) ∙ lost f front row rest x

  gaining-is : (f : Row → List ℤ) → gaining x (map f rows) k ≡ gained x (f row) (map f front) ++ (f row ∷ map f rest)
  gaining-is f = ap₂ (λ l n. gaining x (map f l) n) (split_at rows k blank h) (sym count) ∙ gain f front row rest x (e ∙ sym count)

  -- the rows after a pass for row k
  pub pass-rows : rows_of (losing x (map (λ s. s.vector) rows) k) (losing x (map (λ s. s.u) rows) k) (gaining x (map (λ s. s.v) rows) k)
      ≡ (credited x (get_or rows k blank).v (take k rows) ++ (less x (take k rows) (get_or rows k blank) ∷ [])) ++ drop (suc k) rows
  pass-rows = ap₂ (λ b u. rows_of b u (gaining x (map (λ s. s.v) rows) k)) (losing-is (λ s. s.vector)) (losing-is (λ s. s.u))
      ∙ ap (rows_of _ _) (gaining-is (λ s. s.v)) ∙ pass_seam front row rest x (e ∙ sym count)

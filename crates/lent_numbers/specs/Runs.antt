-- Numbers stored one run after another are stored as one run.
use Rattle.std.specs.Prelude.{◌≡◌, refl, cond, List, [], ◌∷◌, ◌++◌, ℕ, ◌+◌, ◌≤◌, ◌<◌, ℤ, length, drop, get_or}
use Rattle.std.proofs.Common.{sym, ap, ◌∙◌, arith, le-leb}
use Rattle.std.proofs.lemmas.Bool.{lt-leb}
use Rattle.std.proofs.lemmas.List.Edits.{sets, sets-eq}
use Rattle.integers.specs.Runs.{sets-append}
use Rattle.row_operations.specs.Rows.{four}
use Rattle.lent_numbers.specs.Layout.{flat, head, written}

-- the second run begins where the first ends
pub sets_then : (l : List ℤ) (i j : ℕ) (vs rest : List ℤ) {x : List ℤ} → x ≡ sets l i vs → j ≡ i + length vs → sets x j rest ≡ sets l i (vs ++ rest)
sets_then l i j vs rest e h = ap (λ y. sets y j rest) e ∙ sets-append l i j vs rest h

-- a lent run that is too short stays
pub written-short : (l : List ℤ) (n : ℕ) (vs : List ℤ) → length l < n → l ≡ written l n vs
written-short l n vs h = sym (ap (λ b. cond b (vs ++ drop n l) l) (lt-leb n (length l) h))

-- the others hold what is written, then what they held
pub written-long : (l : List ℤ) (n : ℕ) (vs : List ℤ) → length vs ≡ n → n ≤ length l → sets l 0 vs ≡ written l n vs
written-long l n vs e h =
    let all : 0 + length vs ≡ n = omega arith in
    sets-eq vs l 0 (omega arith) ∙ ap (λ k. vs ++ drop k l) all ∙ sym (ap (λ b. cond b (vs ++ drop n l) l) (le-leb n (length l) h))

-- an answer of three numbers
pub head-stored : (l : List ℤ) (refusal place : ℕ) (number : ℤ) {x : List ℤ} → 3 ≤ length l → x ≡ sets l 0 (head refusal place number) → x ≡ written l 3 (head refusal place number)
head-stored l refusal place number h e = e ∙ written-long l 3 (head refusal place number) refl h

-- four rows stored one after another
pub rows-stored : (w : ℕ) (l : List ℤ) (i j k n : ℕ) (t : List (List ℤ)) {a b c d : List ℤ} → length t ≡ 4
    → length (get_or t 0 []) ≡ w → length (get_or t 1 []) ≡ w → length (get_or t 2 []) ≡ w → j ≡ i + w → k ≡ j + w → n ≡ k + w
    → a ≡ sets l i (get_or t 0 []) → b ≡ sets a j (get_or t 1 []) → c ≡ sets b k (get_or t 2 []) → d ≡ sets c n (get_or t 3 [])
    → d ≡ sets l i (flat t)
rows-stored w l i j k n t {a} {b} {c} {d} e p q r x y z f g h m =
    let whole : get_or t 0 [] ∷ get_or t 1 [] ∷ get_or t 2 [] ∷ get_or t 3 [] ∷ [] ≡ t = four t [] e in
    sets_then c n (n + length (get_or t 3 [])) (get_or t 3 []) [] m refl
    ∙ sets_then b k n (get_or t 2 []) (get_or t 3 [] ++ []) h (omega arith)
    ∙ sets_then a j k (get_or t 1 []) (get_or t 2 [] ++ (get_or t 3 [] ++ [])) g (omega arith)
    ∙ sets_then l i j (get_or t 0 []) (get_or t 1 [] ++ (get_or t 2 [] ++ (get_or t 3 [] ++ []))) f (omega arith)
    ∙ ap (λ rows. sets l i (flat rows)) whole

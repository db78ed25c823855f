-- Laws of lists and tables filled up with zeros: entries and inner products stay, and the used places give back what was filled up.
use Rattle.std.specs.Prelude.{◌≡◌, refl, List, [], ◌∷◌, map, ℕ, zero, suc, ◌≤◌, ℤ, pos, length, take, drop}
use Rattle.std.proofs.Common.{ap, arith}
use Rattle.lattices.specs.Vector.{Vec, nth}
use Rattle.lattices.specs.Laws.Vector.{◌≈◌, nth-≈}
use Rattle.lattices.specs.Refusal.{vectors_of}
use Rattle.lattices.specs.Answer.{padded, table}

pub length-padded : (n : ℕ) (l : List ℤ) → length (padded n l) ≡ n
length-padded zero l = refl
length-padded (suc n) [] = ap suc (length-padded n [])
length-padded (suc n) (x ∷ l) = ap suc (length-padded n l)

nth-zeros : (n i : ℕ) → nth (padded n []) i ≡ pos 0
nth-zeros zero i = refl
nth-zeros (suc n) zero = refl
nth-zeros (suc n) (suc i) = nth-zeros n i

pub nth-padded : (n : ℕ) (v : Vec) → length v ≤ n → (i : ℕ) → nth (padded n v) i ≡ nth v i
nth-padded n [] h i = nth-zeros n i
nth-padded zero (x ∷ v) h i = absurd (omega arith)
nth-padded (suc n) (x ∷ v) h zero = refl
nth-padded (suc n) (x ∷ v) h (suc i) = nth-padded n v (omega arith) i

pub padded-≈ : (n : ℕ) (v : Vec) → length v ≤ n → padded n v ≈ v
padded-≈ n v h = nth-≈ (padded n v) v (nth-padded n v h)

pub take-padded : (m n : ℕ) (v : List ℤ) → length v ≡ m → m ≤ n → take m (padded n v) ≡ v
take-padded zero n [] e h = refl
take-padded zero n (x ∷ v) e h = absurd (omega arith)
take-padded (suc m) zero v e h = absurd (omega arith)
take-padded (suc m) (suc n) [] e h = absurd (omega arith)
take-padded (suc m) (suc n) (x ∷ v) e h = ap (λ l. x ∷ l) (take-padded m n v (omega arith) (omega arith))

pub padded-same : (n : ℕ) (v : List ℤ) → length v ≡ n → padded n v ≡ v
padded-same zero [] e = refl
padded-same zero (x ∷ v) e = absurd (omega arith)
padded-same (suc n) [] e = absurd (omega arith)
padded-same (suc n) (x ∷ v) e = ap (λ l. x ∷ l) (padded-same n v (omega arith))

-- the rows in use
pub table-rows : (h w : ℕ) (rows : List Vec) → length rows ≤ h → take (length rows) (table h w rows) ≡ map (padded w) rows
table-rows h w [] k = refl
table-rows zero w (r ∷ rows) k = absurd (omega arith)
table-rows (suc h) w (r ∷ rows) k = ap (λ l. padded w r ∷ l) (table-rows h w rows (omega arith))

pub length-vectors_of : (d m : ℕ) (l : List ℤ) → length (vectors_of d m l) ≡ d
length-vectors_of zero m l = refl
length-vectors_of (suc d) m l = ap suc (length-vectors_of d m (drop m l))

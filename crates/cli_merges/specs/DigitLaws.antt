-- Digits tested one after another, and the bytes that they write.
use Rattle.std.specs.Prelude.{◌≡◌, refl, true, List, [], ◌∷◌, ℕ, zero, suc, ◌+◌, ◌*◌, ◌/◌, ◌≤◌, ◌<◌, leb, length, get_or, set, take}
use Rattle.std.proofs.Common.{sym, ap, ap₂, ◌∙◌, arith, take_all, leb-true}
use Rattle.std.proofs.lemmas.List.Edits.{sets}
use Rattle.integers.specs.Tests.{both}
use Rattle.text_output.specs.Puts.{sets_more}
use Rattle.cli_merges.specs.Digits.{between, byte_of, bytes_in}

pub bounds : (low high b : ℕ) → between low high b ≡ true → (low ≤ b) × (b ≤ high)
bounds low high b e = let h = both (leb low b) (leb b high) e in (leb-true low b h.0, leb-true b high h.1)

-- ---- a test of every element

-- ---- the bytes

pub length-bytes : (s : List ℕ) → length (bytes_in s) ≡ length s / 2
length-bytes [] = refl
length-bytes (high ∷ []) = refl
length-bytes (high ∷ low ∷ s) = omega (arith, length-bytes s)

byte_at : (s : List ℕ) (i : ℕ) → i < length (bytes_in s) → get_or (bytes_in s) i 0 ≡ byte_of (get_or s (2 * i) 0) (get_or s (2 * i + 1) 0)
byte_at [] i h = absurd (omega (arith, h))
byte_at (high ∷ []) i h = absurd (omega (arith, h))
byte_at (high ∷ low ∷ s) zero h = refl
byte_at (high ∷ low ∷ s) (suc i) h =
    let first : suc (suc (2 * i)) ≡ 2 * suc i = omega arith in
    let second : suc (suc (2 * i + 1)) ≡ 2 * suc i + 1 = omega arith in
    byte_at s i (omega (arith, h)) ∙ ap₂ (λ j k. byte_of (get_or (high ∷ low ∷ s) j 0) (get_or (high ∷ low ∷ s) k 0)) first second

-- one byte more
pub bytes-more : (l s : List ℕ) (i : ℕ) {x : ℕ} → i < length s / 2 → x ≡ byte_of (get_or s (2 * i) 0) (get_or s (2 * i + 1) 0)
    → set (sets l 0 (take i (bytes_in s))) i x ≡ sets l 0 (take (i + 1) (bytes_in s))
bytes-more l s i h e =
    let text = bytes_in s in
    let here : i < length text = omega (arith, length-bytes s) in
    let same : i ≡ 0 + i = omega arith in
    ap₂ (λ k y. set (sets l 0 (take i text)) k y) same (e ∙ sym (byte_at s i here)) ∙ sets_more l 0 text i here

-- all of them
pub bytes-all : (l s : List ℕ) (i : ℕ) → length s / 2 ≤ i → sets l 0 (take i (bytes_in s)) ≡ sets l 0 (bytes_in s)
bytes-all l s i h = ap (sets l 0) (take_all i (bytes_in s) (omega (arith, length-bytes s)))

-- Decoding and encoding are inverse to each other, and so are taking bytes as words and writing words as bytes.
use Rattle.std.specs.Prelude.{◌≡◌, refl, Bool, true, false, List, [], ◌∷◌, ◌++◌, ◌≢◌, ℕ, suc, ◌+◌, ◌*◌, ◌/◌, ◌%◌, ◌^◌, ◌<◌, eqb, length, get_or}
use Rattle.std.proofs.Common.{ap, ap₂, ◌∙◌, arith, eqb-true}
use Rattle.std.proofs.lemmas.Bool.{eqb-false}
use Rattle.integers.specs.All.{All}
use Rattle.catalogue_rules.specs.Word.{Word, head, coordinate, see, end, draft, head_number, head_size, other, kind, load, head_of, head_size_of, word_of, decode, kind_of, load_of, encode, words_of, bytes_of}

-- ---- words

-- what holds of a word found by a test
by-test : (Q : Word → Type 0) (t : Bool) (a b : Word) → (t ≡ true → Q a) → (t ≡ false → Q b) → Q (elim t [ true ↦ a | false ↦ b ])
by-test Q true a b p q = p refl
by-test Q false a b p q = q refl

by_kind : (Q : Word → Type 0) (k l : ℕ)
    → (k ≡ 1 → Q (head_of l)) → (k ≡ 2 → Q (coordinate l)) → (k ≡ 3 → Q (see l)) → (k ≡ 4 → Q (end l)) → (k ≡ 5 → Q (draft l)) → (k ≡ 6 → Q (head_number l)) → (k ≡ 7 → Q (head_size_of l))
    → (k ≢ 1 → k ≢ 2 → k ≢ 3 → k ≢ 4 → k ≢ 5 → k ≢ 6 → k ≢ 7 → Q (other k l)) → Q (word_of k l)
by_kind Q k l p₁ p₂ p₃ p₄ p₅ p₆ p₇ q =
    by-test Q (eqb k 1) _ _ (λ e. p₁ (eqb-true k 1 e)) λ n₁.
    by-test Q (eqb k 2) _ _ (λ e. p₂ (eqb-true k 2 e)) λ n₂.
    by-test Q (eqb k 3) _ _ (λ e. p₃ (eqb-true k 3 e)) λ n₃.
    by-test Q (eqb k 4) _ _ (λ e. p₄ (eqb-true k 4 e)) λ n₄.
    by-test Q (eqb k 5) _ _ (λ e. p₅ (eqb-true k 5 e)) λ n₅.
    by-test Q (eqb k 6) _ _ (λ e. p₆ (eqb-true k 6 e)) λ n₆.
    by-test Q (eqb k 7) _ _ (λ e. p₇ (eqb-true k 7 e)) λ n₇.
    q (eqb-false k 1 n₁) (eqb-false k 2 n₂) (eqb-false k 3 n₃) (eqb-false k 4 n₄) (eqb-false k 5 n₅) (eqb-false k 6 n₆) (eqb-false k 7 n₇)

head-load : (l : ℕ) → load_of (head_of l) ≡ l
head-load l = omega arith

size-load : (l : ℕ) → load_of (head_size_of l) ≡ l
size-load l = omega arith

pub encode-decode : (w : ℕ) → encode (decode w) ≡ w
unfolding decode encode
encode-decode w =
    by_kind (λ x. kind_of x * 2 ^ 28 + load_of x ≡ w) (kind w) (load w) (λ e. omega (arith, head-load (load w))) (λ e. omega arith) (λ e. omega arith) (λ e. omega arith) (λ e. omega arith)
    (λ e. omega arith) (λ e. omega (arith, size-load (load w))) (λ n₁ n₂ n₃ n₄ n₅ n₆ n₇. omega arith)

-- the loads that a word has room for
abbrev pub InRange : Word → Type 0
InRange (head number d m) = (number < 2 ^ 20) × (d < 16) × (m < 16)
InRange (coordinate l) = l < 2 ^ 28
InRange (see number) = number < 2 ^ 28
InRange (end count) = count < 2 ^ 28
InRange (draft l) = l < 2 ^ 28
InRange (head_number number) = number < 2 ^ 28
InRange (head_size high d m) = (high < 2 ^ 20) × (d < 16) × (m < 16)
InRange (other k l) = (k ≢ 1) × (k ≢ 2) × (k ≢ 3) × (k ≢ 4) × (k ≢ 5) × (k ≢ 6) × (k ≢ 7) × (l < 2 ^ 28)

pub decode_range : (w : ℕ) → InRange (decode w)
unfolding decode
decode_range w =
    by_kind InRange (kind w) (load w) (λ e. omega arith) (λ e. omega arith) (λ e. omega arith) (λ e. omega arith) (λ e. omega arith)
    (λ e. omega arith) (λ e. omega arith) (λ n₁ n₂ n₃ n₄ n₅ n₆ n₇. (n₁, n₂, n₃, n₄, n₅, n₆, n₇, omega arith))

load_range : (w : Word) → InRange w → load_of w < 2 ^ 28
load_range (head number d m) h = omega arith
load_range (coordinate l) h = h
load_range (see number) h = h
load_range (end count) h = h
load_range (draft l) h = h
load_range (head_number number) h = h
load_range (head_size high d m) h = omega arith
load_range (other k l) h = h.7

back : (w : Word) → InRange w → word_of (kind_of w) (load_of w) ≡ w
back (head number d m) h =
    let l = number * 256 + d * 16 + m in
    let p : (l / 256 ≡ number) × (l / 16 % 16 ≡ d) × (l % 16 ≡ m) = omega arith in
    rw (p.0, p.1, p.2)
back (coordinate l) h = refl
back (see number) h = refl
back (end count) h = refl
back (draft l) h = refl
back (head_number number) h = refl
back (head_size high d m) h =
    let l = high * 256 + d * 16 + m in
    let p : (l / 256 ≡ high) × (l / 16 % 16 ≡ d) × (l % 16 ≡ m) = omega arith in
    rw (p.0, p.1, p.2)
back (other k l) h =
    by_kind (λ w. w ≡ other k l) k l (λ e. absurd (h.0 e)) (λ e. absurd (h.1 e)) (λ e. absurd (h.2 e)) (λ e. absurd (h.3 e)) (λ e. absurd (h.4 e))
    (λ e. absurd (h.5 e)) (λ e. absurd (h.6 e)) (λ n₁ n₂ n₃ n₄ n₅ n₆ n₇. refl)

kind-back : (k l : ℕ) → l < 2 ^ 28 → kind (k * 2 ^ 28 + l) ≡ k
kind-back k l h = omega arith

load-back : (k l : ℕ) → l < 2 ^ 28 → load (k * 2 ^ 28 + l) ≡ l
load-back k l h = omega arith

pub kind-encode : (w : Word) → InRange w → kind (encode w) ≡ kind_of w
unfolding encode
kind-encode w h = kind-back (kind_of w) (load_of w) (load_range w h)

pub decode-encode : (w : Word) → InRange w → decode (encode w) ≡ w
unfolding decode encode
decode-encode w h = ap₂ word_of (kind-back (kind_of w) (load_of w) (load_range w h)) (load-back (kind_of w) (load_of w) (load_range w h)) ∙ back w h

-- ---- bytes

word_bytes : (a b c d : ℕ) → a < 256 → b < 256 → c < 256 → d < 256
    → let w = a + b * 256 + c * 65536 + d * 16777216 in (w % 256 ≡ a) × (w / 256 % 256 ≡ b) × (w / 65536 % 256 ≡ c) × (w / 16777216 % 256 ≡ d)
word_bytes a b c d ha hb hc hd = (omega arith, omega arith, omega arith, omega arith)

pub bytes-words : (bytes : List ℕ) → ((i : ℕ) → get_or bytes i 0 < 256) → length bytes % 4 ≡ 0 → bytes_of (words_of bytes) ≡ bytes
bytes-words [] h e = refl
bytes-words (a ∷ []) h e = absurd (omega arith)
bytes-words (a ∷ b ∷ []) h e = absurd (omega arith)
bytes-words (a ∷ b ∷ c ∷ []) h e = absurd (omega arith)
bytes-words (a ∷ b ∷ c ∷ d ∷ bytes) h e =
    let p = word_bytes a b c d (h 0) (h 1) (h 2) (h 3) in
    rw (p.0, p.1, p.2, p.3, bytes-words bytes (λ i. h (suc (suc (suc (suc i))))) (omega arith))

digits : (w a q b r c t : ℕ) → a + q * 256 ≡ w → b + r * 256 ≡ q → c + t * 256 ≡ r → a + b * 256 + c * 65536 + t * 16777216 ≡ w
digits w a q b r c t e f g = omega arith

split : (n : ℕ) → n % 256 + n / 256 * 256 ≡ n
split n = omega arith

bytes_word : (w : ℕ) → w < 2 ^ 32 → w % 256 + w / 256 % 256 * 256 + w / 65536 % 256 * 65536 + w / 16777216 % 256 * 16777216 ≡ w
bytes_word w h =
    let q = w / 256 in
    let r = w / 65536 in
    let p : r ≡ q / 256 = omega arith in
    let t : w / 16777216 % 256 ≡ r / 256 = omega arith in
    digits w (w % 256) q (q % 256) r (r % 256) (w / 16777216 % 256) (split w) (ap (λ x. q % 256 + x * 256) p ∙ split q) (ap (λ x. r % 256 + x * 256) t ∙ split r)

pub words-bytes : (words : List ℕ) → All (λ w. w < 2 ^ 32) words → words_of (bytes_of words) ≡ words
words-bytes [] h = refl
words-bytes (w ∷ words) h = ap₂ ◌∷◌ (bytes_word w h.0) (words-bytes words h.1)

pub length-bytes : (words : List ℕ) → length (bytes_of words) ≡ length words * 4
length-bytes [] = refl
length-bytes (w ∷ words) = omega (arith, length-bytes words)

pub length-words : (bytes : List ℕ) → length (words_of bytes) ≡ length bytes / 4
length-words [] = refl
length-words (a ∷ []) = refl
length-words (a ∷ b ∷ []) = refl
length-words (a ∷ b ∷ c ∷ []) = refl
length-words (a ∷ b ∷ c ∷ d ∷ bytes) = omega (arith, length-words bytes)

pub bytes-append : (ws us : List ℕ) → bytes_of (ws ++ us) ≡ bytes_of ws ++ bytes_of us
bytes-append [] us = refl
bytes-append (w ∷ ws) us = ap (λ l. w % 256 ∷ w / 256 % 256 ∷ w / 65536 % 256 ∷ w / 16777216 % 256 ∷ l) (bytes-append ws us)

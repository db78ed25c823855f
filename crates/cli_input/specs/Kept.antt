-- What is kept of an input that is too long for a catalogue, and that it is refused as the whole is.
use Rattle.std.specs.Prelude.{◌≡◌, cond, List, ℕ, ◌+◌, ◌%◌, ◌≤◌, ◌<◌, ltb, length, take}
use Rattle.std.proofs.Common.{sym, ap, ◌∙◌, arith, take_all, length-take-le, lt-ltb, le-ltb}
use Rattle.std.proofs.Math.Decide.{dec_lt}
use Rattle.catalogue_rules.specs.Catalogue.{new, most_bytes}
use Rattle.catalogue_rules.specs.Read.{read}
use Rattle.catalogue_rules.proofs.Laws.TooLong.{long-alike}

-- a buffer for the largest catalogue of both forms, and so much more that any length modulo 4 can be kept over the limit
abbrev pub most_kept : ℕ
most_kept = most_bytes new + 7

-- of so many bytes, and so many more behind them: all that came, or over the limit so many that they are as many modulo 4
abbrev pub kept_length : (got more : ℕ) → ℕ
kept_length got more = cond (ltb got most_kept) got (most_bytes new + 4 + (got + more) % 4)

pub kept-short : (got more : ℕ) → got < most_kept → got ≡ kept_length got more
kept-short got more h = sym (ap (λ b. cond b got (most_bytes new + 4 + (got + more) % 4)) (lt-ltb _ _ h))

pub kept-long : (got more : ℕ) → most_kept ≤ got → most_bytes new + 4 + (got + more) % 4 ≡ kept_length got more
kept-long got more h = sym (ap (λ b. cond b got (most_bytes new + 4 + (got + more) % 4)) (le-ltb _ _ h))

pub kept_small : (got more : ℕ) → got ≤ most_kept → kept_length got more ≤ most_kept
kept_small got more h = go (dec_lt got most_kept)
  where
    go : Dec (got < most_kept) → kept_length got more ≤ most_kept
    go (yes p) = omega (arith, kept-short got more p)
    go (no p) = omega (arith, kept-long got more (omega arith))

over : (k : ℕ) → k < 4 → (most_bytes new + 4 + k) % 4 ≡ k
over k q = omega arith

-- the first bytes of a file, got of which came into the buffer: all of them, or the buffer is full and more came behind them
pub kept-refused : (file : List ℕ) (got more : ℕ) → got ≤ most_kept → length file % 4 ≡ (got + more) % 4 → (got < most_kept → length file ≡ got) → (got ≡ most_kept → most_kept ≤ length file)
    → read (take (kept_length got more) file) ≡ read file
kept-refused file got more h e all long = go (dec_lt got most_kept)
  where
    go : Dec (got < most_kept) → read (take (kept_length got more) file) ≡ read file
    go (yes p) = ap (λ n. read (take n file)) (sym (kept-short got more p)) ∙ ap read (take_all got file (omega (arith, all p)))
    go (no p) =
        let full : got ≡ most_kept = omega (arith, h) in
        let n = most_bytes new + 4 + (got + more) % 4 in
        let some : length (take n file) ≡ n = length-take-le n file (omega (arith, long full)) in
        ap (λ n. read (take n file)) (sym (kept-long got more (omega arith)))
        ∙ long-alike (take n file) file (omega (arith, some)) (omega (arith, long full)) (ap (λ k. k % 4) some ∙ over ((got + more) % 4) (omega arith) ∙ sym e)

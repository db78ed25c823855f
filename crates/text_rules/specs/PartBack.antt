-- Numbers written with a blank before each, up to a token that is none, are read back as the numbers of a part.
use Rattle.std.specs.Prelude.{◌≡◌, refl, true, false, cond, List, [], ◌∷◌, ◌++◌, map, ℕ, zero, suc, ◌+◌, ◌≤◌, ℤ, length, drop}
use Rattle.std.proofs.Common.{sym, ap, ◌∙◌, append_assoc, arith, length-append}
use Rattle.std.proofs.Math.Seq.{drop-append_seam}
use Rattle.integers.specs.All.{All}
use Rattle.integers.specs.Decimal.{signed}
use Rattle.text_parts.specs.declared.Kind.{Kind}
use Rattle.text_parts.specs.declared.Kind.TheVariants.{TooMany}
use Rattle.text_parts.specs.Numbers.{wrong, read}
use Rattle.text_parts.specs.Tokens.{ends, token_at}
use Rattle.text_parts.specs.Parts.{is_number, Taken, stopped, more, taken_at}
use Rattle.text_layout.specs.Fields.{after}
use Rattle.text_rules.specs.NumberBack.{Reads, Written, signed_reads, blank_reads}

-- ---- fields with a blank before each, and no newline behind them

abbrev pub spaced : List (List ℕ) → List ℕ
spaced [] = []
spaced (field ∷ fields) = 32 ∷ (field ++ spaced fields)

pub after-spaced : (fields : List (List ℕ)) → after fields ≡ spaced fields ++ (10 ∷ [])
after-spaced [] = refl
after-spaced (field ∷ fields) = ap (λ l. 32 ∷ (field ++ l)) (after-spaced fields) ∙ ap (λ l. 32 ∷ l) (sym (append_assoc field (spaced fields) (10 ∷ [])))

pub spaced-append : (fields more : List (List ℕ)) → spaced (fields ++ more) ≡ spaced fields ++ spaced more
spaced-append [] more = refl
spaced-append (field ∷ fields) more = ap (λ l. 32 ∷ (field ++ l)) (spaced-append fields more) ∙ ap (λ l. 32 ∷ l) (sym (append_assoc field (spaced fields) (spaced more)))

-- ---- parts

-- a token that ends a part, of n bytes
pub record Stop (k : Kind) (n : ℕ) (rest : List ℕ) : Type 0 where
  pub ends : ends rest ≡ true
  pub token : token_at rest ≡ wrong k n
  pub last : is_number k ≡ false

part-stops : (room : ℕ) {k : Kind} {n : ℕ} {rest : List ℕ} → Stop k n rest → taken_at room rest ≡ stopped n k
unfolding taken_at
part-stops zero {k} {n} t =
    ap (λ t. cond (is_number t.kind) (stopped 0 TooMany) (stopped t.length t.kind)) t.token
    ∙ ap (λ b. cond b (stopped 0 TooMany) (stopped n k)) t.last
part-stops (suc room) {k} {n} {rest} t =
    ap (λ t. cond (is_number t.kind) (more t (taken_at room (drop t.length rest))) (stopped t.length t.kind)) t.token
    ∙ ap (λ b. cond b (more (wrong k n) (taken_at room (drop n rest))) (stopped n k)) t.last

pub part-goes : (room : ℕ) {s : List ℕ} {z : ℤ} (rest : List ℕ) → Reads s z → ends rest ≡ true
    → taken_at (suc room) (s ++ rest) ≡ more (read (length s) z) (taken_at room rest)
unfolding taken_at
part-goes room {s} {z} rest r e =
    ap (λ t. cond (is_number t.kind) (more t (taken_at room (drop t.length (s ++ rest)))) (stopped t.length t.kind)) (r.token rest e)
    ∙ ap (λ l. more (read (length s) z) (taken_at room l)) (drop-append_seam s rest)

abbrev pub taken : List ℤ → ℕ → Kind → Taken
taken zs n k = record { numbers = zs; length = n; stop = k }

ends-spaced : (fields : List (List ℕ)) (rest : List ℕ) → ends rest ≡ true → ends (spaced fields ++ rest) ≡ true
ends-spaced [] rest e = e
ends-spaced (field ∷ fields) rest e = refl

pub part-back : (room : ℕ) (zs : List ℤ) {k : Kind} {n : ℕ} {rest : List ℕ} → length zs ≤ room → All Written zs → Stop k n rest
    → taken_at room (spaced (map signed zs) ++ rest) ≡ taken zs (length (spaced (map signed zs)) + n) k
part-back room [] {k} h p t = part-stops room t ∙ ap (λ n. stopped n k) (omega arith)
part-back zero (z ∷ zs) h p t = absurd (omega arith)
part-back (suc room) (z ∷ zs) {k} {n} {rest} h p t =
    let field : List ℕ = 32 ∷ signed z in
    let fields = spaced (map signed zs) in
    let long : length field + (length fields + n) ≡ length (field ++ fields) + n = omega (arith, length-append field fields) in
    ap (taken_at (suc room)) (append_assoc field fields rest)
    ∙ part-goes room (fields ++ rest) (blank_reads (signed z) z (signed_reads z p.0)) (ends-spaced (map signed zs) rest t.ends)
    ∙ ap (more (read (length field) z)) (part-back room zs (omega arith) p.1 t)
    ∙ ap (λ m. taken (z ∷ zs) m k) long

-- A part is read token by token: what is taken so far, and what the rest of the bytes will give.
use Rattle.std.specs.Prelude.{◌≡◌, refl, Bool, true, false, List, ◌∷◌, ◌++◌, ℕ, zero, suc, ◌+◌, ◌-◌, ◌≤◌, ◌<◌, ℤ, pos, length, set, take, drop}
use Rattle.std.proofs.Common.{sym, ◌∙◌, arith, length-set, take-append-drop, drop-drop, drop-cons, drop-set-lt, take-suc-set}
use Rattle.std.proofs.Math.Path.{ap}
use Rattle.std.proofs.Math.Bool.{cond}
use Rattle.std.proofs.Math.Seq.{append_snoc}
use Rattle.text_parts.specs.declared.Kind.{Kind}
use Rattle.text_parts.specs.declared.Kind.TheVariants.{TooMany}
use Rattle.text_parts.specs.declared.Token.{Token}
use Rattle.text_parts.specs.declared.Part.{Part}
use Rattle.text_parts.specs.Tokens.{token_at}
use Rattle.text_parts.specs.Parts.{is_number, number_in, Taken, stopped, more, taken_at, part_of, filled}

-- the same part with n numbers and `at` bytes before it
abbrev further : ℕ → ℕ → Part → Part
further n at p = record { count = n + p.count; length = at + p.length; stop = p.stop }

pub record Reading (s : List ℕ) (before out : List ℤ) (n at : ℕ) : Type 0 where
  pub few : n ≤ length out
  pub within : at ≤ length s
  pub same : length out ≡ length before
  pub part : part_of (taken_at (length before) s) ≡ further n at (part_of (taken_at (length out - n) (drop at s)))
  pub lent : filled (taken_at (length before) s) before ≡ take n out ++ filled (taken_at (length out - n) (drop at s)) (drop n out)

same-part : {n m a b : ℕ} {k l : Kind} → n ≡ m → a ≡ b → k ≡ l → ◌≡◌ {A = Part} (record { count = n; length = a; stop = k }) (record { count = m; length = b; stop = l })
same-part e f g = λ i. record { count = e i; length = f i; stop = g i }

-- the token that comes next, and which case of the definition it decides
module _ {s : List ℕ} {before out : List ℤ} {n at : ℕ} (r : Reading s before out n at) (t : Token) (e : t ≡ token_at (drop at s)) where
  rest : {b : Bool} (room : ℕ) → length out - n ≡ suc room → is_number t.kind ≡ b
      → taken_at (length out - n) (drop at s) ≡ cond b (more t (taken_at room (drop (at + t.length) s))) (stopped t.length t.kind)
  unfolding taken_at
  rest {b} room h f =
      ap (λ k. taken_at k (drop at s)) h
      ∙ ap (λ t. cond (is_number t.kind) (more t (taken_at room (drop t.length (drop at s)))) (stopped t.length t.kind)) (sym e)
      ∙ ap (λ b. cond b (more t (taken_at room (drop t.length (drop at s)))) (stopped t.length t.kind)) f
      ∙ ap (λ l. cond b (more t (taken_at room l)) (stopped t.length t.kind)) (drop-drop t.length at s)

  last : {b : Bool} → length out - n ≡ 0 → is_number t.kind ≡ b
      → taken_at (length out - n) (drop at s) ≡ cond b (stopped 0 TooMany) (stopped t.length t.kind)
  unfolding taken_at
  last {b} h f =
      ap (λ k. taken_at k (drop at s)) h
      ∙ ap (λ t. cond (is_number t.kind) (stopped 0 TooMany) (stopped t.length t.kind)) (sym e)
      ∙ ap (λ b. cond b (stopped 0 TooMany) (stopped t.length t.kind)) f

  -- where the rest gives nothing more, the part ends
  ends_with : {l : ℕ} {k : Kind} → taken_at (length out - n) (drop at s) ≡ stopped l k
      → (part_of (taken_at (length before) s) ≡ record { count = n; length = at + l; stop = k }) × (filled (taken_at (length before) s) before ≡ out)
  ends_with f = (
    r.part ∙ ap (λ p. further n at (part_of p)) f ∙ same-part (omega arith) refl refl,
    r.lent ∙ ap (λ p. take n out ++ filled p (drop n out)) f ∙ take-append-drop n out,
  )

  stops : is_number t.kind ≡ false → taken_at (length out - n) (drop at s) ≡ stopped t.length t.kind
  stops f = go (length out - n) refl
    where
      go : (k : ℕ) → length out - n ≡ k → taken_at (length out - n) (drop at s) ≡ stopped t.length t.kind
      go zero h = last h f
      go (suc k) h = rest k h f

  pub reading-stops : is_number t.kind ≡ false
      → (part_of (taken_at (length before) s) ≡ record { count = n; length = at + t.length; stop = t.kind }) × (filled (taken_at (length before) s) before ≡ out)
  reading-stops f = ends_with (stops f)

  pub reading-full : n ≡ length out → is_number t.kind ≡ true
      → (part_of (taken_at (length before) s) ≡ record { count = n; length = at; stop = TooMany }) × (filled (taken_at (length before) s) before ≡ out)
  reading-full h f =
      let p = ends_with (last (omega arith) f) in
      (p.0 ∙ same-part refl (omega arith) refl, p.1)

  pub reading-goes : n < length out → at + t.length ≤ length s → is_number t.kind ≡ true → Reading s before (set out n (number_in t.kind)) (n + 1) (at + t.length)
  reading-goes h w f =
      let x = number_in t.kind in
      let q = taken_at (length out - (n + 1)) (drop (at + t.length) s) in
      let next : taken_at (length out - n) (drop at s) ≡ more t q = rest (length out - (n + 1)) (omega arith) f in
      let one : suc n ≡ n + 1 = omega arith in
      let long : length out ≡ length (set out n x) = sym (length-set out n x) in
      record {
        few = omega (arith, long);
        within = w;
        same = sym long ∙ r.same;
        part = r.part ∙ ap (λ p. further n at (part_of p)) next ∙ same-part (omega arith) (omega arith) refl
            ∙ ap (λ k. further (n + 1) (at + t.length) (part_of (taken_at (k - (n + 1)) (drop (at + t.length) s)))) long;
        lent = r.lent ∙ ap (λ p. take n out ++ filled p (drop n out)) next ∙ put q
            ∙ ap (λ m. take m (set out n x) ++ filled q (drop m (set out n x))) one
            ∙ ap (λ k. take (n + 1) (set out n x) ++ filled (taken_at (k - (n + 1)) (drop (at + t.length) s)) (drop (n + 1) (set out n x))) long;
      }
    where
      put : (q : Taken) → take n out ++ filled (more t q) (drop n out) ≡ take (suc n) (set out n (number_in t.kind)) ++ filled q (drop (suc n) (set out n (number_in t.kind)))
      put q =
          let x = number_in t.kind in
          let k = length q.numbers in
          ap (λ l. take n out ++ (x ∷ (q.numbers ++ drop (suc k) l))) (drop-cons out n (pos 0) h)
          ∙ sym (append_snoc (take n out) x (filled q (drop (suc n) out)))
          ∙ ap (λ l. l ++ filled q (drop (suc n) out)) (sym (take-suc-set out n x h))
          ∙ ap (λ l. take (suc n) (set out n x) ++ filled q l) (sym (drop-set-lt (suc n) out n x (omega arith)))

use Rattle.std.proofs.Common.{rules, arith, ◌≡◌, refl, false, sym, ap, ◌∙◌, subst, List, ℕ, ℤ, ◌+◌, ◌-◌, length, set, take, drop, length-drop, take_all, to_z, of_z, to_z-of_z}
use Rattle.std.specs.Int.{w64}
use Rattle.text_parts.specs.declared.Kind.{Kind}
use Rattle.text_parts.specs.declared.Kind.TheVariants.{Number, Semicolon, End, Unexpected, TooLarge, TooMany, NoCount}
use Rattle.text_parts.specs.declared.Token.{Token}
use Rattle.text_parts.specs.Tokens.{token_at}
use Rattle.text_parts.specs.Parts.{is_number, number_in}
use Rattle.text_parts.specs.PartLaws.{Reading, reading-stops, reading-full, reading-goes}
use Rattle.text_parts.proofs.read_part.Goals as goal

-- the token behind the part so far
token-is : (text : List ℕ) (at : ℕ) (t : Token) → t ≡ token_at (take (length text - at) (drop at text)) → t ≡ token_at (drop at text)
token-is text at t e = e ∙ ap token_at (take_all (length text - at) (drop at text) (omega (arith, length-drop at text)))

no_number : (k : Kind) → ((z : ℤ) → k ≡ Number z → ⊥) → is_number k ≡ false
no_number (Number z) h = absurd (h z refl)
no_number Semicolon h = refl
no_number End h = refl
no_number Unexpected h = refl
no_number TooLarge h = refl
no_number TooMany h = refl
no_number NoCount h = refl

pub returns-in_default : goal.returns-in_default
returns-in_default c =
    let r = c.loop-z.invariant in
    let e = reading-stops r c.read_token-t.result (token-is c.args.s.now c.loop-z.at _ c.read_token-t.ensures.value) (no_number c.read_token-t.result.kind c.in_default.not-Number) in record {
      value = sym e.0;
      out_after = sym e.1;
      count_in_bounds = r.few;
      length_in_bounds = omega (arith, r.within, c.read_token-t.ensures.length_in_bounds, length-drop c.loop-z.at c.args.s.now);
    }

pub returns-then-n-out : goal.returns-then-n-out
returns-then-n-out c =
    let r = c.loop-z.invariant in
    let e = reading-full r c.read_token-t.result (token-is c.args.s.now c.loop-z.at _ c.read_token-t.ensures.value) c.if-n-out.true (ap is_number c.in-Number.is) in record {
      value = sym e.0;
      out_after = sym e.1;
      count_in_bounds = r.few;
      length_in_bounds = r.within;
    }

pub loop-z-preserved : goal.loop-z-preserved
loop-z-preserved c =
    let t = c.read_token-t.result in
    let r = c.loop-z.invariant in
    let z : to_z w64 (of_z w64 c.in-Number.z) ≡ number_in t.kind = to_z-of_z {w = w64} (search rules) ∙ sym (ap number_in c.in-Number.is) in
    subst (λ z. Reading c.args.s.now c.args.out.now (set c.loop-z.out c.loop-z.n z) (c.loop-z.n + 1) (c.loop-z.at + t.length)) (sym z)
    (reading-goes r t (token-is c.args.s.now c.loop-z.at _ c.read_token-t.ensures.value) (omega (arith, r.few)) (omega (arith, r.within, c.read_token-t.ensures.length_in_bounds, length-drop c.loop-z.at c.args.s.now))
    (ap is_number c.in-Number.is))

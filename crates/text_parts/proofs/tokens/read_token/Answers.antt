-- Each way through the tests gives its case of the definition.
use Rattle.std.proofs.Common.{arith, ◌≡◌, sym, ap, ◌∙◌, Bool, cond, List, ℕ, ◌+◌, ◌-◌, ◌≤◌, length, get_or, take, drop, length-drop, take_all}
use Rattle.text_parts.specs.declared.Token.{Token}
use Rattle.text_parts.specs.declared.Kind.TheVariants.{Unexpected}
use Rattle.text_parts.specs.Numbers.{leading, wrong, number_at}
use Rattle.text_parts.specs.Tokens.{is_blank, ends, later, token_at}
use Rattle.text_parts.specs.TokenLaws.{token_end, token-semicolon, token-number}
use Rattle.text_parts.proofs.tokens.read_token.Goals as goal

pub returns-then-n-s-clause-value : goal.returns-then-n-s-clause-value
returns-then-n-s-clause-value c = sym (token_end c.args.s.now c.blanks-n.result c.blanks-n.ensures.value c.if-n-s.true)

pub returns-then-s-n-eq59-clause-value : goal.returns-then-s-n-eq59-clause-value
returns-then-s-n-eq59-clause-value c = sym (token-semicolon c.args.s.now c.blanks-n.result c.blanks-n.ensures.value (omega arith) c.if-s-n-eq59.true)

-- the number behind the blanks, and whether it may end where it does
number-token : (text : List ℕ) (n : ℕ) (t : Token) (b : Bool) → n ≡ leading is_blank text → n ≤ length text → (n ≡ length text → ⊥)
    → (get_or text n 0 ≡ 59 → ⊥) → t ≡ number_at (take (length text - n) (drop n text)) → b ≡ ends (take (length text - (n + t.length)) (drop (n + t.length) text))
    → token_at text ≡ later n (cond b t (wrong Unexpected 0))
number-token text n t b e h k f g w =
    let all : (i : ℕ) → take (length text - i) (drop i text) ≡ drop i text = λ i. take_all (length text - i) (drop i text) (omega (arith, length-drop i text)) in
    token-number text n e (omega arith) f t (g ∙ ap number_at (all n)) (sym (w ∙ ap ends (all (n + t.length))))

pub returns-then-not-ends-clause-value : goal.returns-then-not-ends-clause-value
returns-then-not-ends-clause-value c =
    ap (wrong Unexpected) (omega arith) ∙ sym (number-token c.args.s.now c.blanks-n.result c.number-t.result _ c.blanks-n.ensures.value c.blanks-n.ensures.upper_bound c.if-n-s.false
    c.if-s-n-eq59.false c.number-t.ensures.value (sym c.if-not-ends.true ∙ c.ends.ensures))

pub returns-clause-value : goal.returns-clause-value
returns-clause-value c =
    sym (number-token c.args.s.now c.blanks-n.result c.number-t.result _ c.blanks-n.ensures.value c.blanks-n.ensures.upper_bound c.if-n-s.false
    c.if-s-n-eq59.false c.number-t.ensures.value (sym c.if-not-ends.false ∙ c.ends.ensures))

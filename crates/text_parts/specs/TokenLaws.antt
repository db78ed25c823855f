-- Which case of the definition holds of a token, by the byte after its blanks.
use Rattle.std.specs.Prelude.{◌≡◌, Bool, cond, List, ◌∷◌, ℕ, ◌+◌, ◌<◌, length, get_or, drop, eqb}
use Rattle.std.proofs.Common.{sym, ◌∙◌, arith, drop-drop, eq-eqb, ne_eqb}
use Rattle.std.proofs.Math.Path.{ap}
use Rattle.std.proofs.Math.Seq.{drop-length}
use Rattle.text_parts.specs.declared.Kind.TheVariants.{Semicolon, End, Unexpected}
use Rattle.text_parts.specs.declared.Token.{Token}
use Rattle.text_parts.specs.Numbers.{leading, wrong, number_at}
use Rattle.text_parts.specs.NumberLaws.{drop-next}
use Rattle.text_parts.specs.Tokens.{is_blank, ends, ended, token_here, later, token_at}

-- the three cases, n being how many blanks there are
module _ (s : List ℕ) (n : ℕ) (blanks : n ≡ leading is_blank s) where
  token-is : token_at s ≡ later n (token_here (drop n s))
  unfolding token_at
  token-is = ap (λ k. later k (token_here (drop k s))) (sym blanks)

  pub token_end : n ≡ length s → token_at s ≡ wrong End n
  token_end e = token-is ∙ ap (λ l. later n (token_here l)) (ap (λ k. drop k s) e ∙ drop-length s) ∙ ap (wrong End) (omega arith)

  module _ (h : n < length s) where
    here : {t : Bool} → eqb (get_or s n 0) 59 ≡ t → token_at s ≡ later n (cond t (wrong Semicolon 1) (ended (drop n s) (number_at (drop n s))))
    here {t} e =
        token-is ∙ ap (λ l. later n (token_here l)) (drop-next s n h)
        ∙ ap (λ t. later n (cond t (wrong Semicolon 1) (ended (get_or s n 0 ∷ drop (n + 1) s) (number_at (get_or s n 0 ∷ drop (n + 1) s))))) e
        ∙ ap (λ l. later n (cond t (wrong Semicolon 1) (ended l (number_at l)))) (sym (drop-next s n h))

    pub token-semicolon : get_or s n 0 ≡ 59 → token_at s ≡ wrong Semicolon (n + 1)
    token-semicolon e = here (eq-eqb (get_or s n 0) 59 e)

    pub token-number : (get_or s n 0 ≡ 59 → ⊥) → (t : Token) {b : Bool} → t ≡ number_at (drop n s) → ends (drop (n + t.length) s) ≡ b
        → token_at s ≡ later n (cond b t (wrong Unexpected 0))
    token-number e t {b} f g =
        here (ne_eqb (get_or s n 0) 59 e) ∙ ap (λ t. later n (ended (drop n s) t)) (sym f)
        ∙ ap (λ b. later n (cond b t (wrong Unexpected 0))) (ap ends (drop-drop t.length n s) ∙ g)

-- Words that are put into bytes: where there is room for them, and what stands there afterwards.
use Rattle.std.specs.Prelude.{◌≡◌, List, [], ◌∷◌, ◌++◌, map, ℕ, ◌+◌, ◌*◌, ◌≤◌, length}
use Rattle.std.proofs.Common.{sym, ap, ◌∙◌, arith, length-append}
use Rattle.std.proofs.lemmas.List.{map-append, length-map}
use Rattle.catalogue_rules.specs.Word.{Word, encode}
use Rattle.catalogue_writer.specs.Over.{over_words, over-more}

-- from the word at index k on
abbrev pub HasRoom : List ℕ → ℕ → List Word → Type 0
HasRoom out k ws = (k + length ws) * 4 ≤ length out

-- they stand there, and the index after them
pub record Puts (before : List ℕ) (k : ℕ) (ws : List Word) (after : List ℕ) (end : ℕ) : Type 0 where
  pub next : end ≡ k + length ws
  pub bytes : after ≡ over_words before k (map encode ws)

-- one word
pub puts_one : {out after : List ℕ} {k n end : ℕ} (w : Word) → n ≡ encode w → after ≡ over_words out k (n ∷ []) → end ≡ k + 1 → Puts out k (w ∷ []) after end
puts_one {out} {k = k} w e f next = record { next = next; bytes = f ∙ ap (λ n. over_words out k (n ∷ [])) e }

-- more words after them
pub puts_both : {out now after : List ℕ} {k m n : ℕ} (ws us : List Word) → HasRoom out k ws → Puts out k ws now m → Puts now m us after n → Puts out k (ws ++ us) after n
puts_both {out} {k = k} {m = m} ws us room p q =
    let long = length-map ws encode in
    let here : m ≡ k + length (map encode ws) = omega (arith, p.next, long) in
    record {
      next = omega (arith, p.next, q.next, length-append ws us);
      bytes = q.bytes ∙ over-more out k (map encode ws) (map encode us) p.bytes here (omega (arith, long)) ∙ ap (over_words out k) (sym (map-append encode ws us));
    }

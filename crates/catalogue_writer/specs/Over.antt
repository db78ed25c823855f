-- Bytes of which some words are written over, from the word at index k on.
use Rattle.std.specs.Prelude.{◌≡◌, List, [], ◌∷◌, ◌++◌, ℕ, ◌+◌, ◌*◌, ◌≤◌, length, take, drop}
use Rattle.std.proofs.Common.{sym, ap, ap₂, ◌∙◌, append-nil, append_assoc, arith, length-append, length-drop, take-append-drop, length-take-le, take_at, drop_at, drop-drop}
use Rattle.std.proofs.lemmas.List.Edits.{sets, sets-eq}
use Rattle.catalogue_rules.specs.Word.{bytes_of}
use Rattle.catalogue_rules.proofs.Laws.Word.{length-bytes, bytes-append}

abbrev pub over_words : List ℕ → ℕ → List ℕ → List ℕ
over_words xs k ws = take (k * 4) xs ++ bytes_of ws ++ drop ((k + length ws) * 4) xs

module _ (xs : List ℕ) (k : ℕ) (ws : List ℕ) (room : (k + length ws) * 4 ≤ length xs) where
  length_front : length (take (k * 4) xs ++ bytes_of ws) ≡ (k + length ws) * 4
  length_front = omega (arith, length-append (take (k * 4) xs) (bytes_of ws), length-take-le (k * 4) xs (omega arith), length-bytes ws)

  pub length_over : length (over_words xs k ws) ≡ length xs
  length_over = omega (arith, length-append (take (k * 4) xs ++ bytes_of ws) (drop ((k + length ws) * 4) xs), length_front, length-drop ((k + length ws) * 4) xs)

  pub over-over : (us : List ℕ) → over_words (over_words xs k ws) (k + length ws) us ≡ over_words xs k (ws ++ us)
  over-over us =
      let front = take (k * 4) xs ++ bytes_of ws in
      let rest = drop ((k + length ws) * 4) xs in
      let far : (k + length ws + length us) * 4 ≡ (k + length ws) * 4 + length us * 4 = omega arith in
      let end : (k + length ws) * 4 + length us * 4 ≡ (k + length (ws ++ us)) * 4 = omega (arith, length-append ws us) in
      ap₂ (λ a b. a ++ bytes_of us ++ b) (take_at front rest ((k + length ws) * 4) length_front)
      (ap (λ n. drop n (front ++ rest)) far ∙ sym (drop-drop (length us * 4) ((k + length ws) * 4) (front ++ rest)) ∙ ap (drop (length us * 4)) (drop_at front rest ((k + length ws) * 4) length_front) ∙ drop-drop (length us * 4) ((k + length ws) * 4) xs ∙ ap (λ n. drop n xs) end)
      ∙ ap (λ l. l ++ drop ((k + length (ws ++ us)) * 4) xs) (append_assoc (take (k * 4) xs) (bytes_of ws) (bytes_of us) ∙ ap (λ l. take (k * 4) xs ++ l) (sym (bytes-append ws us)))

pub over_none : (xs : List ℕ) (k : ℕ) → over_words xs k [] ≡ xs
over_none xs k =
    let same : (k + 0) * 4 ≡ k * 4 = omega arith in
    ap₂ (λ l n. l ++ drop n xs) (append-nil (take (k * 4) xs)) same ∙ take-append-drop (k * 4) xs

-- from the start: the words, then what was there
pub over-start : (xs ws : List ℕ) → over_words xs 0 ws ≡ bytes_of ws ++ drop (length (bytes_of ws)) xs
over-start xs ws =
    let same : (0 + length ws) * 4 ≡ length (bytes_of ws) = omega (arith, length-bytes ws) in
    ap (λ n. bytes_of ws ++ drop n xs) same

-- four bytes stored one by one
pub over-one : (xs : List ℕ) (k w : ℕ) → k * 4 + 4 ≤ length xs → sets xs (k * 4) (bytes_of (w ∷ [])) ≡ over_words xs k (w ∷ [])
over-one xs k w h =
    let end : k * 4 + 4 ≡ (k + 1) * 4 = omega arith in
    sets-eq (bytes_of (w ∷ [])) xs (k * 4) h ∙ ap (λ n. take (k * 4) xs ++ bytes_of (w ∷ []) ++ drop n xs) end

-- more words after those that are written
pub over-more : (xs : List ℕ) (k : ℕ) {out : List ℕ} {n : ℕ} (ws us : List ℕ) → out ≡ over_words xs k ws → n ≡ k + length ws → (k + length ws) * 4 ≤ length xs → over_words out n us ≡ over_words xs k (ws ++ us)
over-more xs k ws us e f room = ap₂ (λ l n. over_words l n us) e f ∙ over-over xs k ws room us

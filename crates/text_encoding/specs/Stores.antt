-- Words stored one after another, as many as the output has room for.
use Rattle.std.specs.Prelude.{◌≡◌, refl, List, [], ◌∷◌, ◌++◌, ℕ, zero, suc, ◌+◌, ◌-◌, ◌*◌, ◌/◌, ◌≤◌, length, take}
use Rattle.std.proofs.Common.{sym, ap, ◌∙◌, arith, length-append, length-take}
use Rattle.catalogue_rules.specs.Word.{bytes_of}
use Rattle.catalogue_rules.specs.Output.{filled_with}
use Rattle.catalogue_writer.specs.Over.{over_words, length_over, over_none, over-more, over-start}

-- how many words there is room for
abbrev pub room_in : List ℕ → ℕ
room_in out = length out / 4

abbrev pub kept : List ℕ → ℕ → List ℕ → List ℕ
kept out k ws = take (room_in out - k) ws

-- words from index k on, and the index behind them; all else stays
pub record Stores (ws before : List ℕ) (k : ℕ) (after : List ℕ) (end : ℕ) : Type 0 where
  pub bytes : after ≡ over_words before k (kept before k ws)
  pub place : end ≡ k + length (kept before k ws)

-- an index that is in the output, or behind its last word
pub record Room (out : List ℕ) (k : ℕ) : Type 0 where
  pub few : k * 4 ≤ length out

take_none : (n : ℕ) → ◌≡◌ {A = List ℕ} (take n []) []
take_none zero = refl
take_none (suc n) = refl

take-append : (n : ℕ) (ws us : List ℕ) → take n ws ++ take (n - length (take n ws)) us ≡ take n (ws ++ us)
take-append n [] us = let same : n - 0 ≡ n = omega arith in ap (λ l. l ++ take (n - length l) us) (take_none n) ∙ ap (λ k. take k us) same
take-append zero (w ∷ ws) us = refl
take-append (suc n) (w ∷ ws) us =
    let same : suc n - suc (length (take n ws)) ≡ n - length (take n ws) = omega arith in
    ap (λ k. w ∷ (take n ws ++ take k us)) same ∙ ap (λ l. w ∷ l) (take-append n ws us)

kept-few : (out : List ℕ) (k : ℕ) (ws : List ℕ) → k * 4 ≤ length out → (k + length (kept out k ws)) * 4 ≤ length out
kept-few out k ws h = omega (arith, length-take (room_in out - k) ws)

pub stores-none : (before : List ℕ) (k : ℕ) → Stores [] before k before k
stores-none before k = record {
  bytes = sym (ap (over_words before k) (take_none (room_in before - k)) ∙ over_none before k);
  place = omega (arith, ap length (take_none (room_in before - k)));
}

module _ {ws before after : List ℕ} {k end : ℕ} (room : Room before k) (p : Stores ws before k after end) where
  pub stores-length : length after ≡ length before
  stores-length = ap length p.bytes ∙ length_over before k (kept before k ws) (kept-few before k ws room.few)

  -- there is room for more after them
  pub stores-room : Room after end
  stores-room = record { few = omega (arith, p.place, stores-length, kept-few before k ws room.few) }

  pub stores-then : {us : List ℕ} {more : List ℕ} {last : ℕ} → Stores us after end more last → Stores (ws ++ us) before k more last
  stores-then {us} q =
      let left : room_in after - end ≡ room_in before - k - length (kept before k ws) = omega (arith, p.place, ap (λ n. n / 4) stores-length) in
      let all : kept before k ws ++ kept after end us ≡ kept before k (ws ++ us) = ap (λ n. kept before k ws ++ take n us) left ∙ take-append (room_in before - k) ws us in
      record {
        bytes = q.bytes ∙ over-more before k (kept before k ws) (kept after end us) p.bytes p.place (kept-few before k ws room.few) ∙ ap (over_words before k) all;
        place = omega (arith, q.place, p.place, ap length all, length-append (kept before k ws) (kept after end us));
      }

-- ---- one word

pub stores-full : (w : ℕ) (before : List ℕ) {k : ℕ} → room_in before ≤ k → Stores (w ∷ []) before k before k
stores-full w before {k} h =
    let none : room_in before - k ≡ 0 = omega arith in
    record {
      bytes = sym (ap (λ n. over_words before k (take n (w ∷ []))) none ∙ over_none before k);
      place = omega (arith, ap (λ n. length (take n (w ∷ []))) none);
    }

pub stores_one : {w : ℕ} {before : List ℕ} {k : ℕ} {after : List ℕ} → suc k ≤ room_in before → after ≡ over_words before k (w ∷ []) → Stores (w ∷ []) before k after (k + 1)
stores_one {w} {before} {k} h e =
    let some : room_in before - k ≡ suc (room_in before - k - 1) = omega arith in
    let all : kept before k (w ∷ []) ≡ w ∷ [] = ap (λ n. take n (w ∷ [])) some ∙ ap (λ l. w ∷ l) (take_none (room_in before - k - 1)) in
    record { bytes = e ∙ ap (over_words before k) (sym all); place = omega (arith, ap length all) }

-- ---- from the start

module _ {ws before after : List ℕ} {end : ℕ} (p : Stores ws before 0 after end) where
  all-kept : kept before 0 ws ≡ take (room_in before) ws
  all-kept = let same : room_in before - 0 ≡ room_in before = omega arith in ap (λ n. take n ws) same

  pub stored-count : end ≡ length (take (room_in before) ws)
  stored-count = omega (arith, p.place, ap length all-kept)

  pub stored_bytes : after ≡ (filled_with (bytes_of (take (room_in before) ws)) before).lent
  stored_bytes = p.bytes ∙ ap (over_words before 0) all-kept ∙ over-start before (take (room_in before) ws)

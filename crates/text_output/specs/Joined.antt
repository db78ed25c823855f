-- The texts of a list's elements one after another, as a loop puts them.
use Rattle.std.specs.Prelude.{◌≡◌, refl, List, [], ◌∷◌, ◌++◌, ℕ, suc, ◌+◌, ◌≤◌, ◌<◌, length, get_or, take, drop}
use Rattle.std.proofs.Common.{sym, ap, ◌∙◌, subst, append-nil, append_assoc, add-one, arith, length-append, take-append-drop, take-suc, drop-cons, take_all}
use Rattle.text_output.specs.Puts.{Puts, puts_then}

abbrev pub joined : {A : Type 0} → (A → List ℕ) → List A → List ℕ
joined f [] = []
joined f (x ∷ l) = f x ++ joined f l

module _ {A : Type 0} (f : A → List ℕ) where
  pub joined-append : (l more : List A) → joined f (l ++ more) ≡ joined f l ++ joined f more
  joined-append [] more = refl
  joined-append (x ∷ l) more = ap (λ t. f x ++ t) (joined-append l more) ∙ sym (append_assoc (f x) (joined f l) (joined f more))

  module _ (l : List A) (i : ℕ) (d : A) (here : i < length l) where
    next : joined f (take (i + 1) l) ≡ joined f (take i l) ++ f (get_or l i d)
    next =
        ap (λ k. joined f (take k l)) (add-one i) ∙ ap (joined f) (take-suc l i d here) ∙ joined-append (take i l) (get_or l i d ∷ [])
        ∙ ap (λ t. joined f (take i l) ++ t) (append-nil (f (get_or l i d)))

    split : joined f l ≡ joined f (take i l) ++ (f (get_or l i d) ++ joined f (drop (suc i) l))
    split = ap (joined f) (sym (take-append-drop i l)) ∙ joined-append (take i l) (drop i l) ∙ ap (λ t. joined f (take i l) ++ joined f t) (drop-cons l i d here)

    -- what has room for all has room for the next
    pub joined-room : length (joined f (take i l)) + length (f (get_or l i d)) ≤ length (joined f l)
    joined-room =
        let rest = joined f (drop (suc i) l) in
        omega (arith, ap length split, length-append (joined f (take i l)) (f (get_or l i d) ++ rest), length-append (f (get_or l i d)) rest)

    pub puts-next : {before between after : List ℕ} {at mid end : ℕ} → Puts (joined f (take i l)) before at between mid → Puts (f (get_or l i d)) between mid after end
        → Puts (joined f (take (i + 1) l)) before at after end
    puts-next {before} {after = after} {at} {end = end} p q = subst (λ t. Puts t before at after end) (sym next) (puts_then p q)

  pub puts-all : (l : List A) (i : ℕ) {before after : List ℕ} {at end : ℕ} → length l ≤ i → Puts (joined f (take i l)) before at after end → Puts (joined f l) before at after end
  puts-all l i {before} {after} {at} {end} h = subst (λ t. Puts (joined f t) before at after end) (take_all i l h)

-- Files over the limit of both forms are refused by their length alone: their bytes after the first 36,868 count only modulo 4.
use Rattle.std.specs.Prelude.{◌≡◌, refl, Bool, true, false, not, List, [], ◌∷◌, ℕ, ◌%◌, ◌<◌, eqb, length}
use Rattle.std.proofs.Common.{sym, ap, ◌∙◌, arith, lt-ltb}
use Rattle.catalogue_rules.specs.Word.{words_of}
use Rattle.catalogue_rules.specs.Catalogue.{new, Outcome, refused, most_bytes}
use Rattle.catalogue_rules.specs.Read.{checked, form_shown, read_all, read}
use Rattle.catalogue_rules.proofs.Laws.Opening.{bytes-room}

by_length : Bool → Outcome
by_length odd = checked (λ n. refused n 0) ((odd, 8) ∷ (true, 9) ∷ []) (refused 0 0)

over : (odd : Bool) (o : Outcome) → checked (λ n. refused n 0) ((odd, 8) ∷ (true, 9) ∷ []) o ≡ by_length odd
unfolding by_length
over true o = refl
over false o = refl

read-long : (file : List ℕ) → most_bytes new < length file → read file ≡ by_length (not (eqb (length file % 4) 0))
unfolding read
read-long file h =
    let o = read_all file in
    let odd = not (eqb (length file % 4) 0) in
    let long : most_bytes (form_shown (words_of file)) < length file = omega (arith, h, bytes-room (form_shown (words_of file))) in
    ap (λ long. checked (λ n. refused n 0) ((odd, 8) ∷ (long, 9) ∷ []) o) (lt-ltb _ _ long) ∙ over odd o

pub long-alike : (file other : List ℕ) → most_bytes new < length file → most_bytes new < length other → length file % 4 ≡ length other % 4 → read file ≡ read other
long-alike file other h k e = read-long file h ∙ ap (λ n. by_length (not (eqb n 0))) e ∙ sym (read-long other k)

-- Each way through the tests gives its case of the definition.
use Rattle.std.proofs.Common.{◌≡◌, sym, ap, ◌∙◌, rules, ℕ, List, ℤ, pos, get_or, [], ◌∷◌, ◌++◌, length, drop, ◌*◌, to_z-of_z, Ok, is_ok}
use Rattle.std.specs.Int.{w64}
use Rattle.std.proofs.lemmas.Result.{err_from_is_err_and}
use Rattle.lattices.specs.Vector.{nth}
use Rattle.catalogue_rules.specs.Catalogue.{most_number}
use Rattle.catalogue_records.specs.EntriesIn.{form_in}
use Rattle.text_parts.specs.Counts.{count_of}
use Rattle.text_parts.specs.Parts.{taken_at}
use Rattle.text_rules.specs.Encoding.{at}
use Rattle.text_lines.specs.Told.{head_checked, head_told, parts_read}
use Rattle.text_lines.specs.Fields.{fits-size, to_end, put-at}
use Rattle.text_lines.specs.Parts.{head-fits}
use Rattle.text_lines.specs.ToldLaws.{checked, is-head, content-wrong, content-right}
use Rattle.text_lines.proofs.read_content.Goals as goal

-- the number of the first part that the code has in place i
nth_of : (s : List ℕ) (out : List ℤ) → out ≡ (taken_at 3 s).numbers ++ drop (length (taken_at 3 s).numbers) (pos 0 ∷ pos 0 ∷ pos 0 ∷ []) → (i : ℕ) → get_or out i (pos 0) ≡ nth (taken_at 3 s).numbers i
nth_of s out e i = let p = taken_at 3 s in ap (λ l. get_or l i (pos 0)) e ∙ put-at p.numbers 3 (length p.numbers) i

pub returns-in_err-check_head-clause-value : goal.returns-in_err-check_head-clause-value
returns-in_err-check_head-clause-value c =
    let s = c.args.s.now in
    let f = form_in c.args.form in
    let number_at = nth_of s c.read_part-part.new.out c.read_part-part.ensures.out_after in
    let tested : c.check_head.result ≡ checked f s = c.check_head.ensures
    ∙ (λ i. head_checked f (c.read_part-part.ensures.value i).stop (c.read_part-part.ensures.value i).count
    ((to_z-of_z {w = w64} (search rules) ∙ number_at 0) i) ((to_z-of_z {w = w64} (search rules) ∙ number_at 1) i) ((to_z-of_z {w = w64} (search rules) ∙ number_at 2) i)) in
    let p = err_from_is_err_and c.from_residual.result c.from_residual.ensures.1 in
    rw (p.1, p.2) (content-wrong f s (sym tested ∙ c.in_err-check_head.was))

pub returns-clause-value : goal.returns-clause-value
returns-clause-value c =
    let s = c.args.s.now in
    let f = form_in c.args.form in
    let p = taken_at 3 s in
    let number_at = nth_of s c.read_part-part.new.out c.read_part-part.ensures.out_after in
    let tested : c.check_head.result ≡ checked f s = c.check_head.ensures
    ∙ (λ i. head_checked f (c.read_part-part.ensures.value i).stop (c.read_part-part.ensures.value i).count
    ((to_z-of_z {w = w64} (search rules) ∙ number_at 0) i) ((to_z-of_z {w = w64} (search rules) ∙ number_at 1) i) ((to_z-of_z {w = w64} (search rules) ∙ number_at 2) i)) in
    let right : checked f s ≡ Ok tt = sym tested ∙ c.in_ok-check_head.was in
    let heads = head-fits f p (sym (is-head f s) ∙ ap is_ok right) in
    let number : c.count.result ≡ at p.numbers 0 = c.count.ensures ∙ ap count_of (to_z-of_z {w = w64} (search rules) ∙ number_at 0) ∙ fits-size (most_number f) (nth p.numbers 0) heads.0 in
    let d : c.count-d.result ≡ at p.numbers 1 = c.count-d.ensures ∙ ap count_of (to_z-of_z {w = w64} (search rules) ∙ number_at 1) ∙ fits-size 15 (nth p.numbers 1) heads.1.0 in
    let m : c.count-m.result ≡ at p.numbers 2 = c.count-m.ensures ∙ ap count_of (to_z-of_z {w = w64} (search rules) ∙ number_at 2) ∙ fits-size 15 (nth p.numbers 2) heads.1.1 in
    let head = c.head_words-head.ensures ∙ (λ i. head_told f (number i) (d i) (m i)) in
    let length-is = ap (λ q. q.length) c.read_part-part.ensures.value in
    c.with_parts.ensures.value
    ∙ ap (λ l. parts_read c.head_words-head.result (c.count-d.result * c.count-m.result) (taken_at 225 l) l) (to_end c.read_part-part.result.length s)
    ∙ (λ i. parts_read (head i) (d i * m i) (taken_at 225 (drop (length-is i) s)) (drop (length-is i) s))
    ∙ content-right f s right

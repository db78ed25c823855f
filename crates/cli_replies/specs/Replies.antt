-- What is answered to a line, as bytes, out of the engine's definitions.
use Rattle.std.specs.Prelude.{Bool, true, false, cond, List, [], ◌∷◌, ◌++◌, ℕ, eqb, ltb, ℤ, length, drop}
use Rattle.integers.specs.Decimal.{decimal}
use Rattle.lattices.specs.Refusal.{Input}
use Rattle.lattices.specs.Answer.{reduction_of, nearest_of, membership_of}
use Rattle.text_parts.specs.declared.Kind.{Kind}
use Rattle.text_parts.specs.declared.Kind.TheVariants.{Number, Semicolon, End, Unexpected, TooLarge, TooMany, NoCount}
use Rattle.text_parts.specs.Numbers.{leading}
use Rattle.text_parts.specs.Tokens.{is_blank}
use Rattle.text_parts.specs.Parts.{is_semicolon, is_end, taken_at}
use Rattle.text_parts.specs.Counts.{counts_at}
use Rattle.cli_answers.specs.Answers.{error_text, reduction_text, basis_text, nearest_text, membership_text}
use Rattle.cli_replies.specs.declared.Command.{Command}
use Rattle.cli_replies.specs.declared.Command.TheVariants.{Reduce, About}
use Rattle.cli_replies.specs.declared.Wanted.{Wanted}
use Rattle.cli_replies.specs.declared.Wanted.TheVariants.{Vector, VectorOnBasis, Membership}
use Rattle.cli_replies.specs.Reply.{Reply, always, headed}

-- ---- what is wrong where a part stops in a way that it may not

-- "something that is no number"
abbrev pub no_number : List ℕ
no_number = 115 ∷ 111 ∷ 109 ∷ 101 ∷ 116 ∷ 104 ∷ 105 ∷ 110 ∷ 103 ∷ 32 ∷ 116 ∷ 104 ∷ 97 ∷ 116 ∷ 32 ∷ 105 ∷ 115 ∷ 32 ∷ 110 ∷ 111 ∷ 32 ∷ 110 ∷ 117 ∷ 109 ∷ 98 ∷ 101 ∷ 114 ∷ []

abbrev pub what_is_wrong : Kind → List ℕ
what_is_wrong (Number z) = no_number
-- "a part too many"
what_is_wrong Semicolon = 97 ∷ 32 ∷ 112 ∷ 97 ∷ 114 ∷ 116 ∷ 32 ∷ 116 ∷ 111 ∷ 111 ∷ 32 ∷ 109 ∷ 97 ∷ 110 ∷ 121 ∷ []
-- "a part is missing"
what_is_wrong End = 97 ∷ 32 ∷ 112 ∷ 97 ∷ 114 ∷ 116 ∷ 32 ∷ 105 ∷ 115 ∷ 32 ∷ 109 ∷ 105 ∷ 115 ∷ 115 ∷ 105 ∷ 110 ∷ 103 ∷ []
what_is_wrong Unexpected = no_number
-- "a number beyond 64 bits"
what_is_wrong TooLarge = 97 ∷ 32 ∷ 110 ∷ 117 ∷ 109 ∷ 98 ∷ 101 ∷ 114 ∷ 32 ∷ 98 ∷ 101 ∷ 121 ∷ 111 ∷ 110 ∷ 100 ∷ 32 ∷ 54 ∷ 52 ∷ 32 ∷ 98 ∷ 105 ∷ 116 ∷ 115 ∷ []
-- "too many numbers"
what_is_wrong TooMany = 116 ∷ 111 ∷ 111 ∷ 32 ∷ 109 ∷ 97 ∷ 110 ∷ 121 ∷ 32 ∷ 110 ∷ 117 ∷ 109 ∷ 98 ∷ 101 ∷ 114 ∷ 115 ∷ []
-- "d and m are counts"
what_is_wrong NoCount = 100 ∷ 32 ∷ 97 ∷ 110 ∷ 100 ∷ 32 ∷ 109 ∷ 32 ∷ 97 ∷ 114 ∷ 101 ∷ 32 ∷ 99 ∷ 111 ∷ 117 ∷ 110 ∷ 116 ∷ 115 ∷ []

abbrev pub mistake_text : ℕ → Kind → List ℕ
mistake_text line stop = error_text line (what_is_wrong stop)

-- ---- d m ; numbers

abbrev pub reduced_of : (d m : ℕ) → List ℤ → List ℕ
reduced_of d m numbers = reduction_text d m (reduction_of (record { numbers = numbers; d = d; m = m; target = [] }))

-- no part of a line has more numbers: a number and a blank take two of its 4096 bytes
abbrev pub most_listed : ℕ
most_listed = 2048

abbrev pub reduce_with : (line d m : ℕ) → List ℕ → List ℕ
reduce_with line d m s = let p = taken_at most_listed s in cond (is_end p.stop) (reduced_of d m p.numbers) (mistake_text line p.stop)

abbrev pub reduce_reply : ℕ → List ℕ → List ℕ
reduce_reply line s = let c = counts_at s in cond (is_semicolon c.stop) (reduce_with line c.d c.m (drop c.length s)) (mistake_text line c.stop)

-- ---- d m ; numbers ; target

-- the reduced vectors, where they are asked for and the search is not refused
abbrev pub basis_of : (with : Bool) (refusal d m : ℕ) → List ℤ → List ℕ
basis_of with refusal d m numbers =
    cond with (cond (eqb refusal 0) (basis_text d m (reduction_of (record { numbers = numbers; d = d; m = m; target = [] }))) []) []

-- the nearest vector, after the reduced ones
abbrev pub found_on : (with : Bool) (d m : ℕ) → List ℤ → List ℤ → Reply
found_on with d m numbers target =
    let i : Input = record { numbers = numbers; d = d; m = m; target = target } in
    record { asked = i ∷ []; text = λ tenths. basis_of with (nearest_of i).refusal d m numbers ++ nearest_text d m tenths (nearest_of i) }

abbrev pub member_on : (d m : ℕ) → List ℤ → List ℤ → List ℕ
member_on d m numbers target = membership_text (membership_of (record { numbers = numbers; d = d; m = m; target = target }))

-- what is asked about the target
abbrev pub wanted_of : Wanted → (d m : ℕ) → List ℤ → List ℤ → Reply
wanted_of Vector d m numbers target = found_on false d m numbers target
wanted_of VectorOnBasis d m numbers target = found_on true d m numbers target
wanted_of Membership d m numbers target = always (member_on d m numbers target)

abbrev pub with_target : Wanted → (line d m : ℕ) → List ℤ → List ℕ → Reply
with_target wanted line d m numbers s =
    let p = taken_at most_listed s in cond (is_end p.stop) (wanted_of wanted d m numbers p.numbers) (always (mistake_text line p.stop))

abbrev pub with_vectors : Wanted → (line d m : ℕ) → List ℕ → Reply
with_vectors wanted line d m s =
    let p = taken_at most_listed s in cond (is_semicolon p.stop) (with_target wanted line d m p.numbers (drop p.length s)) (always (mistake_text line p.stop))

abbrev pub target_reply : Wanted → ℕ → List ℕ → Reply
target_reply wanted line s =
    let c = counts_at s in cond (is_semicolon c.stop) (with_vectors wanted line c.d c.m (drop c.length s)) (always (mistake_text line c.stop))

-- ---- a line

abbrev pub reply : Command → ℕ → List ℕ → Reply
reply Reduce line s = always (reduce_reply line s)
reply (About wanted) line s = target_reply wanted line s

-- the line's number before its answer, where it is asked for
abbrev pub number_text : Bool → ℕ → List ℕ
number_text numbered line = cond numbered (decimal line ++ (32 ∷ [])) []

-- "longer than 4096 bytes"
abbrev pub too_long : List ℕ
too_long = 108 ∷ 111 ∷ 110 ∷ 103 ∷ 101 ∷ 114 ∷ 32 ∷ 116 ∷ 104 ∷ 97 ∷ 110 ∷ 32 ∷ 52 ∷ 48 ∷ 57 ∷ 54 ∷ 32 ∷ 98 ∷ 121 ∷ 116 ∷ 101 ∷ 115 ∷ []

-- a line that holds nothing but blanks has no answer
abbrev pub answer : Command → Bool → ℕ → List ℕ → Reply
answer command numbered line s =
    cond (ltb 4096 (length s)) (always (number_text numbered line ++ error_text line too_long))
    (cond (eqb (leading is_blank s) (length s)) (always []) (headed (number_text numbered line) (reply command line s)))

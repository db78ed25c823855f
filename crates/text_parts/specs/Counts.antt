-- The counts d and m that a request begins with.
use Rattle.std.specs.Prelude.{Bool, true, false, ◌&&◌, List, ℕ, ℤ, pos, negsuc, leb, length, get_or}
use Rattle.std.specs.Int.Signed.{le_z}
use Rattle.text_parts.specs.declared.Kind.{Kind}
use Rattle.text_parts.specs.declared.Kind.TheVariants.{Number, Semicolon, End, Unexpected, TooLarge, TooMany, NoCount}
use Rattle.text_parts.specs.declared.Counts.{Counts}
use Rattle.text_parts.specs.Parts.{Taken, taken_at}

abbrev pub is_count : ℤ → Bool
is_count z = le_z (pos 0) z

-- a number as a count, 0 where it is none
abbrev pub count_of : ℤ → ℕ
count_of (pos n) = n
count_of (negsuc n) = 0

-- whether n numbers, of which d and m are the first, are two counts
abbrev pub are_counts : ℕ → ℤ → ℤ → Bool
are_counts n d m = leb 2 n && (is_count d && is_count m)

-- how the first part stops: at its semicolon only behind two counts, and a third number is a mistake
abbrev pub counts_stop : Kind → Bool → Kind
counts_stop (Number z) fit = Number z
counts_stop Semicolon true = Semicolon
counts_stop Semicolon false = NoCount
counts_stop End fit = End
counts_stop Unexpected fit = Unexpected
counts_stop TooLarge fit = TooLarge
counts_stop TooMany fit = NoCount
counts_stop NoCount fit = NoCount

-- the counts out of the numbers of the first part, 0 for one that is missing
abbrev pub counts_of : Taken → Counts
counts_of p =
    let d = get_or p.numbers 0 (pos 0) in
    let m = get_or p.numbers 1 (pos 0) in
    record { d = count_of d; m = count_of m; length = p.length; stop = counts_stop p.stop (are_counts (length p.numbers) d m) }

-- R14.2: the counts that the bytes begin with
abbrev pub counts_at : List ℕ → Counts
counts_at s = counts_of (taken_at 2 s)

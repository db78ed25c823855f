-- How an accepted catalogue was read: the steps that go on, one case for each word that may stand, and what they keep up to the end.
use Rattle.std.specs.Prelude.{◌≡◌, refl, ◌≢◌, Bool, true, false, ℕ, suc, ◌%◌, ◌≤◌, length}
use Rattle.std.proofs.Common.{sym, subst, arith}
use mathlib.Core.List.{List, [], ◌∷◌, ◌++◌, append-nil}
use Rattle.std.proofs.Math.Option.{Option, none, some}
use Rattle.std.proofs.Math.Seq.{append_snoc}
use borrow.Author.Tests.{eqb-true, ltb-false, not-false}
use Rattle.lattices.specs.Vector.{Vec}
use Rattle.integers.specs.All.{All}
use Rattle.catalogue_rules.specs.Word.{Word, head, coordinate, see, end, draft, head_number, head_size, other, decode, words_of}
use Rattle.catalogue_rules.specs.Catalogue.{old, new, Head, See, Entry, Outcome, refused, accepted, refusal, entries, most_bytes}
use Rattle.integers.specs.First.{first_given}
use Rattle.catalogue_rules.specs.Read.{State, outside, numbered, inside, after, closed, Step, next, stop, checked, form_shown, head_rows, head_number_rows, head_size_rows, coordinate_rows, draft_rows, end_rows, file_rows, with_entry, coordinate_of, with_coordinate, at_head, at_head_number, at_head_size, at_coordinate, at_draft, at_end, step, dependent_at, lost_at, after_reading, after_words, at_last, read_words, read_all, read}

-- ---- rows of the table

abbrev pub NoneOf : List (Bool × ℕ) → Type 0
NoneOf [] = Unit {0}
NoneOf (r ∷ rows) = (r.0 ≡ false) × NoneOf rows

-- what holds of a refusal by a number that is N, and of the rest when no row applies
pub checked_case : {A : Type 0} (N : ℕ → Type 0) (Q : A → Type 0) (refuse : ℕ → A) (rows : List (Bool × ℕ)) (a : A)
    → ((n : ℕ) → N n → Q (refuse n)) → All (λ r. N r.1) rows → (NoneOf rows → Q a) → Q (checked refuse rows a)
checked_case N Q refuse [] a stops numbers goes = goes tt
checked_case N Q refuse (r ∷ rows) a stops numbers goes = go r.0 refl (λ e. checked_case N Q refuse rows a stops numbers.1 (λ none. goes (e, none)))
  where
    go : (t : Bool) → r.0 ≡ t → (r.0 ≡ false → Q (checked refuse rows a)) → Q (elim t [ true ↦ refuse r.1 | false ↦ checked refuse rows a ])
    go true e more = stops r.1 numbers.0
    go false e more = more e

-- ---- the steps that go on

-- a head or the end may stand after these entries
pub data Between : State → List Entry → Type 0 where
  between : (es : List Entry) → Between (outside es) es
  unreferred : (es : List Entry) (h : Head) (vs : List Vec) (marked : Bool) → Between (after es h vs marked) (with_entry es h vs marked none)

pub data Moves : State → ℕ → Word → State → Type 0 where
  by-head : {s : State} {es : List Entry} (n d m i : ℕ) → Between s es → NoneOf (head_rows es n d m)
      → Moves s i (head n d m) (inside es (record { form = old; number = n; d = d; m = m; place = i }) [] [])
  by_number : {s : State} {es : List Entry} (n i : ℕ) → Between s es → NoneOf (head_number_rows es n) → Moves s i (head_number n) (numbered es n i)
  by_size : {i : ℕ} (es : List Entry) (n p d m : ℕ) → NoneOf (head_size_rows 0 d m)
      → Moves (numbered es n p) i (head_size 0 d m) (inside es (record { form = new; number = n; d = d; m = m; place = p }) [] [])
  by-coordinate : {i : ℕ} (es : List Entry) (h : Head) (vs : List Vec) (v : Vec) (l : ℕ) → NoneOf (coordinate_rows h (v ++ (coordinate_of l ∷ [])) l)
      → Moves (inside es h vs v) i (coordinate l) (with_coordinate es h vs (v ++ (coordinate_of l ∷ [])))
  by-draft : {i : ℕ} (es : List Entry) (h : Head) (vs : List Vec) → Moves (after es h vs false) i (draft 1) (after es h vs true)
  by-see : (es : List Entry) (h : Head) (vs : List Vec) (marked : Bool) (s : See) → Moves (after es h vs marked) s.place (see s.number) (outside (with_entry es h vs marked (some s)))
  by_end : {s : State} {es : List Entry} {i : ℕ} → Between s es → Moves s i (end (length es)) (closed es)

-- a step goes on so that Q holds, or stops with a number
abbrev pub Going : (State → Type 0) → Step → Type 0
Going Q (next t) = Q t
Going Q (stop n) = n ≢ 0

head-moves : (s : State) (es : List Entry) → Between s es → (n d m i : ℕ) → Going (Moves s i (head n d m)) (at_head es (record { form = old; number = n; d = d; m = m; place = i }))
head-moves s es b n d m i =
    let h : Head = record { form = old; number = n; d = d; m = m; place = i } in
    checked_case (λ n. n ≢ 0) (Going (Moves s i (head n d m))) stop (head_rows es n d m) (next (inside es h [] [])) (λ n h. h) (omega arith) (λ p. by-head n d m i b p)

number-moves : (s : State) (es : List Entry) → Between s es → (n i : ℕ) → Going (Moves s i (head_number n)) (at_head_number es n i)
number-moves s es b n i =
    checked_case (λ n. n ≢ 0) (Going (Moves s i (head_number n))) stop (head_number_rows es n) (next (numbered es n i)) (λ n h. h) (omega arith) (λ p. by_number n i b p)

size-moves : (es : List Entry) (n p i high d m : ℕ) → Going (Moves (numbered es n p) i (head_size high d m)) (at_head_size es high (record { form = new; number = n; d = d; m = m; place = p }))
size-moves es n p i high d m =
    let h : Head = record { form = new; number = n; d = d; m = m; place = p } in
    checked_case (λ n. n ≢ 0) (Going (Moves (numbered es n p) i (head_size high d m))) stop (head_size_rows high d m) (next (inside es h [] [])) (λ n h. h) (omega arith)
    (λ q. subst (λ z. Moves (numbered es n p) i (head_size z d m) (inside es h [] [])) (sym (eqb-true high 0 (not-false _ q.0))) (by_size es n p d m (refl, q.1)))

end-moves : (s : State) (es : List Entry) → Between s es → (i count : ℕ) → Going (Moves s i (end count)) (at_end es count)
end-moves s es b i count =
    checked_case (λ n. n ≢ 0) (Going (Moves s i (end count))) stop (end_rows es count) (next (closed es)) (λ n h. h) (omega arith)
    (λ p. subst (λ c. Moves s i (end c) (closed es)) (sym (eqb-true count (length es) (not-false _ p.0))) (by_end b))

coordinate-moves : (es : List Entry) (h : Head) (vs : List Vec) (v : Vec) (i l : ℕ) → Going (Moves (inside es h vs v) i (coordinate l)) (at_coordinate es h vs v l)
coordinate-moves es h vs v i l =
    checked_case (λ n. n ≢ 0) (Going (Moves (inside es h vs v) i (coordinate l))) stop (coordinate_rows h (v ++ (coordinate_of l ∷ [])) l) (next (with_coordinate es h vs (v ++ (coordinate_of l ∷ [])))) (λ n h. h) (omega arith)
    (λ p. by-coordinate es h vs v l p)

draft-moves : (es : List Entry) (h : Head) (vs : List Vec) (marked : Bool) (i l : ℕ) → Going (Moves (after es h vs marked) i (draft l)) (at_draft es h vs marked l)
draft-moves es h vs marked i l =
    checked_case (λ n. n ≢ 0) (Going (Moves (after es h vs marked) i (draft l))) stop (draft_rows marked l) (next (after es h vs true)) (λ n h. h) (omega arith)
    (λ p. subst (λ l. Moves (after es h vs marked) i (draft l) (after es h vs true)) (sym (eqb-true l 1 (not-false _ p.1.0)))
    (subst (λ b. Moves (after es h vs b) i (draft 1) (after es h vs true)) (sym p.0) (by-draft es h vs)))

pub moved : (s : State) (i : ℕ) (w : Word) → Going (Moves s i w) (step s i w)
unfolding step
moved (outside es) i (head number d m) = head-moves (outside es) es (between es) number d m i
moved (outside es) i (coordinate l) = omega arith
moved (outside es) i (see number) = omega arith
moved (outside es) i (end count) = end-moves (outside es) es (between es) i count
moved (outside es) i (draft l) = omega arith
moved (outside es) i (head_number number) = number-moves (outside es) es (between es) number i
moved (outside es) i (head_size high d m) = omega arith
moved (outside es) i (other k l) = omega arith
moved (numbered es n p) i (head number d m) = omega arith
moved (numbered es n p) i (coordinate l) = omega arith
moved (numbered es n p) i (see number) = omega arith
moved (numbered es n p) i (end count) = omega arith
moved (numbered es n p) i (draft l) = omega arith
moved (numbered es n p) i (head_number number) = omega arith
moved (numbered es n p) i (head_size high d m) = size-moves es n p i high d m
moved (numbered es n p) i (other k l) = omega arith
moved (inside es h vs v) i (head number d m) = omega arith
moved (inside es h vs v) i (coordinate l) = coordinate-moves es h vs v i l
moved (inside es h vs v) i (see number) = omega arith
moved (inside es h vs v) i (end count) = omega arith
moved (inside es h vs v) i (draft l) = omega arith
moved (inside es h vs v) i (head_number number) = omega arith
moved (inside es h vs v) i (head_size high d m) = omega arith
moved (inside es h vs v) i (other k l) = omega arith
moved (after es h vs marked) i (head number d m) = head-moves (after es h vs marked) (with_entry es h vs marked none) (unreferred es h vs marked) number d m i
moved (after es h vs marked) i (coordinate l) = omega arith
moved (after es h vs marked) i (see number) = by-see es h vs marked (record { number = number; place = i })
moved (after es h vs marked) i (end count) = end-moves (after es h vs marked) (with_entry es h vs marked none) (unreferred es h vs marked) i count
moved (after es h vs marked) i (draft l) = draft-moves es h vs marked i l
moved (after es h vs marked) i (head_number number) = number-moves (after es h vs marked) (with_entry es h vs marked none) (unreferred es h vs marked) number i
moved (after es h vs marked) i (head_size high d m) = omega arith
moved (after es h vs marked) i (other k l) = omega arith
moved (closed es) i w = omega arith

-- ---- to the end

-- what holds of accepted entries; a refusal has a number
abbrev pub WhenAccepted : (List Entry → Type 0) → Outcome → Type 0
WhenAccepted Q (refused n p) = n ≢ 0
WhenAccepted Q (accepted es) = Q es

-- no row of "after reading" applies
pub record Ended (es : List Entry) : Type 0 where
  pub independent : first_given dependent_at es ≡ none
  pub found : first_given (lost_at es) es ≡ none

ended : (Q : List Entry → Type 0) (es : List Entry) → (Ended es → Q es) → WhenAccepted Q (after_reading es)
ended Q es q = go (first_given dependent_at es) refl
  where
    lost : (o : Option ℕ) → first_given dependent_at es ≡ none → first_given (lost_at es) es ≡ o → WhenAccepted Q (elim o [ some p ↦ refused 12 p | none ↦ accepted es ])
    lost (some p) d e = omega arith
    lost none d e = q (record { independent = d; found = e })

    go : (o : Option ℕ) → first_given dependent_at es ≡ o → WhenAccepted Q (elim o [ some p ↦ refused 5 p | none ↦ elim (first_given (lost_at es) es) [ some p ↦ refused 12 p | none ↦ accepted es ] ])
    go (some p) e = omega arith
    go none e = lost (first_given (lost_at es) es) e refl

then-ended : {Q R : List Entry → Type 0} (o : Outcome) → ((es : List Entry) → Q es → Ended es → R es) → WhenAccepted Q o → WhenAccepted R (after_words o)
then-ended (refused n p) f q = q
then-ended {R = R} (accepted es) f q = ended R es (λ e. f es q e)

-- what is known of accepted bytes, when P is kept
pub record Kept (P : List ℕ → State → Type 0) (bytes : List ℕ) (es : List Entry) : Type 0 where
  pub whole : length bytes % 4 ≡ 0
  pub few : length bytes ≤ most_bytes (form_shown (words_of bytes))
  pub kept : P (words_of bytes) (closed es)
  pub ended : Ended es

-- what each step keeps, of the words so far and the state, holds at the end
module _ (P : List ℕ → State → Type 0) (keeps : (past : List ℕ) (s t : State) (i w : ℕ) → P past s → Moves s i (decode w) t → P (past ++ (w ∷ [])) t) where
  last-kept : (past : List ℕ) (s : State) (i : ℕ) → P past s → WhenAccepted (λ es. P past (closed es)) (at_last s i)
  last-kept past (outside es) i p = omega arith
  last-kept past (numbered es n q) i p = omega arith
  last-kept past (inside es h vs v) i p = omega arith
  last-kept past (after es h vs marked) i p = omega arith
  last-kept past (closed es) i p = p

  pub words-kept : (words past : List ℕ) (s : State) (i : ℕ) → P past s → WhenAccepted (λ es. P (past ++ words) (closed es)) (read_words s i words)
  unfolding read_words
  words-kept [] past s i p = rw append-nil (last-kept past s i p)
  words-kept (w ∷ words) past s i p = go (step s i (decode w)) (moved s i (decode w)) (λ t q. words-kept words (past ++ (w ∷ [])) t (suc i) q)
    where
      go : (r : Step) → Going (Moves s i (decode w)) r
          → ((t : State) → P (past ++ (w ∷ [])) t → WhenAccepted (λ es. P (past ++ (w ∷ []) ++ words) (closed es)) (read_words t (suc i) words))
          → WhenAccepted (λ es. P (past ++ (w ∷ words)) (closed es)) (elim r [ next t ↦ read_words t (suc i) words | stop n ↦ refused n i ])
      go (next t) m more = rw (← append_snoc past w words) (more t (keeps past s t i w p m))
      go (stop n) m more = m

  bytes-kept : (bytes : List ℕ) → P [] (outside []) → WhenAccepted (Kept P bytes) (read bytes)
  unfolding read
  bytes-kept bytes p =
      checked_case (λ n. n ≢ 0) (WhenAccepted (Kept P bytes)) (λ n. refused n 0) (file_rows bytes) (read_all bytes) (λ n h. h) (omega arith)
      (λ r. then-ended (read_words (outside []) 0 (words_of bytes))
      (λ es q e. record { whole = eqb-true _ 0 (not-false _ r.0); few = ltb-false _ _ r.1.0; kept = q; ended = e })
      (words-kept (words_of bytes) [] (outside []) 0 p))

  pub kept-to-end : (bytes : List ℕ) (es : List Entry) → P [] (outside []) → read bytes ≡ accepted es → Kept P bytes es
  kept-to-end bytes es p e = subst (WhenAccepted (Kept P bytes)) e (bytes-kept bytes p)

-- without a refusal the outcome is accepted
pub when_not-refused : (bytes : List ℕ) → refusal (read bytes) ≡ 0 → read bytes ≡ accepted (entries (read bytes))
when_not-refused bytes = go (read bytes) (bytes-kept (λ past s. Unit {0}) (λ past s t i w p m. tt) bytes tt)
  where
    go : (o : Outcome) → WhenAccepted (Kept (λ past s. Unit {0}) bytes) o → refusal o ≡ 0 → o ≡ accepted (entries o)
    go (refused n p) h e = absurd (h e)
    go (accepted es) h e = refl

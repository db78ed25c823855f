-- The open merge (document 02, ask 7): a list of entries that grows, looked up on the way, and closed at last.
use Rattle.std.specs.Prelude.{◌≡◌, Bool, true, false, List, [], ◌∷◌, map, ℕ, eqb}
use Rattle.std.proofs.Math.Option.{Option, none, some}
use Rattle.integers.specs.Every.{any}
use Rattle.integers.specs.First.{first_given}
use Rattle.catalogue_rules.specs.Catalogue.{See, Entry, Outcome, refused, accepted}
use Rattle.catalogue_rules.specs.Read.{lost_at}
use Rattle.catalogue_rules.specs.Write.{write}
use Rattle.catalogue_rules.specs.Form.{placed}
use Rattle.fold_rules.specs.Fold.{closed_list, lookup}
use Rattle.fold_rules.specs.Services.{Lookup, lookup_of}
use Rattle.merge_rules.specs.Addition.{addition}

-- R19.1: whether it is closed, and the entries in the order added, each as it stands in their file
pub record Merge : Type 0 where
  pub closed : Bool
  pub entries : List Entry

-- R19.1: "A merge starts open and empty"
abbrev pub start : Merge
start = record { closed = false; entries = [] }

-- R19.1: "the new-form file of the entries in the order added"
abbrev pub file_of : Merge → List ℕ
file_of M = write M.entries

-- R19.2: what a call answers: it was done, a refusal and its place, a standing number that is provisional or final, "not yet"
pub data Answer : Type 0 where
  done : Answer
  refused_at : (number place : ℕ) → Answer
  provisional : (standing : ℕ) → Answer
  final : (standing : ℕ) → Answer
  not_yet : Answer

-- R19.2: a call hands the merge back beside its answer
pub record Said : Type 0 where
  pub merge : Merge
  pub answer : Answer

abbrev pub said : Merge → Answer → Said
said M a = record { merge = M; answer = a }

-- R9.21: "21 when an addition or a closing meets a closed merge, checked before anything else"
abbrev pub if_open : Merge → Said → Said
if_open M r = elim M.closed [ true ↦ said M (refused_at 21 0) | false ↦ r ]

-- ---- adding

-- R19.3: refused, it "leaves the merge as it was"; otherwise the new entry stands behind the others
abbrev pub added : Merge → Outcome → Said
added M (refused n p) = said M (refused_at n p)
added M (accepted es) = said (record { closed = false; entries = placed 0 es }) done

-- R19.3
unfoldable pub add_to : Merge → List ℕ → Said
add_to M bytes = if_open M (added M (addition M.entries bytes))

-- ---- looking up

-- R19.5: "see words left aside"
abbrev pub without_see : Entry → Entry
without_see e = record { head = e.head; vectors = e.vectors; draft = e.draft; see = none }

-- R19.6: a see word names n
abbrev pub named_by : ℕ → Option See → Bool
named_by n none = false
named_by n (some w) = eqb w.number n

-- R19.6: "A number that has not been added, but that an added entry's see word names, is answered 'not yet', which is no refusal; any other number not
-- added gives 17"
abbrev pub missing : List Entry → ℕ → Answer
missing es n = elim (any (λ e. named_by n e.see) es) [ true ↦ not_yet | false ↦ refused_at 17 0 ]

-- R19.5, R19.6: "the standing number among the entries added so far, see words left aside, marked as provisional"
abbrev pub looked_open : List Entry → ℕ → Answer
looked_open es n = elim (lookup (closed_list (map without_see es)) n) [ some s ↦ provisional s | none ↦ missing es n ]

-- R19.8: an answer of a file
abbrev pub finally : Lookup → Answer
finally l = elim (eqb l.refusal 0) [ true ↦ final l.standing | false ↦ refused_at l.refusal l.place ]

-- R19.5 to R19.8: "After closing, answers equal those of the whole fold over the same entries in that order". The merge is not changed
unfoldable pub look_in : Merge → ℕ → Answer
look_in M n = elim M.closed [ true ↦ finally (lookup_of (file_of M) n) | false ↦ looked_open M.entries n ]

-- ---- closing

-- R19.7: "12 if a see word still names no entry, at the place of the first such word in the new-form file of the entries in the order added", and the
-- merge stays open
abbrev pub closing : Merge → Option ℕ → Said
closing M (some p) = said M (refused_at 12 p)
closing M none = said (record { closed = true; entries = M.entries }) done

-- R19.7
unfoldable pub close_of : Merge → Said
close_of M = if_open M (closing M (first_given (lost_at M.entries) M.entries))

-- ---- sequences of calls

-- R19.1
pub data Call : Type 0 where
  add : (bytes : List ℕ) → Call
  look : (number : ℕ) → Call
  close : Call

abbrev pub call : Merge → Call → Said
call M (add bytes) = add_to M bytes
call M (look n) = said M (look_in M n)
call M close = close_of M

-- R19.1: the merge after some calls, and what they answered
abbrev pub after : Merge → List Call → Merge
after M [] = M
after M (c ∷ cs) = after (call M c).merge cs

abbrev pub answers : Merge → List Call → List Answer
answers M [] = []
answers M (c ∷ cs) = (call M c).answer ∷ answers (call M c).merge cs

-- R19.1: "our promises are for one changed by our calls only": a merge that calls made of the empty one
pub record Made (M : Merge) : Type 0 where
  pub calls : List Call
  pub by-calls : after start calls ≡ M

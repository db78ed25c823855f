-- What is promised of a merge, in plain words: which entries it holds after any sequence of calls, what its provisional answers are, and what is
-- answered once it is closed.
use Rattle.std.specs.Prelude.{◌≡◌, ◌≢◌, Bool, true, false, List, [], ◌∷◌, ◌++◌, map, ℕ, ◌<◌, length, get_or}
use Rattle.integers.specs.All.{All, Some}
use Rattle.catalogue_rules.specs.Word.{end, encode, bytes_of}
use Rattle.catalogue_rules.specs.Catalogue.{new, accepted}
use Rattle.catalogue_rules.specs.Read.{read}
use Rattle.catalogue_rules.specs.Write.{write}
use Rattle.catalogue_rules.specs.Form.{placed}
use Rattle.fold_rules.specs.Fold.{folded}
use Rattle.fold_rules.specs.Services.{lookup_of}
use Rattle.fold_rules.specs.Meaning.{Sees, Folds, LooksUp}
use Rattle.separation_rules.specs.Meaning.{SeparatesAll}
use Rattle.merge_rules.specs.Merge.{Merge, start, file_of, Answer, done, refused_at, provisional, final, not_yet, said, add_to, without_see, look_in, finally, close_of, Call, add, look, close, call, after}

-- R19.10: an addition was accepted
abbrev pub is_done : Answer → Bool
is_done done = true
is_done (refused_at n p) = false
is_done (provisional s) = false
is_done (final s) = false
is_done not_yet = false

-- R19.10: the bytes that a call has added
abbrev pub taken_by : Merge → Call → List ℕ
taken_by M (add bytes) = elim (is_done (add_to M bytes).answer) [ true ↦ bytes | false ↦ [] ]
taken_by M (look n) = []
taken_by M close = []

-- R19.10: the bytes of the accepted additions in their order
abbrev pub taken : Merge → List Call → List ℕ
taken M [] = []
taken M (c ∷ cs) = taken_by M c ++ taken (call M c).merge cs

-- bytes are handed over
abbrev pub Bytes : Call → Type 0
Bytes (add bytes) = (i : ℕ) → get_or bytes i 0 < 256
Bytes (look n) = Unit {0}
Bytes close = Unit {0}

-- R19.5: the catalogue of the entries "with all see words taken away"
abbrev pub aside_file : Merge → List ℕ
aside_file M = write (map without_see M.entries)

-- R12.3, R19.10: an open merge: each of its numbers is looked up in that catalogue, whose lookups are those of `LooksUp`; "not yet" is said of a number
-- that no entry has and a see word names, and 17 of any other
pub record Provisional (M : Merge) : Type 0 where
  pub aside : LooksUp (aside_file M) (placed 0 (map without_see M.entries))
  pub entries : All (λ e. look_in M e.head.number ≡ provisional (lookup_of (aside_file M) e.head.number).standing) M.entries
  pub named : (n : ℕ) → All (λ e. e.head.number ≢ n) M.entries → Some (λ e. Sees e n) M.entries → look_in M n ≡ not_yet
  pub others : (n : ℕ) → All (λ e. e.head.number ≢ n) M.entries → All (λ e. ¬ Sees e n) M.entries → look_in M n ≡ refused_at 17 0

-- R12.3, R19.10: a closed merge: its file is accepted, with the entries added; all services on that file are the ones promised, and its lookups and the
-- file's are the same; it changes no more
pub record Final (M : Merge) : Type 0 where
  pub accepted : read (file_of M) ≡ accepted M.entries
  pub folds : Folds (file_of M) M.entries
  pub new-form : All (λ e. e.head.form ≡ new) (folded M.entries)
  pub looks-up : LooksUp (file_of M) M.entries
  pub separates : SeparatesAll (file_of M) M.entries
  pub answers : (n : ℕ) → look_in M n ≡ finally (lookup_of (file_of M) n)
  pub no-addition : (bytes : List ℕ) → add_to M bytes ≡ said M (refused_at 21 0)
  pub no-closing : close_of M ≡ said M (refused_at 21 0)

-- R12.3, R19.10: after any sequence of calls
pub record Merges (cs : List Call) : Type 0 where
  -- the file of the merge is the bytes of the accepted additions, one after the other, and an end word
  pub file : All Bytes cs → file_of (after start cs) ≡ taken start cs ++ bytes_of (encode (end (length (after start cs).entries)) ∷ [])
  -- a refused call leaves it as it was, and so does every lookup
  pub refused : (c : Call) (n p : ℕ) → (call (after start cs) c).answer ≡ refused_at n p → (call (after start cs) c).merge ≡ after start cs
  pub looked : (n : ℕ) → (call (after start cs) (look n)).merge ≡ after start cs
  -- what is answered on the way, and at last
  pub while_open : (after start cs).closed ≡ false → Provisional (after start cs)
  pub once_closed : (after start cs).closed ≡ true → Final (after start cs)

-- The file of a merge is the bytes of its accepted additions and an end word.
use Rattle.std.specs.Prelude.{◌≡◌, ◌≢◌, Bool, ℕ, suc, ◌%◌, ◌/◌, ◌<◌, eqb, length, get_or}
use Rattle.std.proofs.Math.Path.{refl, sym, ap}
use Rattle.std.proofs.Common.{◌∙◌, subst, arith, eqb-true}
use Rattle.std.proofs.Math.Bool.{true, false}
use mathlib.Core.List.{List, [], ◌∷◌, ◌++◌, map, map-append, append_assoc, append-nil}
use Rattle.std.proofs.Math.Option.{Option, none, some}
use Rattle.std.proofs.Math.Seq.{append_snoc}
use Rattle.std.proofs.lemmas.Bool.{not-false}
use Rattle.integers.specs.All.{All}
use Rattle.integers.specs.First.{first_given}
use Rattle.catalogue_rules.specs.Word.{end, decode, encode, words_of, bytes_of}
use Rattle.catalogue_rules.proofs.Laws.Word.{encode-decode, bytes-words}
use Rattle.catalogue_rules.specs.Catalogue.{Entry, Outcome, refused, accepted}
use Rattle.catalogue_rules.specs.Read.{State, outside, numbered, inside, after, closed, Step, next, stop, step, dependent_at, lost_at}
use Rattle.catalogue_rules.specs.Write.{entries_words, write}
use Rattle.catalogue_rules.proofs.Laws.Moves.{Moves, Going, moved, WhenAccepted, checked_case}
use Rattle.catalogue_rules.proofs.Laws.Placed.{entries-words}
use Rattle.catalogue_rules.proofs.Laws.RoundTrip.{words_so_far, grows}
use Rattle.merge_rules.specs.Addition.{may_stand, add_last, add_words, after_addition, addition_rows, addition}
use Rattle.merge_rules.specs.Merge as rules
use Rattle.merge_rules.specs.Merge.{Merge, start, file_of, Said, said, done, refused_at, added, add_to, look_in, closing, close_of, Call, add, look, close, call}
use Rattle.merge_rules.specs.Meaning.{is_done, taken_by, taken, Bytes}

-- the words that entries have
abbrev words_in : List Entry → List ℕ
words_in es = map encode (entries_words es)

-- ---- an addition

-- the words read are those of the entries
abbrev Reads : List ℕ → Outcome → Type 0
Reads words = WhenAccepted (λ fs. words_in fs ≡ words)

last_reads : (n : ℕ) (s : State) (i : ℕ) → Reads (map encode (words_so_far s)) (add_last n s i)
last_reads n (outside fs) i = go (eqb (length fs) n)
  where
    go : (t : Bool) → Reads (words_in fs) (elim t as (λ t. Outcome) [ true ↦ refused 10 i | false ↦ accepted fs ])
    go true = omega arith
    go false = refl
last_reads n (numbered fs k p) i = omega arith
last_reads n (inside fs h vs v) i = omega arith
last_reads n (after fs h vs marked) i = refl
last_reads n (closed fs) i = omega arith

words-read : (n : ℕ) (words : List ℕ) (s : State) (i : ℕ) → Reads (map encode (words_so_far s) ++ words) (add_words n s i words)
unfolding add_words
words-read n [] s i = subst (λ l. Reads l (add_last n s i)) (sym (append-nil (map encode (words_so_far s)))) (last_reads n s i)
words-read n (w ∷ words) s i = go (may_stand n s (decode w)) (step s i (decode w)) (moved s i (decode w)) (λ t. words-read n words t (suc i))
  where
    more : (t : State) → Moves s i (decode w) t → map encode (words_so_far t) ++ words ≡ map encode (words_so_far s) ++ (w ∷ words)
    more t m =
        ap (λ l. map encode l ++ words) (grows m)
        ∙ ap (λ l. l ++ words) (map-append encode (words_so_far s) (decode w ∷ []) ∙ ap (λ x. map encode (words_so_far s) ++ (x ∷ [])) (encode-decode w))
        ∙ append_snoc (map encode (words_so_far s)) w words

    go : (b : Bool) (r : Step) → Going (Moves s i (decode w)) r → ((t : State) → Reads (map encode (words_so_far t) ++ words) (add_words n t (suc i) words))
        → Reads (map encode (words_so_far s) ++ (w ∷ words)) (elim (elim b as (λ b. Step) [ true ↦ r | false ↦ stop 10 ]) as (λ r. Outcome) [ next t ↦ add_words n t (suc i) words | stop k ↦ refused k i ])
    go true (next t) m rest = subst (λ l. Reads l (add_words n t (suc i) words)) (more t m) (rest t)
    go true (stop k) m rest = m
    go false r m rest = omega arith

-- the bytes of an accepted addition are words, those of the new entry
pub record Words (es : List Entry) (bytes : List ℕ) (fs : List Entry) : Type 0 where
  pub whole : length bytes % 4 ≡ 0
  pub words : words_in fs ≡ words_in es ++ words_of bytes

addition-words : (es : List Entry) (bytes : List ℕ) → WhenAccepted (Words es bytes) (addition es bytes)
unfolding addition
addition-words es bytes =
    checked_case (λ n. n ≢ 0) (WhenAccepted (Words es bytes)) (λ n. refused n 0) (addition_rows bytes)
    (after_addition (add_words (length es) (outside es) 0 (words_of bytes))) (λ n h. h) (omega arith)
    (λ r. judged (eqb-true _ 0 (not-false _ r.0)) (add_words (length es) (outside es) 0 (words_of bytes)) (words-read (length es) (words_of bytes) (outside es) 0))
  where
    judged : length bytes % 4 ≡ 0 → (o : Outcome) → Reads (words_in es ++ words_of bytes) o → WhenAccepted (Words es bytes) (after_addition o)
    judged e (refused n p) h = h
    judged e (accepted fs) h = go (first_given dependent_at fs)
      where
        go : (o : Option ℕ) → WhenAccepted (Words es bytes) (elim o as (λ o. Outcome) [ some p ↦ refused 5 p | none ↦ accepted fs ])
        go (some p) = omega arith
        go none = record { whole = e; words = h }

-- ---- bytes

bytes-append : (a b : List ℕ) → bytes_of (a ++ b) ≡ bytes_of a ++ bytes_of b
bytes-append [] b = refl
bytes-append (w ∷ a) b = ap (λ l. w % 256 ∷ w / 256 % 256 ∷ w / 65536 % 256 ∷ w / 16777216 % 256 ∷ l) (bytes-append a b)

-- the bytes of the entries of a merge
abbrev bytes_in : Merge → List ℕ
bytes_in M = bytes_of (words_in M.entries)

module _ (M : Merge) where
  add-bytes : (bytes : List ℕ) → ((i : ℕ) → get_or bytes i 0 < 256) → bytes_in (add_to M bytes).merge ≡ bytes_in M ++ taken_by M (add bytes)
  unfolding add_to
  add-bytes bytes small = go M.closed (addition M.entries bytes) (addition-words M.entries bytes)
    where
      go : (b : Bool) (o : Outcome) → WhenAccepted (Words M.entries bytes) o
          → bytes_in (elim b as (λ b. Said) [ true ↦ said M (refused_at 21 0) | false ↦ added M o ]).merge
          ≡ bytes_in M ++ elim (is_done (elim b as (λ b. Said) [ true ↦ said M (refused_at 21 0) | false ↦ added M o ]).answer) as (λ b. List ℕ) [ true ↦ bytes | false ↦ [] ]
      go true o w = sym (append-nil (bytes_in M))
      go false (refused n p) w = sym (append-nil (bytes_in M))
      go false (accepted fs) w =
          ap (λ l. bytes_of (map encode l)) (entries-words 0 fs)
          ∙ ap bytes_of w.words
          ∙ bytes-append (words_in M.entries) (words_of bytes)
          ∙ ap (λ l. bytes_in M ++ l) (bytes-words bytes small w.whole)

  close-bytes : bytes_in (close_of M).merge ≡ bytes_in M
  unfolding close_of
  close-bytes = go M.closed (first_given (lost_at M.entries) M.entries)
    where
      go : (b : Bool) (o : Option ℕ) → bytes_in (elim b as (λ b. Said) [ true ↦ said M (refused_at 21 0) | false ↦ closing M o ]).merge ≡ bytes_in M
      go true o = refl
      go false none = refl
      go false (some p) = refl

call-bytes : (M : Merge) (c : Call) → Bytes c → bytes_in (call M c).merge ≡ bytes_in M ++ taken_by M c
call-bytes M (add bytes) small = add-bytes M bytes small
call-bytes M (look n) small = sym (append-nil (bytes_in M))
call-bytes M close small = close-bytes M ∙ sym (append-nil (bytes_in M))

calls-bytes : (M : Merge) (cs : List Call) → All Bytes cs → bytes_in (rules.after M cs) ≡ bytes_in M ++ taken M cs
calls-bytes M [] small = sym (append-nil (bytes_in M))
calls-bytes M (c ∷ cs) small =
    calls-bytes (call M c).merge cs small.1
    ∙ ap (λ l. l ++ taken (call M c).merge cs) (call-bytes M c small.0)
    ∙ append_assoc (bytes_in M) (taken_by M c) (taken (call M c).merge cs)

pub merge-file : (cs : List Call) → All Bytes cs → file_of (rules.after start cs) ≡ taken start cs ++ bytes_of (encode (end (length (rules.after start cs).entries)) ∷ [])
unfolding write
merge-file cs small =
    let M = rules.after start cs in
    ap bytes_of (map-append encode (entries_words M.entries) (end (length M.entries) ∷ []))
    ∙ bytes-append (words_in M.entries) (encode (end (length M.entries)) ∷ [])
    ∙ ap (λ l. l ++ bytes_of (encode (end (length M.entries)) ∷ [])) (calls-bytes start cs small)

-- What a word of an addition does to the stored state, and what is left at the end.
use Rattle.std.specs.Prelude.{◌≡◌, refl, Bool, true, false, cond, ◌&&◌, ◌||◌, List, [], ◌∷◌, ◌++◌, ℕ, ltb, eqb, ℤ, pos, length, take, Option, Some, None}
use Rattle.std.proofs.Common.{ap}
use Rattle.integers.specs.Every.{any}
use Rattle.integers.specs.Filled.{filled}
use Rattle.catalogue_rules.specs.Word.{Word, head, coordinate, see, end, draft, head_number, head_size, other, kind_of}
use Rattle.catalogue_rules.specs.Catalogue.{new, most_numbers}
use Rattle.catalogue_steps.specs.Words.{opens, opens_by-kind}
use Rattle.catalogue_rules.specs.Read.{State, outside, numbered, inside, after, closed, checked, size_rows}
use Rattle.catalogue_records.specs.declared.Form.{Form}
use Rattle.catalogue_records.specs.declared.Form.TheVariants.{Old, New}
use Rattle.catalogue_records.specs.declared.Entry.{Entry}
use Rattle.merge_rules.specs.Addition.{may_stand}
use Rattle.catalogue_steps.specs.declared.reading.Phase.{Phase}
use Rattle.catalogue_steps.specs.declared.reading.Phase.TheVariants.{Outside, Numbered, Inside, After, Closed}
use Rattle.catalogue_steps.specs.declared.reading.Reading.{Reading}
use Rattle.catalogue_steps.specs.Parts.{no_part, started, whole, whole_at}
use Rattle.catalogue_steps.specs.Readings.{is_number, Turn, going, goes, stopped, form_read, outside_read, step_read}
use Rattle.catalogue_steps.specs.States.{reading_of}

-- ---- the start

abbrev pub form_before : ℕ → Form
form_before n = cond (eqb n 0) Old New

abbrev pub start_read : ℕ → Reading
start_read n = going Outside n (form_before n) no_part

-- ---- a word

-- the mark of a draft or a see word; of other words the kind tells it
abbrev pub is_late : Word → Bool
is_late (see number) = true
is_late (draft l) = true
is_late (other k l) = eqb k 5 || eqb k 3
is_late _ = false

-- whether no entry came since, and the word
abbrev pub stands_in : Phase → Bool → Word → Bool
stands_in Outside first w = first && opens new w
stands_in Numbered first w = true
stands_in Inside first w = true
stands_in After first w = is_late w
stands_in Closed first w = false

abbrev pub add_read : List ℕ → ℕ → Reading → ℕ → Word → Turn
add_read numbers n s i w = cond (stands_in s.phase (eqb s.count n) w) (step_read numbers s i w) (stopped 10)

-- the entry that it has made whole
abbrev pub kept_read : Option Entry → Reading → Reading → List ℤ → ℕ → Word → Option Entry
kept_read o s t l i w = cond (ltb s.count t.count) (Some (whole_at s.part t.form (filled (pos 0) most_numbers (take s.part.filled l)) i w)) o

-- ---- the end

abbrev pub last_in : Phase → Option Entry → Reading → List ℤ → Option Entry
last_in Outside o s l = o
last_in After o s l = Some (whole s.part s.form (filled (pos 0) most_numbers (take s.part.filled l)) None)
last_in _ o s l = None

abbrev pub last_read : Option Entry → Reading → List ℤ → Option Entry
last_read o s l = last_in s.phase o s l

-- ---- a word is judged as the definition judges it

late-shown : (w : Word) → is_late w ≡ (eqb (kind_of w) 5 || eqb (kind_of w) 3)
late-shown (head number d m) = refl
late-shown (coordinate l) = refl
late-shown (see number) = refl
late-shown (end count) = refl
late-shown (draft l) = refl
late-shown (head_number number) = refl
late-shown (head_size high d m) = refl
late-shown (other k l) = refl

pub stands-shown : (n : ℕ) (s : State) (w : Word) → stands_in (reading_of s).phase (eqb (reading_of s).count n) w ≡ may_stand n s w
stands-shown n (outside es) w = ap (λ t. eqb (length es) n && t) (opens_by-kind new w)
stands-shown n (numbered es k p) w = refl
stands-shown n (inside es h vs v) w = refl
stands-shown n (after es h vs marked) w = late-shown w
stands-shown n (closed es) w = refl

-- numbers are looked at where a head may stand, and only those of the entries before
pub outside-numbers : (ns ms : List ℕ) (s : Reading) (i : ℕ) (w : Word) → take s.count ns ≡ take s.count ms → outside_read ns s i w ≡ outside_read ms s i w
outside-numbers ns ms s i (head number d m) e =
    ap (λ l. checked stopped (form_read s Old ++ (size_rows d m ++ ((eqb number 0 || any (is_number number) l, 11) ∷ []))) (goes Inside s.count Old (started number d m i))) e
outside-numbers ns ms s i (coordinate l) e = refl
outside-numbers ns ms s i (see number) e = refl
outside-numbers ns ms s i (end count) e = refl
outside-numbers ns ms s i (draft l) e = refl
outside-numbers ns ms s i (head_number number) e =
    ap (λ l. checked stopped (form_read s New ++ ((eqb number 0 || any (is_number number) l, 11) ∷ [])) (goes Numbered s.count New (started number 0 0 i))) e
outside-numbers ns ms s i (head_size high d m) e = refl
outside-numbers ns ms s i (other k l) e = refl

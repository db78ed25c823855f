-- The entries of an accepted catalogue are well formed: what each step of reading adds, and what the end has checked.
use Rattle.std.specs.Prelude.{◌≡◌, refl, ◌≢◌, Bool, true, false, not, ◌&&◌, ◌||◌, List, [], ◌∷◌, ◌++◌, ℕ, ◌≤◌, ◌<◌, ltb, eqb, pos, nat_abs, length}
use Rattle.std.proofs.Common.{sym, ap, ap₂, ◌∙◌, true≢false, arith, length-append, eqb-true, ne_eqb, leb-false, le-leb, ltb-false, le-ltb}
use Rattle.std.proofs.Math.Option.{Option, none, some, some-ne-none}
use Rattle.std.specs.Int.Signed.{lt_z}
use Rattle.std.proofs.lemmas.Bool.{eqb-false, not-false}
use Rattle.integers.specs.Order.{sub-ind}
use Rattle.lattices.specs.Vector.{Vec, N}
use Rattle.lattices.specs.Volume.{is_dependent}
use Rattle.integers.specs.Every.{any}
use Rattle.lattices.specs.Refusal.{one_to, most_square, most_size}
use Rattle.integers.specs.Tests.{neither}
use Rattle.integers.specs.All.{All}
use Rattle.integers.specs.AllLaws.{all_imp, all_snoc}
use Rattle.integers.specs.FirstLaws.{none-given}
use Rattle.catalogue_rules.specs.Word.{Word}
use Rattle.catalogue_rules.specs.Catalogue.{Form, old, new, most_number, same_form, Head, See, Entry, accepted, most_load, most_entries}
use Rattle.catalogue_rules.specs.Read.{State, outside, numbered, inside, after, closed, is_numbered, form_of, differs, form_rows, size_rows, number_rows, with_entry, coordinate_of, with_vector, with_coordinate, dependent_at, lost_at, read_words, read}
use Rattle.catalogue_rules.specs.Form.{HeadFits, VectorFits, EntryFits, Distinct, OneForm, Entered, EntryIndependent, Names, WellFormed}
use Rattle.catalogue_rules.proofs.Laws.Word.{InRange, decode_range}
use Rattle.catalogue_rules.proofs.Laws.Moves.{Between, between, unreferred, Moves, by-head, by_number, by_size, by-coordinate, by-draft, by-see, by_end, WhenAccepted, words-kept, kept-to-end, NoneOf}

-- ---- tests

rest_false : (s t : Bool) → (s && t) ≡ false → s ≡ true → t ≡ false
rest_false true t e f = e
rest_false false t e f = absurd (true≢false (sym f))

pub any_append : {A : Type 0} (f : A → Bool) (l k : List A) → any f l ≡ false → any f k ≡ false → any f (l ++ k) ≡ false
any_append f [] k e q = q
any_append f (b ∷ l) k e q = let p = neither (f b) (any f l) e in ap₂ ◌||◌ p.0 (any_append f l k p.1 q)

pub any_snoc : {A : Type 0} (f : A → Bool) (l : List A) (a : A) → any f l ≡ false → f a ≡ false → any f (l ++ (a ∷ [])) ≡ false
any_snoc f l a e q = any_append f l (a ∷ []) e (ap (λ t. t || false) q)

pub eqb_turned : (a b : ℕ) → eqb a b ≡ false → eqb b a ≡ false
eqb_turned a b e = ne_eqb b a (λ p. eqb-false a b e (sym p))

-- ---- an entry more

-- a number has been read after these entries, in a head of this form
pub record Numbered (es : List Entry) (f : Form) (n : ℕ) : Type 0 where
  pub entered : Entered es
  pub one : differs (form_of es) f ≡ false
  pub few : length es < most_entries
  pub number : one_to (most_number f) n ≡ true
  pub new : any (is_numbered n) es ≡ false

-- a head has been read
pub record Headed (es : List Entry) (h : Head) : Type 0 where
  pub before : Numbered es h.form h.number
  pub head : HeadFits h

abbrev pub Known : State → Type 0
Known (outside es) = Entered es
Known (numbered es n p) = Numbered es new n
Known (inside es h vs v) = Headed es h × All (VectorFits h.m) vs × (any (λ x. ltb most_size (nat_abs x)) v ≡ false)
Known (after es h vs marked) = Headed es h × All (VectorFits h.m) vs × (length vs ≡ h.d)
Known (closed es) = Entered es

distinct_snoc : (es : List Entry) (e : Entry) → Distinct es → any (is_numbered e.head.number) es ≡ false → Distinct (es ++ (e ∷ []))
distinct_snoc [] e p q = (refl, tt)
distinct_snoc (f ∷ es) e p q =
    let r = neither (is_numbered e.head.number f) (any (is_numbered e.head.number) es) q in
    (any_snoc (is_numbered f.head.number) es e p.0 (eqb_turned f.head.number e.head.number r.0), distinct_snoc es e p.1 r.1)

same-form : (f g : Form) → not (same_form f g) ≡ false → f ≡ g
same-form old old e = refl
same-form old new e = absurd (true≢false e)
same-form new old e = absurd (true≢false e)
same-form new new e = refl

one_form : (es : List Entry) (e : Entry) → OneForm es → differs (form_of es) e.head.form ≡ false → OneForm (es ++ (e ∷ []))
one_form [] e o d = record { form = e.head.form; heads = (refl, tt) }
one_form (x ∷ es) e o d = record {
  form = o.form;
  heads = all_snoc (λ y. y.head.form ≡ o.form) (x ∷ es) e o.heads (sym (same-form x.head.form e.head.form d) ∙ o.heads.0);
}

with-entry : (es : List Entry) (h : Head) (vs : List Vec) (marked : Bool) (s : Option See) → Known (after es h vs marked) → Entered (with_entry es h vs marked s)
with-entry es h vs marked s k =
    let e : Entry = record { head = h; vectors = vs; draft = marked; see = s } in
    let b = k.0.before in
    record {
      one = one_form es e b.entered.one b.one;
      few = (let p = length-append es (e ∷ []) in let q = b.few in omega arith);
      fits = all_snoc EntryFits es e b.entered.fits (record { head = k.0.head; count = k.2; vectors = k.1 });
      distinct = distinct_snoc es e b.entered.distinct b.new;
    }

-- ---- a coordinate more

pub load-within : (l : ℕ) → ltb most_load l ≡ false → ltb most_size (nat_abs (coordinate_of l)) ≡ false
load-within l e =
    let h = ltb-false most_load l e in
    le-ltb most_size _ (sub-ind (λ z. nat_abs z ≤ most_size) l most_size (λ k. omega arith) (λ k. omega arith))

with-vector : (es : List Entry) (h : Head) (vs : List Vec) → Headed es h → All (VectorFits h.m) vs → Known (with_vector es h vs)
with-vector es h vs k r = go (eqb (length vs) h.d) refl
  where
    go : (t : Bool) → eqb (length vs) h.d ≡ t → Known (elim t [ true ↦ after es h vs false | false ↦ inside es h vs [] ])
    go true e = (k, r, eqb-true _ _ e)
    go false e = (k, r, refl)

with-coordinate : (es : List Entry) (h : Head) (vs : List Vec) (v : Vec) → Known (inside es h vs v) → (eqb (length v) h.m ≡ true → lt_z (pos most_square) (N v) ≡ false) → Known (with_coordinate es h vs v)
with-coordinate es h vs v k short = go (eqb (length v) h.m) refl
  where
    go : (t : Bool) → eqb (length v) h.m ≡ t → Known (elim t [ true ↦ with_vector es h (vs ++ (v ∷ [])) | false ↦ inside es h vs v ])
    go true e = with-vector es h (vs ++ (v ∷ [])) k.0 (all_snoc (VectorFits h.m) vs v k.1 (record { full = eqb-true _ _ e; short = ap₂ ◌||◌ k.2 (short e) }))
    go false e = k

-- ---- every step

known-between : {s : State} {es : List Entry} → Between s es → Known s → Entered es
known-between (between es) k = k
known-between (unreferred es h vs marked) k = with-entry es h vs marked none k

number_fits : (f : Form) (n : ℕ) → n ≤ most_number f → eqb n 0 ≡ false → one_to (most_number f) n ≡ true
number_fits f n h e =
    let z : n ≢ 0 = eqb-false n 0 e in
    ap₂ ◌&&◌ (le-leb 1 n (omega arith)) (le-leb n (most_number f) h)

number-known : (f : Form) (es : List Entry) (n : ℕ) → Entered es → NoneOf (form_rows f es) → NoneOf (number_rows es n) → n ≤ most_number f → Numbered es f n
number-known f es n k p q h =
    let r = neither (eqb n 0) (any (is_numbered n) es) q.0 in
    record { entered = k; one = p.0; few = leb-false _ _ p.1.0; number = number_fits f n h r.0; new = r.1 }

head-known : (es : List Entry) (h : Head) → Numbered es h.form h.number → NoneOf (size_rows h.d h.m) → Known (inside es h [] [])
head-known es h k p = (record { before = k; head = record { number = k.number; d = not-false _ p.0; m = not-false _ p.1.0 } }, tt, refl)

pub known-moves : {s t : State} {i : ℕ} {w : Word} → Moves s i w t → InRange w → Known s → Known t
known-moves (by-head {es} n d m i b p) r k =
    let q = number-known old es n (known-between b k) (p.0, (p.1.0, tt)) (p.1.1.1.1.0, tt) (let s = r.0 in omega arith) in
    head-known es (record { form = old; number = n; d = d; m = m; place = i }) q (p.1.1.0, (p.1.1.1.0, tt))
known-moves (by_number {es} n i b p) r k = number-known new es n (known-between b k) (p.0, (p.1.0, tt)) (p.1.1.0, tt) (omega arith)
known-moves (by_size es n i d m p) r k = head-known es (record { form = new; number = n; d = d; m = m; place = i }) k p.1
known-moves (by-coordinate es h vs v l p) r k =
    let u = v ++ (coordinate_of l ∷ []) in
    let fits = neither (ltb most_load l) (eqb (length u) h.m && lt_z (pos most_square) (N u)) p.0 in
    with-coordinate es h vs u (k.0, k.1, any_snoc (λ x. ltb most_size (nat_abs x)) v (coordinate_of l) k.2 (load-within l fits.0)) (rest_false _ _ fits.1)
known-moves (by-draft es h vs) r k = k
known-moves (by-see es h vs marked s) r k = with-entry es h vs marked (some s) k
known-moves (by_end b) r k = known-between b k

-- ---- the end

pub not_dependent : (e : Entry) → dependent_at e ≡ none → EntryIndependent e
not_dependent e h = go (is_dependent e.head.m e.vectors) h
  where
    go : (t : Bool) → ◌≡◌ {A = Option ℕ} (elim t [ true ↦ some e.head.place | false ↦ none ]) none → t ≡ false
    go true h = absurd (some-ne-none _ h)
    go false h = refl

pub not-lost : (es : List Entry) (e : Entry) → lost_at es e ≡ none → Names es e.see
not-lost es e h = go e.see h
  where
    found : (s : See) (t : Bool) → ◌≡◌ {A = Option ℕ} (elim t [ true ↦ none | false ↦ some s.place ]) none → t ≡ true
    found s true h = refl
    found s false h = absurd (some-ne-none _ h)

    go : (o : Option See) → ◌≡◌ {A = Option ℕ} (elim o [ none ↦ none | some s ↦ elim (any (is_numbered s.number) es) [ true ↦ none | false ↦ some s.place ] ]) none → Names es o
    go none h = tt
    go (some s) h = found s (any (is_numbered s.number) es) h

-- what the words keep
pub nothing_read : Known (outside [])
nothing_read = record { one = record { form = old; heads = tt }; few = omega arith; fits = tt; distinct = tt }

pub words-entered : (words : List ℕ) → WhenAccepted Entered (read_words (outside []) 0 words)
words-entered words = words-kept (λ past s. Known s) (λ past s t i w p m. known-moves m (decode_range w) p) words [] (outside []) 0 nothing_read

pub well_formed : (bytes : List ℕ) (es : List Entry) → read bytes ≡ accepted es → WellFormed es
well_formed bytes es e =
    let k = kept-to-end (λ past s. Known s) (λ past s t i w p m. known-moves m (decode_range w) p) bytes es nothing_read e in
    record {
      entered = k.kept;
      independent = all_imp not_dependent es (none-given dependent_at es k.ended.independent);
      named = all_imp (not-lost es) es (none-given (lost_at es) es k.ended.found);
    }

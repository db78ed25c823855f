-- The ways of the see words that standing entries carry, found entry by entry: each entry's word is followed once, and is kept for the standing
-- entry that it is folded into unless that has one already; its own takes the place of an earlier one.
use Rattle.std.specs.Prelude.{◌≡◌, refl, ◌≢◌, Bool, true, false, List, ◌∷◌, ◌++◌, [], map, ℕ, ◌+◌, ◌≤◌, ◌<◌, eqb, length, get_or, set, take, replicate, Option, None}
use Rattle.std.proofs.Common.{sym, ap, ap₂, ◌∙◌, add-one, arith, length-set, take-suc, take_all, get_or-set_same, get_or-set_other, eqb-true, eq-eqb, ne_eqb}
use Rattle.std.proofs.Math.Option as maybe
use Rattle.std.specs.Option.{option_or}
use Rattle.std.proofs.Math.Decide.{dec_lt}
use Rattle.std.proofs.lemmas.List.{length-map, length-replicate, get_or-replicate}
use Rattle.std.proofs.lemmas.Bool.{eqb-false}
use Rattle.integers.specs.AllLaws.{get_d_map}
use Rattle.integers.specs.First.{first_given}
use Rattle.integers.specs.FirstLaws.{given-next, given-before, given-kept}
use Rattle.catalogue_rules.specs.Catalogue.{See, Entry, most_entries}
use Rattle.catalogue_rules.specs.Form.{WellFormed}
use Rattle.fold_rules.specs.Fold.{standing, Stood, stood_of, closed_list, followed, leads, leads_from, or_else, carried}
use Rattle.catalogue_records.specs.declared.Entry as stored
use Rattle.catalogue_records.specs.declared.See as stored_word
use Rattle.catalogue_records.specs.EntriesIn.{entry_in}
use Rattle.catalogue_records.specs.Stored.{stored_see}
use Rattle.catalogue_records.specs.Entries.{beyond, entry_at, at_place}
use Rattle.catalogue_standing.specs.Standing.{StandingPlaces}
use Rattle.catalogue_standing.specs.Numbers.{apart}
use Rattle.catalogue_standing.specs.ReducedEntries.{WasRead, ready-length, ready-numbers}
use Rattle.catalogue_fold.specs.Printing.{Led}

-- a word that is carried, or none
abbrev pub Way : Type 0
Way = Option stored_word.See

abbrev pub way_of : maybe.Option See → Way
way_of = stored_see

abbrev pub no_way : Way
no_way = None

-- a word more for a standing entry: its own is considered before the others
abbrev pub considered : Way → Way → Bool → Way
considered v w true = option_or w v
considered v w false = option_or v w

-- the same of see words
earlier-is : (v w : maybe.Option See) → option_or (way_of v) (way_of w) ≡ way_of (or_else v w)
earlier-is maybe.none w = refl
earlier-is (maybe.some v) w = refl

or_assoc : (u v w : maybe.Option See) → or_else (or_else u v) w ≡ or_else u (or_else v w)
or_assoc maybe.none v w = refl
or_assoc (maybe.some u) v w = refl

or-again : (u v : maybe.Option See) → or_else u (or_else v u) ≡ or_else u v
or-again maybe.none maybe.none = refl
or-again maybe.none (maybe.some v) = refl
or-again (maybe.some u) v = refl

module _ (es : List Entry) (o : Entry) (places : List ℕ) where
  abbrev ss : List Stood
  ss = closed_list es

  abbrev at : ℕ → Entry
  at k = get_or es k o

  abbrev place : ℕ → ℕ
  place k = get_or places k 0

  -- the own word of the entry at place k
  abbrev own : ℕ → maybe.Option See
  own k = leads ss (stood_of es (at k))

  -- the first word of the first n entries that are folded into it
  abbrev words : ℕ → ℕ → maybe.Option See
  words k n = first_given (leads_from ss (at k).head.number) (take n ss)

  -- for each standing entry the way of the word that it carries of the first n entries; its own counts from its own place on
  pub record Carrying (n : ℕ) (ways : List Way) : Type 0 where
    pub long : length ways ≡ most_entries
    pub later : (k : ℕ) → k < length es → place k ≡ k → n ≤ k → get_or ways k no_way ≡ way_of (words k n)
    pub passed : (k : ℕ) → k < length es → place k ≡ k → k < n → get_or ways k no_way ≡ way_of (or_else (own k) (words k n))

  pub carrying_none : length es ≤ most_entries → Carrying 0 (replicate most_entries no_way)
  carrying_none few = record { long = length-replicate most_entries no_way; later = λ k h s l. get_or-replicate most_entries k no_way no_way (omega arith); passed = λ k h s l. absurd (omega arith) }

  -- among all entries: for each that stands the way of the word that it carries
  pub record CarriedWays (ways : List Way) : Type 0 where
    pub at : (k : ℕ) → k < length es → get_or places k 0 ≡ k → get_or ways k no_way ≡ way_of (carried ss (stood_of es (get_or es k o)))

  pub carrying_all : {n : ℕ} {ways : List Way} → Carrying n ways → length es ≤ n → CarriedWays ways
  carrying_all {n} p h = record {
    at = λ k l s. p.passed k l s (omega arith) ∙ ap (λ l. way_of (or_else (own k) (first_given (leads_from ss (at k).head.number) l))) (take_all n ss (omega (arith, length-map es (stood_of es))));
  }

  -- ---- the entry at place n, folded into that at place s
  module _ (w : WellFormed es) (stood : StandingPlaces es o places) (n : ℕ) (here : n < length es) where
    abbrev s : ℕ
    s = place n

    next : take (n + 1) ss ≡ take n ss ++ (stood_of es (at n) ∷ [])
    next =
        ap (λ i. take i ss) (add-one n)
        ∙ take-suc ss n (stood_of es o) (omega (arith, length-map es (stood_of es)))
        ∙ ap (λ t. take n ss ++ (t ∷ [])) (get_d_map (stood_of es) es o (stood_of es o) n here)

    abbrev word : ℕ → Stood → maybe.Option See
    word k = leads_from ss (at k).head.number

    word-own : word s (stood_of es (at n)) ≡ own n
    word-own =
        ap (λ b. elim b as (λ b. maybe.Option See) [ true ↦ own n | false ↦ maybe.none ])
        (eq-eqb (standing es (at n)).head.number (at s).head.number (ap (λ f. f.head.number) (sym (stood.at n here))))

    word-other : (k : ℕ) → k < length es → k ≢ s → word k (stood_of es (at n)) ≡ maybe.none
    word-other k h d =
        ap (λ b. elim b as (λ b. maybe.Option See) [ true ↦ own n | false ↦ maybe.none ])
        (ne_eqb (standing es (at n)).head.number (at k).head.number
        (λ q. d (apart es w.entered.distinct o k s h (stood.within n here) (sym q ∙ ap (λ f. f.head.number) (sym (stood.at n here))))))

    other-kept : (k : ℕ) → k < length es → k ≢ s → words k n ≡ words k (n + 1)
    other-kept k h d = sym (ap (first_given (word k)) next ∙ given-kept (word k) (take n ss) (stood_of es (at n)) (word-other k h d))

    own-next : or_else (words s n) (own n) ≡ words s (n + 1)
    own-next = go (words s n) refl
      where
        go : (v : maybe.Option See) → first_given (leads_from (closed_list es) (get_or es (get_or places n 0) o).head.number) (take n (closed_list es)) ≡ v → or_else v (own n) ≡ words s (n + 1)
        go maybe.none q = sym (ap (first_given (word s)) next ∙ given-next (word s) (take n ss) (stood_of es (at n)) q ∙ word-own)
        go (maybe.some v) q = sym (ap (first_given (word s)) next ∙ given-before (word s) (take n ss) (stood_of es (at n)) v q ∙ q)

    -- the word of this entry is followed, and considered where it may be carried
    module _ {ways : List Way} (p : Carrying n ways) {way : Way} (is : way ≡ way_of (own n)) {now : Way} (q : now ≡ considered (get_or ways s no_way) way (eqb n s)) where
      -- an entry that follows the standing entry, or comes before it
      by-other : n ≢ s → (v : maybe.Option See) → get_or ways s no_way ≡ way_of v → now ≡ way_of (or_else v (own n))
      by-other d v e = q ∙ ap (considered (get_or ways s no_way) way) (ne_eqb n s d) ∙ ap₂ option_or e is ∙ earlier-is v (own n)

      by-own : n ≡ s → now ≡ way_of (or_else (own n) (words n (n + 1)))
      by-own e =
          q
          ∙ ap (considered (get_or ways s no_way) way) (eq-eqb n s e)
          ∙ ap₂ option_or is (ap (λ i. get_or ways i no_way) (sym e) ∙ p.later n here (sym e) (omega arith))
          ∙ earlier-is (own n) (words n n)
          ∙ ap way_of (sym (or-again (own n) (words n n)))
          ∙ ap (λ t. way_of (or_else (own n) t)) (ap (λ i. or_else (words i n) (own n)) e ∙ own-next ∙ ap (λ i. words i (n + 1)) (sym e))

      room : s < length ways
      room = omega (arith, stood.within n here, w.entered.few, p.long)

      same-now : (k : ℕ) → k ≡ s → get_or (set ways s now) k no_way ≡ now
      same-now k e = ap (λ i. get_or (set ways s now) i no_way) e ∙ get_or-set_same ways s now no_way room

      later-next : (k : ℕ) → k < length es → place k ≡ k → n + 1 ≤ k → (b : Bool) → eqb k s ≡ b → get_or (set ways s now) k no_way ≡ way_of (words k (n + 1))
      later-next k h t l false e = get_or-set_other ways s k now no_way (eqb-false k s e) ∙ p.later k h t (omega arith) ∙ ap way_of (other-kept k h (eqb-false k s e))
      later-next k h t l true e =
          let same = eqb-true k s e in
          same-now k same
          ∙ by-other (λ m. omega (arith, m, same, l)) (words s n) (ap (λ i. get_or ways i no_way) (sym same) ∙ p.later k h t (omega arith) ∙ ap (λ i. way_of (words i n)) same)
          ∙ ap way_of (own-next ∙ ap (λ i. words i (n + 1)) (sym same))

      passed-next : (k : ℕ) → k < length es → place k ≡ k → k < n + 1 → (b : Bool) → eqb k s ≡ b → Dec (k < n) → get_or (set ways s now) k no_way ≡ way_of (or_else (own k) (words k (n + 1)))
      passed-next k h t l false e (yes m) = get_or-set_other ways s k now no_way (eqb-false k s e) ∙ p.passed k h t m ∙ ap (λ v. way_of (or_else (own k) v)) (other-kept k h (eqb-false k s e))
      passed-next k h t l false e (no m) = let same : k ≡ n = omega arith in absurd (eqb-false k s e (sym t ∙ ap place same))
      passed-next k h t l true e (yes m) =
          let same = eqb-true k s e in
          same-now k same
          ∙ by-other (λ i. omega (arith, i, same, m)) (or_else (own s) (words s n)) (ap (λ i. get_or ways i no_way) (sym same) ∙ p.passed k h t m ∙ ap (λ i. way_of (or_else (own i) (words i n))) same)
          ∙ ap way_of (or_assoc (own s) (words s n) (own n) ∙ ap (or_else (own s)) own-next ∙ ap (λ i. or_else (own i) (words i (n + 1))) (sym same))
      passed-next k h t l true e (no m) =
          let here-now : k ≡ n = omega arith in
          same-now k (eqb-true k s e) ∙ by-own (sym here-now ∙ eqb-true k s e) ∙ ap (λ i. way_of (or_else (own i) (words i (n + 1)))) (sym here-now)

      carrying_next : Carrying (n + 1) (set ways s now)
      carrying_next = record {
        long = length-set ways s now ∙ p.long;
        later = λ k h t l. later-next k h t l (eqb k s) refl;
        passed = λ k h t l. passed-next k h t l (eqb k s) refl (dec_lt k n);
      }

-- ---- as the code has it
module _ (l : List stored.Entry) (r : WasRead l) {places numbers : List ℕ} (stood : StandingPlaces (map entry_in l) (entry_in beyond) places) (named : numbers ≡ map (λ e. e.number) l) where
  -- the way of the entry at place n is that of the definition
  followed-way : (n : ℕ) → n < length l → {way : Way} → Led (entry_at l n) (get_or numbers (get_or places n 0) 0) numbers places (length l) way
      → way ≡ way_of (leads (closed_list (map entry_in l)) (stood_of (map entry_in l) (get_or (map entry_in l) n (entry_in beyond))))
  followed-way n here led =
      let es = map entry_in l in
      let o = entry_in beyond in
      let inside : n < length es = omega (arith, ready-length l r) in
      let numbered = ready-numbers l r named in
      led.leads es o r.formed stood numbered (ready-length l r)
      ∙ ap₂ (λ m s. way_of (followed (closed_list es) m s)) (numbered.number (get_or places n 0) (stood.within n inside) ∙ ap (λ f. f.head.number) (stood.at n inside))
      (ap (λ f. f.see) (sym (at_place l n here)))

  pub carrying_step : (n : ℕ) → n < length l → {ways : List Way} → Carrying (map entry_in l) (entry_in beyond) places n ways
      → {way : Way} → Led (entry_at l n) (get_or numbers (get_or places n 0) 0) numbers places (length l) way → {now : Way} → now ≡ considered (get_or ways (get_or places n 0) no_way) way (eqb n (get_or places n 0))
      → Carrying (map entry_in l) (entry_in beyond) places (n + 1) (set ways (get_or places n 0) now)
  carrying_step n here p led q =
      carrying_next (map entry_in l) (entry_in beyond) places r.formed stood n (omega (arith, ready-length l r)) p (followed-way n here led) q

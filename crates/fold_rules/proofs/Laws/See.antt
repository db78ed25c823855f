-- Where a see word leads, and which word a standing entry carries: the rules give what the meaning says, for any test that decides an equivalence.
use Rattle.std.specs.Prelude.{◌≡◌, refl, ◌≢◌, Bool, true, false, List, [], ◌∷◌, ◌++◌, map, ℕ, eqb}
use Rattle.std.proofs.Common.{sym, ap, ◌∙◌, subst, eqb-true, eq-eqb, ne_eqb}
use Rattle.std.proofs.Math.Option.{Option, none, some, some-ne-none}
use Rattle.std.proofs.lemmas.Bool.{eqb-false}
use Rattle.integers.specs.All.{All}
use Rattle.integers.specs.AllLaws.{all_left}
use Rattle.integers.specs.First.{first_given}
use Rattle.catalogue_rules.specs.Catalogue.{See, Entry, see_number}
use Rattle.catalogue_rules.specs.Form.{Distinct}
use Rattle.fold_rules.specs.Fold.{Stood, standing_by, stood_by, closed_by, lookup, unless_own, led, followed, leads, leads_from, or_else, carried}
use Rattle.fold_rules.specs.Meaning.{Among, First, LeadsBy, UsefulBy, CarriesBy, its_own, folded_in}
use Rattle.fold_rules.proofs.Laws.First.{all_self, first-among, first-here, first-later}
use Rattle.fold_rules.proofs.Laws.Standing.{Decides, one_number, stands-once, standing-is, standing-among, standing-one, standing-same}
use Rattle.fold_rules.proofs.Laws.Lookup.{lookup-finds, lookup-some}

-- ---- one word

-- a word that leads to its own standing entry is dropped, any other names the standing entry
pub led-own : (own : ℕ) (w : See) (there : ℕ) → there ≡ own → led own w there ≡ none
led-own own w there e = ap (λ b. unless_own b w there) (eq-eqb there own e)

pub led-other : (own : ℕ) (w : See) (there : ℕ) → there ≢ own → led own w there ≡ some (record { number = there; place = w.place })
led-other own w there h = ap (λ b. unless_own b w there) (ne_eqb there own h)

-- a see word that names the entry e
pub followed-to : (same : Entry → Entry → Bool) (all : List Entry) → Distinct all → (own : ℕ) (w : See) (e : Entry) → Among e all → e.head.number ≡ w.number
    → followed (closed_by same all) own (some w) ≡ led own w (standing_by same all e).head.number
followed-to same all d own w e a q =
    ap (λ o. elim o [ none ↦ none | some there ↦ led own w there ]) (ap (lookup (closed_by same all)) (sym q) ∙ lookup-finds same all all d e a)

-- ---- the file `all`
module _ {same : Entry → Entry → Bool} {One : Entry → Entry → Type 0} {Sound : Entry → Type 0} (D : Decides same One Sound)
    (all : List Entry) (sound : All Sound all) (d : Distinct all) where
  abbrev ss : List Stood
  ss = closed_by same all

  abbrev standing : Entry → Entry
  standing e = standing_by same all e

  -- ---- the word of an entry, followed from the entry s
  module _ (s : Entry) (a : Among s all) where
    abbrev own : ℕ
    own = s.head.number

    followed_means : (e : Entry) (w : See) → followed ss own e.see ≡ some w → LeadsBy One all s e w.number
    followed_means e w h = go e.see refl h
      where
        pick : (v : See) (there : ℕ) → e.see ≡ some v → lookup ss v.number ≡ some there → (b : Bool) → eqb there s.head.number ≡ b → unless_own b v there ≡ some w
            → LeadsBy One all s e w.number
        pick v there q r true t h = absurd (some-ne-none w (sym h))
        pick v there q r false t h =
            let l = lookup-some same all all v.number there r in
            record {
              word = v;
              carried = q;
              named = l.entry;
              among = l.among;
              number = l.number;
              standing = standing_by same all l.entry;
              stands = standing-is D all sound l.entry l.among;
              other = λ p. eqb-false there s.head.number t (sym l.is ∙ ap (λ g. g.head.number) p);
              there = l.is ∙ ap see_number h;
            }

        to : (v : See) → e.see ≡ some v → (o : Option ℕ) → lookup ss v.number ≡ o → elim o as (λ o. Option See) [ none ↦ none | some there ↦ led s.head.number v there ] ≡ some w
            → LeadsBy One all s e w.number
        to v q none r h = absurd (some-ne-none w (sym h))
        to v q (some there) r h = pick v there q r (eqb there s.head.number) refl h

        go : (o : Option See) → e.see ≡ o → followed ss s.head.number o ≡ some w → LeadsBy One all s e w.number
        go none q h = absurd (some-ne-none w (sym h))
        go (some v) q h = to v q (lookup ss v.number) refl h

    means_followed : (e : Entry) (n : ℕ) (l : LeadsBy One all s e n) → followed ss own e.see ≡ some (record { number = n; place = l.word.place })
    means_followed e n l =
        let f = l.named in
        let q : l.standing ≡ standing f = stands-once D (D.one_refl f) l.stands (standing-is D all sound f l.among) in
        let apart : (standing f).head.number ≢ own = λ r. l.other (q ∙ one_number all d (standing f) s (standing-among D all sound f l.among) a r) in
        ap (followed ss own) l.carried
        ∙ followed-to same all d own l.word f l.among l.number
        ∙ led-other own l.word (standing f).head.number apart
        ∙ ap (λ k. some (record { number = k; place = l.word.place })) (ap (λ h. h.head.number) (sym q) ∙ l.there)

    -- ---- s stands: the words of the entries folded into it
    module _ (itself : standing s ≡ s) where
      abbrev word : Stood → Option See
      word t = leads_from ss own t

      word_means : (f : Entry) → Among f all → (w : See) → word (stood_by same all f) ≡ some w → One f s × LeadsBy One all s f w.number
      word_means f b w h = go (eqb (standing f).head.number own) refl h
        where
          go : (t : Bool) → eqb (standing_by same all f).head.number s.head.number ≡ t → elim t as (λ t. Option See) [ true ↦ leads ss (stood_by same all f) | false ↦ none ] ≡ some w
              → One f s × LeadsBy One all s f w.number
          go false t h = absurd (some-ne-none w (sym h))
          go true t h =
              let q = eqb-true (standing f).head.number own t in
              let r : standing f ≡ s = one_number all d (standing f) s (standing-among D all sound f b) a q in
              (D.one_sym (subst (λ g. One g f) r (standing-one D all sound f b)), followed_means f w (sym (ap (λ n. followed ss n f.see) q) ∙ h))

      means_word : (f : Entry) → Among f all → One f s → (n : ℕ) (l : LeadsBy One all s f n) → word (stood_by same all f) ≡ some (record { number = n; place = l.word.place })
      means_word f b o n l =
          let q : (standing f).head.number ≡ own = ap (λ g. g.head.number) (standing-same D all sound f s b a o ∙ itself) in
          ap (λ t. elim t as (λ t. Option See) [ true ↦ leads ss (stood_by same all f) | false ↦ none ]) (eq-eqb (standing f).head.number own q)
          ∙ ap (λ n. followed ss n f.see) q ∙ means_followed f n l

      -- ---- the first of them
      no_word : (f : Entry) → Among f all → ¬ UsefulBy One all s f → word (stood_by same all f) ≡ none
      no_word f b i = go (word (stood_by same all f)) refl
        where
          go : (o : Option See) → leads_from ss s.head.number (stood_by same all f) ≡ o → o ≡ none
          go none q = refl
          go (some w) q = let m = word_means f b w q in absurd (i (record { one = m.0; number = w.number; leads = m.1 }))

      first-given : (f : Entry) (n : ℕ) (c : First (UsefulBy One all s) all f) (l : LeadsBy One all s f n) → first_given word ss ≡ some (record { number = n; place = l.word.place })
      first-given f n c l =
          ap (λ l. first_given word (map (stood_by same all) l)) c.split
          ∙ go c.before c.none (all_left (λ g. Among g all) c.before (f ∷ c.after) (subst (All (λ g. Among g all)) c.split (all_self all)))
        where
          go : (k : List Entry) → All (λ g. ¬ UsefulBy One all s g) k → All (λ g. Among g all) k
              → first_given (leads_from ss s.head.number) (map (stood_by same all) (k ++ (f ∷ c.after))) ≡ some (record { number = n; place = l.word.place })
          go [] p q = ap (λ o. elim o [ none ↦ first_given word (map (stood_by same all) c.after) | some w ↦ some w ]) (means_word f (first-among c) c.has.one n l)
          go (g ∷ k) p q = ap (λ o. elim o [ none ↦ first_given word (map (stood_by same all) (k ++ (f ∷ c.after))) | some w ↦ some w ]) (no_word g q.0 p.0) ∙ go k p.1 q.1

      -- the first entry of the lattice whose word leads to another standing entry
      record FirstWord (fs : List Entry) (n : ℕ) : Type 0 where
        entry : Entry
        first : First (UsefulBy One all s) fs entry
        leads : LeadsBy One all s entry n

      first_means : (fs : List Entry) → All (λ g. Among g all) fs → (w : See) → first_given word (map (stood_by same all) fs) ≡ some w → FirstWord fs w.number
      first_means [] b w h = absurd (some-ne-none w (sym h))
      first_means (f ∷ fs) b w h = go (word (stood_by same all f)) refl h (first_means fs b.1 w)
        where
          useless : leads_from ss s.head.number (stood_by same all f) ≡ none → ¬ UsefulBy One all s f
          useless e u = some-ne-none (record { number = u.number; place = u.leads.word.place }) (sym (means_word f b.0 u.one u.number u.leads) ∙ e)

          go : (o : Option See) → leads_from ss s.head.number (stood_by same all f) ≡ o
              → elim o as (λ o. Option See) [ none ↦ first_given (leads_from ss s.head.number) (map (stood_by same all) fs) | some v ↦ some v ] ≡ some w
              → (first_given (leads_from ss s.head.number) (map (stood_by same all) fs) ≡ some w → FirstWord fs w.number) → FirstWord (f ∷ fs) w.number
          go (some v) e h more =
              let m = word_means f b.0 w (e ∙ h) in
              record { entry = f; first = first-here f fs (record { one = m.0; number = w.number; leads = m.1 }); leads = m.1 }
          go none e h more = let r = more h in record { entry = r.entry; first = first-later f (useless e) r.first; leads = r.leads }

      -- ---- the own word before them
      own-word : leads ss (stood_by same all s) ≡ followed ss own s.see
      own-word = ap (λ g. followed ss g.head.number s.see) itself

      own-none : ((k : ℕ) → ¬ LeadsBy One all s s k) → leads ss (stood_by same all s) ≡ none
      own-none n = own-word ∙ go (followed ss own s.see) refl
        where
          go : (o : Option See) → followed ss s.head.number s.see ≡ o → o ≡ none
          go none q = refl
          go (some w) q = absurd (n w.number (followed_means s w q))

      abbrev rest : Option See
      rest = first_given word ss

      -- the word that is carried, and the number that it names
      pub record Carried (n : ℕ) : Type 0 where
        pub word : See
        pub is : carried ss (stood_by same all s) ≡ some word
        pub number : word.number ≡ n

      pub means_carried : (n : ℕ) → CarriesBy One all s n → Carried n
      means_carried n (its_own l) = record { word = record { number = n; place = l.word.place }; is = ap (λ o. or_else o rest) (own-word ∙ means_followed s n l); number = refl }
      means_carried n (folded_in useless f first l) =
          record { word = record { number = n; place = l.word.place }; is = ap (λ o. or_else o rest) (own-none useless) ∙ first-given f n first l; number = refl }

      pub carried_means : (w : See) → carried ss (stood_by same all s) ≡ some w → CarriesBy One all s w.number
      carried_means w h = go (leads ss (stood_by same all s)) refl h
        where
          go : (o : Option See) → leads ss (stood_by same all s) ≡ o → or_else o (first_given (leads_from ss s.head.number) ss) ≡ some w → CarriesBy One all s w.number
          go (some v) q h = its_own (followed_means s w (sym own-word ∙ q ∙ h))
          go none q h =
              let r = first_means all (all_self all) w h in
              folded_in (λ k l. some-ne-none (record { number = k; place = l.word.place }) (sym (means_followed s k l) ∙ sym own-word ∙ q)) r.entry r.first r.leads

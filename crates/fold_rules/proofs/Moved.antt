-- Demand 3 for the moves: `MovesTo` (Meaning.antt) holds of every accepted file whose numbers the form has room for.
use Rattle.std.specs.Prelude.{◌≡◌, List, map, ℕ, ◌≤◌, ◌<◌, get_or}
use Rattle.std.proofs.Common.{sym, ◌∙◌}
use Rattle.std.proofs.Math.Path.{ap}
use Rattle.integers.specs.All.{All}
use Rattle.catalogue_rules.specs.Catalogue.{Form, other_form, most_number, Entry, accepted}
use Rattle.catalogue_rules.specs.Read.{read}
use Rattle.catalogue_rules.specs.Write.{write}
use Rattle.catalogue_rules.specs.Output.{output, output_by}
use Rattle.catalogue_rules.specs.Form.{WellFormed}
use Rattle.catalogue_rules.specs.Moving.{to_form, read_to_move, move_of, bare}
use Rattle.catalogue_rules.proofs.Laws.WellFormed.{well_formed}
use Rattle.catalogue_rules.proofs.Laws.Moving as moving
use Rattle.catalogue_rules.proofs.Laws.Moving.{bare-placed, bare-moved, written-alike, in_form_already, to-form-written}
use Rattle.fold_rules.specs.Fold.{closed_list, lookup, printed_in, folded}
use Rattle.fold_rules.specs.Listing.{catalogue_lines}
use Rattle.fold_rules.specs.Services.{looked_up, listing_text, list_of}
use Rattle.fold_rules.specs.Meaning.{MovesTo}
use Rattle.fold_rules.proofs.Laws.FoldedForm.{folded-written, folded-accepted, folded-forms, printed-forms, folded-numbers}
use Rattle.fold_rules.proofs.Laws.Alike.{closed-bare, lookup-alike, printed-bare, lines_bare}
use Rattle.fold_rules.proofs.Demand.{accepted-fold, accepted-lookup, enough-room, no_room}

-- ---- entries that are the same but for the form and for places

folded-bare : (es : List Entry) → map bare (folded es) ≡ map bare (printed_in (closed_list es))
unfolding folded
folded-bare es = bare-placed 0 (printed_in (closed_list es))

module _ (es fs : List Entry) (e : map bare es ≡ map bare fs) where
  printed-same : map bare (printed_in (closed_list es)) ≡ map bare (printed_in (closed_list fs))
  printed-same = sym (printed-bare es) ∙ ap (λ l. map bare (printed_in (closed_list l))) e ∙ printed-bare fs

  lookup-same : (n : ℕ) → lookup (closed_list es) n ≡ lookup (closed_list fs) n
  lookup-same n =
      sym (lookup-alike (closed_list es) n)
      ∙ ap (λ l. lookup l n) (sym (closed-bare es) ∙ ap closed_list e ∙ closed-bare fs)
      ∙ lookup-alike (closed_list fs) n

  listing_same : listing_text es ≡ listing_text fs
  listing_same = sym (lines_bare es) ∙ ap (λ l. catalogue_lines (closed_list l)) e ∙ lines_bare fs

accepted-list : (file : List ℕ) (es : List Entry) → read file ≡ accepted es → (out : List ℕ) → list_of file out ≡ output_by listing_text (accepted es) out
unfolding list_of
accepted-list file es e out = ap (λ o. output_by listing_text o out) e

listing_output : (es fs : List Entry) → listing_text es ≡ listing_text fs → (out : List ℕ) → output_by listing_text (accepted es) out ≡ output_by listing_text (accepted fs) out
listing_output es fs e out = ap (λ t. output_by (λ l. t) (accepted es) out) e

-- two outcomes with the same bytes
written-output : (es fs : List Entry) → write es ≡ write fs → (out : List ℕ) → output (accepted es) out ≡ output (accepted fs) out
written-output es fs e out = ap (λ t. output_by (λ l. t) (accepted es) out) e

-- ---- the theorem

module _ (f : Form) (file : List ℕ) (es : List Entry) (small : (i : ℕ) → get_or file i 0 < 256) (r : read_to_move f file ≡ accepted es) (fit : All (λ e. e.head.number ≤ most_number f) es) where
  first : read file ≡ accepted es
  first = moving.read_first f file es r

  w : WellFormed es
  w = well_formed file es first

  readable : read (write (to_form f es)) ≡ accepted (to_form f es)
  readable = moving.readable f file es r fit

  moves : (out : List ℕ) → move_of f file out ≡ output (accepted (to_form f es)) out
  unfolding move_of
  moves out = ap (λ o. output o out) (moving.moves-to f file es r fit)

  -- the fold of the file is read to be moved too
  fold-read : read_to_move f (write (folded es)) ≡ accepted (folded es)
  fold-read = moving.read-other f (folded es) (folded-forms es (other_form f) (moving.others f file es r)) (folded-accepted es w)

  fold-moves : (out : List ℕ) → move_of f (write (folded es)) out ≡ output (accepted (to_form f (folded es))) out
  unfolding move_of
  fold-moves out = ap (λ o. output o out) (moving.moves-to f (write (folded es)) (folded es) fold-read (folded-numbers es (most_number f) fit))

  moved-forms : All (λ e. e.head.form ≡ f) (to_form f es)
  moved-forms = moving.to-forms f es

  same_fold : write (folded (to_form f es)) ≡ write (to_form f (folded es))
  same_fold =
      let p = printed_in (closed_list (to_form f es)) in
      folded-written (to_form f es)
      ∙ ap write (sym (in_form_already f p (printed-forms (to_form f es) f moved-forms)))
      ∙ written-alike f p (folded es) (printed-same (to_form f es) es (bare-moved f es) ∙ sym (folded-bare es))
      ∙ sym (to-form-written f (folded es))

  pub move_theorem : MovesTo f file es
  move_theorem = record {
    before = moving.others f file es r;
    after = moved-forms;
    kept = bare-moved f es;
    written = λ out h. moves out ∙ enough-room (to_form f es) out h;
    short = λ out h. moves out ∙ no_room (to_form f es) out h;
    readable = readable;
    back = moving.move-back f file es r fit small;
    folds = λ out. accepted-fold (write (to_form f es)) (to_form f es) readable out ∙ written-output (folded (to_form f es)) (to_form f (folded es)) same_fold out ∙ sym (fold-moves out);
    lookups = λ n. accepted-lookup (write (to_form f es)) (to_form f es) readable n ∙ ap looked_up (lookup-same (to_form f es) es (bare-moved f es) n) ∙ sym (accepted-lookup file es first n);
    lists = λ out.
        accepted-list (write (to_form f es)) (to_form f es) readable out
        ∙ listing_output (to_form f es) es (listing_same (to_form f es) es (bare-moved f es)) out
        ∙ sym (accepted-list file es first out);
  }

-- When a lent output is long enough; and that accepted bytes, written out, stand in it again.
use Rattle.std.specs.Prelude.{◌≡◌, Bool, List, [], ◌∷◌, ℕ, ◌≤◌, ◌<◌, length, get_or}
use Rattle.std.proofs.Math.Path.{sym}
use Rattle.std.proofs.Common.{ap, ◌∙◌, subst, lt-ltb, le-ltb}
use Rattle.catalogue_rules.specs.Catalogue.{Entry, accepted}
use Rattle.catalogue_rules.specs.Read.{checked, read}
use Rattle.catalogue_rules.specs.Write.{write}
use Rattle.catalogue_rules.specs.Output.{Output, untouched, filled_with, output_by, output}
use Rattle.catalogue_rules.proofs.Laws.RoundTrip.{same_bytes}

module _ (f : List Entry → List ℕ) (es : List Entry) (out : List ℕ) where
  by_length : Bool → Output
  by_length t = checked (λ n. untouched n 0 out) ((t, 16) ∷ []) (filled_with (f es) out)

  pub does_not-fit : length out < length (f es) → untouched 16 0 out ≡ output_by f (accepted es) out
  unfolding by_length
  does_not-fit h = sym (ap by_length (lt-ltb _ _ h))

  pub does_fit : length (f es) ≤ length out → filled_with (f es) out ≡ output_by f (accepted es) out
  unfolding by_length
  does_fit h = sym (ap by_length (le-ltb _ _ h))

module _ (es : List Entry) (out : List ℕ) where
  pub too_short : length out < length (write es) → untouched 16 0 out ≡ output (accepted es) out
  too_short = does_not-fit write es out

  pub long-enough : length (write es) ≤ length out → filled_with (write es) out ≡ output (accepted es) out
  long-enough = does_fit write es out

-- an accepted catalogue, written out again
pub same-output : (bytes out : List ℕ) (es : List Entry) → ((i : ℕ) → get_or bytes i 0 < 256) → read bytes ≡ accepted es → length bytes ≤ length out → output (read bytes) out ≡ filled_with bytes out
same-output bytes out es small e room =
    let same = same_bytes bytes es small e in
    ap (λ o. output o out) e
    ∙ sym (long-enough es out (subst (λ b. length b ≤ length out) (sym same) room))
    ∙ ap (λ b. filled_with b out) same

-- A reply to a line. Where it names a nearest vector, tenths stand in it that are free within what is said of them; all else is fixed.
use Rattle.std.specs.Prelude.{List, [], ◌++◌, ℕ, ℤ}
use Rattle.integers.specs.All.{All}
use Rattle.lattices.specs.Refusal.{Input}
use Rattle.solutions.specs.Solution.{TenthsFor}
use Rattle.text_output.specs.Puts.{Puts}

-- the inputs whose nearest vector is asked for, one or none, and the text, as bytes, with the tenths in it
pub record Reply : Type 0 where
  pub asked : List Input
  pub text : List ℤ → List ℕ

-- a text without tenths
abbrev pub always : List ℕ → Reply
always text = record { asked = []; text = λ tenths. text }

-- a text before a reply
abbrev pub headed : List ℕ → Reply → Reply
headed first reply = record { asked = reply.asked; text = λ tenths. first ++ reply.text tenths }

-- a reply put into bytes from a place on, with tenths that are right for what is asked
pub record Told (reply : Reply) (before : List ℕ) (at : ℕ) (after : List ℕ) (end : ℕ) : Type 0 where
  pub tenths : List ℤ
  pub right : All (λ i. TenthsFor i tenths) reply.asked
  pub puts : Puts (reply.text tenths) before at after end

-- What a function hands back for a line: the merge, and the text put into the output.
use Rattle.std.specs.Prelude.{◌≡◌, refl, List, ℕ, ◌+◌, ◌≤◌}
use Rattle.std.proofs.Common.{subst}
use Rattle.text_output.specs.Puts.{Puts}
use Rattle.merges.specs.declared.Merge.{Merge}
use Rattle.merges.specs.Stored.{merge_in}
use Rattle.merges.specs.IsMerge.{IsMerge}
use Rattle.cli_merges.specs.declared.replies.Reply.{Reply}
use Rattle.cli_merges.specs.Room.{reply_room}
use Rattle.cli_merges.specs.Replies.{Answered, only}

pub record Gives (answered : Answered) (before : List ℕ) (at : ℕ) (after : List ℕ) (r : Reply) : Type 0 where
  pub is : IsMerge r.merge
  pub merge : merge_in r.merge ≡ answered.merge
  pub text : Puts answered.text before at after r.at
  pub few : r.at ≤ at + reply_room

pub gives_as : {x y : Answered} {before : List ℕ} {at : ℕ} {after : List ℕ} {r : Reply} → x ≡ y → Gives x before at after r → Gives y before at after r
gives_as {before = before} {at} {after} {r} e = subst (λ x. Gives x before at after r) e

pub gives-only : {m : Merge} {text before : List ℕ} {at : ℕ} {after : List ℕ} {end : ℕ} → IsMerge m → Puts text before at after end → end ≤ at + reply_room
    → Gives (only (merge_in m) text) before at after (record { merge = m; at = end })
gives-only i p h = record { is = i; merge = refl; text = p; few = h }

-- No entry before place f has its first entry there, and none of those from f up to j is checked.
use Rattle.std.proofs.Common.{◌≡◌, false, ℕ, ◌<◌, map}
use Rattle.catalogue_standing.specs.Standers.{checked_at}
use Rattle.merges.proofs.looking.stander.Given as goal

abbrev pub invariant-loop-j : goal.invariant-loop-j
invariant-loop-j l = (i : ℕ) → i < l.j → checked_at (map (λ i. i.first) l.items) (map (λ i. i.draft) l.items) l.f i ≡ false

-- Four numbers are read one by one.
use mathlib.Core.Path.{◌≡◌}
use mathlib.Core.List.{List, [], ◌∷◌}
use Prim.Native.Nat.{ℕ}
use lib.IntN.{ℤ}
use lib.ListN.{get_or}
use mir.Syntax.{w64}
use mir.Val.{SFits, to_z, of_z}
use mir.Facts.{to_z-of_z}
use Rattle.lattices.specs.Vector.{nth}
use Rattle.gram_matrix.proofs.work.diagonal.Goals as goal

entry : (g : List (List ℤ)) (i : ℕ) → SFits w64 (nth (get_or g i []) i) → to_z w64 (of_z w64 (nth (get_or g i []) i)) ≡ nth (get_or g i []) i
entry g i f = to_z-of_z {w = w64} f

pub returns : goal.returns
returns c =
    λ k. entry c.args.g.now 0 (record { sfits = c.result-1.given }) k ∷ entry c.args.g.now 1 (record { sfits = c.result-2-1.given }) k ∷ entry c.args.g.now 2 (record { sfits = c.result-3-1.given }) k ∷ entry c.args.g.now 3 (record { sfits = c.result-4-1.given }) k ∷ []

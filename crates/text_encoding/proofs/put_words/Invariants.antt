-- The words so far are stored.
use Rattle.std.proofs.Common.{take}
use Rattle.text_encoding.specs.Stores.{Stores}
use Rattle.text_encoding.proofs.put_words.Given as goal

abbrev pub invariant-loop-w : goal.invariant-loop-w
invariant-loop-w l = Stores (take l.w-index l.words) l.initial.out l.k l.out l.n

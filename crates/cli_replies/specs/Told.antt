-- Replies put one part after another.
use Rattle.std.specs.Prelude.{List, [], ℕ}
use Rattle.text_output.specs.Puts.{Puts, puts_then}
use Rattle.cli_replies.specs.Reply.{Reply, Told, always, headed}

pub told-always : {text before after : List ℕ} {at end : ℕ} → Puts text before at after end → Told (always text) before at after end
told-always p = record { tenths = []; right = tt; puts = p }

pub told-headed : {first : List ℕ} {reply : Reply} {before between after : List ℕ} {at mid end : ℕ} → Puts first before at between mid → Told reply between mid after end → Told (headed first reply) before at after end
told-headed p t = record { tenths = t.tenths; right = t.right; puts = puts_then p t.puts }

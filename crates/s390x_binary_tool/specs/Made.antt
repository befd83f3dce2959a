-- Replies with a text that was made.
use Rattle.std.specs.Prelude.{◌≡◌, ◌⊎◌, ℕ, List, codes}
use Rattle.s390x_tool.specs.Lines.{line}
use Rattle.s390x_tool.specs.declared.status.Status.TheVariants as status
use Rattle.s390x_binary_tool.specs.declared.status.BinaryStatus.{BinaryStatus}
use Rattle.s390x_binary_tool.specs.declared.status.BinaryStatus.TheVariants.{Shared}

-- the reply has this status and this text, or memory didn't suffice
abbrev pub IsMadeReply : BinaryStatus → List ℕ → BinaryStatus → List ℕ → Type 0
IsMadeReply wanted made s text = ((s ≡ wanted) × (text ≡ made)) ⊎ ((s ≡ Shared status.NoMemory) × (text ≡ line (codes "no memory")))

-- The lines that are written with the statuses.
use Rattle.std.specs.Prelude.{ℕ, ◌≡◌, ◌≢◌, List, [], ◌∷◌, ◌++◌, codes, ◌⊎◌}
use Rattle.s390x_base.specs.declared.error.EmitError.{EmitError}
use Rattle.s390x_base.specs.declared.error.EmitError.TheVariants as error
use Rattle.s390x_image.specs.declared.error.LinkError.{LinkError}
use Rattle.s390x_image.specs.declared.error.LinkError.TheVariants as link
use Rattle.s390x_operands.specs.declared.constraint.OperandError.{OperandError}
use Rattle.s390x_operands.specs.declared.constraint.OperandError.TheVariants as operand
use Rattle.s390x_tool.specs.declared.input.InputError.{InputError}
use Rattle.s390x_tool.specs.declared.input.InputError.TheVariants as input
use Rattle.s390x_tool.specs.declared.status.Status.{Status}
use Rattle.s390x_tool.specs.declared.status.Status.TheVariants as status

-- these bytes and a line feed
abbrev pub line : List ℕ → List ℕ
line bytes = bytes ++ 10 ∷ []

-- the name of a refusal of emission
abbrev pub error_name : EmitError → List ℕ
error_name error.MissingFacility = codes "MissingFacility"
error_name error.BadOperator = codes "BadOperator"
error_name error.BadRegister = codes "BadRegister"
error_name error.ScratchConflict = codes "ScratchConflict"
error_name error.OffsetOutOfRange = codes "OffsetOutOfRange"
error_name error.BreakOutsideLoop = codes "BreakOutsideLoop"
error_name error.BadStackState = codes "BadStackState"
error_name error.UnboundLabel = codes "UnboundLabel"
error_name error.BadAlignment = codes "BadAlignment"
error_name error.LabelOutOfRange = codes "LabelOutOfRange"
error_name error.Failed = codes "Failed"
error_name error.NoMemory = codes "NoMemory"

-- the name of a refusal of linking
abbrev pub link_error_name : LinkError → List ℕ
link_error_name link.MisalignedBase = codes "MisalignedBase"
link_error_name link.ImageTooHigh = codes "ImageTooHigh"
link_error_name link.UndefinedSymbol = codes "UndefinedSymbol"
link_error_name link.AddressOverflow = codes "AddressOverflow"
link_error_name link.OddSymbol = codes "OddSymbol"
link_error_name link.TooFar = codes "TooFar"
link_error_name link.NoMemory = codes "NoMemory"

-- the name of what refuses operands
abbrev pub operand_error_name : OperandError → List ℕ
operand_error_name operand.ReuseInLoop = codes "ReuseInLoop"
operand_error_name operand.NotReal = codes "NotReal"
operand_error_name operand.NoMemory = codes "NoMemory"

-- the reply has this status and this text, or memory didn't suffice
abbrev pub IsMade : Status → List ℕ → Status → List ℕ → Type 0
IsMade wanted made s text = ((s ≡ wanted) × (text ≡ made)) ⊎ ((s ≡ status.NoMemory) × (text ≡ line (codes "no memory")))

-- the reply to a refusal of emission, which want of memory is too
abbrev pub IsRefusal : EmitError → Status → List ℕ → Type 0
IsRefusal e s text =
    ((e ≢ error.NoMemory) × (s ≡ status.Refused) × (text ≡ line (codes "refused " ++ error_name e)))
    ⊎ ((e ≡ error.NoMemory) × (s ≡ status.NoMemory) × (text ≡ line (codes "no memory")))

-- the reply to a refusal of linking, which want of memory is too
abbrev pub IsLinkRefusal : LinkError → Status → List ℕ → Type 0
IsLinkRefusal e s text =
    ((e ≢ link.NoMemory) × (s ≡ status.LinkRefused) × (text ≡ line (codes "link " ++ link_error_name e)))
    ⊎ ((e ≡ link.NoMemory) × (s ≡ status.NoMemory) × (text ≡ line (codes "no memory")))

-- the reply to a refusal of operands, which want of memory is too
abbrev pub IsOperandRefusal : OperandError → Status → List ℕ → Type 0
IsOperandRefusal e s text =
    ((e ≢ operand.NoMemory) × (s ≡ status.Refused) × (text ≡ line (codes "refused " ++ operand_error_name e)))
    ⊎ ((e ≡ operand.NoMemory) × (s ≡ status.NoMemory) × (text ≡ line (codes "no memory")))

-- the reply where the input isn't read to its end
abbrev pub IsUnread : InputError → Status → List ℕ → Type 0
IsUnread input.Fault s text = (s ≡ status.ReadFault) × (text ≡ line (codes "read fault"))
IsUnread input.TooLong s text = (s ≡ status.InputTooLong) × (text ≡ line (codes "input too long"))
IsUnread input.NoMemory s text = (s ≡ status.NoMemory) × (text ≡ line (codes "no memory"))

-- Labels stand at the offsets that the sizes give.
use Rattle.s390x_buffer.specs.declared.entries.TryHandler.{TryHandler}
use Rattle.s390x_typed_steps.specs.StepBody.{Site, AtTry}
use Rattle.std.specs.Prelude.{◌≡◌, ℕ, ◌+◌, ◌<◌, List, [], ◌∷◌}
use Rattle.s390x_inst.specs.declared.inst.Inst.{Inst}
use Rattle.s390x_inst.specs.declared.inst.Inst.TheVariants.{JTSequence}
use Rattle.s390x_typed_steps.specs.Tree.{StepBody, Tree, Whole, empty, leaf, loop_node}
use Rattle.s390x_typed_steps.specs.Steps.{Step, step_of}
use Rattle.s390x_typed_steps.specs.Parts.{CodePart, Row, Trapping, Branch, Relative, RelativeConstant, RelativeSymbol, SymbolValue, TrapHere, TableWord, CallSymbol, SiteHere, ToBlock, ToStep, instruction_parts, step_size, step_parts}
use Rattle.s390x_typed_steps.specs.Sizes.{body_size, tree_size}
use Rattle.s390x_typed_steps.specs.Causes.{body_fresh_labels, fresh_labels}

-- the label that an instruction at an offset draws, if it does: a table stands behind 20 bytes
abbrev pub LeafBound : (ℕ → ℕ) → (n p : ℕ) → Inst → Type 0
LeafBound off n p (JTSequence ridx other mask targets) = off n ≡ p + 20
LeafBound off n p _ = Unit {0}

-- the label that a step's body at an offset draws, if it does: a table stands behind 20 bytes
abbrev pub BodyBound : (ℕ → ℕ) → (n p : ℕ) → StepBody → Type 0
BodyBound off n p (Whole i) = LeafBound off n p i
BodyBound off n p _ = Unit {0}

-- the labels that a tree at an offset draws, from number n on
abbrev pub Bound : (ℕ → ℕ) → (n p : ℕ) → Tree → Type 0
Bound off n p empty = Unit {0}
Bound off n p (leaf b rest) = BodyBound off n p b × Bound off (n + body_fresh_labels b) (p + body_size b) rest
Bound off n p (loop_node mask members rest) = (off n ≡ p) × (off (n + 1) ≡ p + tree_size members + 6) × Bound off (n + 2) p members × Bound off (n + 2 + fresh_labels members) (p + tree_size members + 6) rest

-- each step ends where the next one starts
abbrev pub StepsFollow : (ℕ → ℕ) → ℕ → List Step → Type 0
StepsFollow at k [] = Unit {0}
StepsFollow at k (s ∷ ss) = (at (k + 1) ≡ at k + step_size s) × StepsFollow at (k + 1) ss

-- the labels of handlers are those of so many blocks
abbrev pub HandlersName : (count : ℕ) → List TryHandler → Type 0
HandlersName count [] = Unit {0}
HandlersName count (h ∷ hs) = (h.label.0 < count) × HandlersName count hs

-- so are those of a site
abbrev pub SiteNames : (count : ℕ) → Site → Type 0
SiteNames count (AtTry handlers sp_to_fp) = HandlersName count handlers
SiteNames count _ = Unit {0}

-- the target of a part is one of so many blocks, or one of so many constants
abbrev pub PartNames : (count constants : ℕ) → CodePart → Type 0
PartNames count constants (Row m) = Unit {0}
PartNames count constants (Trapping m byte code) = Unit {0}
PartNames count constants (Branch mask (ToBlock b)) = b < count
PartNames count constants (Branch mask (ToStep k)) = ⊥
PartNames count constants (Relative opcode register (ToBlock b)) = b < count
PartNames count constants (Relative opcode register (ToStep k)) = ⊥
PartNames count constants (RelativeConstant opcode register c) = c < constants
PartNames count constants (RelativeSymbol opcode register name offset) = Unit {0}
PartNames count constants (SymbolValue name offset) = Unit {0}
PartNames count constants (TrapHere code) = Unit {0}
PartNames count constants (TableWord before (ToBlock b)) = b < count
PartNames count constants (TableWord before (ToStep k)) = ⊥
PartNames count constants (CallSymbol link name) = Unit {0}
PartNames count constants (SiteHere site) = SiteNames count site

-- the target of each part is one of so many blocks, or one of so many constants
abbrev pub PartsName : (count constants : ℕ) → List CodePart → Type 0
PartsName count constants [] = Unit {0}
PartsName count constants (part ∷ parts) = PartNames count constants part × PartsName count constants parts

-- the targets of a body's parts are among so many blocks and so many constants
abbrev pub BodyNames : (count constants : ℕ) → StepBody → Type 0
BodyNames count constants (Whole i) = PartsName count constants (instruction_parts i)
BodyNames count constants b = PartsName count constants (step_parts (step_of 0 b))

-- the targets of the bodies in a tree are among so many blocks and so many constants
abbrev pub TreeNames : (count constants : ℕ) → Tree → Type 0
TreeNames count constants empty = Unit {0}
TreeNames count constants (leaf b rest) = BodyNames count constants b × TreeNames count constants rest
TreeNames count constants (loop_node mask members rest) = TreeNames count constants members × TreeNames count constants rest

-- the targets of all blocks' parts are among so many blocks and so many constants
abbrev pub TreesName : (count constants : ℕ) → List Tree → Type 0
TreesName count constants [] = Unit {0}
TreesName count constants (t ∷ ts) = TreeNames count constants t × TreesName count constants ts

-- the labels of all blocks, from block b on
abbrev pub AllBound : (ℕ → ℕ) → (n b p : ℕ) → List Tree → Type 0
AllBound off n b p [] = Unit {0}
AllBound off n b p (t ∷ ts) = (off b ≡ p) × Bound off n p t × AllBound off (n + fresh_labels t) (b + 1) (p + tree_size t) ts

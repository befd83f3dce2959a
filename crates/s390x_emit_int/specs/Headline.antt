-- What a machine does that fetches a function's linked code.
use Rattle.std.specs.Prelude.{ℕ, ◌<◌, List, length}
use Rattle.s390x_buffer.specs.State.{Constant}
use Rattle.s390x_typed_steps.specs.Causes.{aligns_of}
use Rattle.s390x_typed_steps.specs.Image.{constant_offset}
use Rattle.s390x_typed_steps.specs.Rows.{LinkEnvironment}
use Rattle.s390x_typed_steps.specs.Tree.{Tree}
use Rattle.s390x_buffer.specs.declared.entries.MachBufferFinalized.{MachBufferFinalized}
use Rattle.s390x_image.specs.Fields.{with_fields_filled}
use Rattle.s390x_image.specs.Symbols.{Symbols}
use Rattle.s390x_image.specs.Values.{symbol_value, symbol_distance}
use Rattle.s390x_operations.specs.State.{CodeImage}
use Rattle.s390x_machine.specs.Functions.{function_layout}
use Rattle.s390x_machine.specs.Match.{EveryBlockRun, EveryReturnRun}

-- the link environment of a function that is linked at a base, with these symbols
abbrev pub linked_environment : Symbols → (base : ℕ) → List Tree → List Constant → LinkEnvironment
linked_environment symbols base ts cs = record { constant = constant_offset ts cs; aligns = aligns_of cs; symbol_value = symbol_value symbols; symbol_distance = symbol_distance base symbols }

-- finished code linked at a base, as an image
abbrev pub linked_image : MachBufferFinalized → (base : ℕ) → Symbols → CodeImage
linked_image f base symbols = record { base = base; bytes = with_fields_filled base symbols f.relocs.items f.bytes.items }

-- Symbols have these addresses. From the start of any block and from the return place of any call, in every state in which the image lies in memory at its base,
-- and under every list of others' writes, every run of the machine does only what the typed instructions allow, until it returns, calls, stops by a trap or at a
-- `Debugtrap`, or a typed step is wrong. The codes of stops are those of the function's table of traps.
pub record RunsAsTyped (symbols : Symbols) (ts : List Tree) (cs : List Constant) (image : CodeImage) : Type 0 where
  pub from_blocks : (b : ℕ) → b < length ts → EveryBlockRun (function_layout (linked_environment symbols image.base ts cs) ts image) b
  pub from_returns : (k : ℕ) → EveryReturnRun (function_layout (linked_environment symbols image.base ts cs) ts image) k

-- The trap code of a stop at an offset of finished code (cranelift-codegen, `buffer.rs`: the table of traps).
use Rattle.std.specs.Prelude.{ℕ, ◌+◌, ◌-◌, if◌then◌else◌, List, Option, None, slice_index}
use Rattle.s390x_base.specs.declared.trap.TrapKind.{TrapKind}
use Rattle.s390x_buffer.specs.declared.entries.TrapEntry.{TrapEntry}
use Rattle.s390x_format.specs.Rows.{fetch_length_of}
use Rattle.s390x_typed_steps.specs.Traps.{first_code}
use Rattle.s390x_operations.specs.State.{CodeImage, is_within}
use Rattle.s390x_operations.specs.declared.stop.StopKind.{StopKind}
use Rattle.s390x_operations.specs.declared.stop.StopKind.TheVariants.{Access, Specification}

-- the offset at which the table has the code of a stop at an offset: that itself for the kinds that an access may fault by, and that of the instruction's last byte
-- for another stop. The first byte tells how many there are
abbrev pub code_offset : List ℕ → ℕ → StopKind → ℕ
code_offset bytes offset Access = offset
code_offset bytes offset Specification = offset
code_offset bytes offset kind = offset + (fetch_length_of (slice_index bytes offset) - 1)

-- the code that the table has for a stop at an address of the image: that of the first entry at its offset; none where the address is outside the image
abbrev pub trap_code_at : CodeImage → List TrapEntry → ℕ → StopKind → Option TrapKind
trap_code_at image traps address kind = if is_within image address then first_code traps (code_offset image.bytes (address - image.base) kind) else None

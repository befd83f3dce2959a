-- The tables of finished code: an entry for each of its entries, with every field.
use Rattle.std.specs.Prelude.{ℕ, ◌+◌, List, [], ◌∷◌, ◌++◌, length, drop, map, sum_by}
use Rattle.std.specs.List.{flat_map}
use Rattle.s390x_buffer.specs.declared.entries.RelocEntry.{RelocEntry}
use Rattle.s390x_buffer.specs.declared.entries.TrapEntry.{TrapEntry}
use Rattle.s390x_buffer.specs.declared.entries.TryEntry.{TryEntry}
use Rattle.s390x_buffer.specs.declared.entries.HandlerEntry.{HandlerEntry}
use Rattle.s390x_buffer.specs.declared.entries.PatchEntry.{PatchEntry}
use Rattle.s390x_buffer.specs.declared.entries.MapEntry.{MapEntry}
use Rattle.s390x_tables.specs.Numbers.{number_of_reloc, number_of_trap, tag_count, tag_or_zero}
use Rattle.s390x_tables.specs.declared.entries.Relocation.{Relocation}
use Rattle.s390x_tables.specs.declared.entries.Trap.{Trap}
use Rattle.s390x_tables.specs.declared.entries.Try.{Try}
use Rattle.s390x_tables.specs.declared.entries.Handler.{Handler}
use Rattle.s390x_tables.specs.declared.entries.PatchableCall.{PatchableCall}
use Rattle.s390x_tables.specs.declared.entries.StackMap.{StackMap}

abbrev pub relocation_of : RelocEntry → Relocation
relocation_of e = record { offset = e.offset; kind = number_of_reloc e.kind; symbol = e.name.0; addend = e.addend }

abbrev pub trap_of : TrapEntry → Trap
trap_of e = record { offset = e.offset; code = number_of_trap e.code }

abbrev pub handler_of : HandlerEntry → Handler
handler_of h = record { offset = h.offset; has_tag = tag_count h.tag; tag = tag_or_zero h.tag }

abbrev pub patchable_call_of : PatchEntry → PatchableCall
patchable_call_of e = record { offset = e.offset; length = e.len }

abbrev pub stack_map_of : MapEntry → StackMap
stack_map_of e = record { offset = e.offset; map = e.map }

-- a call with a try, before whose handlers the table has so many
abbrev pub try_of : ℕ → TryEntry → Try
try_of before e = record { offset = e.offset; handler_count = length e.handlers.items; first_handler = before; frame = e.frame }

-- the calls with a try, before whose handlers the table has so many
abbrev pub tries_from : ℕ → List TryEntry → List Try
tries_from before [] = []
tries_from before (e ∷ es) = try_of before e ∷ tries_from (before + length e.handlers.items) es

-- the handlers of all of these calls, in order
abbrev pub handlers_of : List TryEntry → List Handler
handlers_of tries = flat_map (λ e. map handler_of e.handlers.items) tries

-- how many handlers these calls have
abbrev pub handler_count : List TryEntry → ℕ
handler_count tries = sum_by (λ e. length e.handlers.items) tries

-- a buffer with these entries at its beginning, and the rest as it was
abbrev pub overwritten : {A : Type 0} → List A → List A → List A
overwritten buffer entries = entries ++ drop (length entries) buffer

-- The state of the small machine, and how its step ends.
use Rattle.std.specs.Prelude.{ℕ, zero, suc, ◌+◌, ◌-◌, ◌*◌, ◌^◌, Bool, ◌&&◌, nat_le, nat_lt, if◌then◌else◌, slice_index}
use Rattle.s390x_operations.specs.State.{Registers, State}
use Rattle.s390x_operations.specs.Effects.{code_numbered}
use Rattle.s390x_operations.specs.declared.stop.StopKind.TheVariants.{Access, Specification, Operation, Divide, CompareTrap}
use Rattle.s390x_machine.specs.State.{memory_of}
use Rattle.s390x_machine.specs.declared.step.StepEnd.{StepEnd}
use Rattle.s390x_machine.specs.declared.step.StepEnd.TheVariants.{Went, Stopped, NoRow}
use Rattle.s390x_page.specs.declared.registers.Registers as page
use Rattle.s390x_page.specs.declared.storage.Storage.{Storage}

-- what the page has in its registers
abbrev pub registers_in : page.Registers → Registers
registers_in r = record { general = λ i. slice_index r.general i; vector = λ i. slice_index r.high i * 2 ^ 64 + slice_index r.low i; access = λ i. slice_index r.access i; code = code_numbered r.code }

-- the address is that of one of its bytes
abbrev pub is_held : Storage → ℕ → Bool
is_held s a = nat_le s.start a && nat_lt (a - s.start) 1024

-- the byte at an address; 0 where there is none
abbrev pub byte_of : Storage → ℕ → ℕ
byte_of s a = if is_held s a then slice_index s.bytes (a - s.start) else 0

-- the state of the machine with these registers and this storage
abbrev pub state_in : page.Registers → Storage → State
state_in r s = record { core = record { registers = registers_in r; memory = memory_of (is_held s) (byte_of s) }; address = r.place }

-- the number by which the page knows how a step ends
abbrev pub number_of_end : StepEnd → ℕ
number_of_end Went = 0
number_of_end NoRow = 1
number_of_end (Stopped Access place) = 2
number_of_end (Stopped Specification place) = 3
number_of_end (Stopped Operation place) = 4
number_of_end (Stopped Divide place) = 5
number_of_end (Stopped CompareTrap place) = 6

-- how a step at a place ends, by that number
abbrev pub end_numbered : ℕ → ℕ → StepEnd
end_numbered zero place = Went
end_numbered (suc zero) place = NoRow
end_numbered (suc (suc zero)) place = Stopped Access place
end_numbered (suc (suc (suc zero))) place = Stopped Specification place
end_numbered (suc (suc (suc (suc zero)))) place = Stopped Operation place
end_numbered (suc (suc (suc (suc (suc zero))))) place = Stopped Divide place
end_numbered (suc (suc (suc (suc (suc (suc n)))))) place = Stopped CompareTrap place

-- Which facilities the machine rows of an instruction need (Principles of Operation, chapter 4, "Facility indications").
use Rattle.std.specs.Prelude.{◌≡◌, ℕ, Bool, true, Option, None, Some, slice_index}
use Rattle.s390x_inst.specs.Facilities.{facility_of, has_facility}
use Rattle.s390x_inst.specs.declared.inst.Inst.{Inst}
use Rattle.s390x_inst.specs.declared.state.IsaFlags.{IsaFlags}
use Rattle.s390x_format.specs.Facilities.{facility_of as facility_by}
use Rattle.s390x_format.specs.Fetch.{machine_rows}
use Rattle.s390x_format.specs.Lookup.{row_for}
use Rattle.s390x_format.specs.View.{fields_of}
use Rattle.s390x_format.specs.declared.facility.Facility.{Facility}
use Rattle.s390x_format.specs.declared.facility.Facility.TheVariants.{Base, Mie3, Mie4, VxrsExt2, VxrsExt3}
use Rattle.s390x_format.specs.declared.fields.Fields.{Fields}
use Rattle.s390x_typed_steps.specs.MachineInstruction.{MachineInstruction}
use Rattle.s390x_typed_steps.specs.Memory.{MemoryInstruction, StorageForm, RxForm, RsForm, SiForm, SilForm, VrxForm, FloatForm, memory}
use Rattle.s390x_typed_steps.specs.SingleInstruction.{SingleInstruction, single_instruction}

-- the facility that a machine instruction needs, by its row in the table
abbrev pub needed_facility : MachineInstruction → Facility
needed_facility x = facility_by (row_for machine_rows (slice_index x.slots 0)).facility (fields_of x.format x.slots)

-- whether the flags have it; the base always
abbrev pub has_needed : Facility → IsaFlags → Bool
has_needed Base f = true
has_needed Mie3 f = f.has_mie3
has_needed Mie4 f = f.has_mie4
has_needed VxrsExt2 f = f.has_vxrs_ext2
has_needed VxrsExt3 f = f.has_vxrs_ext3

-- the flags have what the one machine instruction needs, where there is one
abbrev pub AllowsSingle : IsaFlags → Option SingleInstruction → Type 0
AllowsSingle f None = Unit {0}
AllowsSingle f (Some x) = has_needed (needed_facility x.row) f ≡ true

-- of an instruction that is available and is one machine instruction on registers and immediates
abbrev pub SinglesAreAllowed : Type 0
SinglesAreAllowed = (f : IsaFlags) (i : Inst) → has_facility f (facility_of i) ≡ true → AllowsSingle f (single_instruction i)

-- the flags have what the row of an opcode needs, whatever the instruction's fields
abbrev pub AllowsOpcode : IsaFlags → ℕ → Type 0
AllowsOpcode f opcode = (fields : Fields) → has_needed (facility_by (row_for machine_rows opcode).facility fields) f ≡ true

abbrev pub AllowsOpcodeWhere : IsaFlags → Option ℕ → Type 0
AllowsOpcodeWhere f None = Unit {0}
AllowsOpcodeWhere f (Some opcode) = AllowsOpcode f opcode

-- each row of an operand's form
abbrev pub AllowsForm : IsaFlags → StorageForm → Type 0
AllowsForm f (RxForm register rx rxy ril) = AllowsOpcodeWhere f rx × AllowsOpcodeWhere f rxy × AllowsOpcodeWhere f ril
AllowsForm f (RsForm first second rs rsy) = AllowsOpcodeWhere f rs × AllowsOpcodeWhere f rsy
AllowsForm f (SiForm imm si siy) = AllowsOpcode f si × AllowsOpcode f siy
AllowsForm f (SilForm bits sil) = AllowsOpcode f sil
AllowsForm f (VrxForm register vrx mask) = AllowsOpcode f vrx
AllowsForm f (FloatForm register rx rxy) = AllowsOpcode f rx × AllowsOpcode f rxy

abbrev pub AllowsMemory : IsaFlags → Option MemoryInstruction → Type 0
AllowsMemory f None = Unit {0}
AllowsMemory f (Some x) = AllowsForm f x.form

-- of an instruction that is available and has an operand in memory
abbrev pub AccessesAreAllowed : Type 0
AccessesAreAllowed = (f : IsaFlags) (i : Inst) → has_facility f (facility_of i) ≡ true → AllowsMemory f (memory i)

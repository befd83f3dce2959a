-- An instruction's line names the registers of its description, and with other registers in its roles those; its other fields stay.
use Rattle.std.proofs.Common.{◌≡◌, List, [], ◌∷◌, ◌++◌, Option, Some, None, refl}
use Rattle.s390x_base.specs.declared.regs.Reg.{Reg}
use Rattle.s390x_inst.specs.declared.inst.Inst.{Inst}
use Rattle.s390x_inst.specs.declared.inst.Inst.TheVariants as I
use Rattle.s390x_inst.specs.declared.vec_inst.VecInst.TheVariants as V
use Rattle.s390x_described.specs.Instructions.{description_of}
use Rattle.s390x_described.specs.Roles.{Described, each_role}
use Rattle.s390x_job_fields.specs.Fields.{Field, FReg, FPair, FMemory}
use Rattle.s390x_job_lines.specs.Instructions.{inst_line}
use Rattle.s390x_assign.specs.Assignments.{assigned_operator, assigned_role}
use Rattle.s390x_job_plan.specs.Registers.{register_fields, role_fields, described_fields, other_fields}

-- one clause stands for every instruction, here and below
pub each_register : (i : Inst) → register_fields (inst_line i).fields ≡ other_fields i ++ described_fields (description_of i)
each_register (I.Vector (V.VecSelect rd rn rm ra)) = refl
each_register i = refl

-- the fields for the roles with their registers
abbrev pub given_fields : Option (Described Inst) → List Reg → List Field
given_fields None s = []
given_fields (Some d) s = role_fields (each_role assigned_role d.roles s).0

pub given_registers : (i : Inst) (s : List Reg) → register_fields (inst_line (assigned_operator i s).0).fields ≡ other_fields i ++ given_fields (description_of i) s
given_registers (I.Vector (V.VecSelect rd rn rm ra)) s = refl
given_registers i s = refl

-- the fields that are no registers, pairs and operands in memory
abbrev pub plain_fields : List Field → List Field
plain_fields [] = []
plain_fields (FReg r ∷ fs) = plain_fields fs
plain_fields (FPair h l ∷ fs) = plain_fields fs
plain_fields (FMemory m ∷ fs) = plain_fields fs
plain_fields (f ∷ fs) = f ∷ plain_fields fs

pub plain_kept : (i : Inst) (s : List Reg) → plain_fields (inst_line (assigned_operator i s).0).fields ≡ plain_fields (inst_line i).fields
plain_kept (I.Vector (V.VecSelect rd rn rm ra)) s = refl
plain_kept i s = refl

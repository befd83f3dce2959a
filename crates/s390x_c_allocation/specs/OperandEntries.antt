-- What instructions report, as C sees it.
use Rattle.std.specs.Prelude.{ℕ, List, [], ◌∷◌, ◌++◌, map}
use Rattle.s390x_base.specs.Registers.{RealRegister}
use Rattle.s390x_base.specs.Sets.{has}
use Rattle.s390x_base.specs.declared.regs.Reg.{Reg}
use Rattle.s390x_base.specs.declared.regs.Reg.TheVariants.{Real, Virtual}
use Rattle.s390x_base.specs.declared.regs.RegClass.{RegClass}
use Rattle.s390x_base.specs.declared.regs.RegClass.TheVariants.{Int, Float}
use Rattle.s390x_operands.specs.declared.constraint.OperandConstraint.{OperandConstraint}
use Rattle.s390x_operands.specs.declared.constraint.OperandConstraint.TheVariants.{Any, Reuse, FixedReg, Reg as InRegister}
use Rattle.s390x_operands.specs.declared.constraint.OperandKind.{OperandKind}
use Rattle.s390x_operands.specs.declared.constraint.OperandKind.TheVariants.{Def, Use}
use Rattle.s390x_operands.specs.declared.constraint.OperandPos.{OperandPos}
use Rattle.s390x_operands.specs.declared.constraint.OperandPos.TheVariants.{Early, Late}
use Rattle.s390x_operands.specs.declared.constraint.Reported.{Reported}
use Rattle.s390x_operands.specs.declared.constraint.Reported.TheVariants.{Operand, Fixed, Clobbers}
use Rattle.s390x_job_fields.specs.Sets.{members_of}
use Rattle.s390x_c_allocation.specs.declared.operand_entries.Constraint.{Constraint}
use Rattle.s390x_c_allocation.specs.declared.operand_entries.OperandEntry.{OperandEntry}
use Rattle.s390x_c_allocation.specs.declared.operand_entries.Register.{Register}
use Rattle.s390x_c_allocation.specs.declared.operand_entries.Spot.{Spot}

abbrev pub number_of_class : RegClass → ℕ
number_of_class Int = 0
number_of_class Float = 1

abbrev pub register_of : Reg → Register
register_of (Real r) = record { is_virtual = 0; is_vector = number_of_class r.class; number = r.number }
register_of (Virtual n c) = record { is_virtual = 1; is_vector = number_of_class c; number = n }

abbrev pub no_register : Register
no_register = record { is_virtual = 0; is_vector = 0; number = 0 }

abbrev pub number_of_kind : OperandKind → ℕ
number_of_kind Use = 0
number_of_kind Def = 1

abbrev pub number_of_pos : OperandPos → ℕ
number_of_pos Early = 0
number_of_pos Late = 1

-- a register that has no choice
abbrev pub no_constraint : Constraint
no_constraint = record { kind = 0; fixed = no_register; reused = 0 }

abbrev pub constraint_of : OperandConstraint → Constraint
constraint_of Any = record { kind = 1; fixed = no_register; reused = 0 }
constraint_of InRegister = record { kind = 2; fixed = no_register; reused = 0 }
constraint_of (FixedReg r) = record { kind = 3; fixed = register_of (Real r); reused = 0 }
constraint_of (Reuse k) = record { kind = 4; fixed = no_register; reused = k }

-- the entry of a real register that has no choice
abbrev pub real_entry : Spot → (kind : ℕ) → RealRegister → OperandEntry
real_entry s kind r = record {
  block = s.block;
  instruction = s.instruction;
  kind = kind;
  is_late = 0;
  register = register_of (Real r);
  constraint = no_constraint;
}

-- the entry of a real register whose value is lost
abbrev pub lost_entry : Spot → RealRegister → OperandEntry
lost_entry s r = real_entry s 3 r

-- the entries of an item: one, or one for each register whose value is lost
abbrev pub item_entries : Spot → Reported → List OperandEntry
item_entries s (Operand r constraint kind pos) =
    record {
      block = s.block;
      instruction = s.instruction;
      kind = number_of_kind kind;
      is_late = number_of_pos pos;
      register = register_of r;
      constraint = constraint_of constraint;
    } ∷ []
item_entries s (Fixed r) = real_entry s 2 r ∷ []
item_entries s (Clobbers set) = map (lost_entry s) (members_of (has set))

-- the entries of items, in their order
abbrev pub items_entries : Spot → List Reported → List OperandEntry
items_entries s [] = []
items_entries s (x ∷ xs) = item_entries s x ++ items_entries s xs

-- What an instruction does, by its portion.
use Rattle.std.proofs.Common.{◌≡◌, refl}
use Rattle.s390x_base.specs.Regs.{number_of}
use Rattle.s390x_inst.specs.Emission.{Emission}
use Rattle.s390x_inst.specs.Portions.{Portion, plain, indirect_branch, jump_table, arguments, results, first_portion}
use Rattle.s390x_inst.specs.declared.inst.Inst.{Inst}
use Rattle.s390x_inst.specs.declared.inst.Inst.TheVariants.{Loop'}
use Rattle.s390x_typed_steps.specs.Resolved.{resolved_instruction}
use Rattle.s390x_machine.specs.Layout.{Layout}
use Rattle.s390x_machine.specs.StepKinds.{StepKind, GoesByAddress, GoesByTable, Silent, Unsupported, instruction_kind, loaded_kind}

abbrev pub portion_kind : Layout → Emission → Portion → StepKind
portion_kind L e (plain i) = instruction_kind L (resolved_instruction e i)
portion_kind L e (indirect_branch rn targets) = GoesByAddress (number_of rn) targets
portion_kind L e (jump_table ridx other mask targets) = GoesByTable (number_of ridx) mask other.0 targets
portion_kind L e (arguments xs) = Silent
portion_kind L e (results xs) = Silent
portion_kind L e p = Unsupported

-- where its operand's address is loaded first
abbrev pub portion_loaded_kind : Layout → Emission → Portion → StepKind
portion_loaded_kind L e (plain i) = loaded_kind L (resolved_instruction e i)
portion_loaded_kind L e p = Unsupported

pub kind_as_portion : (L : Layout) (e : Emission) (j : Inst) → instruction_kind L (resolved_instruction e j) ≡ portion_kind L e (first_portion j)
kind_as_portion L e (Loop' mask body all) = refl
kind_as_portion L e j = refl

pub loaded_as_portion : (L : Layout) (e : Emission) (j : Inst) → loaded_kind L (resolved_instruction e j) ≡ portion_loaded_kind L e (first_portion j)
loaded_as_portion L e (Loop' mask body all) = refl
loaded_as_portion L e j = refl

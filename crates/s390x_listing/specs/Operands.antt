-- The operands of a function, as text.
use Rattle.std.specs.Prelude.{ℕ, false, List, [], ◌∷◌, ◌++◌, codes}
use Rattle.std.specs.Fmt.{decimal}
use Rattle.s390x_base.specs.Sets.{has}
use Rattle.s390x_base.specs.declared.regs.Reg.{Reg}
use Rattle.s390x_inst.specs.declared.inst.Inst.{Inst}
use Rattle.s390x_inst.specs.declared.function.Block.{Block}
use Rattle.s390x_operands.specs.declared.constraint.OperandConstraint.{OperandConstraint}
use Rattle.s390x_operands.specs.declared.constraint.OperandConstraint.TheVariants.{Any, Reuse, FixedReg, Reg as InRegister}
use Rattle.s390x_operands.specs.declared.constraint.OperandKind.{OperandKind}
use Rattle.s390x_operands.specs.declared.constraint.OperandKind.TheVariants.{Def, Use}
use Rattle.s390x_operands.specs.declared.constraint.Reported.{Reported}
use Rattle.s390x_operands.specs.declared.constraint.Reported.TheVariants.{Operand, Fixed, Clobbers}
use Rattle.s390x_operands.specs.Operands.{operands, operands_cause}
use Rattle.s390x_job_fields.specs.Atoms.{reg_text, real_text}
use Rattle.s390x_job_fields.specs.Lists.{list_text}
use Rattle.s390x_job_fields.specs.Sets.{members_of}
use Rattle.s390x_listing.specs.Listings.{Listing, fixed_listing, both, each, block_head}

-- whether it is read or written
abbrev pub kind_text : OperandKind → List ℕ
kind_text Use = codes "use "
kind_text Def = codes "def "

-- `use R`, `def R`, `any R`, `use R=P`, `def R=P`, `reuse(K) R`
abbrev pub operand_text : OperandConstraint → OperandKind → Reg → List ℕ
operand_text InRegister kind r = kind_text kind ++ reg_text r
operand_text Any kind r = codes "any " ++ reg_text r
operand_text (FixedReg p) kind r = kind_text kind ++ (reg_text r ++ 61 ∷ real_text p)
operand_text (Reuse k) kind r = codes "reuse(" ++ (decimal k ++ (codes ") " ++ reg_text r))

-- an operand, `fixed P`, or `clobber [P,P]`
abbrev pub item_text : Reported → List ℕ
item_text (Operand r constraint kind pos) = operand_text constraint kind r
item_text (Fixed p) = codes "fixed " ++ real_text p
item_text (Clobbers s) = codes "clobber " ++ list_text real_text (members_of (has s))

-- items, each behind a comma and a space
abbrev pub more_items : List Reported → List ℕ
more_items [] = []
more_items (x ∷ xs) = codes ", " ++ (item_text x ++ more_items xs)

-- items joined by commas and spaces, `none` where there is none
abbrev pub items_text : List Reported → List ℕ
items_text [] = codes "none"
items_text (x ∷ xs) = item_text x ++ more_items xs

-- the line of an instruction: what it reports, in order
abbrev pub operands_line : Inst → Listing
operands_line i = record { cause = operands_cause false i; bytes = items_text (operands i) ++ 10 ∷ [] }

-- a block: its line, and those of its instructions
abbrev pub block_operands : ℕ → Block → Listing
block_operands k b = both (fixed_listing (block_head k)) (each (λ n i. operands_line i) 0 b.insts.items)

-- the blocks of a function
abbrev pub operands_listing : List Block → Listing
operands_listing blocks = each block_operands 0 blocks

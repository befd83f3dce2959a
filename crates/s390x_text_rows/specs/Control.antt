-- The texts of instructions that go elsewhere, end a run, name a place or have no bytes (cranelift-codegen, `mod.rs`).
use Rattle.std.specs.Prelude.{ℕ, pos, ◌-ℤ◌, List, [], ◌∷◌, ◌++◌, codes, cond, nat_le, Option, Some, None}
use Rattle.std.specs.Fmt.{decimal, signed_decimal}
use Rattle.s390x_base.specs.declared.ir.MachLabel.{MachLabel}
use Rattle.s390x_base.specs.declared.regs.Reg.{Reg}
use Rattle.s390x_inst.specs.declared.calls.ArgPair.{ArgPair}
use Rattle.s390x_inst.specs.declared.calls.RetPair.{RetPair}
use Rattle.s390x_inst.specs.declared.calls.SymbolReloc.{SymbolReloc}
use Rattle.s390x_inst.specs.declared.calls.SymbolReloc.TheVariants.{Absolute}
use Rattle.s390x_inst.specs.declared.inst.Inst.{Inst}
use Rattle.s390x_inst.specs.declared.inst.Inst.TheVariants as I
use Rattle.s390x_job_fields.specs.Atoms.{reg_text, trap_text}
use Rattle.s390x_text_rows.specs.Texts.{Text, fixed_text, instruction_text}
use Rattle.s390x_text_rows.specs.Operands.{cond_text, label_text, name_text}

-- a branch to a block under a condition
abbrev pub branch_text : (mask label : ℕ) → List ℕ
branch_text mask label = instruction_text (codes "jg" ++ cond_text mask) (label_text label ∷ [])

-- labels, a space before each
abbrev pub labels_text : List MachLabel → List ℕ
labels_text [] = []
labels_text (l ∷ ls) = codes " " ++ (label_text l.0 ++ labels_text ls)

-- a register that holds a value, and the one that the convention wants, behind a space
abbrev pub convention_text : (held wanted : Reg) → List ℕ
convention_text held wanted = codes " " ++ (reg_text held ++ (codes "=" ++ reg_text wanted))

-- arguments as they come in
abbrev pub args_text : List ArgPair → List ℕ
args_text [] = []
args_text (a ∷ more) = convention_text a.vreg a.preg ++ args_text more

-- results as they go out
abbrev pub rets_text : List RetPair → List ℕ
rets_text [] = []
rets_text (r ∷ more) = convention_text r.vreg r.preg ++ rets_text more

-- how bytes are taken from the stack
abbrev pub allocate_text : ℕ → List ℕ
allocate_text size =
    cond (nat_le size 32767) (codes "aghi %r15, " ++ signed_decimal (pos 0 -ℤ pos size)) (codes "slgfi %r15, " ++ decimal size)

-- a symbol plus an offset
abbrev pub reloc_text : SymbolReloc → List ℕ
reloc_text (Absolute name offset) = name_text name.0 ++ (codes " + " ++ signed_decimal offset)

-- a table's address, the word that is added, and the jump
abbrev pub table_sum_text : (index : Reg) → List ℕ
table_sum_text index = codes " ; larl %r1, 14 ; agf %r1, 0(" ++ (reg_text index ++ codes ", %r1) ; br %r1 ; jt_entries")

-- a jump by a table: to the default, by the word at the index, and the words
abbrev pub table_text : (index : Reg) → (other mask : ℕ) → List MachLabel → List ℕ
table_text index other mask targets = branch_text mask other ++ (table_sum_text index ++ labels_text targets)

-- control instructions and those without bytes
abbrev pub control_text : Inst → Option Text
control_text I.Fence = Some (fixed_text (codes "bcr 14, 0"))
control_text I.Nop0 = Some (fixed_text (codes "nop-zero-len"))
control_text I.Nop2 = Some (fixed_text (codes "nop"))
control_text I.Debugtrap = Some (fixed_text (codes ".word 0x0001 # debugtrap"))
control_text (I.Trap code) = Some (fixed_text (codes ".word 0x0000 # trap=" ++ trap_text code))
control_text (I.TrapIf mask code) = Some (fixed_text ((codes "jg" ++ (cond_text mask ++ codes " .+2 # trap=")) ++ trap_text code))
control_text (I.Jump dest) = Some (fixed_text (instruction_text (codes "jg") (label_text dest.0 ∷ [])))
control_text (I.CondBr taken not_taken mask) = Some (fixed_text (branch_text mask taken.0 ++ (codes " ; " ++ instruction_text (codes "jg") (label_text not_taken.0 ∷ []))))
control_text (I.IndirectBr rn targets) = Some (fixed_text (instruction_text (codes "br") (reg_text rn ∷ [])))
control_text (I.Ret link) = Some (fixed_text (instruction_text (codes "br") (reg_text link ∷ [])))
control_text (I.JTSequence ridx other mask targets) = Some (fixed_text (table_text ridx other.0 mask targets.items))
control_text (I.CondBreak mask) = Some (fixed_text (codes "jg" ++ (cond_text mask ++ codes " 1f")))
control_text (I.AllocateArgs size) = Some (fixed_text (allocate_text size))
control_text (I.LoadSymbolReloc rd reloc) = Some (fixed_text (codes "bras %r1, 12 ; data " ++ (reloc_text reloc ++ (codes " ; lg " ++ (reg_text rd ++ codes ", 0(%r1)")))))
control_text (I.LabelAddress dst label) = Some (fixed_text (instruction_text (codes "label_address") (reg_text dst ∷ label_text label.0 ∷ [])))
control_text (I.Args args) = Some (fixed_text (codes "args" ++ args_text args.items))
control_text (I.Rets rets) = Some (fixed_text (codes "rets" ++ rets_text rets.items))
control_text (I.DummyUse reg) = Some (fixed_text (instruction_text (codes "dummy_use") (reg_text reg ∷ [])))
control_text I.SequencePoint = Some (fixed_text (codes "sequence_point"))
control_text _ = None

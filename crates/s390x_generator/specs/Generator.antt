-- The generator of a large function: for each block a number is drawn, which tells its two instructions.
use Rattle.std.specs.Prelude.{ℕ, zero, suc, ◌≡◌, ◌+◌, ◌*◌, ◌%◌, ◌/◌, pos, List, [], ◌∷◌, map, cond, nat_eq}
use Rattle.s390x_base.specs.Registers.{general}
use Rattle.s390x_base.specs.declared.ir.MachLabel.{MachLabel}
use Rattle.s390x_base.specs.declared.regs.Reg.{Reg}
use Rattle.s390x_base.specs.declared.regs.Reg.TheVariants.{Real}
use Rattle.s390x_inst.specs.Emission.{Emission}
use Rattle.s390x_inst.specs.Memory.{trusted}
use Rattle.s390x_inst.specs.declared.args.MemArg.{MemArg}
use Rattle.s390x_inst.specs.declared.args.MemArg.TheVariants.{RegOffset}
use Rattle.s390x_inst.specs.declared.function.AllocatedFunction.{AllocatedFunction}
use Rattle.s390x_inst.specs.declared.function.Block.{Block}
use Rattle.s390x_inst.specs.declared.inst.Inst.{Inst}
use Rattle.s390x_inst.specs.declared.inst.Inst.TheVariants as I
use Rattle.s390x_inst.specs.declared.ops.ALUOp.TheVariants.{Add64}
use Rattle.s390x_typed_steps.specs.Tree.{Tree, block_tree}

-- a generated function of at most so many blocks has no cause of refusal
abbrev pub most_blocks : ℕ
most_blocks = 100000

-- the next number of a linear congruential sequence modulo 2 ^ 32
abbrev pub next_number : ℕ → ℕ
next_number x = (x * 1664525 + 1013904223) % 4294967296

-- a general register
abbrev pub register : ℕ → Reg
register n = Real (general n)

-- so many bytes above the stack pointer
abbrev pub above_stack : ℕ → MemArg
above_stack offset = RegOffset (register 15) (pos offset) trusted

-- a register becomes the sum of two
abbrev pub sum : (rd rn rm : Reg) → Inst
sum rd rn rm = I.AluRRR Add64 rd rn rm

-- a register becomes its sum with another one
abbrev pub added : (rd ri rm : Reg) → Inst
added rd ri rm = I.AluRR Add64 rd ri rm

-- the first instruction of a block, by a choice out of four: a sum, a load near the stack pointer, or a store far from it
abbrev pub work : (choice offset : ℕ) → Inst
work choice offset =
    cond (nat_eq choice 0) (sum (register 2) (register 3) (register 4))
    (cond (nat_eq choice 1) (added (register 2) (register 2) (register 4))
    (cond (nat_eq choice 2) (I.Load64 (register 2) (above_stack offset)) (I.Store64 (register 4) (above_stack (offset + 524288)))))

-- the label of a block
abbrev pub label : ℕ → MachLabel
label n = record { 0 = n }

-- the last instruction of block k of n: the last block returns, and another one goes to the block that the number tells or to the next
abbrev pub ending : (n k x : ℕ) → Inst
ending n k x = cond (nat_eq (k + 1) n) (I.Ret (register 14)) (I.CondBr (label (x % n)) (label (k + 1)) 8)

-- block k of n, by the number x
abbrev pub generated_block : (n k x : ℕ) → List Inst
generated_block n k x = work ((x / 65536) % 4) (8 * ((x / 256) % 65536)) ∷ ending n k x ∷ []

-- so many blocks of n, from block k on, behind the number x
abbrev pub generated_from : (n k count x : ℕ) → List (List Inst)
generated_from n k zero x = []
generated_from n k (suc count) x = generated_block n k (next_number x) ∷ generated_from n (k + 1) count (next_number x)

-- the instructions of each of n blocks, drawn from a start on
abbrev pub generated_blocks : (n start : ℕ) → List (List Inst)
generated_blocks n start = generated_from n 0 n start

-- they as trees
abbrev pub generated_trees : Emission → (n start : ℕ) → List Tree
generated_trees e n start = map (block_tree e) (generated_blocks n start)

-- the instructions of a block
abbrev pub insts_of : Block → List Inst
insts_of b = b.insts.items

-- a function has these n blocks, and no constants
pub record IsGenerated (n start : ℕ) (f : AllocatedFunction) : Type 0 where
  pub blocks : map insts_of f.blocks.items ≡ generated_blocks n start
  pub constants : f.constants.items ≡ []

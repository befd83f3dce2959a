-- The roles of registers in instructions, and what is made of them.
use Rattle.std.specs.Prelude.{List, [], ◌∷◌, Option, Some, None}
use Rattle.s390x_base.specs.Registers.{general}
use Rattle.s390x_base.specs.declared.regs.Reg.{Reg}
use Rattle.s390x_base.specs.declared.regs.Reg.TheVariants.{Real}
use Rattle.s390x_base.specs.declared.regs.RegPair.{RegPair}
use Rattle.s390x_base.specs.declared.regs.WritableRegPair.{WritableRegPair}
use Rattle.s390x_inst.specs.declared.args.MemArg.{MemArg}
use Rattle.s390x_inst.specs.declared.args.MemArg.TheVariants.{Label}

-- a register that is written, one that is written and has to be that of the input `ri`, and one that is read; a pair that is written, the input that
-- has to be its low half, and one that has to be the pair; a place in memory
pub data Role : Type 0 where
  Written : Reg → Role
  Tied : Reg → Role
  Read : Reg → Role
  WrittenPair : WritableRegPair → Role
  LowRead : Reg → Role
  ReadPair : RegPair → Role
  InMemory : MemArg → Role

-- what stands in a role; something else where it is of another kind
abbrev pub register : Role → Reg
register (Written r) = r
register (Tied r) = r
register (Read r) = r
register (LowRead r) = r
register _ = Real (general 0)

abbrev pub written_pair : Role → WritableRegPair
written_pair (WrittenPair d) = d
written_pair _ = record { hi = Real (general 0); lo = Real (general 0) }

abbrev pub read_pair : Role → RegPair
read_pair (ReadPair d) = d
read_pair _ = record { hi = Real (general 0); lo = Real (general 0) }

abbrev pub place : Role → MemArg
place (InMemory m) = m
place _ = Label (record { 0 = 0 })

-- roles by their place
abbrev pub first : List Role → Role
first (x ∷ xs) = x
first [] = Read (Real (general 0))

abbrev pub later : List Role → List Role
later (x ∷ xs) = xs
later [] = []

abbrev pub second : List Role → Role
second xs = first (later xs)

abbrev pub third : List Role → Role
third xs = second (later xs)

abbrev pub fourth : List Role → Role
fourth xs = third (later xs)

-- what the registers of an instruction do, and the instruction again, with others in these roles
pub record Described (T : Type 0) : Type 0 where
  pub roles : List Role
  pub again : List Role → T

-- an instruction that has none
abbrev pub of_none : {T : Type 0} → T → Described T
of_none i = record { roles = []; again = λ xs. i }

-- an instruction of so many registers and of memory, in this order
abbrev pub of_one : {T : Type 0} → (Reg → T) → Role → Described T
of_one f a = record { roles = a ∷ []; again = λ xs. f (register (first xs)) }

abbrev pub of_two : {T : Type 0} → (Reg → Reg → T) → (a b : Role) → Described T
of_two f a b = record { roles = a ∷ b ∷ []; again = λ xs. f (register (first xs)) (register (second xs)) }

abbrev pub of_three : {T : Type 0} → (Reg → Reg → Reg → T) → (a b c : Role) → Described T
of_three f a b c = record { roles = a ∷ b ∷ c ∷ []; again = λ xs. f (register (first xs)) (register (second xs)) (register (third xs)) }

abbrev pub of_four : {T : Type 0} → (Reg → Reg → Reg → Reg → T) → (a b c d : Role) → Described T
of_four f a b c d = record { roles = a ∷ b ∷ c ∷ d ∷ []; again = λ xs. f (register (first xs)) (register (second xs)) (register (third xs)) (register (fourth xs)) }

abbrev pub of_memory : {T : Type 0} → (MemArg → T) → MemArg → Described T
of_memory f m = record { roles = InMemory m ∷ []; again = λ xs. f (place (first xs)) }

abbrev pub of_one_and_memory : {T : Type 0} → (Reg → MemArg → T) → Role → MemArg → Described T
of_one_and_memory f a m = record { roles = a ∷ InMemory m ∷ []; again = λ xs. f (register (first xs)) (place (second xs)) }

abbrev pub of_two_and_memory : {T : Type 0} → (Reg → Reg → MemArg → T) → (a b : Role) → MemArg → Described T
of_two_and_memory f a b m = record { roles = a ∷ b ∷ InMemory m ∷ []; again = λ xs. f (register (first xs)) (register (second xs)) (place (third xs)) }

abbrev pub of_three_and_memory : {T : Type 0} → (Reg → Reg → Reg → MemArg → T) → (a b c : Role) → MemArg → Described T
of_three_and_memory f a b c m = record { roles = a ∷ b ∷ c ∷ InMemory m ∷ []; again = λ xs. f (register (first xs)) (register (second xs)) (register (third xs)) (place (fourth xs)) }

-- roles replaced one after another, and what is left for later ones
abbrev pub each_role : {St : Type 0} → (Role → St → Role × St) → List Role → St → List Role × St
each_role f [] s = ([], s)
each_role f (x ∷ xs) s = ((f x s).0 ∷ (each_role f xs (f x s).1).0, (each_role f xs (f x s).1).1)

-- an instruction with other registers
abbrev pub described_again : {T St : Type 0} → (Role → St → Role × St) → Described T → St → T × St
described_again f d s = (d.again (each_role f d.roles s).0, (each_role f d.roles s).1)

-- an instruction with other registers, where there is a description
abbrev pub again_or_none : {T St : Type 0} → (Role → St → Role × St) → Option (Described T) → St → Option T × St
again_or_none f None s = (None, s)
again_or_none f (Some d) s = (Some (described_again f d s).0, (described_again f d s).1)

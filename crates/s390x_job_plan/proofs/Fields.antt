-- The lines of an instruction with other registers: their fields lie in their ranges, where the instruction's do and the registers do.
use Rattle.std.proofs.Common.{◌≡◌, ℕ, zero, suc, Option, Some, None, List, [], ◌∷◌, ◌++◌, drop, refl, sym, subst}
use Rattle.s390x_base.specs.declared.regs.Reg.{Reg}
use Rattle.s390x_base.specs.declared.regs.Reg.TheVariants.{Real, Virtual}
use Rattle.s390x_base.specs.declared.regs.RegPair.{RegPair}
use Rattle.s390x_base.specs.declared.regs.WritableRegPair.{WritableRegPair}
use Rattle.s390x_inst.specs.declared.args.MemArg.{MemArg}
use Rattle.s390x_inst.specs.declared.args.MemArg.TheVariants.{BXD12, BXD20, RegOffset}
use Rattle.s390x_inst.specs.declared.inst.Inst.{Inst}
use Rattle.s390x_job_fields.specs.Atoms.{IsReg}
use Rattle.s390x_job_fields.specs.Fields.{Field, FReg, FPair, FMemory}
use Rattle.s390x_job_fields.specs.Lists.{AllItems}
use Rattle.s390x_job_fields.specs.Memory.{IsMemory}
use Rattle.s390x_job_lines.specs.Instructions.{inst_line}
use Rattle.s390x_job_lines.specs.Line.{AllFields}
use Rattle.s390x_described.specs.Instructions.{description_of}
use Rattle.s390x_described.specs.Roles.{Role, Written, Tied, Read, WrittenPair, LowRead, ReadPair, InMemory, Described, each_role}
use Rattle.s390x_assign.specs.Assignments.{after, assigned_by, assigned_operator, assigned_role, dividend_at, memory_at, operand_at, pair_at, register_at}
use Rattle.s390x_job_plan.specs.Registers.{register_fields, written_fields, paired_fields, read_fields, described_fields, other_fields}
use Rattle.s390x_job_plan.proofs.Registers.{each_register, given_fields, given_registers, plain_fields, plain_kept}

-- all of them lie in their ranges
abbrev pub Regs : List Reg → Type 0
Regs s = AllItems IsReg s

pub at : (r : Reg) (s : List Reg) → IsReg r → Regs s → IsReg (register_at r s)
at (Real p) s h k = h
at (Virtual n c) [] h k = h
at (Virtual n c) (q ∷ s) h k = k.0

pub given : (r : Reg) (s : List Reg) → IsReg r → Regs s → IsReg (operand_at r s)
given r [] h k = h
given r (q ∷ s) h k = k.0

pub dropped : (n : ℕ) (s : List Reg) → Regs s → Regs (drop n s)
dropped zero s k = k
dropped (suc n) [] k = tt
dropped (suc n) (q ∷ s) k = dropped n s k.1

pub left : (r : Reg) (s : List Reg) → Regs s → Regs (after r s)
left (Real p) s k = k
left (Virtual n c) s k = dropped 1 s k

memory : (m : MemArg) (s : List Reg) → IsMemory m → Regs s → IsMemory (memory_at m s).0
memory (BXD12 base index disp flags) s h k = (at base s h.0 k, at index (after base s) h.1 (left base s k), h.2, h.3)
memory (BXD20 base index disp flags) s h k = (at base s h.0 k, at index (after base s) h.1 (left base s k), h.2, h.3)
memory (RegOffset reg off flags) s h k = (at reg s h.0 k, h.1, h.2)
memory m s h k = h

memory_left : (m : MemArg) (s : List Reg) → Regs s → Regs (memory_at m s).1
memory_left (BXD12 base index disp flags) s k = left index (after base s) (left base s k)
memory_left (BXD20 base index disp flags) s k = left index (after base s) (left base s k)
memory_left (RegOffset reg off flags) s k = left reg s k
memory_left m s k = k

pair : (d : WritableRegPair) (s : List Reg) → IsReg d.hi × IsReg d.lo → Regs s → IsReg (pair_at d s).hi × IsReg (pair_at d s).lo
pair d s h k = (given d.hi s h.0 k, given d.lo (drop 1 s) h.1 (dropped 1 s k))

dividend : (i : RegPair) (s : List Reg) → IsReg i.hi × IsReg i.lo → Regs s → IsReg (dividend_at i s).hi × IsReg (dividend_at i s).lo
dividend i s h k = (given i.hi s h.0 k, given i.lo (drop 1 s) h.1 (dropped 1 s k))

-- ---- fields one behind the other

all_append : (fs gs : List Field) → AllFields fs → AllFields gs → AllFields (fs ++ gs)
all_append [] gs p q = q
all_append (f ∷ fs) gs p q = (p.0, all_append fs gs p.1 q)

all_before : (fs gs : List Field) → AllFields (fs ++ gs) → AllFields fs
all_before [] gs h = tt
all_before (f ∷ fs) gs h = (h.0, all_before fs gs h.1)

all_behind : (fs gs : List Field) → AllFields (fs ++ gs) → AllFields gs
all_behind [] gs h = h
all_behind (f ∷ fs) gs h = all_behind fs gs h.1

-- a last clause is a copy for each other field
named : (fs : List Field) → AllFields fs → AllFields (register_fields fs)
named [] h = tt
named (FReg r ∷ fs) h = (h.0, named fs h.1)
named (FPair a b ∷ fs) h = (h.0, named fs h.1)
named (FMemory m ∷ fs) h = (h.0, named fs h.1)
named (f ∷ fs) h = named fs h.1

plain : (fs : List Field) → AllFields fs → AllFields (plain_fields fs)
plain [] h = tt
plain (FReg r ∷ fs) h = plain fs h.1
plain (FPair a b ∷ fs) h = plain fs h.1
plain (FMemory m ∷ fs) h = plain fs h.1
plain (f ∷ fs) h = (h.0, plain fs h.1)

joined : (fs : List Field) → AllFields (register_fields fs) → AllFields (plain_fields fs) → AllFields fs
joined [] p q = tt
joined (FReg r ∷ fs) p q = (p.0, joined fs p.1 q)
joined (FPair a b ∷ fs) p q = (p.0, joined fs p.1 q)
joined (FMemory m ∷ fs) p q = (p.0, joined fs p.1 q)
joined (f ∷ fs) p q = (q.0, joined fs p q.1)

-- ---- roles

-- what stands in a role lies in its range
abbrev IsRole : Role → Type 0
IsRole (Written r) = IsReg r
IsRole (Tied r) = IsReg r
IsRole (Read r) = IsReg r
IsRole (WrittenPair d) = IsReg d.hi × IsReg d.lo
IsRole (LowRead r) = IsReg r
IsRole (ReadPair d) = IsReg d.hi × IsReg d.lo
IsRole (InMemory m) = IsMemory m

abbrev AllRoles : List Role → Type 0
AllRoles [] = Unit {0}
AllRoles (x ∷ xs) = IsRole x × AllRoles xs

roles_of : (xs : List Role) → AllFields (written_fields xs) → AllFields (paired_fields xs) → AllFields (read_fields xs) → AllRoles xs
roles_of [] a b c = tt
roles_of (Written r ∷ xs) a b c = (a.0, roles_of xs a.1 b c)
roles_of (Tied r ∷ xs) a b c = (a.0, roles_of xs a.1 b c)
roles_of (Read r ∷ xs) a b c = (c.0, roles_of xs a b c.1)
roles_of (WrittenPair d ∷ xs) a b c = (a.0, roles_of xs a.1 b c)
roles_of (LowRead r ∷ xs) a b c = (b.0, roles_of xs a b.1 c)
roles_of (ReadPair d ∷ xs) a b c = (b.0, roles_of xs a b.1 c)
roles_of (InMemory m ∷ xs) a b c = (c.0, roles_of xs a b c.1)

written : (xs : List Role) → AllRoles xs → AllFields (written_fields xs)
written [] h = tt
written (Written r ∷ xs) h = (h.0, written xs h.1)
written (Tied r ∷ xs) h = (h.0, written xs h.1)
written (WrittenPair d ∷ xs) h = (h.0, written xs h.1)
written (x ∷ xs) h = written xs h.1

paired : (xs : List Role) → AllRoles xs → AllFields (paired_fields xs)
paired [] h = tt
paired (LowRead r ∷ xs) h = (h.0, paired xs h.1)
paired (ReadPair d ∷ xs) h = (h.0, paired xs h.1)
paired (x ∷ xs) h = paired xs h.1

read : (xs : List Role) → AllRoles xs → AllFields (read_fields xs)
read [] h = tt
read (Read r ∷ xs) h = (h.0, read xs h.1)
read (InMemory m ∷ xs) h = (h.0, read xs h.1)
read (x ∷ xs) h = read xs h.1

-- a role with its registers
one_role : (x : Role) (s : List Reg) → IsRole x → Regs s → IsRole (assigned_role x s).0 × Regs (assigned_role x s).1
one_role (Written r) s h k = (at r s h k, left r s k)
one_role (Tied r) s h k = (at r s h k, left r s k)
one_role (Read r) s h k = (at r s h k, left r s k)
one_role (WrittenPair d) s h k = (pair d s h k, dropped 2 s k)
one_role (LowRead r) s h k = (given r s h k, dropped 1 s k)
one_role (ReadPair d) s h k = (dividend d s h k, dropped 2 s k)
one_role (InMemory m) s h k = (memory m s h k, memory_left m s k)

each_given : (xs : List Role) (s : List Reg) → AllRoles xs → Regs s → AllRoles (each_role assigned_role xs s).0 × Regs (each_role assigned_role xs s).1
each_given [] s h k = (tt, k)
each_given (x ∷ xs) s h k =
    let p : IsRole (assigned_role x s).0 × Regs (assigned_role x s).1 = one_role x s h.0 k in
    let q : AllRoles (each_role assigned_role xs (assigned_role x s).1).0 × Regs (each_role assigned_role xs (assigned_role x s).1).1 = each_given xs (assigned_role x s).1 h.1 p.1 in
    ((p.0, q.0), q.1)

-- ---- instructions

-- what is left of the registers
abbrev left_by : Option (Described Inst) → List Reg → List Reg
left_by None s = s
left_by (Some d) s = (each_role assigned_role d.roles s).1

left_is : (o : Option (Described Inst)) (i : Inst) (s : List Reg) → (assigned_by o i s).1 ≡ left_by o s
left_is None i s = refl
left_is (Some d) i s = refl

described_given : (o : Option (Described Inst)) (s : List Reg) → AllFields (described_fields o) → Regs s → AllFields (given_fields o s) × Regs (left_by o s)
described_given None s h k = (tt, k)
described_given (Some d) s h k =
    let w : AllFields (written_fields d.roles) = all_before (written_fields d.roles) (paired_fields d.roles ++ read_fields d.roles) h in
    let others : AllFields (paired_fields d.roles ++ read_fields d.roles) = all_behind (written_fields d.roles) (paired_fields d.roles ++ read_fields d.roles) h in
    let roles : AllRoles d.roles = roles_of d.roles w (all_before (paired_fields d.roles) (read_fields d.roles) others) (all_behind (paired_fields d.roles) (read_fields d.roles) others) in
    let q : AllRoles (each_role assigned_role d.roles s).0 × Regs (each_role assigned_role d.roles s).1 = each_given d.roles s roles k in
    let xs : List Role = (each_role assigned_role d.roles s).0 in
    (all_append (written_fields xs) (paired_fields xs ++ read_fields xs) (written xs q.0) (all_append (paired_fields xs) (read_fields xs) (paired xs q.0) (read xs q.0)), q.1)

pub operator_fields : (i : Inst) (s : List Reg) → AllFields (inst_line i).fields → Regs s → AllFields (inst_line (assigned_operator i s).0).fields × Regs (assigned_operator i s).1
operator_fields i s h k =
    let registers : AllFields (other_fields i ++ described_fields (description_of i)) = subst (λ fs. AllFields fs) (each_register i) (named (inst_line i).fields h) in
    let q : AllFields (given_fields (description_of i) s) × Regs (left_by (description_of i) s) = described_given (description_of i) s (all_behind (other_fields i) (described_fields (description_of i)) registers) k in
    let again : AllFields (other_fields i ++ given_fields (description_of i) s) = all_append (other_fields i) (given_fields (description_of i) s) (all_before (other_fields i) (described_fields (description_of i)) registers) q.0 in (
      joined (inst_line (assigned_operator i s).0).fields (subst (λ fs. AllFields fs) (sym (given_registers i s)) again) (subst (λ fs. AllFields fs) (sym (plain_kept i s)) (plain (inst_line i).fields h)),
      subst (λ t. Regs t) (sym (left_is (description_of i) i s)) q.1,
    )

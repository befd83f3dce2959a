-- The registers of an instruction: those in the fields of its line, and those in the roles of its description.
use Rattle.std.specs.Prelude.{◌≡◌, List, [], ◌∷◌, ◌++◌, Option, Some, None}
use Rattle.s390x_inst.specs.declared.inst.Inst.{Inst}
use Rattle.s390x_inst.specs.declared.inst.Inst.TheVariants as I
use Rattle.s390x_described.specs.Instructions.{description_of}
use Rattle.s390x_described.specs.Roles.{Role, Written, Tied, Read, WrittenPair, LowRead, ReadPair, InMemory, Described}
use Rattle.s390x_job_fields.specs.Fields.{Field, FReg, FPair, FMemory}
use Rattle.s390x_job_lines.specs.Instructions.{inst_line}

-- the fields that are registers, pairs and operands in memory, and no lists
abbrev pub register_fields : List Field → List Field
register_fields [] = []
register_fields (FReg r ∷ fs) = FReg r ∷ register_fields fs
register_fields (FPair h l ∷ fs) = FPair h l ∷ register_fields fs
register_fields (FMemory m ∷ fs) = FMemory m ∷ register_fields fs
register_fields (f ∷ fs) = register_fields fs

-- such fields for the roles that are written
abbrev pub written_fields : List Role → List Field
written_fields [] = []
written_fields (Written r ∷ xs) = FReg r ∷ written_fields xs
written_fields (Tied r ∷ xs) = FReg r ∷ written_fields xs
written_fields (WrittenPair d ∷ xs) = FPair d.hi d.lo ∷ written_fields xs
written_fields (x ∷ xs) = written_fields xs

-- for those that have to stand in the pair that is written
abbrev pub paired_fields : List Role → List Field
paired_fields [] = []
paired_fields (LowRead r ∷ xs) = FReg r ∷ paired_fields xs
paired_fields (ReadPair d ∷ xs) = FPair d.hi d.lo ∷ paired_fields xs
paired_fields (x ∷ xs) = paired_fields xs

-- for all others, which are read
abbrev pub read_fields : List Role → List Field
read_fields [] = []
read_fields (Read r ∷ xs) = FReg r ∷ read_fields xs
read_fields (InMemory m ∷ xs) = FMemory m ∷ read_fields xs
read_fields (x ∷ xs) = read_fields xs

-- for all roles, in the order in which an instruction has its fields
abbrev pub role_fields : List Role → List Field
role_fields xs = written_fields xs ++ (paired_fields xs ++ read_fields xs)

abbrev pub described_fields : Option (Described Inst) → List Field
described_fields None = []
described_fields (Some d) = role_fields d.roles

-- those that no role stands for: the ends of a range, where a return leads, and what stands beside a list
abbrev pub other_fields : Inst → List Field
other_fields (I.LoadMultiple64 rt rt2 mem) = FReg rt ∷ FReg rt2 ∷ []
other_fields (I.StoreMultiple64 rt rt2 mem) = FReg rt ∷ FReg rt2 ∷ []
other_fields (I.Ret link) = FReg link ∷ []
other_fields (I.IndirectBr rn targets) = FReg rn ∷ []
other_fields (I.JTSequence ridx default default_cond targets) = FReg ridx ∷ []
other_fields (I.Call link info) = FReg link ∷ []
other_fields _ = []

-- an instruction's line names the registers of its description, in the order of the fields, and no others but these
abbrev pub DescriptionsNameEachRegister : Type 0
DescriptionsNameEachRegister = (i : Inst) → register_fields (inst_line i).fields ≡ other_fields i ++ described_fields (description_of i)

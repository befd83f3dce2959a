-- An instruction's line is read back as what the instruction holds.
use Rattle.std.proofs.Common.{◌≡◌, List, [], ◌∷◌, refl, sym, ap, ◌∙◌}
use Rattle.s390x_inst.specs.declared.inst.Inst.{Inst}
use Rattle.s390x_inst.specs.declared.inst.Inst.TheVariants as I
use Rattle.s390x_inst.specs.declared.vec_inst.VecInst.TheVariants as V
use Rattle.s390x_job_fields.specs.Fields.{Field, Kind, FAlu, FArgs, FBool, FCmp, FCond, FConvention, FDefs, FInteger, FLabels, FMemory, FNatural, FOption, FPair, FReal, FReg, FReloc, FRets, FRxsbg, FSet, FShift, FShifted, FTarget, FTrap, FTry, FUnary, FUses, FVecBinary, FVecCompare, FVecElementCompare, FVecShift, FVecUnary}
use Rattle.s390x_job_fields.specs.Fields.{KAlu, KArgs, KBool, KCmp, KCond, KConvention, KDefs, KInteger, KLabels, KMemory, KNatural, KOption, KPair, KReal, KReg, KReloc, KRets, KRxsbg, KSet, KShift, KShifted, KTarget, KTrap, KTry, KUnary, KUses, KVecBinary, KVecCompare, KVecElementCompare, KVecShift, KVecUnary}
use Rattle.s390x_job_lines.specs.Line.{Line}
use Rattle.s390x_job_lines.specs.Instructions.{inst_line}
use Rattle.s390x_job_lines.specs.Contents.{Contents, Whole, LoopOf, contents}
use Rattle.s390x_job_lines.specs.Kinds.{Row, Takes, TakesEach, integer_row, memory_row, control_row, vector_row}
use Rattle.s390x_inst.specs.Loads.{load_instruction}
use Rattle.s390x_inst.specs.Stores.{store_instruction}
use Rattle.s390x_inst.specs.Wholes.{whole_instruction}
use Rattle.s390x_job_lines.specs.declared.name.LineName.{LineName}
use Rattle.s390x_job_lines.specs.declared.name.LineName.TheVariants as N

-- what comes of the value of a field of this kind; anything for another field
abbrev taken : (T : Type 0) → (k : Kind) → Takes k T → (T → Contents) → Field → Contents
taken T KReg f next (FReg x) = next (f x)
taken T KReal f next (FReal x) = next (f x)
taken T KPair f next (FPair x y) = next (f x y)
taken T KAlu f next (FAlu x) = next (f x)
taken T KCmp f next (FCmp x) = next (f x)
taken T KShift f next (FShift x) = next (f x)
taken T KRxsbg f next (FRxsbg x) = next (f x)
taken T KUnary f next (FUnary x) = next (f x)
taken T KVecBinary f next (FVecBinary x) = next (f x)
taken T KVecUnary f next (FVecUnary x) = next (f x)
taken T KVecShift f next (FVecShift x) = next (f x)
taken T KVecCompare f next (FVecCompare x) = next (f x)
taken T KVecElementCompare f next (FVecElementCompare x) = next (f x)
taken T KConvention f next (FConvention x) = next (f x)
taken T KBool f next (FBool x) = next (f x)
taken T (KNatural v) f next (FNatural w x) = next (f x)
taken T (KInteger v) f next (FInteger w x) = next (f x)
taken T (KShifted v) f next (FShifted w x y) = next (f x y)
taken T KMemory f next (FMemory x) = next (f x)
taken T KCond f next (FCond x) = next (f x)
taken T KTrap f next (FTrap x) = next (f x)
taken T KLabels f next (FLabels x) = next (f x)
taken T KArgs f next (FArgs x) = next (f x)
taken T KRets f next (FRets x) = next (f x)
taken T KUses f next (FUses x) = next (f x)
taken T KDefs f next (FDefs x) = next (f x)
taken T KSet f next (FSet x) = next (f x)
taken T KTarget f next (FTarget x) = next (f x)
taken T KTry f next (FTry x) = next (f x)
taken T (KOption v) f next (FOption w x) = next (f x)
taken T KReloc f next (FReloc x) = next (f x)
taken T k f next x = LoopOf 0

-- what fields of these kinds hold; anything for other fields
abbrev taken_each : (ks : List Kind) → TakesEach ks Contents → List Field → Contents
taken_each [] c fs = c
taken_each (k ∷ ks) f [] = LoopOf 0
taken_each (k ∷ ks) f (x ∷ fs) = taken (TakesEach ks Contents) k f (λ g. taken_each ks g fs) x

abbrev read_row : Row → List Field → Contents
read_row r fs = taken_each r.kinds r.holds fs

-- what the instruction of a name and its fields holds; anything for other fields
abbrev pub read : LineName → List Field → Contents
read (N.Integer n) fs = read_row (integer_row n) fs
read (N.Memory n) fs = read_row (memory_row n) fs
read (N.Control n) fs = read_row (control_row n) fs
read (N.Vector n) fs = read_row (vector_row n) fs
read (N.Load op) (FReg rd ∷ FMemory mem ∷ []) = Whole (load_instruction op rd mem)
read (N.Store op) (FReg rd ∷ FMemory mem ∷ []) = Whole (store_instruction op rd mem)
read (N.Whole direction layout) (FReg rd ∷ FMemory mem ∷ []) = Whole (I.Vector (whole_instruction direction layout rd mem))
read N.Loop (FCond mask ∷ []) = LoopOf mask
read name fields = LoopOf 0

abbrev pub read_line : Line → Contents
read_line l = read l.name l.fields

pub contents_read : (i : Inst) → contents i ≡ read_line (inst_line i)
contents_read (I.Vector (V.VecRR op rd rn)) = refl
contents_read i = refl

pub same_contents : (i j : Inst) → inst_line i ≡ inst_line j → contents i ≡ contents j
same_contents i j same = contents_read i ∙ ap read_line same ∙ sym (contents_read j)

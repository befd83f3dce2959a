-- Memory operands: the form's name, and its fields in order, in parentheses and joined by commas.
use Rattle.std.specs.Prelude.{ℕ, ◌<◌, List, [], ◌∷◌, ◌++◌}
use denote.Enum.Declared.{tag_of}
use Rattle.std.specs.Fmt.{decimal, signed_decimal}
use Rattle.s390x_base.specs.AccessFlags.{AccessFlags}
use Rattle.s390x_base.specs.declared.regs.Reg.{Reg}
use Rattle.s390x_inst.specs.declared.args.MemArg.{MemArg}
use Rattle.s390x_inst.specs.declared.args.MemArg.TheVariants as M
use Rattle.s390x_job_fields.specs.Marks.{word, after_word}
use Rattle.s390x_job_fields.specs.Numbers.{natural_of, integer_of, IsBelow, signed_limit, W12, W32, S20, S32, S64}
use Rattle.s390x_job_fields.specs.Found.{rows, found_by_name, name_at}
use Rattle.s390x_job_fields.specs.Atoms.{reg_text, reg_of, IsReg, access_text, access_of, IsSuffix, name_of}
use Rattle.s390x_job_fields.specs.declared.memory.MemoryForm.{MemoryForm}
use Rattle.s390x_job_fields.specs.declared.memory.MemoryForm.TheVariants as F
use Rattle.s390x_job_fields.specs.declared.memory.TheConstants.{FORM_NAMES}
use Rattle.s390x_job_fields.specs.contracts.memory.MemoryForm as the_form

-- the name of a form, and the form of a name
abbrev pub form_text : MemoryForm → List ℕ
form_text f = name_at (rows FORM_NAMES.now) (tag_of the_form.the_type f)

unfoldable pub form_of : List ℕ → MemoryForm
form_of w = found_by_name (rows FORM_NAMES.now) w F.BXD12

-- the form of an operand
abbrev pub memory_form_of : MemArg → MemoryForm
memory_form_of (M.BXD12 b x d f) = F.BXD12
memory_form_of (M.BXD20 b x d f) = F.BXD20
memory_form_of (M.Label t) = F.Label
memory_form_of (M.Constant c) = F.Constant
memory_form_of (M.Symbol n o f) = F.Symbol
memory_form_of (M.RegOffset r o f) = F.RegOffset
memory_form_of (M.InitialSPOffset o) = F.InitialSPOffset
memory_form_of (M.IncomingArgOffset o) = F.IncomingArgOffset
memory_form_of (M.OutgoingArgOffset o) = F.OutgoingArgOffset
memory_form_of (M.SlotOffset o) = F.SlotOffset
memory_form_of (M.SpillOffset o) = F.SpillOffset

-- base, index, displacement and flags
abbrev pub indexed_text : Reg → Reg → List ℕ → AccessFlags → List ℕ
indexed_text b x d f = reg_text b ++ (44 ∷ (reg_text x ++ (44 ∷ (d ++ (44 ∷ access_text f)))))

-- a name or a register, an offset and flags
abbrev pub offset_text : List ℕ → List ℕ → AccessFlags → List ℕ
offset_text n o f = n ++ (44 ∷ (o ++ (44 ∷ access_text f)))

-- the fields of an operand, without the parentheses
abbrev pub inside_text : MemArg → List ℕ
inside_text (M.BXD12 b x d f) = indexed_text b x (decimal d) f
inside_text (M.BXD20 b x d f) = indexed_text b x (signed_decimal d) f
inside_text (M.Label t) = decimal t.0
inside_text (M.Constant c) = decimal c.0
inside_text (M.Symbol n o f) = offset_text (117 ∷ decimal n.0) (signed_decimal o) f
inside_text (M.RegOffset r o f) = offset_text (reg_text r) (signed_decimal o) f
inside_text (M.InitialSPOffset o) = signed_decimal o
inside_text (M.IncomingArgOffset o) = signed_decimal o
inside_text (M.OutgoingArgOffset o) = signed_decimal o
inside_text (M.SlotOffset o) = signed_decimal o
inside_text (M.SpillOffset o) = signed_decimal o

-- the text of an operand
abbrev pub memory_text : MemArg → List ℕ
memory_text m = form_text (memory_form_of m) ++ (40 ∷ (inside_text m ++ (41 ∷ [])))

-- the numbers of an operand lie in their ranges
abbrev pub IsMemory : MemArg → Type 0
IsMemory (M.BXD12 b x d f) = IsReg b × IsReg x × (d < 4096) × IsSuffix f.trap
IsMemory (M.BXD20 b x d f) = IsReg b × IsReg x × IsBelow (signed_limit S20) d × IsSuffix f.trap
IsMemory (M.Label t) = t.0 < 4294967296
IsMemory (M.Constant c) = c.0 < 4294967296
IsMemory (M.Symbol n o f) = (n.0 < 4294967296) × IsBelow (signed_limit S32) o × IsSuffix f.trap
IsMemory (M.RegOffset r o f) = IsReg r × IsBelow (signed_limit S64) o × IsSuffix f.trap
IsMemory (M.InitialSPOffset o) = IsBelow (signed_limit S64) o
IsMemory (M.IncomingArgOffset o) = IsBelow (signed_limit S64) o
IsMemory (M.OutgoingArgOffset o) = IsBelow (signed_limit S64) o
IsMemory (M.SlotOffset o) = IsBelow (signed_limit S64) o
IsMemory (M.SpillOffset o) = IsBelow (signed_limit S64) o

-- the operand of a form whose fields follow the mark in s
abbrev pub memory_with : MemoryForm → List ℕ → MemArg
memory_with F.BXD12 s =
    M.BXD12 (reg_of (word s)) (reg_of (word (after_word s))) (natural_of W12 (word (after_word (after_word s)))) (access_of (after_word (after_word (after_word s))))
memory_with F.BXD20 s =
    M.BXD20 (reg_of (word s)) (reg_of (word (after_word s))) (integer_of S20 (word (after_word (after_word s)))) (access_of (after_word (after_word (after_word s))))
memory_with F.Label s = M.Label (record { 0 = natural_of W32 (word s) })
memory_with F.Constant s = M.Constant (record { 0 = natural_of W32 (word s) })
memory_with F.Symbol s =
    M.Symbol (record { 0 = name_of (word s) }) (integer_of S32 (word (after_word s))) (access_of (after_word (after_word s)))
memory_with F.RegOffset s =
    M.RegOffset (reg_of (word s)) (integer_of S64 (word (after_word s))) (access_of (after_word (after_word s)))
memory_with F.InitialSPOffset s = M.InitialSPOffset (integer_of S64 (word s))
memory_with F.IncomingArgOffset s = M.IncomingArgOffset (integer_of S64 (word s))
memory_with F.OutgoingArgOffset s = M.OutgoingArgOffset (integer_of S64 (word s))
memory_with F.SlotOffset s = M.SlotOffset (integer_of S64 (word s))
memory_with F.SpillOffset s = M.SpillOffset (integer_of S64 (word s))

-- the operand behind one mark
abbrev pub memory_operand_of : List ℕ → MemArg
memory_operand_of s = memory_with (form_of (word s)) (after_word s)

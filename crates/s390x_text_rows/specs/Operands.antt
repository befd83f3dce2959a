-- The operands of texts, but for those in memory (cranelift-codegen, `regs.rs`, `args.rs`).
use Rattle.std.specs.Prelude.{ℕ, ◌+◌, ℤ, List, [], ◌++◌, codes, Bool, false, cond, ◌&&◌, nat_eq, nat_lt, Option, Some, None}
use Rattle.std.specs.Fmt.{decimal, signed_decimal}
use Rattle.s390x_base.specs.declared.regs.RegClass.TheVariants.{Int}
use Rattle.s390x_base.specs.declared.regs.Reg.{Reg}
use Rattle.s390x_base.specs.declared.regs.Reg.TheVariants.{Real, Virtual}
use Rattle.s390x_job_fields.specs.Atoms.{reg_text}
use Rattle.s390x_job_fields.specs.Sets.{same_class}
use Rattle.s390x_text_rows.specs.Texts.{Text}
use Rattle.s390x_text_rows.specs.declared.error.TextError.{TextError}
use Rattle.s390x_text_rows.specs.declared.error.TextError.TheVariants.{BadPair}

-- whether two registers are the same
abbrev pub is_reg : Reg → Reg → Bool
is_reg (Real r) (Real s) = same_class r.class s.class && nat_eq r.number s.number
is_reg (Virtual n c) (Virtual m d) = nat_eq n m && same_class c d
is_reg _ _ = false

-- an output that is also an input: `R`, or `R<-RI` where they differ
abbrev pub reused_text : (rd ri : Reg) → List ℕ
reused_text rd ri = cond (is_reg rd ri) (reg_text rd) (reg_text rd ++ (codes "<-" ++ reg_text ri))

-- the bits of a rotation: the first one, the last one, and by how many it rotates
abbrev pub rotated_text : (start end amount : ℕ) → List ℕ
rotated_text start end amount = decimal start ++ (codes ", " ++ (decimal end ++ (codes ", " ++ decimal amount)))

-- both registers of a pair
abbrev pub halves_text : (hi lo : Reg) → List ℕ
halves_text hi lo = reg_text hi ++ (codes "/" ++ reg_text lo)

-- a pair: its first register, and both where one is virtual
abbrev pub pair_text : (hi lo : Reg) → List ℕ
pair_text (Real h) (Real l) = reg_text (Real h)
pair_text hi lo = halves_text hi lo

-- why a pair has no text: two real registers of which the second isn't the next one
abbrev pub pair_cause : (hi lo : Reg) → Option TextError
pair_cause (Real h) (Real l) = cond (nat_eq l.number (h.number + 1)) None (Some BadPair)
pair_cause hi lo = None

-- the text of a pair, or its refusal
abbrev pub pair : (hi lo : Reg) → Text
pair hi lo = record { cause = pair_cause hi lo; bytes = pair_text hi lo }

-- a pair that is also an input: its first register, or both pairs where the first ones differ
abbrev pub reused_pair_text : (hi lo in_hi in_lo : Reg) → List ℕ
reused_pair_text hi lo in_hi in_lo = cond (is_reg hi in_hi) (reg_text hi) (halves_text hi lo ++ (codes "<-" ++ halves_text in_hi in_lo))

-- a pair whose second register is also an input: its first register, or both and the input where that differs
abbrev pub reused_low_text : (hi lo ri : Reg) → List ℕ
reused_low_text hi lo ri = cond (is_reg lo ri) (reg_text hi) (halves_text hi lo ++ (codes "<-_/" ++ reg_text ri))

-- a float register: a real register below 16
abbrev pub is_float : Reg → Bool
is_float (Real r) = nat_lt r.number 16
is_float (Virtual n c) = false

-- the number of a float register
abbrev pub float_text : Reg → List ℕ
float_text (Real r) = codes "%f" ++ decimal r.number
float_text (Virtual n c) = []

-- the text of a register as a float register, where it is one
abbrev pub float_of : Reg → Option (List ℕ)
float_of r = cond (is_float r) (Some (float_text r)) None

-- %r0, which counts as zero where an address or an amount is summed
abbrev pub is_zero : Reg → Bool
is_zero (Real r) = same_class r.class Int && nat_eq r.number 0
is_zero (Virtual n c) = false

-- a register in brackets; nothing for %r0
abbrev pub bracketed_register : Reg → List ℕ
bracketed_register r = cond (is_zero r) [] (codes "(" ++ (reg_text r ++ codes ")"))

-- an amount or a lane: a number, and the register that is added to it
abbrev pub amount_text : ℕ → Reg → List ℕ
amount_text n r = decimal n ++ bracketed_register r

-- an access register
abbrev pub access_register_text : ℕ → List ℕ
access_register_text n = codes "%a" ++ decimal n

-- the name of a condition by its mask
abbrev pub cond_text : ℕ → List ℕ
cond_text mask =
    cond (nat_eq mask 1) (codes "o") (cond (nat_eq mask 2) (codes "h") (cond (nat_eq mask 3) (codes "nle") (cond (nat_eq mask 4) (codes "l")
    (cond (nat_eq mask 5) (codes "nhe") (cond (nat_eq mask 6) (codes "lh") (cond (nat_eq mask 7) (codes "ne") (cond (nat_eq mask 8) (codes "e")
    (cond (nat_eq mask 9) (codes "nlh") (cond (nat_eq mask 10) (codes "he") (cond (nat_eq mask 11) (codes "nl") (cond (nat_eq mask 12) (codes "le")
    (cond (nat_eq mask 13) (codes "nh") (codes "no")))))))))))))

-- a block's label
abbrev pub label_text : ℕ → List ℕ
label_text n = codes "label" ++ decimal n

-- a symbol's name
abbrev pub name_text : ℕ → List ℕ
name_text n = codes "u" ++ decimal n

-- an offset, an index and a base, the registers both shown
abbrev pub indexed_text : ℤ → (index base : Reg) → List ℕ
indexed_text offset index base = signed_decimal offset ++ (codes "(" ++ (reg_text index ++ (codes "," ++ (reg_text base ++ codes ")"))))

-- Pieces that stand as literals: mnemonics of frequent rows with what stands behind them.
use Rattle.std.proofs.Common.{◌≡◌, ℕ, ℤ, List, [], ◌∷◌, ◌++◌, true, false, cond, Result, Ok, Err, OnOk, refl, sym, ap, subst, ◌∙◌, append-nil, append_assoc, arith}
use Rattle.std.proofs.lemmas.Fmt.{decimal_digit}
use Rattle.std.specs.Fmt.{decimal, signed_decimal}
use Rattle.std.specs.Prelude.{codes}
use Rattle.s390x_base.specs.declared.regs.Reg.{Reg}
use Rattle.s390x_format.specs.Stems.{place_for, stem_of}
use Rattle.s390x_inst.specs.declared.inst.Inst.TheVariants.{Mov64SImm32}
use Rattle.s390x_inst.specs.declared.whole.Direction.{Direction}
use Rattle.s390x_inst.specs.declared.whole.Direction.TheVariants.{Load, Store}
use Rattle.s390x_inst.specs.declared.whole.WholeLayout.TheVariants.{Straight}
use Rattle.s390x_job_fields.specs.Atoms.{reg_text}
use Rattle.s390x_rows.specs.declared.opcodes.TheConstants as opcodes
use Rattle.s390x_typed_steps.specs.Operands.{no_register, scratch}
use Rattle.s390x_text_rows.specs.Operands.{is_zero}
use Rattle.s390x_text_rows.specs.Storage.{helper_text, zero_text}
use Rattle.s390x_text_rows.specs.Texts.{instruction_text}
use Rattle.s390x_text_rows.specs.VectorMnemonics.{whole_name}

lg_stem : stem_of opcodes.LG ≡ codes "lg"
unfolding stem_of place_for
lg_stem = refl

stg_stem : stem_of opcodes.STG ≡ codes "stg"
unfolding stem_of place_for
stg_stem = refl

lgrl_stem : stem_of opcodes.LGRL ≡ codes "lgrl"
unfolding stem_of place_for
lgrl_stem = refl

lgfi_stem : stem_of opcodes.LGFI ≡ codes "lgfi"
unfolding stem_of place_for
lgfi_stem = refl

larl_stem : stem_of opcodes.LARL ≡ codes "larl"
unfolding stem_of place_for
larl_stem = refl

-- a text behind another one
pub behind : {T E : Type 0} (result : Result T E) (old mid new a b t : List ℕ) → mid ≡ old ++ a → a ++ b ≡ t → OnOk result (new ≡ mid ++ b) → OnOk result (new ≡ old ++ t)
behind (Ok x) old mid new a b t q e p = p ∙ ap (λ m. m ++ b) q ∙ append_assoc old a b ∙ ap (λ z. old ++ z) e
behind (Err x) old mid new a b t q e p = p

-- the same text in other words
pub reworded : {T E : Type 0} (result : Result T E) (old new a b : List ℕ) → a ≡ b → OnOk result (new ≡ old ++ a) → OnOk result (new ≡ old ++ b)
reworded result old new a b e p = subst (λ t. OnOk result (new ≡ old ++ t)) e p

-- a mnemonic and a register, by the literal of the row with that opcode
by_literal : {T E : Type 0} (result : Result T E) (old new : List ℕ) (o k : ℕ) (name reg : List ℕ) → stem_of k ≡ name → o ≡ k → OnOk result (new ≡ old ++ ((name ++ codes " ") ++ reg)) → OnOk result (new ≡ old ++ instruction_text (stem_of o) (reg ∷ []))
by_literal result old new o k name reg s h p =
    subst (λ t. OnOk result (new ≡ old ++ t))
    (append_assoc name (codes " ") reg
    ∙ ap (λ n. n ++ (codes " " ++ reg)) (sym s ∙ ap (λ x. stem_of x) (sym h))
    ∙ ap (λ r. stem_of o ++ (codes " " ++ r)) (sym (append-nil reg))) p

pub named_lg : {T E : Type 0} (result : Result T E) (old new : List ℕ) (o : ℕ) (reg : List ℕ) → o ≡ opcodes.LG → OnOk result (new ≡ old ++ (codes "lg " ++ reg)) → OnOk result (new ≡ old ++ instruction_text (stem_of o) (reg ∷ []))
named_lg result old new o reg h p = by_literal result old new o opcodes.LG (codes "lg") reg lg_stem h p

pub named_stg : {T E : Type 0} (result : Result T E) (old new : List ℕ) (o : ℕ) (reg : List ℕ) → o ≡ opcodes.STG → OnOk result (new ≡ old ++ (codes "stg " ++ reg)) → OnOk result (new ≡ old ++ instruction_text (stem_of o) (reg ∷ []))
named_stg result old new o reg h p = by_literal result old new o opcodes.STG (codes "stg") reg stg_stem h p

pub named_lgrl : {T E : Type 0} (result : Result T E) (old new : List ℕ) (o : ℕ) (reg : List ℕ) → o ≡ opcodes.LGRL → OnOk result (new ≡ old ++ (codes "lgrl " ++ reg)) → OnOk result (new ≡ old ++ instruction_text (stem_of o) (reg ∷ []))
named_lgrl result old new o reg h p = by_literal result old new o opcodes.LGRL (codes "lgrl") reg lgrl_stem h p

vl_stem : stem_of opcodes.VL ≡ codes "vl"
unfolding stem_of place_for
vl_stem = refl

vst_stem : stem_of opcodes.VST ≡ codes "vst"
unfolding stem_of place_for
vst_stem = refl

-- a load or a store of a whole vector register as it stands in memory
load_name : whole_name Load Straight ≡ codes "vl"
unfolding whole_name
load_name = ap (λ n. n ++ []) vl_stem

store_name : whole_name Store Straight ≡ codes "vst"
unfolding whole_name
store_name = ap (λ n. n ++ []) vst_stem

named_whole : {T E : Type 0} (result : Result T E) (old new : List ℕ) (d : Direction) (name reg : List ℕ) → whole_name d Straight ≡ name → OnOk result (new ≡ old ++ ((name ++ codes " ") ++ reg)) → OnOk result (new ≡ old ++ instruction_text (whole_name d Straight) (reg ∷ []))
named_whole result old new d name reg s p =
    reworded result old new ((name ++ codes " ") ++ reg) (instruction_text (whole_name d Straight) (reg ∷ []))
    (append_assoc name (codes " ") reg
    ∙ ap (λ n. n ++ (codes " " ++ reg)) (sym s)
    ∙ ap (λ r. whole_name d Straight ++ (codes " " ++ r)) (sym (append-nil reg))) p

pub named_load : {T E : Type 0} (result : Result T E) (old new : List ℕ) (reg : List ℕ) → OnOk result (new ≡ old ++ (codes "vl " ++ reg)) → OnOk result (new ≡ old ++ instruction_text (whole_name Load Straight) (reg ∷ []))
named_load result old new reg p = named_whole result old new Load (codes "vl") reg load_name p

pub named_store : {T E : Type 0} (result : Result T E) (old new : List ℕ) (reg : List ℕ) → OnOk result (new ≡ old ++ (codes "vst " ++ reg)) → OnOk result (new ≡ old ++ instruction_text (whole_name Store Straight) (reg ∷ []))
named_store result old new reg p = named_whole result old new Store (codes "vst") reg store_name p

-- ---- helpers

zero_digit : decimal 0 ≡ codes "0"
zero_digit = decimal_digit 0 (omega arith)

one_digit : decimal 1 ≡ codes "1"
one_digit = decimal_digit 1 (omega arith)

-- a mnemonic, %r1 and an operand
scratch_first : (o : ℕ) (name t : List ℕ) → stem_of o ≡ name → (name ++ codes " %r1, ") ++ t ≡ instruction_text (stem_of o) (reg_text scratch ∷ t ∷ [])
scratch_first o name t s =
    append_assoc name (codes " %r1, ") t
    ∙ ap (λ x. name ++ (codes " %r" ++ (x ++ (codes ", " ++ t)))) (sym one_digit)
    ∙ ap (λ x. name ++ (codes " " ++ (reg_text scratch ++ (codes ", " ++ x)))) (sym (append-nil t))
    ∙ ap (λ n. n ++ (codes " " ++ (reg_text scratch ++ (codes ", " ++ (t ++ []))))) (sym s)

pub loaded_offset : (off : ℤ) → codes "lgfi %r1, " ++ signed_decimal off ≡ helper_text (Mov64SImm32 scratch off)
loaded_offset off = scratch_first opcodes.LGFI (codes "lgfi") (signed_decimal off) lgfi_stem

pub loaded_symbol : (t : List ℕ) → codes "larl %r1, u" ++ t ≡ instruction_text (stem_of opcodes.LARL) (reg_text scratch ∷ (codes "u" ++ t) ∷ [])
loaded_symbol t = scratch_first opcodes.LARL (codes "larl") (codes "u" ++ t) larl_stem

-- ---- places at the displacement zero

pub indexed_alone : (base : Reg) → is_zero base ≡ true → codes ", 0(%r1,)" ≡ codes ", " ++ zero_text base scratch
indexed_alone base h =
    ap (λ d. codes ", 0(%r" ++ (d ++ codes ",)")) (sym one_digit)
    ∙ ap (λ d. codes ", " ++ (d ++ (codes "(" ++ (reg_text scratch ++ codes ",)")))) (sym zero_digit)
    ∙ ap (λ z. codes ", " ++ (decimal 0 ++ cond z (codes "(" ++ (reg_text scratch ++ codes ",)")) (codes "(" ++ (reg_text scratch ++ (codes "," ++ (reg_text base ++ codes ")")))))) (sym h)

pub indexed_base : (base : Reg) → is_zero base ≡ false → codes ", 0(%r1," ++ (reg_text base ++ codes ")") ≡ codes ", " ++ zero_text base scratch
indexed_base base h =
    ap (λ d. codes ", 0(%r" ++ (d ++ (codes "," ++ (reg_text base ++ codes ")")))) (sym one_digit)
    ∙ ap (λ d. codes ", " ++ (d ++ (codes "(" ++ (reg_text scratch ++ (codes "," ++ (reg_text base ++ codes ")")))))) (sym zero_digit)
    ∙ ap (λ z. codes ", " ++ (decimal 0 ++ cond z (codes "(" ++ (reg_text scratch ++ codes ",)")) (codes "(" ++ (reg_text scratch ++ (codes "," ++ (reg_text base ++ codes ")")))))) (sym h)

pub addressed : codes ", 0(%r1)" ≡ codes ", " ++ zero_text scratch no_register
addressed =
    ap (λ d. codes ", 0(%r" ++ (d ++ codes ")")) (sym one_digit)
    ∙ ap (λ d. codes ", " ++ (d ++ (codes "(" ++ (reg_text scratch ++ codes ")")))) (sym zero_digit)

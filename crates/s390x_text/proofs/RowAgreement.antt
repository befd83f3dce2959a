-- An instruction that is neither a loop nor a call has a row for its text exactly where it has some for its bytes.
use Rattle.std.proofs.Common.{◌≡◌, ℕ, Bool, true, false, ◌&&◌, ◌||◌, nat_lt, not, List, [], ◌∷◌, Option, Some, None, is_some, refl, sym, ap, ◌∙◌}
use Rattle.s390x_base.specs.declared.error.EmitError.{EmitError}
use Rattle.s390x_base.specs.declared.error.EmitError.TheVariants.{BadRegister, ScratchConflict, UnboundLabel, BreakOutsideLoop}
use Rattle.s390x_base.specs.declared.ir.MachLabel.{MachLabel}
use Rattle.s390x_base.specs.declared.regs.Reg.{Reg}
use Rattle.s390x_inst.specs.Emission.{Emission}
use Rattle.s390x_inst.specs.declared.args.MemArg.{MemArg}
use Rattle.s390x_inst.specs.declared.inst.Inst.{Inst}
use Rattle.s390x_inst.specs.declared.inst.Inst.TheVariants as I
use Rattle.s390x_typed_steps.specs.Causes.{branch_cause, first_emit_cause, labels_cause, table_cause, target_label_cause, unless}
use Rattle.s390x_typed_steps.specs.General.{is_general, is_nonzero, is_scratch}
use Rattle.s390x_typed_steps.specs.Memory.{memory, operate, load_and_operate}
use Rattle.s390x_typed_steps.specs.Operands.{resolved_operand}
use Rattle.s390x_typed_steps.specs.Resolved.{resolved_instruction}
use Rattle.s390x_typed_steps.specs.SingleInstruction.{single_instruction}
use Rattle.s390x_typed_steps.specs.Storage.{alu_rx, alu_rxy, atomic_rsy}
use Rattle.s390x_text_rows.specs.Control.{control_text}
use Rattle.s390x_text_rows.specs.Integer.{arithmetic_text, compare_text, move_text, pair_instruction_text}
use Rattle.s390x_text_rows.specs.Simple.{other_text, simple_text}
use Rattle.s390x_text_rows.specs.Storage.{load_text, store_text, storage_operator_text}
use Rattle.s390x_text_rows.specs.Texts.{Text, text_or}
use Rattle.s390x_text.specs.Agreement.{Agrees, has_row_text}
use Rattle.s390x_text.proofs.Agreement.{rows_agree}
use Rattle.s390x_text.specs.Rows.{has_rows, names_row}
use Rattle.s390x_text.proofs.VectorAgreement.{operands_stay, vector_rows}
use Rattle.s390x_job_fields.proofs.Members.{or-false}

-- ---- truth values

-- of three of which the others are false, one is the whole
first_alone : (s m n : Bool) → (m || n) ≡ false → (s || m || n) ≡ s
first_alone s false false h = or-false (s || false) ∙ or-false s
first_alone s false true h = absurd (cc)
first_alone s true n h = absurd (cc)

second_alone : (s m n : Bool) → (s || n) ≡ false → (s || m || n) ≡ m
second_alone false m n h = ap (λ x. m || x) h ∙ or-false m
second_alone true m n h = absurd (cc)

-- ---- causes of instructions that name a place, go elsewhere or end the run

pub unless_row : (holds : Bool) (e : EmitError) → names_row (Some e) ≡ true → names_row (unless holds e) ≡ true
unless_row true e h = refl
unless_row false e h = h

first_row : (a b : Option EmitError) → names_row a ≡ true → names_row b ≡ true → names_row (first_emit_cause a b) ≡ true
first_row None b p q = q
first_row (Some e) b p q = p

labels_row : (blocks : ℕ) (ls : List MachLabel) → names_row (labels_cause blocks ls) ≡ true
labels_row blocks [] = refl
labels_row blocks (l ∷ ls) = first_row (target_label_cause blocks l) (labels_cause blocks ls) (unless_row (nat_lt l.0 blocks) UnboundLabel refl) (labels_row blocks ls)

table_row : (blocks : ℕ) (index : Reg) (other : MachLabel) (ls : List MachLabel) → names_row (table_cause blocks index other ls) ≡ true
table_row blocks index other ls =
    first_row (unless (is_general index && is_nonzero index) BadRegister) _ (unless_row (is_general index && is_nonzero index) BadRegister refl)
    (first_row (unless (not (is_scratch index)) ScratchConflict) _ (unless_row (not (is_scratch index)) ScratchConflict refl)
    (first_row (target_label_cause blocks other) (labels_cause blocks ls) (unless_row (nat_lt other.0 blocks) UnboundLabel refl) (labels_row blocks ls)))

-- ---- instructions

-- there is this text, and nothing else has rows; or there is none, and this holds
abbrev AloneOr : Option Text → Bool → Type 0 → Type 0
AloneOr None others rest = rest
AloneOr (Some t) others rest = others ≡ false

single_text : (o : Option Text) (rest : Text) (s m n : Bool) (R : Type 0) → Agrees o s → AloneOr o (m || n) R → (R → has_row_text rest.cause ≡ (s || m || n)) → has_row_text (text_or o rest).cause ≡ (s || m || n)
single_text None rest s m n R a alone go = go alone
single_text (Some t) rest s m n R a alone go = a ∙ sym (first_alone s m n alone)

stored_text : (o : Option Text) (rest : Text) (s m n : Bool) (R : Type 0) → Agrees o m → AloneOr o (s || n) R → (R → has_row_text rest.cause ≡ (s || m || n)) → has_row_text (text_or o rest).cause ≡ (s || m || n)
stored_text None rest s m n R a alone go = go alone
stored_text (Some t) rest s m n R a alone go = a ∙ sym (second_alone s m n alone)

module _ (has : Bool) (e : Emission) (blocks depth : ℕ) (i : Inst) where
  -- one machine instruction; one with an operand in memory; another one with rows
  abbrev single : Bool
  single = is_some (single_instruction i)

  abbrev stored : Bool
  stored = is_some (memory i)

  abbrev named : Bool
  named = names_row (branch_cause blocks depth i)

  -- it has a text of one of the kinds and is nothing else, or the rest of its text agrees
  abbrev IsOther : Type 0
  IsOther = has_row_text (text_or (control_text i) (other_text e i)).cause ≡ has_rows blocks depth i

  abbrev IsMoveOr : Type 0
  IsMoveOr = AloneOr (move_text i) (stored || named) IsOther

  abbrev IsComparisonOr : Type 0
  IsComparisonOr = AloneOr (compare_text i) (stored || named) IsMoveOr

  abbrev IsPairOr : Type 0
  IsPairOr = AloneOr (pair_instruction_text i) (stored || named) IsComparisonOr

  abbrev IsArithmeticOr : Type 0
  IsArithmeticOr = AloneOr (arithmetic_text i) (stored || named) IsPairOr

  abbrev IsOperatorOr : Type 0
  IsOperatorOr = AloneOr (storage_operator_text has e i) (single || named) IsArithmeticOr

  abbrev IsStoreOr : Type 0
  IsStoreOr = AloneOr (store_text has e i) (single || named) IsOperatorOr

  abbrev IsOfAKind : Type 0
  IsOfAKind = AloneOr (load_text has e i) (single || named) IsStoreOr

  of_a_kind : IsOfAKind → has_row_text (simple_text has e i).cause ≡ has_rows blocks depth i
  of_a_kind kind =
      let a = rows_agree has e i in
      stored_text (load_text has e i) _ single stored named IsStoreOr a.loads kind (λ k.
      stored_text (store_text has e i) _ single stored named IsOperatorOr a.stores k (λ k.
      stored_text (storage_operator_text has e i) _ single stored named IsArithmeticOr a.operators k (λ k.
      single_text (arithmetic_text i) _ single stored named IsPairOr a.arithmetic k (λ k.
      single_text (pair_instruction_text i) _ single stored named IsComparisonOr a.pairs k (λ k.
      single_text (compare_text i) _ single stored named IsMoveOr a.comparisons k (λ k.
      single_text (move_text i) _ single stored named IsOther a.moves k (λ k. k)))))))

-- the last clause is a copy for each instruction of a kind of text
pub simple_rows : (has : Bool) (e : Emission) (blocks depth : ℕ) (i : Inst) → has_row_text (simple_text has e i).cause ≡ has_rows blocks depth i
simple_rows has e b d (I.Jump dest) = sym (unless_row (nat_lt dest.0 b) UnboundLabel refl)
simple_rows has e b d (I.CondBr taken not_taken mask) = sym (first_row (target_label_cause b taken) (target_label_cause b not_taken) (unless_row (nat_lt taken.0 b) UnboundLabel refl) (unless_row (nat_lt not_taken.0 b) UnboundLabel refl))
simple_rows has e b d (I.IndirectBr rn targets) = sym (first_row (unless (is_general rn && is_nonzero rn) BadRegister) (labels_cause b targets.items) (unless_row (is_general rn && is_nonzero rn) BadRegister refl) (labels_row b targets.items))
simple_rows has e b d (I.Ret link) = sym (unless_row (is_general link && is_nonzero link) BadRegister refl)
simple_rows has e b d (I.JTSequence ridx other mask targets) = sym (table_row b ridx other targets.items)
simple_rows has e b d (I.CondBreak mask) = sym (unless_row (nat_lt 0 d) BreakOutsideLoop refl)
simple_rows has e b d (I.LabelAddress dst label) = sym (first_row (unless (is_general dst) BadRegister) (target_label_cause b label) (unless_row (is_general dst) BadRegister refl) (unless_row (nat_lt label.0 b) UnboundLabel refl))
simple_rows has e b d (I.LoadSymbolReloc rd reloc) = sym (unless_row (is_general rd) BadRegister refl)
simple_rows has e b d (I.Vector v) = vector_rows e b d v
simple_rows has e b d i = of_a_kind has e b d i refl

-- ---- operands of the frame

operate_stays : (have : Bool) (short long : Option ℕ) (rd ri : Reg) (m n : MemArg) → is_some (operate have short long rd ri m) ≡ is_some (operate have short long rd ri n)
operate_stays true short long rd ri m n = refl
operate_stays false short long rd ri m n = refl

lock_stays : (opcode : Option ℕ) (rd rn : Reg) (m n : MemArg) → is_some (load_and_operate opcode rd rn m) ≡ is_some (load_and_operate opcode rd rn n)
lock_stays None rd rn m n = refl
lock_stays (Some opcode) rd rn m n = refl

-- resolving an operand changes no row; the last clause is a copy for each
pub resolved_rows : (e : Emission) (blocks depth : ℕ) (i : Inst) → has_rows blocks depth (resolved_instruction e i) ≡ has_rows blocks depth i
resolved_rows e b d (I.AluRX op rd ri mem) = ap (λ s. s || false) (operate_stays (is_some (alu_rx op) || is_some (alu_rxy op)) (alu_rx op) (alu_rxy op) rd ri (resolved_operand e mem) mem)
resolved_rows e b d (I.AtomicRmw op rd rn mem) = ap (λ s. s || false) (lock_stays (atomic_rsy op) rd rn (resolved_operand e mem) mem)
resolved_rows e b d (I.Vector v) = operands_stay e b d v
resolved_rows e b d i = refl

-- The texts of memory operands, and of instructions that have one (cranelift-codegen, `args.rs` and `mod.rs`).
use Rattle.std.specs.Prelude.{◌≡◌, ℕ, ℤ, List, [], ◌∷◌, ◌++◌, codes, Bool, true, false, cond, not, ◌&&◌, ◌||◌, is_some, Option, Some, None, Result, MatchResult}
use Rattle.std.specs.Fmt.{decimal, signed_decimal}
use Rattle.std.specs.Option.{option_map}
use Rattle.s390x_base.specs.declared.error.EmitError.{EmitError}
use Rattle.s390x_base.specs.AccessFlags.{AccessFlags}
use Rattle.s390x_base.specs.declared.regs.Reg.{Reg}
use Rattle.s390x_inst.specs.Emission.{Emission}
use Rattle.s390x_inst.specs.declared.args.MemArg.{MemArg}
use Rattle.s390x_inst.specs.declared.args.MemArg.TheVariants.{BXD12, BXD20, Label, Constant, Symbol, RegOffset, InitialSPOffset, IncomingArgOffset, OutgoingArgOffset, SlotOffset, SpillOffset}
use Rattle.s390x_inst.specs.declared.load.LoadOp.{LoadOp}
use Rattle.s390x_inst.specs.Loads.{as_load, by_load}
use Rattle.s390x_inst.specs.declared.store.StoreOp.{StoreOp}
use Rattle.s390x_inst.specs.Stores.{as_store, by_store}
use Rattle.s390x_inst.specs.declared.inst.Inst.{Inst}
use Rattle.s390x_inst.specs.declared.inst.Inst.TheVariants as I
use Rattle.s390x_inst.specs.Memory.{flags_of}
use Rattle.s390x_typed_steps.specs.Operands.{Finalized, scratch, no_register, needs_address, is_numbered, is_relative, is_far, fits_12, fits_20, with_long_displacement, finalized_operand, resolved_operand}
use Rattle.s390x_typed_steps.specs.Causes.{operand_cause}
use Rattle.s390x_typed_steps.specs.Memory.{load_rows, store_rows}
use Rattle.s390x_typed_steps.specs.declared.access_rows.RegisterRows.{RegisterRows}
use Rattle.s390x_typed_steps.specs.declared.mem_inst_type.MemInstType.{MemInstType}
use Rattle.s390x_format.specs.Stems.{stem_of}
use Rattle.s390x_rows.specs.declared.opcodes.TheConstants as opcodes
use Rattle.s390x_job_fields.specs.Atoms.{reg_text}
use Rattle.s390x_text_rows.specs.Texts.{Text, instruction_text, RefusedBy}
use Rattle.s390x_text_rows.specs.Operands.{bracketed_register, is_zero, label_text, name_text, reused_text}
use Rattle.s390x_text_rows.specs.Mnemonics.{alu_short_name, alu_long_name, atomic_name, cmp_short_name, cmp_long_name, cmp_relative_name}
use Rattle.s390x_text_rows.specs.declared.error.TextError.{TextError}
use Rattle.s390x_text_rows.specs.declared.error.TextError.TheVariants.{NoRow, Virtual, Address}
use Rattle.s390x_text_rows.specs.declared.near_offset.NearOffset.{NearOffset}
use Rattle.s390x_text_rows.specs.declared.one_helper.AtZero.{AtZero}
use Rattle.s390x_text_rows.specs.declared.storage.Rows.{Rows as DeclaredRows}

-- ---- operands

-- a base and an index behind a displacement: `(X,B)`, `(B)`, `(X,)`, or nothing
abbrev pub sum_text : (base index : Reg) → List ℕ
sum_text base index =
    cond (is_zero base) (cond (is_zero index) [] (codes "(" ++ (reg_text index ++ codes ",)")))
    (cond (is_zero index) (codes "(" ++ (reg_text base ++ codes ")")) (codes "(" ++ (reg_text index ++ (codes "," ++ (reg_text base ++ codes ")")))))

-- an operand that stands in an access; nothing for one that doesn't before its offset has become a displacement
abbrev pub memory_text : MemArg → List ℕ
memory_text (BXD12 base index disp flags) = decimal disp ++ sum_text base index
memory_text (BXD20 base index disp flags) = signed_decimal disp ++ sum_text base index
memory_text (Label target) = label_text target.0
memory_text (Constant c) = codes "[const(" ++ (decimal c.0 ++ codes ")]")
memory_text (Symbol name offset flags) = name_text name.0 ++ (codes " + " ++ signed_decimal offset)
memory_text m = []

-- an offset from a register, or in the frame
abbrev pub is_virtual : MemArg → Bool
is_virtual (RegOffset reg off flags) = true
is_virtual (InitialSPOffset off) = true
is_virtual (IncomingArgOffset off) = true
is_virtual (OutgoingArgOffset off) = true
is_virtual (SlotOffset off) = true
is_virtual (SpillOffset off) = true
is_virtual m = false

-- a base behind an offset: `D(B)`, or `D`
abbrev pub offset_text : ℤ → (base : Reg) → List ℕ
offset_text off base = signed_decimal off ++ bracketed_register base

-- the text of an operand by itself, or its refusal
abbrev pub operand_alone : MemArg → Text
operand_alone m = record { cause = cond (is_virtual m) (Some Virtual) None; bytes = memory_text m }

-- ---- rows

-- the mnemonics that an instruction has by the form of its operand: a displacement of 12 bits, one of 20 bits, and relative to the instruction;
-- whether its rows have an index, and whether they access memory
pub record Rows : Type 0 where
  pub short : Option (List ℕ)
  pub long : Option (List ℕ)
  pub relative : Option (List ℕ)
  pub index : Bool
  pub accesses : Bool

-- rows of formats RX, RXY and RIL-B
abbrev pub rx : (short long relative : Option (List ℕ)) → Rows
rx short long relative = record { short = short; long = long; relative = relative; index = true; accesses = true }

-- rows without an index or a relative form: of formats RS, RSY, SI, SIY and SIL
abbrev pub rs : (short long : Option (List ℕ)) → Rows
rs short long = record { short = short; long = long; relative = None; index = false; accesses = true }

-- the mnemonics of the rows of a register
abbrev pub rx_of : RegisterRows → Rows
rx_of r = rx (option_map stem_of r.rx) (option_map stem_of r.rxy) (option_map stem_of r.ril)

-- the rows of LOAD ADDRESS
abbrev pub address_rows : Rows
address_rows = record { short = Some (stem_of opcodes.LA); long = Some (stem_of opcodes.LAY); relative = Some (stem_of opcodes.LARL); index = true; accesses = false }

-- the mnemonics of rows that are told by their opcodes
abbrev pub rows_of : DeclaredRows → Rows
rows_of r = record { short = option_map stem_of r.short; long = option_map stem_of r.long; relative = option_map stem_of r.relative; index = r.index; accesses = r.accesses }

-- there is a row for some operand
abbrev pub has_row : Rows → Bool
has_row r = is_some r.short || is_some r.long || is_some r.relative

-- the forms of an operand that the rows have, on a machine that has accesses relative to the instruction or lacks them; a relative operand of an access has to be
-- aligned
abbrev pub type_of_rows : (has_relative : Bool) → Rows → MemInstType
type_of_rows has r =
    record { have_d12 = is_some r.short; have_d20 = is_some r.long; have_pcrel = is_some r.relative && (has || not r.accesses); have_unaligned_pcrel = is_some r.relative && not r.accesses; have_index = r.index }

-- a mnemonic; nothing where there is none
abbrev pub or_nothing : Option (List ℕ) → List ℕ
or_nothing None = []
or_nothing (Some name) = name

-- the mnemonic at an operand
abbrev pub name_at : Rows → MemArg → List ℕ
name_at r (BXD12 base index disp flags) = or_nothing r.short
name_at r (BXD20 base index disp flags) = or_nothing r.long
name_at r (Label target) = or_nothing r.relative
name_at r (Constant c) = or_nothing r.relative
name_at r (Symbol name offset flags) = or_nothing r.relative
name_at r m = []

-- the instructions that come before an access: an offset that is loaded, and an address
abbrev pub helper_text : Inst → List ℕ
helper_text (I.Mov64SImm32 rd imm) = instruction_text (stem_of opcodes.LGFI) (reg_text rd ∷ signed_decimal imm ∷ [])
helper_text (I.LoadAddr rd mem) = instruction_text (name_at address_rows mem) (reg_text rd ∷ memory_text mem ∷ [])
helper_text i = []

-- helpers in order, each followed by a semicolon
abbrev pub helpers_text : List Inst → List ℕ
helpers_text [] = []
helpers_text (i ∷ is) = (helper_text i ++ codes " ; ") ++ helpers_text is

-- a cause of the address
abbrev pub address_cause : Option EmitError → Option TextError
address_cause None = None
address_cause (Some e) = Some (Address e)

-- the causes: there is no row at all, or the address can't be made
abbrev pub access_cause : (has_relative : Bool) → Rows → MemArg → Option TextError
access_cause has r m = cond (has_row r) (address_cause (operand_cause (type_of_rows has r) m)) (Some NoRow)

-- the opcode of the first row whose displacement holds an offset, of those with a displacement of 12 and of 20 bits
abbrev pub near_row : (short long : Option ℕ) → ℤ → Option ℕ
near_row short long off = cond (is_some short && fits_12 off) short (cond (is_some long && fits_20 off) long None)

-- the access by a row at an offset and a base
abbrev pub at_offset : (base : Reg) → ℤ → (opcode : ℕ) → NearOffset
at_offset base off opcode = record { opcode = opcode; at = record { base = base; off = off } }

-- the access at an offset that a displacement holds; none at any other operand
abbrev pub near_offset : (short long : Option ℕ) → MemArg → Option NearOffset
near_offset short long (RegOffset base off flags) = option_map (at_offset base off) (near_row short long off)
near_offset short long m = None

-- an operand relative to the instruction that the rows take
abbrev pub is_taken : MemInstType → MemArg → Bool
is_taken mi m = is_relative m && not (needs_address mi m)

-- the helper of an operand: it loads an offset, or else an address
abbrev pub helper_of : MemArg → Inst
helper_of (RegOffset reg off flags) = I.Mov64SImm32 scratch off
helper_of m = I.LoadAddr scratch m

-- the rows have a displacement
abbrev pub has_displacement : MemInstType → Bool
has_displacement mi = mi.have_d12 || mi.have_d20

-- a base and an index at the displacement zero of the rows
abbrev pub at_zero : MemInstType → (base index : Reg) → AccessFlags → MemArg
at_zero mi base index flags = with_long_displacement mi (BXD12 base index 0 flags)

-- the opcode of the row that has a displacement of zero, of those with a displacement of 12 and of 20 bits
abbrev pub zero_row : (short long : Option ℕ) → Option ℕ
zero_row short long = cond (is_some short) short long

-- the access behind the load of an offset that no displacement holds, by the row that has a displacement of zero; none at any other operand
abbrev pub far_offset : (short long : Option ℕ) → MemArg → Option NearOffset
far_offset short long (RegOffset base off flags) = cond (is_far off && not (is_numbered 1 base)) (option_map (at_offset base off) (zero_row short long)) None
far_offset short long m = None

-- a base and an index at the displacement zero: `0(X,B)`
abbrev pub zero_text : (base index : Reg) → List ℕ
zero_text base index = decimal 0 ++ sum_text base index

-- the operand behind the load of its address, where the rows have a displacement and no form for it
abbrev pub behind_address : MemInstType → MemArg → Option AtZero
behind_address mi m = cond (has_displacement mi && needs_address mi m) (Some (record { base = scratch; index = no_register })) None

-- the base and the index in place of an offset that no displacement holds, behind its load as an index, or of an operand that the rows don't take
-- relative to the instruction, behind the load of its address; none in place of any other operand
abbrev pub helped_at : MemInstType → MemArg → Option AtZero
helped_at mi (RegOffset reg off flags) = cond (has_displacement mi && mi.have_index && not (is_numbered 1 reg) && is_far off) (Some (record { base = reg; index = scratch })) None
helped_at mi (Label target) = behind_address mi (Label target)
helped_at mi (Constant c) = behind_address mi (Constant c)
helped_at mi (Symbol name offset flags) = behind_address mi (Symbol name offset flags)
helped_at mi m = None

-- the operand that stands there
abbrev pub operand_at : MemInstType → MemArg → AtZero → MemArg
operand_at mi m at = at_zero mi at.base at.index (flags_of m)

-- the operand of the access behind its one helper
abbrev pub helped_operand : MemInstType → MemArg → Option MemArg
helped_operand mi m = option_map (operand_at mi m) (helped_at mi m)

-- what a call answers that appends the helpers of an operand, and gives the operand of the access
abbrev pub Opens : Result MemArg TextError → (old new : List ℕ) → (has_relative : Bool) → Rows → MemArg → Type 0
Opens result old new has r m =
    MatchResult result
    (λ operand. (access_cause has r m ≡ None) × (operand ≡ (finalized_operand (type_of_rows has r) m).operand) × (new ≡ old ++ helpers_text (finalized_operand (type_of_rows has r) m).helpers))
    (λ e. RefusedBy (access_cause has r m) e)

-- helpers, and the access with its operands before and behind that in memory
abbrev pub finalized_text : Rows → Finalized → (before after : List (List ℕ)) → List ℕ
finalized_text r f before after = helpers_text f.helpers ++ instruction_text (name_at r f.operand) (before ++ (memory_text f.operand ∷ after))

-- the text of an instruction with an operand in memory, in a state of emission
abbrev pub access_where : (has_relative : Bool) → Rows → Emission → (before : List (List ℕ)) → MemArg → (after : List (List ℕ)) → Text
access_where has r e before m after = record { cause = access_cause has r (resolved_operand e m); bytes = finalized_text r (finalized_operand (type_of_rows has r) (resolved_operand e m)) before after }

-- the text of an instruction with an operand in memory that has no row relative to the instruction, or of LOAD ADDRESS, which each machine has
abbrev pub access : Rows → Emission → (before : List (List ℕ)) → MemArg → (after : List (List ℕ)) → Text
access r e before m after = access_where true r e before m after

-- ---- instructions

-- the mnemonics of a load
abbrev pub load_mnemonics : LoadOp → Rows
load_mnemonics op = rx_of (load_rows op)

-- the operand of a load
abbrev pub load_operand : Inst → Option MemArg
load_operand i = by_load (λ l. Some l.mem) None (as_load i)

-- loads, on a machine that has rows relative to the instruction or lacks them
abbrev pub load_text : (has_relative : Bool) → Emission → Inst → Option Text
load_text has e i = by_load (λ l. Some (access_where has (load_mnemonics l.op) e (reg_text l.rd ∷ []) l.mem [])) None (as_load i)

-- stores of an immediate, which show the operand first
abbrev pub immediate_store_text : (has_relative : Bool) → Emission → Inst → Option Text
immediate_store_text has e (I.StoreImm8 imm mem) = Some (access_where has (rs (Some (stem_of opcodes.MVI)) (Some (stem_of opcodes.MVIY))) e [] mem (decimal imm ∷ []))
immediate_store_text has e (I.StoreImm16 imm mem) = Some (access_where has (rs (Some (stem_of opcodes.MVHHI)) None) e [] mem (signed_decimal imm ∷ []))
immediate_store_text has e (I.StoreImm32SExt16 imm mem) = Some (access_where has (rs (Some (stem_of opcodes.MVHI)) None) e [] mem (signed_decimal imm ∷ []))
immediate_store_text has e (I.StoreImm64SExt16 imm mem) = Some (access_where has (rs (Some (stem_of opcodes.MVGHI)) None) e [] mem (signed_decimal imm ∷ []))
immediate_store_text has e _ = None

-- the mnemonics of a store
abbrev pub store_mnemonics : StoreOp → Rows
store_mnemonics op = rx_of (store_rows op)

-- the operand of a store of a register
abbrev pub store_operand : Inst → Option MemArg
store_operand i = by_store (λ s. Some s.mem) None (as_store i)

-- stores
abbrev pub store_text : (has_relative : Bool) → Emission → Inst → Option Text
store_text has e i = by_store (λ s. Some (access_where has (store_mnemonics s.op) e (reg_text s.rd ∷ []) s.mem [])) (immediate_store_text has e i) (as_store i)

-- operators with an operand in memory, multiples, addresses, and accesses that are locked
abbrev pub storage_operator_text : (has_relative : Bool) → Emission → Inst → Option Text
storage_operator_text has e (I.AluRX op rd ri mem) = Some (access_where has (rx (alu_short_name op) (alu_long_name op) None) e (reused_text rd ri ∷ []) mem [])
storage_operator_text has e (I.CmpRX op rn mem) = Some (access_where has (rx (cmp_short_name op) (cmp_long_name op) (Some (cmp_relative_name op))) e (reg_text rn ∷ []) mem [])
storage_operator_text has e (I.LoadMultiple64 rt rt2 mem) = Some (access_where has (rs None (Some (stem_of opcodes.LMG))) e (reg_text rt ∷ reg_text rt2 ∷ []) mem [])
storage_operator_text has e (I.StoreMultiple64 rt rt2 mem) = Some (access_where has (rs None (Some (stem_of opcodes.STMG))) e (reg_text rt ∷ reg_text rt2 ∷ []) mem [])
storage_operator_text has e (I.LoadAddr rd mem) = Some (access_where has address_rows e (reg_text rd ∷ []) mem [])
storage_operator_text has e (I.AtomicRmw op rd rn mem) = Some (access_where has (rs None (atomic_name op)) e (reg_text rd ∷ reg_text rn ∷ []) mem [])
storage_operator_text has e (I.AtomicCas32 rd ri rn mem) = Some (access_where has (rs (Some (stem_of opcodes.CS)) (Some (stem_of opcodes.CSY))) e (reused_text rd ri ∷ reg_text rn ∷ []) mem [])
storage_operator_text has e (I.AtomicCas64 rd ri rn mem) = Some (access_where has (rs None (Some (stem_of opcodes.CSG))) e (reused_text rd ri ∷ reg_text rn ∷ []) mem [])
storage_operator_text has e _ = None

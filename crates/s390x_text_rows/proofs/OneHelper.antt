-- A far offset of rows with an index, and an operand that they don't take relative to the instruction, stand behind one helper.
use Rattle.std.proofs.Common.{◌≡◌, ℕ, ℤ, unsigned_abs, List, [], ◌∷◌, ◌++◌, Bool, true, false, cond, not, ◌&&◌, ◌||◌, is_some, Option, None, Some, Result, Ok, refl, sym, ap, subst, ◌∙◌, append-nil}
use Rattle.std.proofs.lemmas.Bool.{and_parts}
use Rattle.std.specs.Option.{option_map}
use Rattle.std.specs.Prelude.{codes}
use Rattle.s390x_base.specs.declared.error.EmitError.TheVariants.{BadOperator, ScratchConflict, OffsetOutOfRange}
use Rattle.s390x_base.specs.AccessFlags.{AccessFlags}
use Rattle.s390x_base.specs.declared.regs.Reg.{Reg}
use Rattle.s390x_inst.specs.Emission.{Emission}
use Rattle.s390x_inst.specs.Memory.{flags_of}
use Rattle.s390x_inst.specs.declared.args.MemArg.{MemArg}
use Rattle.s390x_inst.specs.declared.args.MemArg.TheVariants.{BXD12, BXD20, Label, Constant, Symbol, RegOffset}
use Rattle.s390x_inst.specs.declared.inst.Inst.TheVariants.{Mov64SImm32, LoadAddr}
use Rattle.s390x_typed_steps.specs.Causes.{first_emit_cause, unless, operand_cause}
use Rattle.s390x_typed_steps.specs.Operands.{Finalized, scratch, no_register, needs_address, is_numbered, is_far, fits_12, fits_20, fits_32, with_address_loaded, with_widened, finalized_operand, resolved_operand}
use Rattle.s390x_typed_steps.specs.declared.mem_inst_type.MemInstType.{MemInstType}
use Rattle.s390x_format.specs.Stems.{stem_of}
use Rattle.s390x_text_rows.specs.Storage.{Rows, type_of_rows, rows_of, name_at, memory_text, helper_text, helpers_text, address_cause, access_cause, finalized_text, access_where, helper_of, has_displacement, at_zero, zero_row, zero_text, far_offset, at_offset, rx_of, helped_at, operand_at, helped_operand, Opens}
use Rattle.s390x_text_rows.specs.Texts.{Text, Prints, fixed_text, instruction_text}
use Rattle.s390x_text_rows.specs.declared.error.TextError.{TextError}
use Rattle.s390x_text_rows.specs.declared.error.TextError.TheVariants.{NoRow}
use Rattle.s390x_typed_steps.specs.declared.access_rows.RegisterRows.{RegisterRows}
use Rattle.s390x_text_rows.specs.declared.near_offset.NearOffset.{NearOffset}
use Rattle.s390x_text_rows.specs.declared.one_helper.AtZero.{AtZero}
use Rattle.s390x_text_rows.specs.declared.storage.Rows.{Rows as DeclaredRows}
use Rattle.s390x_text_rows.proofs.Near.{mapped}

-- rows with these forms have a displacement, and take an operand behind these helpers in this form
abbrev Behind : MemInstType → MemArg → Finalized → Type 0
Behind mi m f = (has_displacement mi ≡ true) × (operand_cause mi m ≡ None) × (finalized_operand mi m ≡ f)

-- behind its one helper
abbrev IsHelped : MemInstType → Emission → (m operand : MemArg) → Type 0
IsHelped mi e m operand = Behind mi (resolved_operand e m) (record { helpers = helper_of m ∷ []; operand = operand })

-- ---- offsets

far_tests : (a b c : Bool) → (a && not b && not c) ≡ true → (a ≡ true) × (b ≡ false) × (c ≡ false)
far_tests true true c h = absurd (cc)
far_tests true false true h = absurd (cc)
far_tests true false false h = (refl, refl, refl)
far_tests false b c h = absurd (cc)

far_loaded : (mi : MemInstType) (base : Reg) (off : ℤ) (flags : AccessFlags) → has_displacement mi ≡ true → mi.have_index ≡ true → is_numbered 1 base ≡ false → is_far off ≡ true →
    Behind mi (RegOffset base off flags) (record { helpers = Mov64SImm32 scratch off ∷ []; operand = at_zero mi base scratch flags })
far_loaded mi base off flags has index other far =
    let short : Finalized = record { helpers = []; operand = BXD12 base no_register (unsigned_abs off) flags } in
    let long : Finalized = record { helpers = []; operand = BXD20 base no_register off flags } in
    let helped : Finalized = record { helpers = Mov64SImm32 scratch off ∷ []; operand = BXD12 base scratch 0 flags } in
    let stays : Finalized = record { helpers = []; operand = RegOffset base off flags } in
    let loaded : Finalized = record { helpers = Mov64SImm32 scratch off ∷ LoadAddr scratch (BXD12 base scratch 0 flags) ∷ []; operand = BXD12 scratch no_register 0 flags } in
    let tests = far_tests (fits_32 off) (fits_12 off) (fits_20 off) far in (
      has,
      ap (λ t. first_emit_cause (unless (t || false) BadOperator) (first_emit_cause (unless (not (is_numbered 1 base && is_far off)) ScratchConflict) (unless (fits_32 off) OffsetOutOfRange))) has
          ∙ ap (λ t. first_emit_cause (unless (not (t && is_far off)) ScratchConflict) (unless (fits_32 off) OffsetOutOfRange)) other
          ∙ ap (λ t. unless t OffsetOutOfRange) tests.0,
      ap (λ t. with_widened mi (with_address_loaded mi (cond t short (cond (fits_20 off) long (cond (fits_32 off) helped stays))))) tests.1
          ∙ ap (λ t. with_widened mi (with_address_loaded mi (cond t long (cond (fits_32 off) helped stays)))) tests.2
          ∙ ap (λ t. with_widened mi (with_address_loaded mi (cond t helped stays))) tests.0
          ∙ ap (λ t. with_widened mi (cond (not t && true) loaded helped)) index,
    )

offset_tests : (d i n f : Bool) → (d && i && not n && f) ≡ true → (d ≡ true) × (i ≡ true) × (n ≡ false) × (f ≡ true)
offset_tests true true false true h = (refl, refl, refl, refl)
offset_tests true true false false h = absurd (cc)
offset_tests true true true f h = absurd (cc)
offset_tests true false n f h = absurd (cc)
offset_tests false i n f h = absurd (cc)

-- ---- what stands relative to the instruction

abbrev alone : MemArg → Finalized
alone m = record { helpers = []; operand = m }

abbrev loaded_from : MemArg → Finalized
loaded_from m = record { helpers = LoadAddr scratch m ∷ []; operand = BXD12 scratch no_register 0 (flags_of m) }

with_form : (mi : MemInstType) (m : MemArg) (needs : Bool) → (has_displacement mi && needs) ≡ true
    → operand_cause mi m ≡ first_emit_cause (unless (mi.have_d12 || mi.have_d20 || not needs) BadOperator) None
    → finalized_operand mi m ≡ with_widened mi (cond needs (loaded_from m) (alone m)) → Behind mi m (with_widened mi (loaded_from m))
with_form mi m needs h cause shape =
    let p = and_parts (has_displacement mi) needs h in (
      p.0,
      cause ∙ ap (λ t. first_emit_cause (unless (mi.have_d12 || mi.have_d20 || not t) BadOperator) None) p.1
          ∙ ap (λ t. first_emit_cause (unless (t || false) BadOperator) None) p.0,
      shape ∙ ap (λ t. with_widened mi (cond t (loaded_from m) (alone m))) p.1,
    )

-- ---- any operand, in any state

held : (P : AtZero → Type 0) (t : Bool) (x at : AtZero) → cond t (Some x) None ≡ Some at → (t ≡ true → P x) → P at
held P true x at h f = let e : x ≡ at = (cc) in subst P e (f refl)
held P false x at h f = absurd (cc)

abbrev offset_at : Reg → AtZero
offset_at base = record { base = base; index = scratch }

abbrev address_at : AtZero
address_at = record { base = scratch; index = no_register }

helped_in : (mi : MemInstType) (e : Emission) (m : MemArg) (at : AtZero) → helped_at mi m ≡ Some at → IsHelped mi e m (operand_at mi m at)
helped_in mi e (RegOffset reg off flags) at h =
    held (λ x. IsHelped mi e (RegOffset reg off flags) (operand_at mi (RegOffset reg off flags) x)) (has_displacement mi && mi.have_index && not (is_numbered 1 reg) && is_far off) (offset_at reg) at h
    (λ t. let p = offset_tests (has_displacement mi) mi.have_index (is_numbered 1 reg) (is_far off) t in far_loaded mi reg off flags p.0 p.1 p.2 p.3)
helped_in mi e (Label target) at h =
    held (λ x. IsHelped mi e (Label target) (operand_at mi (Label target) x)) (has_displacement mi && not mi.have_pcrel) address_at at h
    (λ t. with_form mi (Label target) (not mi.have_pcrel) t refl refl)
helped_in mi e (Constant c) at h =
    held (λ x. IsHelped mi e (Constant c) (operand_at mi (Constant c) x)) (has_displacement mi && not mi.have_pcrel) address_at at h
    (λ t. with_form mi (Constant c) (not mi.have_pcrel) t refl refl)
helped_in mi e (Symbol name offset flags) at h =
    held (λ x. IsHelped mi e (Symbol name offset flags) (operand_at mi (Symbol name offset flags) x)) (has_displacement mi && needs_address mi (Symbol name offset flags)) address_at at h
    (λ t. with_form mi (Symbol name offset flags) (needs_address mi (Symbol name offset flags)) t refl refl)
helped_in mi e m at h = absurd (cc)

with_displacements : (a b c : Bool) → (a || b) ≡ true → (a || b || c) ≡ true
with_displacements true b c h = refl
with_displacements false true c h = refl
with_displacements false false c h = absurd (cc)

-- the helper is appended, and the access is that of the operand
pub helped_opens : (has : Bool) (r : Rows) (e : Emission) (m operand : MemArg) (mi : MemInstType) (old new : List ℕ) → mi ≡ type_of_rows has r → Some operand ≡ helped_operand mi m
    → new ≡ old ++ (helper_text (helper_of m) ++ codes " ; ") → Opens (Ok operand) old new has r (resolved_operand e m)
helped_opens has r e m operand mi old new forms found appended =
    let p : IsHelped (type_of_rows has r) e m operand = subst (λ t. IsHelped t e m operand) forms (mapped (λ o. IsHelped mi e m o) (operand_at mi m) (helped_at mi m) operand found (helped_in mi e m)) in (
      ap (λ t. cond t (address_cause (operand_cause (type_of_rows has r) (resolved_operand e m))) (Some NoRow)) (with_displacements (is_some r.short) (is_some r.long) (is_some r.relative) p.0) ∙ ap address_cause p.1,
      sym (ap (λ (f : Finalized). f.operand) p.2),
      appended ∙ ap (λ t. old ++ t) (sym (append-nil (helper_text (helper_of m) ++ codes " ; "))) ∙ sym (ap (λ (f : Finalized). old ++ helpers_text f.helpers) p.2),
    )

-- ---- the texts

abbrev helped_line : List ℕ → List ℕ → List (List ℕ) → List ℕ → Text
helped_line helper name before place = fixed_text ((helper ++ codes " ; ") ++ instruction_text name (before ++ (place ∷ [])))

-- the row at the displacement zero
zero_line : (short long : Option ℕ) (relative : Option (List ℕ)) (index accesses has : Bool) (o : ℕ) (base at_index : Reg) (flags : AccessFlags) (m : MemArg) (before : List (List ℕ)) → zero_row short long ≡ Some o →
    let r : Rows = record { short = option_map stem_of short; long = option_map stem_of long; relative = relative; index = index; accesses = accesses } in
    let z = at_zero (type_of_rows has r) base at_index flags in
    helped_line (helper_text (helper_of m)) (name_at r z) before (memory_text z) ≡ helped_line (helper_text (helper_of m)) (stem_of o) before (zero_text base at_index)
zero_line (Some a) long relative index accesses has o base at_index flags m before h =
    let e : a ≡ o = (cc) in ap (λ x. helped_line (helper_text (helper_of m)) (stem_of x) before (zero_text base at_index)) e
zero_line None (Some a) relative index accesses has o base at_index flags m before h =
    let e : a ≡ o = (cc) in ap (λ x. helped_line (helper_text (helper_of m)) (stem_of x) before (zero_text base at_index)) e
zero_line None None relative index accesses has o base at_index flags m before h = absurd (cc)

abbrev text_of : Option TextError → List ℕ → Text
text_of c s = record { cause = c; bytes = s }

helped_access : (has : Bool) (rows : DeclaredRows) (e : Emission) (m : MemArg) (o : ℕ) (at : AtZero) (before : List (List ℕ)) → zero_row rows.short rows.long ≡ Some o → helped_at (type_of_rows has (rows_of rows)) m ≡ Some at
    → access_where has (rows_of rows) e before m [] ≡ helped_line (helper_text (helper_of m)) (stem_of o) before (zero_text at.base at.index)
helped_access has rows e m o at before row found =
    let r = rows_of rows in
    let mi = type_of_rows has r in
    let z = operand_at mi m at in
    let p : IsHelped mi e m z = helped_in mi e m at found in
    let cause : access_cause has r (resolved_operand e m) ≡ None =
    ap (λ t. cond t (address_cause (operand_cause mi (resolved_operand e m))) (Some NoRow)) (with_displacements (is_some r.short) (is_some r.long) (is_some r.relative) p.0) ∙ ap address_cause p.1 in
    ap (λ c. text_of c (finalized_text r (finalized_operand mi (resolved_operand e m)) before [])) cause
    ∙ ap (λ (f : Finalized). fixed_text (finalized_text r f before [])) p.2
    ∙ ap (λ t. fixed_text (t ++ instruction_text (name_at r z) (before ++ (memory_text z ∷ [])))) (append-nil (helper_text (helper_of m) ++ codes " ; "))
    ∙ zero_line rows.short rows.long r.relative r.index r.accesses has o at.base at.index (flags_of m) m before row

-- what prints the helper and the row prints the access
pub helped_prints : {T : Type 0} (result : Result T TextError) (old new : List ℕ) (has : Bool) (rows : DeclaredRows) (e : Emission) (m : MemArg) (o : ℕ) (at : AtZero) (before : List (List ℕ))
    → zero_row rows.short rows.long ≡ Some o → helped_at (type_of_rows has (rows_of rows)) m ≡ Some at
    → Prints result old new (fixed_text ((helper_text (helper_of m) ++ codes " ; ") ++ instruction_text (stem_of o) (before ++ (zero_text at.base at.index ∷ []))))
    → Prints result old new (access_where has (rows_of rows) e before m [])
helped_prints result old new has rows e m o at before row found p = subst (λ t. Prints result old new t) (sym (helped_access has rows e m o at before row found)) p

-- ---- rows of a register

abbrev declared_rows : RegisterRows → DeclaredRows
declared_rows r = record { short = r.rx; long = r.rxy; relative = r.ril; index = true; accesses = true }

displaced : (short long : Option ℕ) (o : ℕ) → zero_row short long ≡ Some o → (is_some (option_map stem_of short) || is_some (option_map stem_of long)) ≡ true
displaced (Some a) long o h = refl
displaced None (Some b) o h = refl
displaced None None o h = absurd (cc)

chosen : (P : NearOffset → Type 0) (t : Bool) (o : Option NearOffset) (n : NearOffset) → Some n ≡ cond t o None → (t ≡ true → Some n ≡ o → P n) → P n
chosen P true o n h k = k refl h
chosen P false o n h k = absurd (cc)

-- what prints the load of an offset and the row prints the access
pub far_prints : {T : Type 0} (result : Result T TextError) (old new : List ℕ) (has : Bool) (rows : RegisterRows) (e : Emission) (m : MemArg) (n : NearOffset) (before : List (List ℕ)) → Some n ≡ far_offset rows.rx rows.rxy m
    → Prints result old new (fixed_text ((helper_text (Mov64SImm32 scratch n.at.off) ++ codes " ; ") ++ instruction_text (stem_of n.opcode) (before ++ (zero_text n.at.base scratch ∷ []))))
    → Prints result old new (access_where has (rx_of rows) e before m [])
far_prints result old new has rows e (RegOffset base off flags) n before found p =
    let P : NearOffset → Type 0 =
    λ x. Prints result old new (fixed_text ((helper_text (Mov64SImm32 scratch x.at.off) ++ codes " ; ") ++ instruction_text (stem_of x.opcode) (before ++ (zero_text x.at.base scratch ∷ [])))) → Prints result old new (access_where has (rx_of rows) e before (RegOffset base off flags) []) in
    chosen P (is_far off && not (is_numbered 1 base)) (option_map (at_offset base off) (zero_row rows.rx rows.rxy)) n found
    (λ t there. let parts = and_parts (is_far off) (not (is_numbered 1 base)) t in
    mapped P (at_offset base off) (zero_row rows.rx rows.rxy) n there
    (λ o row q. helped_prints result old new has (declared_rows rows) e (RegOffset base off flags) o (offset_at base) before row
    (ap (λ d. cond (d && true && not (is_numbered 1 base) && is_far off) (Some (offset_at base)) None) (displaced rows.rx rows.rxy o row)
    ∙ ap (λ n. cond (true && true && n && is_far off) (Some (offset_at base)) None) parts.1
    ∙ ap (λ f. cond (true && true && true && f) (Some (offset_at base)) None) parts.0) q)) p
far_prints result old new has rows e m n before found p = absurd (cc)

-- what prints the load of an address and the row prints the access
pub addressed_prints : {T : Type 0} (result : Result T TextError) (old new : List ℕ) (has : Bool) (rows : RegisterRows) (e : Emission) (m : MemArg) (o : ℕ) (before : List (List ℕ)) → zero_row rows.rx rows.rxy ≡ Some o → helped_at (type_of_rows has (rx_of rows)) m ≡ Some address_at
    → Prints result old new (fixed_text ((helper_text (helper_of m) ++ codes " ; ") ++ instruction_text (stem_of o) (before ++ (zero_text scratch no_register ∷ []))))
    → Prints result old new (access_where has (rx_of rows) e before m [])
addressed_prints result old new has rows e m o before row found p = helped_prints result old new has (declared_rows rows) e m o address_at before row found p

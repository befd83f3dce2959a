-- An offset that a displacement of the rows holds needs no helper, nor does an operand that they take relative to the instruction.
use Rattle.std.proofs.Common.{◌≡◌, ℕ, ℤ, pos, negsuc, unsigned_abs, List, [], ◌∷◌, ◌++◌, Bool, true, false, cond, not, ◌&&◌, ◌||◌, is_some, Option, None, Some, Result, refl, sym, ap, subst, ◌∙◌}
use Rattle.std.proofs.lemmas.Bool.{and_parts}
use Rattle.std.specs.Fmt.{decimal, signed_decimal}
use Rattle.std.specs.Option.{option_map}
use Rattle.s390x_base.specs.declared.error.EmitError.TheVariants.{BadOperator, ScratchConflict, OffsetOutOfRange}
use Rattle.s390x_base.specs.AccessFlags.{AccessFlags}
use Rattle.s390x_base.specs.declared.regs.Reg.{Reg}
use Rattle.s390x_inst.specs.Emission.{Emission}
use Rattle.s390x_inst.specs.Memory.{flags_of}
use Rattle.s390x_inst.specs.declared.args.MemArg.{MemArg}
use Rattle.s390x_inst.specs.declared.args.MemArg.TheVariants.{BXD12, BXD20, Label, Constant, Symbol, RegOffset}
use Rattle.s390x_inst.specs.declared.inst.Inst.TheVariants.{Mov64SImm32, LoadAddr}
use Rattle.s390x_typed_steps.specs.Causes.{first_emit_cause, unless, operand_cause}
use Rattle.s390x_typed_steps.specs.Operands.{Finalized, scratch, no_register, needs_address, is_numbered, is_far, fits_12, fits_20, fits_32, with_address_loaded, with_widened, finalized_operand, resolved_operand}
use Rattle.s390x_typed_steps.specs.declared.access_rows.RegisterRows.{RegisterRows}
use Rattle.s390x_typed_steps.specs.declared.mem_inst_type.MemInstType.{MemInstType}
use Rattle.s390x_format.specs.Stems.{stem_of}
use Rattle.s390x_address.proofs.Refusing.{wider_12, wider_20}
use Rattle.s390x_text_rows.specs.Operands.{bracketed_register}
use Rattle.s390x_text_rows.specs.Storage.{Rows, type_of_rows, or_nothing, name_at, memory_text, offset_text, rx_of, address_cause, access_cause, finalized_text, access_where, at_offset, near_row, near_offset, is_taken}
use Rattle.s390x_text_rows.specs.Texts.{Text, Prints, fixed_text, instruction_text}
use Rattle.s390x_text_rows.specs.declared.error.TextError.{TextError}
use Rattle.s390x_text_rows.specs.declared.error.TextError.TheVariants.{NoRow}
use Rattle.s390x_text_rows.specs.declared.near_offset.NearOffset.{NearOffset}

and_false : (b : Bool) → (b && false) ≡ false
and_false true = refl
and_false false = refl

or_true : (b : Bool) → (b || true) ≡ true
or_true true = refl
or_true false = refl

left_false : (a b : Bool) → (a && b) ≡ false → b ≡ true → a ≡ false
left_false true b h e = sym e ∙ h
left_false false b h e = refl

-- there are rows with these forms, they take an operand behind no helper, and this one stands in the access
abbrev IsNear : MemInstType → MemArg → MemArg → Type 0
IsNear mi m operand = ((mi.have_d12 || mi.have_d20 || mi.have_pcrel) ≡ true) × (operand_cause mi m ≡ None) × (finalized_operand mi m ≡ record { helpers = []; operand = operand })

-- an offset that no helper loads and an immediate holds has no cause, where there is a displacement
allowed : (mi : MemInstType) (base : Reg) (off : ℤ) (flags : AccessFlags) → (mi.have_d12 || mi.have_d20) ≡ true → is_far off ≡ false → fits_32 off ≡ true → operand_cause mi (RegOffset base off flags) ≡ None
allowed mi base off flags has near fits =
    let numbered = is_numbered 1 base in
    ap (λ t. first_emit_cause (unless (t || false) BadOperator) (first_emit_cause (unless (not (numbered && is_far off)) ScratchConflict) (unless (fits_32 off) OffsetOutOfRange))) has
    ∙ ap (λ t. first_emit_cause (unless (not t) ScratchConflict) (unless (fits_32 off) OffsetOutOfRange)) (ap (λ t. numbered && t) near ∙ and_false numbered)
    ∙ ap (λ t. unless t OffsetOutOfRange) fits

-- ---- what stands behind no helper stays

abbrev short : Reg → ℕ → AccessFlags → Finalized
short base disp flags = record { helpers = []; operand = BXD12 base no_register disp flags }

abbrev long : Reg → ℤ → AccessFlags → Finalized
long base disp flags = record { helpers = []; operand = BXD20 base no_register disp flags }

-- an offset by an index, or one past 32 bits
abbrev other_offset : Reg → ℤ → AccessFlags → Finalized
other_offset base off flags = cond (fits_32 off) (record { helpers = Mov64SImm32 scratch off ∷ []; operand = BXD12 base scratch 0 flags }) (record { helpers = []; operand = RegOffset base off flags })

-- an operand behind the load of its address
abbrev behind : Finalized → Finalized
behind f = record { helpers = f.helpers ++ LoadAddr scratch f.operand ∷ []; operand = BXD12 scratch no_register 0 (flags_of f.operand) }

-- without an index there is nothing to load
unindexed : (mi : MemInstType) (f : Finalized) → with_widened mi (cond (not mi.have_index && false) (behind f) f) ≡ with_widened mi f
unindexed mi f = ap (λ t. with_widened mi (cond t (behind f) f)) (and_false (not mi.have_index))

-- a short displacement as it is, or as a long one
abbrev one_of : (d12 d20 : Bool) → Reg → ℕ → AccessFlags → Finalized
one_of d12 d20 base disp flags = record { helpers = []; operand = cond (not d12 && d20) (BXD20 base no_register (pos disp) flags) (BXD12 base no_register disp flags) }

short_stays : (mi : MemInstType) (base : Reg) (disp : ℕ) (flags : AccessFlags) → mi.have_d12 ≡ true → with_widened mi (with_address_loaded mi (short base disp flags)) ≡ short base disp flags
short_stays mi base disp flags has = unindexed mi (short base disp flags) ∙ ap (λ t. one_of t mi.have_d20 base disp flags) has

short_widened : (mi : MemInstType) (base : Reg) (disp : ℕ) (flags : AccessFlags) → mi.have_d12 ≡ false → mi.have_d20 ≡ true → with_widened mi (with_address_loaded mi (short base disp flags)) ≡ long base (pos disp) flags
short_widened mi base disp flags none has = unindexed mi (short base disp flags) ∙ ap (λ t. one_of t mi.have_d20 base disp flags) none ∙ ap (λ t. one_of false t base disp flags) has

long_stays : (mi : MemInstType) (base : Reg) (disp : ℤ) (flags : AccessFlags) → mi.have_d20 ≡ true → with_widened mi (with_address_loaded mi (long base disp flags)) ≡ long base disp flags
long_stays mi base disp flags has =
    ap (λ t. with_widened mi (cond (not t || (not mi.have_index && false)) (behind (long base disp flags)) (long base disp flags))) has
    ∙ unindexed mi (long base disp flags)

-- ---- the offsets

not_negative : (off : ℤ) → fits_12 off ≡ true → pos (unsigned_abs off) ≡ off
not_negative (pos n) h = refl
not_negative (negsuc n) h = absurd (cc)

near_short : (mi : MemInstType) (base : Reg) (off : ℤ) (flags : AccessFlags) → (mi.have_d12 && fits_12 off) ≡ true → IsNear mi (RegOffset base off flags) (BXD12 base no_register (unsigned_abs off) flags)
near_short mi base off flags h =
    let p = and_parts mi.have_d12 (fits_12 off) h in
    let has : (mi.have_d12 || mi.have_d20) ≡ true = ap (λ t. t || mi.have_d20) p.0 in
    let near : is_far off ≡ false = ap (λ t. fits_32 off && not t && not (fits_20 off)) p.1 ∙ ap (λ t. t && not (fits_20 off)) (and_false (fits_32 off)) in (
      ap (λ t. t || mi.have_pcrel) has,
      allowed mi base off flags has near (wider_12 off p.1),
      ap (λ t. with_widened mi (with_address_loaded mi (cond t (short base (unsigned_abs off) flags) (cond (fits_20 off) (long base off flags) (other_offset base off flags))))) p.1
          ∙ short_stays mi base (unsigned_abs off) flags p.0,
    )

long_chosen : (mi : MemInstType) (base : Reg) (off : ℤ) (flags : AccessFlags) (others : Finalized) (t : Bool) → mi.have_d20 ≡ true → (t ≡ true → mi.have_d12 ≡ false) → (t ≡ true → pos (unsigned_abs off) ≡ off) →
    with_widened mi (with_address_loaded mi (cond t (short base (unsigned_abs off) flags) (cond true (long base off flags) others))) ≡ long base off flags
long_chosen mi base off flags others true has none same = short_widened mi base (unsigned_abs off) flags (none refl) has ∙ ap (λ z. long base z flags) (same refl)
long_chosen mi base off flags others false has none same = long_stays mi base off flags has

near_long : (mi : MemInstType) (base : Reg) (off : ℤ) (flags : AccessFlags) → (mi.have_d12 && fits_12 off) ≡ false → (mi.have_d20 && fits_20 off) ≡ true → IsNear mi (RegOffset base off flags) (BXD20 base no_register off flags)
near_long mi base off flags unlike h =
    let p = and_parts mi.have_d20 (fits_20 off) h in
    let has : (mi.have_d12 || mi.have_d20) ≡ true = ap (λ t. mi.have_d12 || t) p.0 ∙ or_true mi.have_d12 in
    let near : is_far off ≡ false = ap (λ t. fits_32 off && not (fits_12 off) && not t) p.1 ∙ and_false (fits_32 off && not (fits_12 off)) in (
      ap (λ t. t || mi.have_pcrel) has,
      allowed mi base off flags has near (wider_20 off p.1),
      ap (λ t. with_widened mi (with_address_loaded mi (cond (fits_12 off) (short base (unsigned_abs off) flags) (cond t (long base off flags) (other_offset base off flags))))) p.1
          ∙ long_chosen mi base off flags (other_offset base off flags) (fits_12 off) p.0 (left_false mi.have_d12 (fits_12 off) unlike) (not_negative off),
    )

-- ---- what stands relative to the instruction

abbrev alone : MemArg → Finalized
alone m = record { helpers = []; operand = m }

stays_near : (mi : MemInstType) (m : MemArg) (needs : Bool) → needs ≡ false → mi.have_pcrel ≡ true
    → operand_cause mi m ≡ first_emit_cause (unless (mi.have_d12 || mi.have_d20 || not needs) BadOperator) None
    → finalized_operand mi m ≡ with_widened mi (cond needs (behind (alone m)) (alone m)) → with_widened mi (alone m) ≡ alone m → IsNear mi m m
stays_near mi m needs none has cause shape same = (
  ap (λ t. mi.have_d12 || mi.have_d20 || t) has ∙ or_true (mi.have_d12 || mi.have_d20),
  cause ∙ ap (λ t. first_emit_cause (unless (mi.have_d12 || mi.have_d20 || not t) BadOperator) None) none
      ∙ ap (λ t. first_emit_cause (unless t BadOperator) None) (or_true (mi.have_d12 || mi.have_d20)),
  shape ∙ ap (λ t. with_widened mi (cond t (behind (alone m)) (alone m))) none ∙ same,
)

not_false : (b : Bool) → not b ≡ false → b ≡ true
not_false true h = refl
not_false false h = absurd (cc)

neither : (a b : Bool) → (a || b) ≡ false → a ≡ false
neither true b h = absurd (cc)
neither false b h = refl

-- ---- the texts

abbrev text_of : Option TextError → List ℕ → Text
text_of c s = record { cause = c; bytes = s }

there : (a b c : Bool) → (a || (b && c)) ≡ true → (a || b) ≡ true
there false false c h = absurd (cc)
there a b c h = refl

-- behind no helper, the text is the row's with the operand
near_text : (has : Bool) (r : Rows) (e : Emission) (m operand : MemArg) (before after : List (List ℕ)) → IsNear (type_of_rows has r) (resolved_operand e m) operand
    → access_where has r e before m after ≡ fixed_text (instruction_text (name_at r operand) (before ++ (memory_text operand ∷ after)))
near_text has r e m operand before after p =
    let mi = type_of_rows has r in
    let cause : access_cause has r (resolved_operand e m) ≡ None =
    ap (λ t. cond t (address_cause (operand_cause mi (resolved_operand e m))) (Some NoRow)) (there (mi.have_d12 || mi.have_d20) (is_some r.relative) (has || not r.accesses) p.0) ∙ ap address_cause p.1 in
    ap (λ c. text_of c (finalized_text r (finalized_operand mi (resolved_operand e m)) before after)) cause
    ∙ ap (λ (f : Finalized). fixed_text (finalized_text r f before after)) p.2

-- ---- near offsets

pub mapped : {A B : Type 0} (P : B → Type 0) (f : A → B) (o : Option A) (b : B) → Some b ≡ option_map f o → ((a : A) → o ≡ Some a → P (f a)) → P b
mapped P f None b h k = absurd (cc)
mapped P f (Some a) b h k = let e : f a ≡ b = (cc) in subst P e (k a refl)

some_mapped : {A B : Type 0} (f : A → B) (o : Option A) → is_some (option_map f o) ≡ is_some o
some_mapped f None = refl
some_mapped f (Some a) = refl

by_row : (P : Type 0) (s t : Bool) (short long : Option ℕ) (o : ℕ) → cond (is_some short && s) short (cond (is_some long && t) long None) ≡ Some o
    → ((is_some short && s) ≡ true → short ≡ Some o → P) → ((is_some short && s) ≡ false → (is_some long && t) ≡ true → long ≡ Some o → P) → P
by_row P true t (Some a) long o h f g = f refl h
by_row P false true (Some a) (Some b) o h f g = g refl refl h
by_row P false false (Some a) (Some b) o h f g = absurd (cc)
by_row P false t (Some a) None o h f g = absurd (cc)
by_row P s true None (Some b) o h f g = g refl refl h
by_row P s false None (Some b) o h f g = absurd (cc)
by_row P s t None None o h f g = absurd (cc)

shown_12 : (off : ℤ) → fits_12 off ≡ true → decimal (unsigned_abs off) ≡ signed_decimal off
shown_12 off h = ap signed_decimal (not_negative off h)

-- the mnemonic of a row with this opcode
named : (name : ℕ → List ℕ) (row : Option (List ℕ)) (opcode : Option ℕ) (o : ℕ) → row ≡ option_map name opcode → opcode ≡ Some o → row ≡ Some (name o)
named name row opcode o h k = h ∙ ap (λ x. option_map name x) k

abbrev offset_line : List ℕ → (before : List (List ℕ)) → ℤ → Reg → (after : List (List ℕ)) → Text
offset_line name before off base after = fixed_text (instruction_text name (before ++ (offset_text off base ∷ after)))

short_line : (has : Bool) (r : Rows) (e : Emission) (base : Reg) (off : ℤ) (flags : AccessFlags) (name : List ℕ) (before after : List (List ℕ)) → fits_12 off ≡ true → r.short ≡ Some name
    → access_where has r e before (RegOffset base off flags) after ≡ offset_line name before off base after
short_line has r e base off flags name before after fits row =
    let there : (is_some r.short && fits_12 off) ≡ true = ap (λ x. is_some x && fits_12 off) row ∙ fits in
    near_text has r e (RegOffset base off flags) (BXD12 base no_register (unsigned_abs off) flags) before after (near_short (type_of_rows has r) base off flags there)
    ∙ ap (λ d. fixed_text (instruction_text (or_nothing r.short) (before ++ ((d ++ bracketed_register base) ∷ after)))) (shown_12 off fits)
    ∙ ap (λ x. offset_line (or_nothing x) before off base after) row

long_line : (has : Bool) (r : Rows) (e : Emission) (base : Reg) (off : ℤ) (flags : AccessFlags) (name : List ℕ) (before after : List (List ℕ)) → (is_some r.short && fits_12 off) ≡ false → fits_20 off ≡ true → r.long ≡ Some name
    → access_where has r e before (RegOffset base off flags) after ≡ offset_line name before off base after
long_line has r e base off flags name before after unlike fits row =
    let there : (is_some r.long && fits_20 off) ≡ true = ap (λ x. is_some x && fits_20 off) row ∙ fits in
    near_text has r e (RegOffset base off flags) (BXD20 base no_register off flags) before after (near_long (type_of_rows has r) base off flags unlike there)
    ∙ ap (λ x. offset_line (or_nothing x) before off base after) row

near_access : (has : Bool) (r : Rows) (e : Emission) (m : MemArg) (n : NearOffset) (short long : Option ℕ) (name : ℕ → List ℕ) (before after : List (List ℕ)) → r.short ≡ option_map name short → r.long ≡ option_map name long
    → Some n ≡ near_offset short long m → access_where has r e before m after ≡ offset_line (name n.opcode) before n.at.off n.at.base after
near_access has r e (RegOffset base off flags) n short long name before after s l h =
    mapped (λ (x : NearOffset). access_where has r e before (RegOffset base off flags) after ≡ offset_line (name x.opcode) before x.at.off x.at.base after) (at_offset base off) (near_row short long off) n h
    (λ o found. by_row (access_where has r e before (RegOffset base off flags) after ≡ offset_line (name o) before off base after) (fits_12 off) (fits_20 off) short long o found
    (λ p q. short_line has r e base off flags (name o) before after ((and_parts (is_some short) (fits_12 off) p).1) (named name r.short short o s q))
    (λ p q k. long_line has r e base off flags (name o) before after
    (ap (λ x. is_some x && fits_12 off) s ∙ ap (λ b. b && fits_12 off) (some_mapped name short) ∙ p)
    ((and_parts (is_some long) (fits_20 off) q).1) (named name r.long long o l k)))
near_access has r e m n short long name before after s l h = absurd (cc)

-- what prints the row at the offset prints the access
pub near_prints : {T : Type 0} (result : Result T TextError) (old new : List ℕ) (has : Bool) (r : Rows) (e : Emission) (m : MemArg) (n : NearOffset) (short long : Option ℕ) (name : ℕ → List ℕ) (shown : List ℕ) (before after : List (List ℕ))
    → r.short ≡ option_map name short → r.long ≡ option_map name long → Some n ≡ near_offset short long m → shown ≡ name n.opcode
    → Prints result old new (offset_line shown before n.at.off n.at.base after) → Prints result old new (access_where has r e before m after)
near_prints result old new has r e m n short long name shown before after s l h q p =
    subst (λ t. Prints result old new t) (ap (λ x. offset_line x before n.at.off n.at.base after) q ∙ sym (near_access has r e m n short long name before after s l h)) p

-- ---- operands that are taken relative to the instruction

not_true : (b : Bool) → not b ≡ true → b ≡ false
not_true true h = absurd (cc)
not_true false h = refl

taken_in : (mi : MemInstType) (e : Emission) (m : MemArg) → is_taken mi m ≡ true → IsNear mi (resolved_operand e m) m
taken_in mi e (Label target) h = let none = not_true (not mi.have_pcrel) h in stays_near mi (Label target) (not mi.have_pcrel) none (not_false mi.have_pcrel none) refl refl refl
taken_in mi e (Constant c) h = let none = not_true (not mi.have_pcrel) h in stays_near mi (Constant c) (not mi.have_pcrel) none (not_false mi.have_pcrel none) refl refl refl
taken_in mi e (Symbol name offset flags) h =
    let none = not_true (needs_address mi (Symbol name offset flags)) h in
    stays_near mi (Symbol name offset flags) (needs_address mi (Symbol name offset flags)) none (not_false mi.have_pcrel (neither (not mi.have_pcrel) (not flags.aligned && not mi.have_unaligned_pcrel) none)) refl refl refl
taken_in mi e m h = absurd (cc)

-- what prints the row with the operand prints the access
pub taken_prints : {T : Type 0} (result : Result T TextError) (old new : List ℕ) (has : Bool) (r : Rows) (e : Emission) (m : MemArg) (mi : MemInstType) (shown : List ℕ) (before after : List (List ℕ))
    → mi ≡ type_of_rows has r → is_taken mi m ≡ true → shown ≡ name_at r m
    → Prints result old new (fixed_text (instruction_text shown (before ++ (memory_text m ∷ after)))) → Prints result old new (access_where has r e before m after)
taken_prints result old new has r e m mi shown before after forms taken q p =
    subst (λ t. Prints result old new t)
    (ap (λ x. fixed_text (instruction_text x (before ++ (memory_text m ∷ after)))) q ∙ sym (near_text has r e m m before after (taken_in (type_of_rows has r) e m (ap (λ t. is_taken t m) (sym forms) ∙ taken)))) p

-- ---- rows of a register

relative_name : (rows : RegisterRows) (mi : MemInstType) (m : MemArg) (o : ℕ) → rows.ril ≡ Some o → is_taken mi m ≡ true → stem_of o ≡ name_at (rx_of rows) m
relative_name rows mi (Label target) o h k = sym (ap (λ x. or_nothing (option_map stem_of x)) h)
relative_name rows mi (Constant c) o h k = sym (ap (λ x. or_nothing (option_map stem_of x)) h)
relative_name rows mi (Symbol name offset flags) o h k = sym (ap (λ x. or_nothing (option_map stem_of x)) h)
relative_name rows mi m o h k = absurd (cc)

pub relative_prints : {T : Type 0} (result : Result T TextError) (old new : List ℕ) (has : Bool) (rows : RegisterRows) (e : Emission) (m : MemArg) (o : ℕ) (before : List (List ℕ)) → rows.ril ≡ Some o → is_taken (type_of_rows has (rx_of rows)) m ≡ true
    → Prints result old new (fixed_text (instruction_text (stem_of o) (before ++ (memory_text m ∷ [])))) → Prints result old new (access_where has (rx_of rows) e before m [])
relative_prints result old new has rows e m o before row taken p =
    taken_prints result old new has (rx_of rows) e m (type_of_rows has (rx_of rows)) (stem_of o) before [] refl taken (relative_name rows (type_of_rows has (rx_of rows)) m o row taken) p

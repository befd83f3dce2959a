-- Operands relative to the instruction: the rows that take them, and the addresses to which their distances lead.
use Rattle.std.proofs.Common.{◌≡◌, ℕ, ◌%◌, ◌^◌, ◌<◌, [], ◌++◌, inl, length, Option, Some, None, Bool, true, false, cond, refl, sym, ap, ◌∙◌, subst, arith, ltb-true, IsTrue}
use Rattle.std.specs.Prelude.{ℤ, nat_lt, pos, ◌+ℤ◌, ◌*ℤ◌}
use Rattle.std.specs.Int.{cast_signed}
use mir.Syntax.{w32}
use Rattle.s390x_base.specs.declared.ir.MachLabel.{MachLabel}
use Rattle.s390x_base.specs.declared.ir.VCodeConstant.{VCodeConstant}
use Rattle.s390x_base.specs.AccessFlags.{AccessFlags}
use Rattle.s390x_base.specs.declared.ir.ExternalName.{ExternalName}
use Rattle.s390x_base.specs.declared.trap.TrapKind.{TrapKind}
use Rattle.s390x_base.specs.declared.error.EmitError.{EmitError}
use Rattle.s390x_base.specs.declared.error.EmitError.TheVariants.{UnboundLabel}
use Rattle.s390x_typed_steps.specs.Causes.{first_emit_cause, unless, bound_cause}
use Rattle.s390x_inst.specs.declared.args.MemArg.{MemArg}
use Rattle.s390x_inst.specs.declared.args.MemArg.TheVariants.{Label, Constant, Symbol}
use Rattle.s390x_format.specs.declared.kind.FormatKind.TheVariants.{RilB}
use Rattle.s390x_format.specs.Formats.{length_of}
use Rattle.s390x_format.specs.View.{fields_of}
use Rattle.s390x_typed_steps.specs.MachineInstruction.{bytes_of, ril_b}
use Rattle.s390x_typed_steps.specs.Memory.{StorageForm, RxForm, RsForm, type_of, storage_row}
use Rattle.s390x_typed_steps.specs.Operands.{is_relative, with_long_displacement}
use Rattle.s390x_typed_steps.specs.Parts.{CodePart, Relative, RelativeConstant, RelativeSymbol, ToBlock, part_size, trap_here, relative_part, relative_parts, access_parts}
use Rattle.s390x_typed_steps.specs.Rows.{half_distance, part_bytes}
use Rattle.s390x_typed_steps.specs.Traps.{part_traps}
use Rattle.s390x_typed_steps.specs.declared.mem_inst_type.MemInstType.{MemInstType}
use Rattle.s390x_operations.specs.Numbers.{low}
use Rattle.s390x_operations.specs.State.{Registers, wrapping_add64}
use Rattle.s390x_operations.specs.declared.effect.Operation.{Operation}
use Rattle.s390x_operations.specs.declared.size.Size.TheVariants.{Doubleword}
use Rattle.s390x_format.specs.declared.semantics.RowSemantics.{RowSemantics}
use Rattle.s390x_machine.specs.declared.action_type.Action.TheVariants.{Perform}
use Rattle.s390x_machine.specs.Layout.{Layout, declarations, block_address, constant_address}
use Rattle.s390x_machine.specs.Semantics.{action}
use Rattle.s390x_machine.specs.CodeAt.{ConstantStands, ImageAt, IsBlock, NamesConstant, PartReaches}
use Rattle.s390x_machine.specs.Storage.{aligned_where}
use Rattle.s390x_machine.proofs.Addresses.{lands}
use Rattle.s390x_machine.proofs.Listing.{OpcodeRows}
use Rattle.s390x_machine.proofs.SingleInstruction.{relative_at}
use Rattle.s390x_machine.proofs.Fetching.{StandsAt}
use Rattle.s390x_machine.proofs.Simulation.{RowAt}
use Rattle.s390x_machine.proofs.Standing.{part_length}
use Rattle.s390x_machine.proofs.Storage.{access_of, Stands}
use Rattle.s390x_machine.proofs.Trapping.{within_image}

-- ---- the rows

-- the row of an instruction with a register that is relative to the instruction, and what it does with the memory at an address
pub record RelativeForm (register : ℕ) (relative : Option ℕ) (operation : ℕ → Registers → Operation) : Type 0 where
  pub few : register < 16
  pub semantics : RowSemantics
  pub rows : OpcodeRows RilB 4096 relative semantics
  pub acts : (opcode half : ℕ) (r : Registers) (p : ℕ) → action semantics (fields_of RilB (ril_b opcode register half).slots) r p ≡ Perform (operation (low Doubleword (pos p +ℤ pos 2 *ℤ cast_signed w32 half)) r)

-- the rows of a form do the same there as at any address, but an access has to be aligned
abbrev pub RelativeDoes : StorageForm → (accesses : Bool) → (ℕ → Registers → Operation) → Type 0
RelativeDoes (RxForm register short long relative) accesses operation = RelativeForm register relative (λ a r. aligned_where accesses (operation a r))
RelativeDoes form accesses operation = Unit {0}

-- ---- the operands

-- an operand whose distance leads from each place to an address
pub record Distant (L : Layout) (mem : MemArg) (address : ℕ) : Type 0 where
  pub part : (opcode register : ℕ) → CodePart
  pub relative : is_relative mem ≡ true
  pub widens : (mi : MemInstType) → with_long_displacement mi mem ≡ mem
  pub parts : (code : Option TrapKind) (opcode register : ℕ) → trap_here code ++ relative_part opcode register mem ≡ access_of code (part opcode register)
  pub size : (opcode register : ℕ) → part_size (part opcode register) ≡ 6
  pub untrapped : (opcode register p : ℕ) → part_traps p (part opcode register) ≡ []
  pub half : ℕ → ℕ
  pub bytes : (opcode register offset : ℕ) → part_bytes L.offsets offset (part opcode register) ≡ bytes_of (ril_b opcode register (half offset))
  pub leads : (opcode register offset : ℕ) → offset % 2 ≡ 0 → offset < 2 ^ 31 → PartReaches L offset (part opcode register) → (half offset < 2 ^ 32) × (low Doubleword (pos (wrapping_add64 L.image.base offset) +ℤ pos 2 *ℤ cast_signed w32 (half offset)) ≡ address)

label_parts : (target : MachLabel) (code : Option TrapKind) (opcode register : ℕ) → trap_here code ++ relative_part opcode register (Label target) ≡ access_of code (Relative opcode register (ToBlock target.0))
label_parts target None opcode register = refl
label_parts target (Some code) opcode register = refl

constant_parts : (c : VCodeConstant) (code : Option TrapKind) (opcode register : ℕ) → trap_here code ++ relative_part opcode register (Constant c) ≡ access_of code (RelativeConstant opcode register c.0)
constant_parts c None opcode register = refl
constant_parts c (Some code) opcode register = refl

symbol_parts : (name : ExternalName) (offset : ℤ) (flags : AccessFlags) (code : Option TrapKind) (opcode register : ℕ) → trap_here code ++ relative_part opcode register (Symbol name offset flags) ≡ access_of code (RelativeSymbol opcode register name offset)
symbol_parts name offset flags None opcode register = refl
symbol_parts name offset flags (Some code) opcode register = refl

pub first_none : (a b : Option EmitError) → first_emit_cause a b ≡ None → (a ≡ None) × (b ≡ None)
first_none None b e = (refl, e)
first_none (Some x) b e = absurd (cc)

pub unless_none : (h : Bool) (x : EmitError) → unless h x ≡ None → IsTrue h
unless_none true x e = refl
unless_none false x e = absurd (cc)

-- what emission has checked of the places that they name
pub label_known : (L : Layout) (target : MachLabel) → bound_cause (declarations L) (Label target) ≡ None → IsBlock L target.0
label_known L target e = ltb-true target.0 L.block_count (unless_none (nat_lt target.0 L.block_count) UnboundLabel e)

pub constant_known : (L : Layout) (c : VCodeConstant) → bound_cause (declarations L) (Constant c) ≡ None → c.0 < length L.offsets.environment.aligns
constant_known L c e = ltb-true c.0 (length L.offsets.environment.aligns) (unless_none (nat_lt c.0 (length L.offsets.environment.aligns)) UnboundLabel e)

-- a distance between even places of the image
leads_to : (L : Layout) (offset target : ℕ) → offset % 2 ≡ 0 → offset < 2 ^ 31 → target % 2 ≡ 0 → target < 2 ^ 31 → (half_distance offset target < 2 ^ 32) × (low Doubleword (pos (wrapping_add64 L.image.base offset) +ℤ pos 2 *ℤ cast_signed w32 (half_distance offset target)) ≡ wrapping_add64 L.image.base target)
leads_to L offset target even small even_target small_target = (omega arith, lands L.image.base offset target even even_target small small_target)

pub to_label : (L : Layout) → ImageAt L → (target : MachLabel) → IsBlock L target.0 → Distant L (Label target) (block_address L target.0)
to_label L image target known = record {
  part = λ opcode register. Relative opcode register (ToBlock target.0);
  relative = refl;
  widens = λ mi. refl;
  parts = label_parts target;
  size = λ opcode register. refl;
  untrapped = λ opcode register p. refl;
  half = λ offset. half_distance offset (L.offsets.block target.0);
  bytes = λ opcode register offset. refl;
  leads = λ opcode register offset even small reaches. leads_to L offset (L.offsets.block target.0) even small (image.block_places target.0 known).0 (image.block_places target.0 known).1;
}

pub to_constant : (L : Layout) → ImageAt L → (c : VCodeConstant) → ConstantStands L c.0 → Distant L (Constant c) (constant_address L c.0)
to_constant L image c stands = record {
  part = λ opcode register. RelativeConstant opcode register c.0;
  relative = refl;
  widens = λ mi. refl;
  parts = constant_parts c;
  size = λ opcode register. refl;
  untrapped = λ opcode register p. refl;
  half = λ offset. half_distance offset (L.offsets.environment.constant c.0);
  bytes = λ opcode register offset. refl;
  leads = λ opcode register offset even small reaches. leads_to L offset (L.offsets.environment.constant c.0) even small stands.even (omega (arith, stands.within, image.short));
}

-- the row that takes a constant names it
pub named_there : (c : VCodeConstant) (form : StorageForm) (accesses : Bool) (code : Option TrapKind) → (type_of form accesses).have_pcrel ≡ true → NamesConstant c.0 (relative_parts form code (Constant c))
named_there c (RxForm register short long (Some opcode)) accesses None have = inl refl
named_there c (RxForm register short long (Some opcode)) accesses (Some trap) have = inl refl
named_there c form accesses code have = absurd (cc)

pub to_symbol : (L : Layout) (name : ExternalName) (offset : ℤ) (flags : AccessFlags) → Distant L (Symbol name offset flags) (L.offsets.environment.symbol_value name offset)
to_symbol L name offset flags = record {
  part = λ opcode register. RelativeSymbol opcode register name offset;
  relative = refl;
  widens = λ mi. refl;
  parts = symbol_parts name offset flags;
  size = λ opcode register. refl;
  untrapped = λ opcode register p. refl;
  half = λ place. L.offsets.environment.symbol_distance place name offset;
  bytes = λ opcode register place. refl;
  leads = λ opcode register place even small reaches. reaches;
}

-- ---- an operand in its row

-- the row at a place
distant_row : (L : Layout) (image : ImageAt L) (mem : MemArg) (address : ℕ) (d : Distant L mem address) (register opcode : ℕ) (operation : ℕ → Registers → Operation) → RelativeForm register (Some opcode) operation → (offset : ℕ) → offset % 2 ≡ 0 →
    StandsAt L.image offset (part_bytes L.offsets offset (d.part opcode register)) → PartReaches L offset (d.part opcode register) → RowAt L (wrapping_add64 L.image.base offset) (λ r. Perform (operation address r)) (part_size (d.part opcode register))
unfolding length_of
distant_row L image mem address d register opcode operation form offset even stands reaches =
    let size = d.size opcode register in
    let within = within_image L offset (part_bytes L.offsets offset (d.part opcode register)) stands in
    let n = part_length L.offsets offset (d.part opcode register) in
    let leads = d.leads opcode register offset even (omega (arith, within, n, size, image.short)) reaches in
    subst (λ n. RowAt L (wrapping_add64 L.image.base offset) (λ r. Perform (operation address r)) n) (sym size)
    (relative_at L image offset even opcode register (d.half offset) form.semantics (operation address) form.rows form.few leads.0 (λ r.
    form.acts opcode (d.half offset) r (wrapping_add64 L.image.base offset) ∙ ap (λ a. Perform (operation a r)) leads.1) (subst (λ bytes. StandsAt L.image offset bytes) (d.bytes opcode register offset) stands))

pub distant_stands : (L : Layout) → ImageAt L → (form : StorageForm) (accesses : Bool) (operation : ℕ → Registers → Operation) → RelativeDoes form accesses operation → (type_of form accesses).have_pcrel ≡ true → (mem : MemArg) (address : ℕ) → Distant L mem address → Stands L form mem (λ a r. aligned_where accesses (operation a r)) (λ r. address)
distant_stands L image (RxForm register short long None) accesses operation does have mem address d = absurd (cc)
distant_stands L image (RxForm register short long (Some opcode)) accesses operation does have mem address d = record {
  part = d.part opcode register;
  is = λ code. ap (λ b. cond b (relative_parts (RxForm register short long (Some opcode)) code mem) (access_parts (storage_row (RxForm register short long (Some opcode)) mem) code)) d.relative ∙ d.parts code opcode register;
  some = omega (arith, d.size opcode register);
  untrapped = d.untrapped opcode register;
  row = λ offset even stands reaches. distant_row L image mem address d register opcode (λ a r. aligned_where accesses (operation a r)) does offset even stands reaches;
}
distant_stands L image (RsForm first_emit_cause second short long) accesses operation does have mem address d = absurd (cc)
distant_stands L image form accesses operation does have mem address d = absurd (cc)

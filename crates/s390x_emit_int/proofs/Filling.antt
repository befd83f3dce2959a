-- The fields that linking fills make the code before linking the code after it.
use Rattle.std.proofs.Common.{◌≡◌, ℕ, ◌+◌, ◌≤◌, Option, Some, None, List, [], ◌∷◌, ◌++◌, length, take, drop, refl, sym, ap, ◌∙◌, subst, arith, length-append, append_assoc}
use Rattle.std.proofs.Math.Seq.{take-append_seam, drop-append_seam}
use Rattle.std.specs.Prelude.{ℤ, pos, ◌+ℤ◌, ◌-ℤ◌}
use Rattle.std.proofs.lemmas.Int.{ints}
use Rattle.std.specs.List.{All}
use Rattle.std.proofs.lemmas.List.Elements.{All-nil, All-push, All-append}
use Rattle.std.specs.Int.{w32, w64, cast_unsigned, to_be_bytes}
use Rattle.std.specs.Int.RustNames.{int_div}
use Rattle.s390x_format.specs.Layout.{number, bits}
use Rattle.s390x_format.specs.Formats.{layout_of, length_of}
use Rattle.s390x_format.specs.Reading.{be_bytes}
use Rattle.s390x_base.specs.declared.ir.ExternalName.{ExternalName}
use Rattle.s390x_buffer.specs.declared.entries.RelocEntry.{RelocEntry}
use Rattle.s390x_image.specs.Symbols.{Symbols, address_of}
use Rattle.s390x_base.specs.declared.ir.Reloc.TheVariants.{S390xPCRel32Dbl, S390xPLTRel32Dbl}
use Rattle.s390x_image.specs.Fields.{address_or_zero, with_bytes_at, with_fields_filled, LiesIn}
use Rattle.s390x_image.specs.Values.{symbol_value, symbol_distance}
use Rattle.s390x_rows.specs.declared.opcodes.TheConstants as opcodes
use Rattle.s390x_typed_steps.specs.Tree.{Tree}
use Rattle.s390x_typed_steps.specs.Steps.{Step, function_steps}
use Rattle.s390x_typed_steps.specs.Parts.{CodePart, Row, Trapping, Branch, Relative, RelativeConstant, RelativeSymbol, SymbolValue, TrapHere, TableWord, ToBlock, ToStep, part_size, parts_size, step_parts, CallSymbol, SiteHere}
use Rattle.s390x_typed_steps.specs.MachineInstruction.{ril_b, ril_c, bytes_of}
use Rattle.s390x_typed_steps.specs.Sizes.{blocks_size}
use Rattle.s390x_typed_steps.specs.Rows.{LinkEnvironment, Offsets, symbol_call, part_bytes, parts_bytes, step_bytes}
use Rattle.s390x_typed_steps.specs.Relocs.{part_relocs, parts_relocs, step_relocs, relocs_from, function_relocs}
use Rattle.s390x_typed_steps.specs.Image.{step_offset, offsets, unlinked_environment, code, function_code}
use Rattle.s390x_machine.proofs.Standing.{part_length, step_length}
use Rattle.s390x_buffer.specs.State.{Constant}
use Rattle.s390x_buffer.specs.Constants.{constant_bytes}
use Rattle.s390x_buffer.specs.declared.entries.MachBufferFinalized.{MachBufferFinalized}
use Rattle.s390x_emit_int.specs.Function.{IsFinishedCode}
use Rattle.s390x_emit_int.specs.Headline.{linked_environment}
use Rattle.s390x_emit_int.specs.Bound.{StepsFollow}
use Rattle.s390x_emit_int.proofs.Branches.{relative_head, relative_split}
use Rattle.s390x_emit_int.proofs.Functions.{place_follows, place_zero}
use Rattle.s390x_emit_int.proofs.Joining.{total}

-- bytes in the place of as many
stored_between : (earlier old new later : List ℕ) (at : ℕ) → at ≡ length earlier → length new ≡ length old → with_bytes_at (earlier ++ (old ++ later)) at new ≡ earlier ++ (new ++ later)
stored_between earlier old new later at e same =
    let all = earlier ++ (old ++ later) in
    let front : take at all ≡ earlier = ap (λ n. take n all) e ∙ take-append_seam earlier (old ++ later) in
    let n : at + length new ≡ length (earlier ++ old) = omega (arith, e, same, length-append earlier old) in
    let behind : drop (at + length new) all ≡ later = ap (λ k. drop k all) n ∙ ap (drop (length (earlier ++ old))) (sym (append_assoc earlier old later)) ∙ drop-append_seam (earlier ++ old) later in
    ap (λ l. l ++ (new ++ drop (at + length new) all)) front ∙ ap (λ l. earlier ++ (new ++ l)) behind

filled_append : (base : ℕ) (table : Symbols) (rs qs : List RelocEntry) (bytes : List ℕ) → with_fields_filled base table (rs ++ qs) bytes ≡ with_fields_filled base table qs (with_fields_filled base table rs bytes)
filled_append base table [] qs bytes = refl
filled_append base table (r ∷ rs) qs bytes = filled_append base table rs qs _

-- the distance from the beginning of the instruction is that from its field, which stands two bytes behind it, to two more
same_distance : (base p address : ℕ) (offset : ℤ) → pos address +ℤ (offset +ℤ pos 2) -ℤ pos (base + (p + 2)) ≡ pos address +ℤ offset -ℤ pos (base + p)
same_distance base p address offset = omega (arith, ints)

-- the field of an address relative to the instruction
relative_filled : (base : ℕ) (table : Symbols) (opcode register p : ℕ) (name : ExternalName) (offset : ℤ) (earlier later : List ℕ) → p ≡ length earlier →
    with_fields_filled base table (record { offset = p + 2; kind = S390xPCRel32Dbl; name = name; addend = offset +ℤ pos 2 } ∷ []) (earlier ++ (bytes_of (ril_b opcode register 0) ++ later))
    ≡ earlier ++ (bytes_of (ril_b opcode register (symbol_distance base table p name offset)) ++ later)
relative_filled base table opcode register p name offset earlier later e =
    let head = relative_head opcode register in
    let address = address_or_zero (address_of table name) in
    let half : ℤ → ℕ = λ z. cast_unsigned w32 (int_div z (pos 2)) in
    let far : ℤ = pos address +ℤ (offset +ℤ pos 2) -ℤ pos (base + (p + 2)) in
    let distance : ℤ = pos address +ℤ offset -ℤ pos (base + p) in
    let at : p + 2 ≡ length (earlier ++ head) = omega (arith, e, length-append earlier head) in
    let old : earlier ++ (bytes_of (ril_b opcode register 0) ++ later) ≡ (earlier ++ head) ++ (to_be_bytes w32 0 ++ later) =
    ap (λ l. earlier ++ (l ++ later)) (sym (relative_split opcode register 0)) ∙ ap (λ l. earlier ++ l) (append_assoc head (to_be_bytes w32 0) later) ∙ sym (append_assoc earlier head (to_be_bytes w32 0 ++ later)) in
    let new : (earlier ++ head) ++ (to_be_bytes w32 (half distance) ++ later) ≡ earlier ++ (bytes_of (ril_b opcode register (half distance)) ++ later) =
    append_assoc earlier head (to_be_bytes w32 (half distance) ++ later) ∙ ap (λ l. earlier ++ l) (sym (append_assoc head (to_be_bytes w32 (half distance)) later)) ∙ ap (λ l. earlier ++ (l ++ later)) (relative_split opcode register (half distance)) in
    ap (λ z. with_bytes_at (earlier ++ (bytes_of (ril_b opcode register 0) ++ later)) (p + 2) (to_be_bytes w32 (half z))) (same_distance base p address offset)
    ∙ ap (λ l. with_bytes_at l (p + 2) (to_be_bytes w32 (half distance))) old
    ∙ stored_between (earlier ++ head) (to_be_bytes w32 0) (to_be_bytes w32 (half distance)) later (p + 2) at refl
    ∙ new

-- a branch that is always taken has the bytes of an address relative to the instruction
jump_bytes : (half : ℕ) → bytes_of (ril_c opcodes.BRCL 15 half) ≡ bytes_of (ril_b opcodes.BRCL 15 half)
unfolding length_of layout_of number bits be_bytes
jump_bytes half = refl

-- the field of a call of a symbol, or of a jump to it
call_filled : (base : ℕ) (table : Symbols) (link : Option ℕ) (p : ℕ) (name : ExternalName) (earlier later : List ℕ) → p ≡ length earlier →
    with_fields_filled base table (record { offset = p + 2; kind = S390xPLTRel32Dbl; name = name; addend = pos 2 } ∷ []) (earlier ++ (bytes_of (symbol_call link 0) ++ later))
    ≡ earlier ++ (bytes_of (symbol_call link (symbol_distance base table p name (pos 0))) ++ later)
call_filled base table (Some link) p name earlier later e = relative_filled base table opcodes.BRASL link p name (pos 0) earlier later e
call_filled base table None p name earlier later e =
    let r : RelocEntry = record { offset = p + 2; kind = S390xPLTRel32Dbl; name = name; addend = pos 2 } in
    ap (λ bs. with_fields_filled base table (r ∷ []) (earlier ++ (bs ++ later))) (jump_bytes 0)
    ∙ relative_filled base table opcodes.BRCL 15 p name (pos 0) earlier later e
    ∙ ap (λ bs. earlier ++ (bs ++ later)) (sym (jump_bytes (symbol_distance base table p name (pos 0))))

module _ (base : ℕ) (table : Symbols) (ts : List Tree) (cs : List Constant) where
  part_filled : (part : CodePart) (p : ℕ) (earlier later : List ℕ) → p ≡ length earlier → with_fields_filled base table (part_relocs p part) (earlier ++ (part_bytes (offsets (unlinked_environment ts cs) ts) p part ++ later)) ≡ earlier ++ (part_bytes (offsets (linked_environment table base ts cs) ts) p part ++ later)
  part_filled (Row m) p earlier later e = refl
  part_filled (Trapping m byte code) p earlier later e = refl
  part_filled (Branch mask (ToBlock b)) p earlier later e = refl
  part_filled (Branch mask (ToStep k)) p earlier later e = refl
  part_filled (Relative opcode register (ToBlock b)) p earlier later e = refl
  part_filled (Relative opcode register (ToStep k)) p earlier later e = refl
  part_filled (RelativeConstant opcode register c) p earlier later e = refl
  part_filled (RelativeSymbol opcode register name offset) p earlier later e = relative_filled base table opcode register p name offset earlier later e
  part_filled (TrapHere code) p earlier later e = refl
  part_filled (CallSymbol link name) p earlier later e = call_filled base table link p name earlier later e
  part_filled (SiteHere site) p earlier later e = refl
  part_filled (TableWord before (ToBlock b)) p earlier later e = refl
  part_filled (TableWord before (ToStep k)) p earlier later e = refl
  part_filled (SymbolValue name offset) p earlier later e = stored_between earlier (to_be_bytes w64 0) (to_be_bytes w64 (symbol_value table name offset)) later p e refl

  parts_filled : (parts : List CodePart) (p : ℕ) (earlier later : List ℕ) → p ≡ length earlier → with_fields_filled base table (parts_relocs p parts) (earlier ++ (parts_bytes (offsets (unlinked_environment ts cs) ts) p parts ++ later)) ≡ earlier ++ (parts_bytes (offsets (linked_environment table base ts cs) ts) p parts ++ later)
  parts_filled [] p earlier later e = refl
  parts_filled (part ∷ parts) p earlier later e =
      let q = p + part_size part in
      let old = part_bytes (offsets (unlinked_environment ts cs) ts) p part in
      let new = part_bytes (offsets (linked_environment table base ts cs) ts) p part in
      let old_rest = parts_bytes (offsets (unlinked_environment ts cs) ts) q parts in
      let new_rest = parts_bytes (offsets (linked_environment table base ts cs) ts) q parts in
      let at : q ≡ length (earlier ++ new) = omega (arith, e, length-append earlier new, part_length (offsets (linked_environment table base ts cs) ts) p part) in
      let rs = parts_relocs q parts in
      filled_append base table (part_relocs p part) rs (earlier ++ ((old ++ old_rest) ++ later))
      ∙ ap (λ l. with_fields_filled base table rs (with_fields_filled base table (part_relocs p part) (earlier ++ l))) (append_assoc old old_rest later)
      ∙ ap (with_fields_filled base table rs) (part_filled part p earlier (old_rest ++ later) e)
      ∙ ap (with_fields_filled base table rs) (sym (append_assoc earlier new (old_rest ++ later)))
      ∙ parts_filled parts q (earlier ++ new) later at
      ∙ append_assoc earlier new (new_rest ++ later)
      ∙ ap (λ l. earlier ++ l) (sym (append_assoc new new_rest later))

  steps_filled : (ss : List Step) (k : ℕ) (earlier later : List ℕ) → step_offset (function_steps ts) k ≡ length earlier → StepsFollow (step_offset (function_steps ts)) k ss →
      with_fields_filled base table (relocs_from (step_offset (function_steps ts)) k ss) (earlier ++ (code (offsets (unlinked_environment ts cs) ts) k ss ++ later)) ≡ earlier ++ (code (offsets (linked_environment table base ts cs) ts) k ss ++ later)
  steps_filled [] k earlier later e follow = refl
  steps_filled (s ∷ ss) k earlier later e follow =
      let p = step_offset (function_steps ts) k in
      let old = step_bytes (offsets (unlinked_environment ts cs) ts) p s in
      let new = step_bytes (offsets (linked_environment table base ts cs) ts) p s in
      let old_rest = code (offsets (unlinked_environment ts cs) ts) (k + 1) ss in
      let new_rest = code (offsets (linked_environment table base ts cs) ts) (k + 1) ss in
      let at : step_offset (function_steps ts) (k + 1) ≡ length (earlier ++ new) = omega (arith, follow.0, e, length-append earlier new, step_length (offsets (linked_environment table base ts cs) ts) p s) in
      let rs = relocs_from (step_offset (function_steps ts)) (k + 1) ss in
      filled_append base table (step_relocs p s) rs (earlier ++ ((old ++ old_rest) ++ later))
      ∙ ap (λ l. with_fields_filled base table rs (with_fields_filled base table (step_relocs p s) (earlier ++ l))) (append_assoc old old_rest later)
      ∙ ap (with_fields_filled base table rs) (parts_filled (step_parts s) p earlier (old_rest ++ later) e)
      ∙ ap (with_fields_filled base table rs) (sym (append_assoc earlier new (old_rest ++ later)))
      ∙ steps_filled ss (k + 1) (earlier ++ new) later at follow.1
      ∙ append_assoc earlier new (new_rest ++ later)
      ∙ ap (λ l. earlier ++ l) (sym (append_assoc new new_rest later))

  pub function_filled : (constants : List ℕ) → with_fields_filled base table (function_relocs ts) (function_code (unlinked_environment ts cs) ts ++ constants) ≡ function_code (linked_environment table base ts cs) ts ++ constants
  function_filled constants = steps_filled (function_steps ts) 0 [] constants (place_zero (function_steps ts)) (place_follows (function_steps ts))

-- linking leaves the length
pub code_length : (P : Offsets) (k : ℕ) (ss : List Step) → length (code P k ss) ≡ total ss
code_length P k [] = refl
code_length P k (s ∷ ss) = omega (arith, length-append (step_bytes P (P.step k) s) (code P (k + 1) ss), step_length P (P.step k) s, code_length P (k + 1) ss)

pub linked_length : (before after : LinkEnvironment) (ts : List Tree) (constants : List ℕ) → length (function_code after ts ++ constants) ≡ length (function_code before ts ++ constants)
linked_length before after ts constants =
    omega (arith, length-append (function_code after ts) constants, length-append (function_code before ts) constants, code_length (offsets after ts) 0 (function_steps ts), code_length (offsets before ts) 0 (function_steps ts))

-- ---- the fields lie in the code

parts_lie : (parts : List CodePart) (p n : ℕ) → p + parts_size parts ≤ n → All (LiesIn n) (parts_relocs p parts)
parts_lie [] p n le = All-nil (LiesIn n)
parts_lie (part ∷ parts) p n le = All-append (LiesIn n) (part_relocs p part) (parts_relocs (p + part_size part) parts) (part_lies part p n (omega arith)) (parts_lie parts (p + part_size part) n (omega arith))
  where
    part_lies : (part : CodePart) (p n : ℕ) → p + part_size part ≤ n → All (LiesIn n) (part_relocs p part)
    part_lies (SymbolValue name offset) p n le = All-push (LiesIn n) [] _ (All-nil (LiesIn n)) le
    part_lies (RelativeConstant opcode register c) p n le = All-nil (LiesIn n)
    part_lies (RelativeSymbol opcode register name offset) p n le = All-push (LiesIn n) [] _ (All-nil (LiesIn n)) (omega arith)
    part_lies (Row m) p n le = All-nil (LiesIn n)
    part_lies (Trapping m byte code) p n le = All-nil (LiesIn n)
    part_lies (Branch mask target) p n le = All-nil (LiesIn n)
    part_lies (Relative opcode register target) p n le = All-nil (LiesIn n)
    part_lies (TrapHere code) p n le = All-nil (LiesIn n)
    part_lies (CallSymbol link name) p n le = All-push (LiesIn n) [] _ (All-nil (LiesIn n)) (omega arith)
    part_lies (SiteHere site) p n le = All-nil (LiesIn n)
    part_lies (TableWord before target) p n le = All-nil (LiesIn n)

steps_lie : (at : ℕ → ℕ) (k n : ℕ) (ss : List Step) → StepsFollow at k ss → at k + total ss ≤ n → All (LiesIn n) (relocs_from at k ss)
steps_lie at k n [] follow le = All-nil (LiesIn n)
steps_lie at k n (s ∷ ss) follow le =
    All-append (LiesIn n) (step_relocs (at k) s) (relocs_from at (k + 1) ss) (parts_lie (step_parts s) (at k) n (omega arith)) (steps_lie at (k + 1) n ss follow.1 (omega (arith, follow.0)))

pub relocs_lie : (ts : List Tree) (cs : List Constant) (f : MachBufferFinalized) → IsFinishedCode ts cs f → All (LiesIn (length f.bytes.items)) f.relocs.items
relocs_lie ts cs f image =
    let ss = function_steps ts in
    let constants = constant_bytes (blocks_size ts) cs in
    let code = function_code (unlinked_environment ts cs) ts in
    let n = length f.bytes.items in
    let size : total ss ≤ n = omega (arith, ap length image.bytes, length-append code constants, code_length (offsets (unlinked_environment ts cs) ts) 0 ss) in
    subst (All (LiesIn n)) (sym image.relocs) (steps_lie (step_offset ss) 0 n ss (place_follows ss) (omega (arith, place_zero ss)))

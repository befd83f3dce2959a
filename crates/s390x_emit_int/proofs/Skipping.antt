-- A move under a condition: what its look-up found, its length, and the room for it.
use Rattle.std.proofs.Common.{◌≡◌, ℕ, ◌+◌, ◌-◌, ◌/◌, Bool, true, false, cond, ◌&&◌, [], ◌∷◌, Option, None, Some, refl, sym, ap, ◌∙◌, nat_lt, arith}
use Rattle.s390x_base.specs.Regs.{number_of}
use Rattle.s390x_buffer.specs.State.{BufferState, put_cause}
use Rattle.s390x_format.specs.Formats.{length_of}
use Rattle.s390x_inst.specs.declared.vec_inst.VecInst.{VecInst}
use Rattle.s390x_inst.specs.declared.vec_inst.VecInst.TheVariants.{FpuCMov32, FpuCMov64, VecCMov}
use Rattle.s390x_rows.specs.declared.opcodes.TheConstants as opcodes
use Rattle.s390x_typed_steps.specs.MachineInstruction.{size_of, ri_c, rr, vrr_a}
use Rattle.s390x_typed_steps.specs.Parts.{Row, row_parts, parts_size}
use Rattle.s390x_typed_steps.specs.SingleCode.{code_where}
use Rattle.s390x_typed_steps.specs.VectorComposite.{MoveUnder as Move, move_under, cause_under, rows_under}
use Rattle.s390x_emit_vec.specs.Conditional.{IsMoveUnder}
use Rattle.s390x_emit_vec.specs.declared.conditional.MoveUnder.{MoveUnder}
use Rattle.s390x_emit_int.specs.Fragments.{apply_all}
use Rattle.s390x_emit_int.specs.Emission.{part_fragments}
use Rattle.s390x_emit_int.specs.Skips.{is_short_move}
use Rattle.s390x_emit_int.proofs.OnlyMemory.{put_none, put_parts}
use Rattle.s390x_emit_int.proofs.Symbols.{room_behind}
use Rattle.s390x_emit_int.proofs.Composing.{valid_of}

-- what was found is a move
pub record Found (x : MoveUnder) (o : Option Move) : Type 0 where
  pub move : Move
  pub is : o ≡ Some move
  pub mask : x.mask ≡ move.mask
  pub code : x.code ≡ code_where move.operands_valid move.row

pub found_move : (x : MoveUnder) (o : Option Move) → IsMoveUnder (Some x) o → Found x o
found_move x None h = absurd h
found_move x (Some y) h = record { move = y; is = refl; mask = h.0; code = h.1 }

pub valid_found : (x : MoveUnder) (o : Option Move) (f : Found x o) → cause_under o ≡ None → f.move.operands_valid ≡ true
valid_found x o f h = valid_of f.move.operands_valid (sym (ap cause_under f.is) ∙ h)

-- ---- its length

left_short : (opcode d n : ℕ) (t : Bool) → size_of (cond t (rr opcode d n) (vrr_a opcodes.VLR d n 0)) ≡ cond t 2 6
unfolding length_of
left_short opcode d n true = refl
left_short opcode d n false = refl

same_row : (a b : Move) → Some a ≡ Some b → a ≡ b
same_row a b e = cc

pub short_move : (v : VecInst) (m : Move) → move_under v ≡ Some m → size_of m.row ≡ cond (is_short_move v) 2 6
unfolding length_of
short_move (FpuCMov32 rd mask ri rm) m e = sym (ap (λ (x : Move). size_of x.row) (same_row _ m e)) ∙ left_short opcodes.LER (number_of rd) (number_of rm) (nat_lt (number_of rd) 16 && nat_lt (number_of rm) 16)
short_move (FpuCMov64 rd mask ri rm) m e = sym (ap (λ (x : Move). size_of x.row) (same_row _ m e)) ∙ left_short opcodes.LDR (number_of rd) (number_of rm) (nat_lt (number_of rd) 16 && nat_lt (number_of rm) 16)
short_move (VecCMov rd mask ri rm) m e = sym (ap (λ (x : Move). size_of x.row) (same_row _ m e))
short_move v m e = absurd (cc)

under_length : (o : Option Move) (m : Move) → o ≡ Some m → 4 + size_of m.row ≡ parts_size (row_parts (rows_under o))
unfolding length_of
under_length o m e = let both : parts_size (row_parts (rows_under (Some m))) ≡ 4 + size_of m.row = omega arith in sym (ap (λ (q : Option Move). parts_size (row_parts (rows_under q))) e ∙ both)

pub found_length : (x : MoveUnder) (o : Option Move) (f : Found x o) → 4 + size_of f.move.row ≡ parts_size (row_parts (rows_under o))
found_length x o f = under_length o f.move f.is

halfwords : (short : Bool) (n : ℕ) → n ≡ cond short 2 6 → cond short 3 5 ≡ (4 + n) / 2
halfwords true n e = ap (λ k. (4 + k) / 2) (sym e)
halfwords false n e = ap (λ k. (4 + k) / 2) (sym e)

-- the branch and the move are its rows
pub found_rows : (x : MoveUnder) (o : Option Move) (f : Found x o) (short : Bool) → size_of f.move.row ≡ cond short 2 6 → (Row (ri_c opcodes.BRC (15 - x.mask) (cond short 3 5)) ∷ Row f.move.row ∷ []) ≡ row_parts (rows_under o)
found_rows x o f short e =
    ap (λ n. Row (ri_c opcodes.BRC (15 - n) (cond short 3 5)) ∷ Row f.move.row ∷ []) f.mask
    ∙ ap (λ n. Row (ri_c opcodes.BRC (15 - f.move.mask) n) ∷ Row f.move.row ∷ []) (halfwords short (size_of f.move.row) e)
    ∙ sym (ap (λ (q : Option Move). row_parts (rows_under q)) f.is)

-- ---- room

pub skip_room : (s : BufferState) (n : ℕ) → put_cause s (4 + n) ≡ None → put_cause s 4 ≡ None
skip_room s n room = let p = put_parts s (4 + n) room in put_none s 4 p.0 (omega (arith, p.1))

pub move_room : (s t : BufferState) (mask half n : ℕ) → put_cause s (4 + n) ≡ None → t ≡ apply_all s (part_fragments (Row (ri_c opcodes.BRC mask half) ∷ [])) → put_cause t n ≡ None
unfolding length_of
move_room s t mask half n room e = room_behind s t (Row (ri_c opcodes.BRC mask half) ∷ []) (4 + n) n room e (omega arith)

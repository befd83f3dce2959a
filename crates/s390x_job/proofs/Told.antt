-- What a line of a text tells.
use Rattle.std.proofs.Common.{◌≡◌, ℕ, List, ◌∷◌, ◌++◌, Option, Some, None, length, refl, sym, ap, ◌∙◌, subst}
use Rattle.std.specs.Prelude.{Result, Ok, Err, IfOk}
use Rattle.s390x_inst.specs.declared.inst.Inst.{Inst}
use Rattle.s390x_job_lines.specs.Line.{Line, line_text, line_of, IsLine}
use Rattle.s390x_job_lines.specs.Instructions.{inst_line}
use Rattle.s390x_job_lines.specs.declared.name.LineName.{LineName}
use Rattle.s390x_job_lines.specs.declared.name.LineName.TheVariants as N
use Rattle.s390x_job_lines.proofs.RoundTrip.{line-round_trip}
use Rattle.s390x_job_exact.specs.Exact.{IsSingle, IsInstructionText}
use Rattle.s390x_job_fields.specs.Fields.{Field}
use Rattle.s390x_job.specs.Grammar.{Place, Within, Instruction, class, line_class, next_place}
use Rattle.s390x_job.specs.Builds.{Follows, IsNext, Reads, beginning_lines, body_lines, open_lines}
use Rattle.s390x_job.specs.Items.{block_line}
use Rattle.s390x_job.specs.Jobs.{insts_lines, blocks_lines}
use Rattle.s390x_job.specs.declared.build.Body.{Body}
use Rattle.s390x_job.specs.declared.build.Progress.{Progress}
use Rattle.s390x_job.specs.declared.build.Progress.TheVariants.{Inside}
use Rattle.s390x_job.proofs.Whole.{one_line}

-- the line of a text
the_line : (l : Line) (w : List ℕ) → IsLine l → line_text l ≡ w → l ≡ line_of w
the_line l w ok e = sym (line-round_trip l ok) ∙ ap line_of e

pub reads : (b : Body) (ls : List Line) (p : Place) (l : Line) (w : List ℕ) → IsLine l → line_text l ≡ w → (o : Option Progress) → Follows b ls p l o → Reads b ls p w o
reads b ls p l w ok e None h = λ k a q. ap (λ m. next_place p (class m)) (one_line k l a ok (q ∙ sym e)) ∙ h
reads b ls p l w ok e (Some q) h =
    subst (λ m. IsLine m × (line_text m ≡ w) × IsNext ls p m q b) (the_line l w ok e) (ok, e, h)

pub reads_all : {E : Type 0} (b : Body) (ls : List Line) (p : Place) (l : Line) (w : List ℕ) → IsLine l → line_text l ≡ w → (r : Result (Option Progress) E) → IfOk r (Follows b ls p l) → IfOk r (Reads b ls p w)
reads_all b ls p l w ok e (Ok o) h = reads b ls p l w ok e o h
reads_all b ls p l w ok e (Err x) h = tt

-- the lines so far, with these instructions at the end of the block
abbrev pub lines_with : Body → List Inst → List Line
lines_with b is = beginning_lines b.beginning ++ (blocks_lines b.blocks.items ++ (block_line ∷ (open_lines b.loops.items ++ insts_lines is)))

pub next_of_same : (b : Body) (is : List Inst) (x : Inst) (new : Body) → is ≡ b.here.items → IsNext (lines_with b is) (Within (length b.loops.items)) (inst_line x) Inside new → IsNext (body_lines b) (Within (length b.loops.items)) (inst_line x) Inside new
next_of_same b is x new e h = subst (λ t. IsNext (lines_with b t) (Within (length b.loops.items)) (inst_line x) Inside new) e h

pub reads_of_same : {E : Type 0} (b : Body) (is : List Inst) (w : List ℕ) (new : Body) (r : Result (Option Progress) E) → is ≡ b.here.items → IfOk r (Reads new (lines_with b is) (Within (length b.loops.items)) w) → IfOk r (Reads new (body_lines b) (Within (length b.loops.items)) w)
reads_of_same b is w new r e h = subst (λ t. IfOk r (Reads new (lines_with b t) (Within (length b.loops.items)) w)) e h

pub reads_instruction : (b : Body) (ls : List Line) (p : Place) (x : Inst) (w : List ℕ) → IsInstructionText (inst_line x) w → IsNext ls p (inst_line x) Inside b → Reads b ls p w (Some Inside)
reads_instruction b ls p x w t h = reads b ls p (inst_line x) w t.line t.text (Some Inside) h

single_name : (n : LineName) (fs : List Field) → IsSingle n → line_class n fs ≡ Instruction
single_name (N.Integer n) fs h = refl
single_name (N.Load op) fs h = refl
single_name (N.Store op) fs h = refl
single_name (N.Memory n) fs h = refl
single_name (N.Control n) fs h = refl
single_name (N.Vector n) fs h = refl
single_name (N.Whole direction layout) fs h = refl
single_name n fs h = absurd h

-- the line of one instruction
pub single : (l : Line) (w : List ℕ) → IsInstructionText l w → class l ≡ Instruction
single l w h = single_name l.name l.fields h.single

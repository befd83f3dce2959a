-- The fields behind a name make a line.
use Rattle.std.proofs.Common.{◌≡◌, ℕ, List, ◌++◌, Option, Some, None, sym, ap, ◌∙◌}
use Rattle.std.specs.Prelude.{IfSome}
use Rattle.s390x_inst.specs.declared.inst.Inst.{Inst}
use Rattle.s390x_job_lines.specs.Line.{Line, fields_text}
use Rattle.s390x_job_lines.specs.Instructions.{inst_line}
use Rattle.s390x_job_lines.specs.Names.{name_text}
use Rattle.s390x_job_lines.specs.declared.name.LineName.{LineName}
use Rattle.s390x_job_exact.specs.Exact.{AreFields, IsInstructionText, IsSingle}

line : (n : LineName) (l : Line) (s r : List ℕ) → IsSingle n → s ≡ name_text n ++ r → AreFields n l r → IsInstructionText l s
line n l s r h e k = record {
  line = k.line;
  single = rw k.name h;
  text = ap (λ m. name_text m ++ fields_text l.fields) k.name ∙ ap (λ x. name_text n ++ x) (sym k.text) ∙ sym e;
}

pub found : (n : LineName) (o : Option Inst) (s r : List ℕ) → s ≡ name_text n ++ r → IfSome o (λ x. AreFields n (inst_line x) r) → IfSome o (λ _. IsSingle n) → IfSome o (λ x. IsInstructionText (inst_line x) s)
found n None s r e h k = tt
found n (Some x) s r e h k = line n (inst_line x) s r k e h

use Rattle.std.proofs.Common.{◌≡◌, refl}
use Rattle.std.specs.Prelude.{pos}
use Rattle.s390x_format.specs.declared.fields.Imm.{Imm}
use Rattle.s390x_format.specs.declared.fields.Imm.TheVariants.{Unsigned}
use Rattle.s390x_format.specs.View.{imm_of, imm_class_of}
use Rattle.s390x_format.proofs.fields.read_imm.Goals as goal

zero_imm : (class : Imm) → pos 0 ≡ imm_of class 0
zero_imm Unsigned = refl
zero_imm class = refl

pub returns-then-bits-eq0 : goal.returns-then-bits-eq0
returns-then-bits-eq0 c = rw c.if-bits-eq0.true (zero_imm (imm_class_of c.args.kind))

-- The use of a label that does what a relocation asks for.
use Rattle.std.specs.Prelude.{ℤ, pos, Option, Some, None, cond}
use Rattle.std.specs.Ordering.{int_eq}
use Rattle.s390x_base.specs.declared.ir.Reloc.{Reloc}
use Rattle.s390x_base.specs.declared.ir.Reloc.TheVariants.{S390xPCRel32Dbl, S390xPLTRel32Dbl, Abs8}
use Rattle.s390x_buffer.specs.declared.label_use.LabelUse.{LabelUse}
use Rattle.s390x_buffer.specs.declared.label_use.LabelUse.TheVariants.{PCRel32Dbl}

-- a relocation of half a distance with the addend 2 has such a use; no other one has
abbrev pub use_of_reloc : Reloc → ℤ → Option LabelUse
use_of_reloc S390xPCRel32Dbl a = cond (int_eq a (pos 2)) (Some PCRel32Dbl) None
use_of_reloc S390xPLTRel32Dbl a = cond (int_eq a (pos 2)) (Some PCRel32Dbl) None
use_of_reloc Abs8 a = None

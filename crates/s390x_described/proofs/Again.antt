-- An instruction's description, with the roles that it has, is the instruction.
use Rattle.std.proofs.Common.{◌≡◌, Option, Some, None, refl, sym, ap, ◌∙◌}
use Rattle.s390x_inst.specs.declared.inst.Inst.{Inst}
use Rattle.s390x_inst.specs.declared.inst.Inst.TheVariants as I
use Rattle.s390x_inst.specs.declared.vec_inst.VecInst.{VecInst}
use Rattle.s390x_inst.specs.declared.vec_inst.VecInst.TheVariants as V
use Rattle.s390x_described.specs.Instructions.{description_of, described_vector}
use Rattle.s390x_described.specs.Roles.{Described}

abbrev own : Inst → Option (Described Inst) → Inst
own i None = i
own i (Some d) = d.again d.roles

-- one clause stands for every instruction
own_vector : (v : VecInst) → (described_vector v).again (described_vector v).roles ≡ v
own_vector (V.VecMov rd rn) = refl
own_vector v = refl

own_is : (i : Inst) → own i (description_of i) ≡ i
own_is (I.Vector v) = ap I.Vector (own_vector v)
own_is I.Fence = refl
own_is i = refl

pub gives : (i : Inst) (d : Described Inst) → description_of i ≡ Some d → d.again d.roles ≡ i
gives i d h = sym (ap (own i) h) ∙ own_is i

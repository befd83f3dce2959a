use Rattle.std.proofs.Common.{◌≡◌, ap, ◌∙◌}
use Rattle.s390x_base.specs.declared.regs.Reg.{Reg}
use Rattle.s390x_inst.specs.declared.calls.CallRetPair.{CallRetPair}
use Rattle.s390x_inst.specs.declared.calls.RetLocation.{RetLocation}
use Rattle.s390x_job_fields.specs.Calls.{location_of}
use Rattle.s390x_job_fields.specs.Atoms.{reg_of}
use Rattle.s390x_job_fields.proofs.calls.CallRetPairElement.read.Goals as goal

made : Reg → RetLocation → CallRetPair
made v l = record { vreg = v; location = l }

both : (v w : Reg) (l m : RetLocation) → v ≡ w → l ≡ m → made v l ≡ made w m
both v w l m e f = ap (λ x. made x l) e ∙ ap (λ y. made w y) f

pub returns : goal.returns
unfolding made
returns c = both _ _ _ _ (c.written_reg.ensures ∙ ap reg_of c.word.ensures) (c.location.ensures ∙ ap location_of c.after_word.ensures)

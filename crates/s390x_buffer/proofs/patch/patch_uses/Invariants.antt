use Rattle.std.proofs.Common.{◌≡◌, drop}
use Rattle.s390x_buffer.specs.Patch.{patch_all, offset_of_label, uses_cause}
use Rattle.s390x_buffer.proofs.patch.patch_uses.Given as goal

abbrev pub invariant-loop-u : goal.invariant-loop-u
invariant-loop-u l = record {
  rest : patch_all (offset_of_label l.labels) (drop l.u-index l.uses) l.bytes ≡ patch_all (offset_of_label l.labels) l.uses l.initial.bytes;
  cause : uses_cause l.labels (drop l.u-index l.uses) l.bytes ≡ uses_cause l.labels l.uses l.initial.bytes;
}

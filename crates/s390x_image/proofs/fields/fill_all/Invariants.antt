use Rattle.std.proofs.Common.{◌≡◌, drop}
use Rattle.s390x_image.specs.Fields.{with_fields_filled}
use Rattle.s390x_image.specs.Causes.{relocs_cause}
use Rattle.s390x_image.proofs.fields.fill_all.Given as goal

-- what is left to do leads where all did
abbrev pub invariant-loop-reloc : goal.invariant-loop-reloc
invariant-loop-reloc l = record {
  cause : relocs_cause l.base l.symbols (drop l.reloc-index l.relocs) ≡ relocs_cause l.base l.symbols l.relocs;
  bytes : with_fields_filled l.base l.symbols (drop l.reloc-index l.relocs) l.bytes ≡ with_fields_filled l.base l.symbols l.relocs l.initial.bytes;
}

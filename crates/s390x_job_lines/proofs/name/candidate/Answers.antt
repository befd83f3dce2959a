use Rattle.std.proofs.Common.{◌≡◌, sym, ap, ◌∙◌}
use Rattle.std.specs.Prelude.{slice_index_or}
use Rattle.std.proofs.lemmas.List.{get_or_default}
use Rattle.s390x_job_lines.specs.Names.{name_text}
use Rattle.s390x_job_lines.specs.Slots.{slot_of}
use Rattle.s390x_job_lines.specs.declared.name.LineName.TheVariants.{FlagsLine, EndLine}
use Rattle.s390x_job_lines.specs.declared.name_hash.TheConstants.{ALL_NAMES}
use Rattle.s390x_job_lines.proofs.Slots.{name-slot}
use Rattle.s390x_job_lines.proofs.name.candidate.Goals as goal

pub returns : goal.returns
returns c = λ name e.
    let slot : c.slot.result ≡ slot_of (name_text name) = c.slot.ensures.value ∙ ap slot_of (sym e) in
    get_or_default ALL_NAMES c.slot.result FlagsLine EndLine c.slot.ensures.below ∙ ap (λ k. slice_index_or ALL_NAMES k EndLine) slot ∙ name-slot name

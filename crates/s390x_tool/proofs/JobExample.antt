-- A job with code is accepted: one that returns at once.
use Rattle.std.proofs.Common.{length, refl, ap, arith}
use Rattle.s390x_buffer.specs.declared.entries.MachBufferFinalized.{MachBufferFinalized}
use Rattle.s390x_tool.specs.declared.words.JobCommand.{JobCommand}
use Rattle.s390x_tool.specs.declared.words.JobCommand.TheVariants.{Image, Emit, Run, Operands, Show}
use Rattle.s390x_format.specs.Formats.{layout_of, length_of}
use Rattle.s390x_format.specs.Layout.{bits, number}
use Rattle.s390x_format.specs.Reading.{be_bytes}
use Rattle.s390x_job.specs.Completions.{text_of_lines}
use Rattle.s390x_job.proofs.PlainJob.{plain_job, vec}
use Rattle.s390x_tool.specs.Answers.{IsAccepted, IsCodeOfJob, IsUnrefused, Links, symbols_of}
use Rattle.s390x_tool.specs.Example.{HasRoom, one_job}
use Rattle.s390x_tool.proofs.Example.{IsTwoBytes, can_link}
use Rattle.s390x_tool.proofs.ReturnJob.{is_job, job, job_text}

two_bytes : (f : MachBufferFinalized) → IsCodeOfJob job f → IsTwoBytes f
unfolding vec plain_job job number bits layout_of length_of be_bytes
two_bytes f h = record { size = ap length h.emitted.bytes; boundary = h.emitted.alignment; linked = h.emitted.relocs }

links : (command : JobCommand) → HasRoom command → Links command job
links (Image base) room = λ f is. can_link base (symbols_of job) f (two_bytes f is) room.0 (omega (arith, room.1))
links (Run base steps) room = λ f is. can_link base (symbols_of job) f (two_bytes f is) room.0 (omega (arith, room.1))
links command room = tt

valid : (command : JobCommand) → IsUnrefused command job
unfolding vec plain_job job length_of
valid (Image base) = refl
valid command = refl

pub job_accepted : (command : JobCommand) → HasRoom command → IsAccepted command (text_of_lines one_job)
job_accepted command room = record { short = omega arith; job = job; is = is_job; spelled = job_text; valid = valid command; links = links command room }

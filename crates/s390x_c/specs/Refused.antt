-- Why emission refuses a job, and where.
use Rattle.std.specs.Prelude.{◌≡◌, Option, Some}
use Rattle.s390x_base.specs.Errors.{number_of_error}
use Rattle.s390x_base.specs.declared.error.EmitError.{EmitError}
use Rattle.s390x_emit_int.specs.Function.{constants_of, function_cause, trees_of}
use Rattle.s390x_job.specs.declared.job.Job.{Job}
use Rattle.s390x_refusal.specs.Refusal.{IsRefusedBy}
use Rattle.s390x_refusal.specs.declared.position.Position.{Position}
use Rattle.s390x_refusal.specs.declared.position.Position.TheVariants.{Start, Instruction, BlockEnd, Length}
use Rattle.s390x_calls.specs.Input.{by_cause}
use Rattle.s390x_calls.specs.Places.{block_end, of_instruction, start, whole_code}
use Rattle.s390x_calls.specs.declared.place.Place.{Place}
use Rattle.s390x_calls.specs.declared.reason.Reason.{Reason}
use Rattle.s390x_calls.specs.declared.status.Status.{Status}
use Rattle.s390x_calls.specs.declared.status.Status.TheVariants as status

-- the first cause by which emission refuses a job's function
abbrev pub job_cause : Job → Option EmitError
job_cause j = function_cause j.info.isa_flags (trees_of j.info.isa_flags j.state j.function) (constants_of j.function) j.state

-- a place as C sees it
abbrev pub place_of : Position → Place
place_of Start = start
place_of (Instruction block path) = of_instruction block path.items
place_of (BlockEnd block) = block_end block
place_of Length = whole_code

-- a cause, at its place
abbrev pub reason_of : EmitError → Position → Reason
reason_of error position = by_cause (number_of_error error) (place_of position)

-- emission refuses the job's function by its first cause, which stands at this place, and nothing before it has a cause
pub record IsRefused (j : Job) (reason' : Reason) : Type 0 where
  pub error : EmitError
  pub position : Position
  pub first : job_cause j ≡ Some error
  pub place : IsRefusedBy j.info.isa_flags j.state j.function error position
  pub told : reason' ≡ reason_of error position

-- how a call ends for a job that is refused
abbrev pub IsRefusalTold : Job → (reason reason' : Reason) → Status → Type 0
IsRefusalTold j reason reason' status.Refused = IsRefused j reason'
IsRefusalTold j reason reason' status.NoMemory = reason' ≡ reason
IsRefusalTold j reason reason' s = ⊥

-- What `s390x_emit` answers. A name with a prime is of what a call leaves.
use Rattle.std.specs.Prelude.{◌≡◌, ℕ, List, None}
use Rattle.s390x_buffer.specs.declared.entries.MachBufferFinalized.{MachBufferFinalized}
use Rattle.s390x_emit_int.specs.Function.{IsFinishedCode, constants_of, folded_trees_of, trees_of}
use Rattle.s390x_job.specs.Completions.{IsText}
use Rattle.s390x_job.specs.declared.job.Job.{Job}
use Rattle.s390x_tables.specs.Buffers.{AreUntouched, HasRoom, HoldTables}
use Rattle.s390x_tables.specs.Sizes.{sizes_of}
use Rattle.s390x_tables.specs.declared.buffers.Buffers.{Buffers}
use Rattle.s390x_tables.specs.declared.sizes.Sizes.{Sizes}
use Rattle.s390x_typed_steps.specs.Ranges.{BlocksInRange}
use Rattle.s390x_calls.specs.Ends.{EndsWithNumber, IsTextSuchThat}
use Rattle.s390x_calls.specs.Input.{EndsToOfJob, IsJobOf}
use Rattle.s390x_calls.specs.declared.reason.Reason.{Reason}
use Rattle.s390x_calls.specs.declared.status.Status.{Status}
use Rattle.s390x_calls.specs.declared.status.Status.TheVariants as status
use Rattle.s390x_c.specs.Refused.{IsRefused, job_cause}

-- the code of a job's function, which emission doesn't refuse
pub record IsCodeOf (j : Job) (code : MachBufferFinalized) : Type 0 where
  pub valid : job_cause j ≡ None
  pub ranges : BlocksInRange (trees_of j.info.isa_flags j.state j.function)
  pub finished : IsFinishedCode (folded_trees_of j.info.isa_flags j.state j.function) (constants_of j.function) code

-- the buffers begin with the tables of the code of the job's function, and these are their sizes
pub record HoldCode (j : Job) (out out' : Buffers) (sizes' : Sizes) : Type 0 where
  pub code : MachBufferFinalized
  pub is : IsCodeOf j code
  pub tables : HoldTables code out out'
  pub counted : sizes' ≡ sizes_of code

-- the buffers have no room for the tables of the code of the job's function and are as they were, and these are their sizes
pub record HaveNoRoom (j : Job) (out out' : Buffers) (sizes' : Sizes) : Type 0 where
  pub code : MachBufferFinalized
  pub is : IsCodeOf j code
  pub lacks : HasRoom code out → ⊥
  pub kept : AreUntouched out out'
  pub counted : sizes' ≡ sizes_of code

-- neither the buffers nor the sizes are written
pub record NothingIsWritten (out out' : Buffers) (sizes sizes' : Sizes) : Type 0 where
  pub buffers : AreUntouched out out'
  pub sizes_kept : sizes' ≡ sizes

-- how the emission of a job ends
abbrev pub EmitsJobTo : (out out' : Buffers) → (sizes sizes' : Sizes) → (reason reason' : Reason) → Job → Status → Type 0
EmitsJobTo out out' sizes sizes' reason reason' j status.Done = HoldCode j out out' sizes' × (reason' ≡ reason)
EmitsJobTo out out' sizes sizes' reason reason' j status.Refused = IsRefused j reason' × NothingIsWritten out out' sizes sizes'
EmitsJobTo out out' sizes sizes' reason reason' j status.NoMemory = NothingIsWritten out out' sizes sizes' × (reason' ≡ reason)
EmitsJobTo out out' sizes sizes' reason reason' j status.TooSmall = HaveNoRoom j out out' sizes' × (reason' ≡ reason)
EmitsJobTo out out' sizes sizes' reason reason' j s = ⊥

-- how the emission of an input ends
abbrev pub EmitsTo : (input : List ℕ) → (out out' : Buffers) → (sizes sizes' : Sizes) → (reason reason' : Reason) → Status → Type 0
EmitsTo input out out' sizes sizes' reason reason' s =
    EndsToOfJob input reason reason' (NothingIsWritten out out' sizes sizes') (EmitsJobTo out out' sizes sizes' reason reason') s

-- the number is that of how the emission of the input ends
abbrev pub IsEmitCall : (input : List ℕ) → (out out' : Buffers) → (sizes sizes' : Sizes) → (reason reason' : Reason) → (number : ℕ) → Type 0
IsEmitCall input out out' sizes sizes' reason reason' number = EndsWithNumber (EmitsTo input out out' sizes sizes' reason reason') number

-- emission has no cause to refuse the job, and the buffers have room for the tables of its code
pub record CanBeEmitted (out : Buffers) (j : Job) : Type 0 where
  pub valid : job_cause j ≡ None
  pub room : (code : MachBufferFinalized) → IsCodeOf j code → HasRoom code out

-- the input is the text of such a job
abbrev pub IsEmitted : (input : List ℕ) → (out : Buffers) → Type 0
IsEmitted input out = IsTextSuchThat IsText (IsJobOf input) (CanBeEmitted out) input

-- Where nothing refuses the input and the buffers have room, a call is done, or out of memory.
use Rattle.std.proofs.Common.{◌≡◌, ℕ, List, ◌⊎◌, inl, inr, refl, sym, ◌∙◌, None, arith}
use Rattle.std.proofs.lemmas.Option.{none-some}
use Rattle.s390x_calls.proofs.Ending.{completed, job_completed}
use Rattle.s390x_calls.specs.Input.{at_line}
use Rattle.s390x_calls.specs.Put.{NoEntryIsWritten}
use Rattle.s390x_calls.specs.declared.reason.Reason.{Reason}
use Rattle.s390x_calls.specs.declared.status.Status.{Status}
use Rattle.s390x_calls.specs.declared.status.Status.TheVariants as status
use Rattle.s390x_job.specs.declared.job.Job.{Job}
use Rattle.s390x_job_bundle.specs.Completions.{IsBundleText, IsFirstWrongOfBundle}
use Rattle.s390x_job_bundle.specs.Text.{AreFunctionsOf}
use Rattle.s390x_job_bundle.specs.declared.named_job.NamedJob.{NamedJob}
use Rattle.s390x_tables.specs.declared.buffers.Buffers.{Buffers}
use Rattle.s390x_tables.specs.declared.sizes.Sizes.{Sizes}
use Rattle.s390x_c.specs.Bundle.{BundlesFunctionsTo, CanBeBundled, IsBundleCall, IsBundled, IsUnbundled}
use Rattle.s390x_c.specs.Emit.{CanBeEmitted, EmitsJobTo, IsEmitCall, IsEmitted, NothingIsWritten}
use Rattle.s390x_c.specs.Image.{CanBeLinked, IsImageCall, IsLinked, LinksJobTo}
use Rattle.s390x_c.specs.Refused.{IsRefused, job_cause}
use Rattle.s390x_c.specs.Show.{CanBeShown, IsShowCall, IsShown, ShowsJobTo}

-- a job without a cause isn't refused
not_refused : (j : Job) (reason' : Reason) → job_cause j ≡ None → IsRefused j reason' → ⊥
not_refused j reason' valid refused = none-some refused.error (sym valid ∙ refused.first)

emits : (out out' : Buffers) (sizes sizes' : Sizes) (reason reason' : Reason) (j : Job) (s : Status) → CanBeEmitted out j
    → EmitsJobTo out out' sizes sizes' reason reason' j s → (s ≡ status.Done) ⊎ (s ≡ status.NoMemory)
emits out out' sizes sizes' reason reason' j status.Done can ends = inl refl
emits out out' sizes sizes' reason reason' j status.Refused can ends = absurd (not_refused j reason' can.valid ends.0)
emits out out' sizes sizes' reason reason' j status.NoMemory can ends = inr refl
emits out out' sizes sizes' reason reason' j status.TooSmall can ends = absurd (ends.0.lacks (can.room ends.0.code ends.0.is))
emits out out' sizes sizes' reason reason' j s can ends = absurd ends

links : (base : ℕ) (out out' : List ℕ) (count count' : ℕ) (reason reason' : Reason) (j : Job) (s : Status) → CanBeLinked base out j
    → LinksJobTo base out out' count count' reason reason' j s → (s ≡ status.Done) ⊎ (s ≡ status.NoMemory)
links base out out' count count' reason reason' j status.Done can ends = inl refl
links base out out' count count' reason reason' j status.Refused can ends = absurd (not_refused j reason' can.valid ends.0)
links base out out' count count' reason reason' j status.LinkRefused can ends = absurd (can.links ends.0.error ends.0.first)
links base out out' count count' reason reason' j status.NoMemory can ends = inr refl
links base out out' count count' reason reason' j status.TooSmall can ends =
    absurd (omega (arith, can.room ends.0.bytes ends.0.image, ends.0.small.lacks))
links base out out' count count' reason reason' j s can ends = absurd ends

shows : (out out' : List ℕ) (count count' : ℕ) (reason reason' : Reason) (j : Job) (s : Status) → CanBeShown out j
    → ShowsJobTo out out' count count' reason reason' j s → (s ≡ status.Done) ⊎ (s ≡ status.NoMemory)
shows out out' count count' reason reason' j status.Done can ends = inl refl
shows out out' count count' reason reason' j status.Refused can ends = absurd (not_refused j reason' can.valid ends.0)
shows out out' count count' reason reason' j status.NoMemory can ends = inr refl
shows out out' count count' reason reason' j status.TooSmall can ends = absurd (omega (arith, can.room, ends.1.small.lacks))
shows out out' count count' reason reason' j s can ends = absurd ends

not_unbundled : (base : ℕ) (out : List ℕ) (fs : List NamedJob) (reason' : Reason) (s : Status) → CanBeBundled base out fs → IsUnbundled base fs reason' s → ⊥
not_unbundled base out fs reason' s can refused = refused.named (can.valid refused.error refused.first)

bundles : (base : ℕ) (out out' : List ℕ) (count count' : ℕ) (reason reason' : Reason) (fs : List NamedJob) (s : Status) → CanBeBundled base out fs
    → BundlesFunctionsTo base out out' count count' reason reason' fs s → (s ≡ status.Done) ⊎ (s ≡ status.NoMemory)
bundles base out out' count count' reason reason' fs status.Done can ends = inl refl
bundles base out out' count count' reason reason' fs status.Refused can ends = absurd (not_unbundled base out fs reason' status.Refused can ends.0)
bundles base out out' count count' reason reason' fs status.LinkRefused can ends = absurd (not_unbundled base out fs reason' status.LinkRefused can ends.0)
bundles base out out' count count' reason reason' fs status.NoMemory can ends = inr refl
bundles base out out' count count' reason reason' fs status.BundleRefused can ends = absurd (not_unbundled base out fs reason' status.BundleRefused can ends.0)
bundles base out out' count count' reason reason' fs status.TooSmall can ends =
    absurd (omega (arith, can.room ends.0.bundle ends.0.image, ends.0.small.lacks))
bundles base out out' count count' reason reason' fs s can ends = absurd ends

pub emit_completed : (input : List ℕ) (out out' : Buffers) (sizes sizes' : Sizes) (reason reason' : Reason) (number : ℕ)
    → IsEmitCall input out out' sizes sizes' reason reason' number → IsEmitted input out → (number ≡ 0) ⊎ (number ≡ 9)
emit_completed input out out' sizes sizes' reason reason' number so it =
    job_completed input reason reason' (NothingIsWritten out out' sizes sizes') (EmitsJobTo out out' sizes sizes' reason reason') (CanBeEmitted out) number
    (emits out out' sizes sizes' reason reason') so it

pub image_completed : (base : ℕ) (input out out' : List ℕ) (count count' : ℕ) (reason reason' : Reason) (number : ℕ)
    → IsImageCall base input out out' count count' reason reason' number → IsLinked base input out → (number ≡ 0) ⊎ (number ≡ 9)
image_completed base input out out' count count' reason reason' number so it =
    job_completed input reason reason' (NoEntryIsWritten out out' count count') (LinksJobTo base out out' count count' reason reason') (CanBeLinked base out)
    number (links base out out' count count' reason reason') so it

pub show_completed : (input out out' : List ℕ) (count count' : ℕ) (reason reason' : Reason) (number : ℕ)
    → IsShowCall input out out' count count' reason reason' number → IsShown input out → (number ≡ 0) ⊎ (number ≡ 9)
show_completed input out out' count count' reason reason' number so it =
    job_completed input reason reason' (NoEntryIsWritten out out' count count') (ShowsJobTo out out' count count' reason reason') (CanBeShown out) number
    (shows out out' count count' reason reason') so it

pub bundle_completed : (base : ℕ) (input out out' : List ℕ) (count count' : ℕ) (reason reason' : Reason) (number : ℕ)
    → IsBundleCall base input out out' count count' reason reason' number → IsBundled base input out → (number ≡ 0) ⊎ (number ≡ 9)
bundle_completed base input out out' count count' reason reason' number so it =
    completed input IsBundleText IsFirstWrongOfBundle at_line reason' (AreFunctionsOf input) (NoEntryIsWritten out out' count count') (reason' ≡ reason)
    (BundlesFunctionsTo base out out' count count' reason reason') (CanBeBundled base out) number (bundles base out out' count count' reason reason') so it

-- How a call ends on a job or on functions.
use Rattle.std.proofs.Common.{◌≡◌, ℕ, List, Bool, false, ◌⊎◌, inl, inr, map, refl, sym, ◌∙◌}
use Rattle.std.specs.Prelude.{◌≢◌, IsTrue, Option, Some, None}
use Rattle.std.proofs.lemmas.Bool.{true≢false}
use Rattle.std.proofs.lemmas.Option.{none-some}
use Rattle.s390x_base.specs.declared.error.EmitError.{EmitError}
use Rattle.s390x_base.specs.declared.error.EmitError.TheVariants as emit
use Rattle.s390x_job.specs.declared.job.Job.{Job}
use Rattle.s390x_tables.specs.declared.buffers.Buffers.{Buffers}
use Rattle.s390x_tables.specs.declared.sizes.Sizes.{Sizes}
use Rattle.s390x_c.specs.Emit.{EmitsJobTo, NothingIsWritten}
use Rattle.s390x_bundle.specs.Bundled as bundled
use Rattle.s390x_bundle.specs.declared.error.BundleError.{BundleError}
use Rattle.s390x_bundle.specs.declared.joining.Bundle.{Bundle}
use Rattle.s390x_job_bundle.specs.declared.named_job.NamedJob.{NamedJob}
use Rattle.s390x_bundle.specs.Members.{member_of}
use Rattle.s390x_c.specs.Bundle.{BundlesFunctionsTo, IsBundleRefusal}
use Rattle.s390x_emit_int.specs.FunctionImage.{HasNoImage}
use Rattle.s390x_emit_int.specs.declared.image.ImageError.{ImageError}
use Rattle.s390x_emit_int.specs.declared.image.ImageError.TheVariants.{Refused, Link}
use Rattle.s390x_c.specs.Image.{IsRefusalOf, LinksJobTo, MayRefuse, symbols_of}
use Rattle.s390x_c.specs.Refused.{IsRefusalTold, IsRefused, job_cause, reason_of}
use Rattle.s390x_refusal.specs.Refusal.{IsFirstRefusal}
use Rattle.s390x_refusal.specs.declared.position.Refusal.{Refusal}
use Rattle.s390x_calls.specs.Put.{PutsEntries}
use Rattle.s390x_c.specs.Show.{PutsTexts, ShowsJobTo, texts_of}
use Rattle.s390x_calls.specs.declared.reason.Reason.{Reason}
use Rattle.s390x_calls.specs.declared.status.Status.{Status}
use Rattle.s390x_calls.specs.declared.status.Status.TheVariants as status

-- a table's room is tested
pub no_room : (b : Bool) → b ≡ false → IsTrue b → ⊥
no_room b fails holds = true≢false (sym holds ∙ fails)

-- ---- refusals

-- an error of emission that isn't want of memory has a cause
pub refusable : (e : EmitError) (cause : Option EmitError) → (e ≡ emit.NoMemory) ⊎ (cause ≡ Some e) → e ≢ emit.NoMemory → cause ≢ None
refusable e cause (inl short) named = absurd (named short)
refusable e cause (inr is) named = λ none. none-some e (sym none ∙ is)

pub emission_refused : (j : Job) (out : Buffers) (sizes : Sizes) (reason reason' : Reason) (s : Status)
    → IsRefusalTold j reason reason' s → NothingIsWritten out out sizes sizes → EmitsJobTo out out sizes sizes reason reason' j s
emission_refused j out sizes reason reason' status.Refused told kept = (told, kept)
emission_refused j out sizes reason reason' status.NoMemory told kept = (kept, told)
emission_refused j out sizes reason reason' s told kept = absurd told

pub listing_refused : (j : Job) (out : List ℕ) (count : ℕ) (reason reason' : Reason) (s : Status)
    → IsRefusalTold j reason reason' s → ShowsJobTo out out count count reason reason' j s
listing_refused j out count reason reason' status.Refused told = (told, record { buffer = refl; count_kept = refl })
listing_refused j out count reason reason' status.NoMemory told = (record { buffer = refl; count_kept = refl }, told)
listing_refused j out count reason reason' s told = absurd told

pub may_refuse : (base : ℕ) (j : Job) (e : ImageError) → HasNoImage j.info.isa_flags j.state j.function base (symbols_of j) e → MayRefuse j e
may_refuse base j (Refused error) none = none
may_refuse base j (Link error) none = tt

pub image_refused : (base : ℕ) (j : Job) (e : ImageError) (out : List ℕ) (count : ℕ) (reason reason' : Reason) (s : Status)
    → HasNoImage j.info.isa_flags j.state j.function base (symbols_of j) e → IsRefusalOf j e reason reason' s
    → LinksJobTo base out out count count reason reason' j s
image_refused base j (Refused error) out count reason reason' status.Refused none told = (told, record { buffer = refl; count_kept = refl })
image_refused base j (Refused error) out count reason reason' status.NoMemory none told = (record { buffer = refl; count_kept = refl }, told)
image_refused base j (Link error) out count reason reason' status.LinkRefused (inl short) told = absurd (told.0 short)
image_refused base j (Link error) out count reason reason' status.LinkRefused (inr is) told =
    (record { error = error; first = is; told = told.1 }, record { buffer = refl; count_kept = refl })
image_refused base j (Link error) out count reason reason' status.NoMemory none told = (record { buffer = refl; count_kept = refl }, told.1)
image_refused base j (Refused error) out count reason reason' s none told = absurd told
image_refused base j (Link error) out count reason reason' s none told = absurd told

pub bundle_refused : (base : ℕ) (fs : List NamedJob) (e : BundleError) (out : List ℕ) (count : ℕ) (reason reason' : Reason) (s : Status)
    → bundled.HasNoImage base (map member_of fs) e → IsBundleRefusal e reason reason' s → BundlesFunctionsTo base out out count count reason reason' fs s
bundle_refused base fs e out count reason reason' status.Refused none told =
    (record { error = e; named = told.0; first = none; told = told.2; by = told.1 }, record { buffer = refl; count_kept = refl })
bundle_refused base fs e out count reason reason' status.LinkRefused none told =
    (record { error = e; named = told.0; first = none; told = told.2; by = told.1 }, record { buffer = refl; count_kept = refl })
bundle_refused base fs e out count reason reason' status.NoMemory none told = (record { buffer = refl; count_kept = refl }, told.1)
bundle_refused base fs e out count reason reason' status.BundleRefused none told =
    (record { error = e; named = told.0; first = none; told = told.2; by = told.1 }, record { buffer = refl; count_kept = refl })
bundle_refused base fs e out count reason reason' s none told = absurd told

pub refusal_told : (j : Job) (r : Refusal) (reason' : Reason) → IsFirstRefusal j.info.isa_flags j.state j.function (Some r) → reason' ≡ reason_of r.error r.position
    → IsRefused j reason'
refusal_told j r reason' first told = record { error = r.error; position = r.position; first = first.0; place = first.1; told = told }

-- ---- what is written

pub texts_put : (j : Job) (out out' : List ℕ) (count count' : ℕ) (s : Status) → (texts_of j).cause ≡ None → PutsEntries (texts_of j).bytes out out' count' s
    → PutsTexts j out out' count count' s
texts_put j out out' count count' status.Done told put = record { told = told; held = put }
texts_put j out out' count count' status.TooSmall told put = record { told = told; small = put }
texts_put j out out' count count' s told put = absurd put

pub texts_shown : (j : Job) (out out' : List ℕ) (count count' : ℕ) (reason : Reason) (s : Status) → job_cause j ≡ None → PutsTexts j out out' count count' s
    → ShowsJobTo out out' count count' reason reason j s
texts_shown j out out' count count' reason status.Done valid put = (valid, put, refl)
texts_shown j out out' count count' reason status.NoMemory valid put = (put, refl)
texts_shown j out out' count count' reason status.TooSmall valid put = (valid, put, refl)
texts_shown j out out' count count' reason s valid put = absurd put

pub bundle_put : (base : ℕ) (fs : List NamedJob) (b : Bundle) (out out' : List ℕ) (count count' : ℕ) (reason : Reason) (s : Status)
    → bundled.IsImageOfMembers base (map member_of fs) b → PutsEntries b.image.bytes.items out out' count' s
    → BundlesFunctionsTo base out out' count count' reason reason fs s
bundle_put base fs b out out' count count' reason status.Done image put = (record { bundle = b; image = image; held = put }, refl)
bundle_put base fs b out out' count count' reason status.TooSmall image put = (record { bundle = b; image = image; small = put }, refl)
bundle_put base fs b out out' count count' reason s image put = absurd put

-- The answer to words that ask for an image of several functions.
use Rattle.std.proofs.Common.{◌≡◌, ℕ, inl, inr, List, map, subst}
use Rattle.hex.specs.Hex.{encode_lower}
use Rattle.s390x_bundle.specs.Bundled.{IsImageOfMembers}
use Rattle.s390x_bundle.specs.declared.joining.Bundle.{Bundle}
use Rattle.s390x_bundle.specs.declared.member.Member.{Member}
use Rattle.s390x_job_bundle.specs.Text.{AreFunctionsOf}
use Rattle.s390x_job_bundle.specs.declared.named_job.NamedJob.{NamedJob}
use Rattle.s390x_bundle.specs.Members.{member_of}
use Rattle.s390x_tool.specs.Bundled.{IsBundleAnswer}
use Rattle.s390x_tool.specs.Lines.{IsMade, line}
use Rattle.s390x_tool.specs.declared.status.Status.{Status}
use Rattle.s390x_tool.specs.declared.status.Status.TheVariants as status

-- the image of the functions is the answer
pub answer_of_bundle : (base : ℕ) (input : List ℕ) (s : Status) (text : List ℕ) (functions : List NamedJob) (members : List Member) (b : Bundle) → AreFunctionsOf input functions → members ≡ map member_of functions
    → IsImageOfMembers base members b → IsMade status.Ok (line (encode_lower b.image.bytes.items)) s text → IsBundleAnswer base input s text
answer_of_bundle base input s text functions members b are is image (inl made) =
    rw made.0 (record { functions = functions; are = are; bundle = b; image = subst (λ ms. IsImageOfMembers base ms b) is image; spelled = made.1 })
answer_of_bundle base input s text functions members b are is image (inr short) = rw short.0 short.1

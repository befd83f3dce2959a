-- Functions that nothing keeps from standing in one image are done, unless memory doesn't suffice.
use Rattle.std.proofs.Common.{◌≡◌, ℕ, ◌⊎◌, inl, inr, List, map, refl, sym, ◌∙◌, Some}
use Rattle.std.specs.Prelude.{Option, codes, ◌≢◌}
use Rattle.s390x_bundle.specs.Bundled.{HasNoImage}
use Rattle.s390x_bundle.specs.declared.error.BundleError.{BundleError}
use Rattle.s390x_bundle.specs.declared.error.BundleError.TheVariants as cause
use Rattle.s390x_bundle.specs.declared.member.Member.{Member}
use Rattle.s390x_tool.specs.Words.{IsForm}
use Rattle.s390x_tool.specs.declared.words.Command.TheVariants.{Bundle}
use Rattle.s390x_bundle.specs.Members.{member_of}
use Rattle.s390x_tool.specs.Bundled.{CanBeBundled, IsBundleAccepted, IsBundleAnswer}
use Rattle.s390x_tool.specs.Causes.{FaultCountRose}
use Rattle.s390x_tool.specs.Replies.{CallContext, IsDelivered, IsReply}
use Rattle.s390x_tool.specs.declared.status.Status.{Status}
use Rattle.s390x_tool.specs.declared.status.Status.TheVariants as status
use Rattle.s390x_tool.proofs.Asking.{IsDoneStatus, done_delivered, done_reply, not_simulation}
use Rattle.s390x_tool.proofs.Completing.{answered_whole, no_more_than}
use Rattle.s390x_tool.proofs.SameMembers.{same_bundled}

-- where nothing keeps members from standing in one image, no error says so
not_refused : (base : ℕ) (members : List Member) (e : BundleError) → CanBeBundled base members → e ≢ cause.NoMemory → HasNoImage base members e → ⊥
not_refused base members (cause.DuplicateName name) h named why = let clash = sym h.names ∙ why in cc
not_refused base members (cause.Emit name error) h named why = let clash = sym h.valid ∙ why.1 in cc
not_refused base members (cause.EmptyMember name) h named why = let clash = sym (h.placed why.codes why.emitted) ∙ why.first in cc
not_refused base members (cause.TooLong name) h named why = let clash = sym (h.placed why.codes why.emitted) ∙ why.first in cc
not_refused base members (cause.AddressTooHigh name) h named why = let clash = sym (h.placed why.codes why.emitted) ∙ why.first in cc
not_refused base members (cause.Link name error) h named why = let clash = sym (h.linked why.codes why.emitted) ∙ why.first in cc
not_refused base members cause.NoMemory h named why = named refl

-- the answer to such an input
bundled_answer : (base : ℕ) (input : List ℕ) (s : Status) (text : List ℕ) → IsBundleAnswer base input s text → IsBundleAccepted base input → IsDoneStatus s
bundled_answer base input status.Ok text answer accepted = inl refl
bundled_answer base input status.NoMemory text answer accepted = inr refl
bundled_answer base input status.Syntax text answer accepted = absurd (answer.none (accepted.functions, accepted.are, accepted.spelled))
bundled_answer base input status.BundleRefused text answer accepted =
    let same = answer.are.one accepted.functions accepted.are accepted.spelled in
    absurd (not_refused base (map member_of answer.functions) answer.error (same_bundled base answer.functions accepted.functions answer.are.are accepted.are same accepted.bundled) answer.named answer.cause)
bundled_answer base input s text answer accepted = absurd answer

-- how a call on such an input ends, where nothing failed
pub bundled_result : (f : CallContext) (told told' : Option (List ℕ)) (faults faults' : ℕ) (s : Status) (text : List ℕ) (result : Status)
    → IsReply f s text → IsDelivered told told' faults faults' s text result
    → (base : ℕ) (input : List ℕ) → IsForm f.words (Bundle base) → f.left ≡ Some input → IsBundleAccepted base input
    → (FaultCountRose f.faults f.faults' → ⊥) → (FaultCountRose faults faults' → ⊥) → (result ≡ status.Ok) ⊎ (result ≡ status.NoMemory)
bundled_result f told told' faults faults' s text result reply delivered base input form left accepted quiet silent =
    done_delivered told told' faults faults' s text result delivered silent
    (done_reply f s text (Bundle base) reply form (no_more_than f input left accepted.short quiet)
    (λ r. bundled_answer base input s text (answered_whole f s text (Bundle base) input r form left) accepted)
    (λ r. absurd (not_simulation f s text (Bundle base) r form tt)))

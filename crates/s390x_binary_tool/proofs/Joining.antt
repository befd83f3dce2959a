-- From the object of several functions to the answer to `objects`.
use Rattle.std.proofs.Common.{◌≡◌, ◌⊎◌, inl, inr, ℕ, zero, suc, ◌+◌, ◌<◌, List, [], ◌∷◌, ◌++◌, length, get_or, take, map, Some, None, refl, sym, ap, ◌∙◌, arith, subst}
use Rattle.std.specs.Prelude.{codes, ◌≢◌}
use Rattle.s390x_bundle.specs.Bundled.{duplicate_of}
use Rattle.s390x_bundle.specs.Emitted.{IsEmitted, first_refused}
use Rattle.s390x_bundle.specs.declared.error.BundleError.{BundleError}
use Rattle.s390x_bundle.specs.declared.error.BundleError.TheVariants as cause
use Rattle.s390x_bundle.specs.declared.member.Member.{Member}
use Rattle.s390x_job_bundle.specs.Text.{AreFunctions, AreFunctionsOf, SameFunctions}
use Rattle.s390x_job_bundle.specs.declared.named_job.NamedJob.{NamedJob}
use Rattle.s390x_elf.specs.Names.{symbol_name}
use Rattle.s390x_elf.specs.Members.{IsLinkedAsMembers, IsObjectOfMembers, members_cause}
use Rattle.s390x_elf.specs.declared.error.ObjectError.{ObjectError}
use Rattle.s390x_elf.specs.declared.error.ObjectError.TheVariants as kind
use Rattle.s390x_elf.specs.declared.members.ObjectMember.{ObjectMember}
use Rattle.s390x_bundle.specs.Members.{member_of}
use Rattle.s390x_tool.specs.Bundled.{IsBundleRefusal}
use Rattle.s390x_tool.specs.Lines.{line}
use Rattle.s390x_tool.specs.declared.status.Status.{Status}
use Rattle.s390x_tool.specs.declared.status.Status.TheVariants as status
use Rattle.s390x_tool.proofs.SameJob.{same_code}
use Rattle.s390x_tool.proofs.SameMembers.{members, code_of_job, member_emitted}
use Rattle.s390x_binary_tool.specs.Object.{IsObjectRefusal}
use Rattle.s390x_binary_tool.specs.Objects.{AreObjectMembers, HasNoCodes, IsObjectMember, IsObjectsAnswer, IsObjectsReply}
use Rattle.s390x_binary_tool.specs.declared.status.BinaryStatus.{BinaryStatus}
use Rattle.s390x_binary_tool.specs.declared.status.BinaryStatus.TheVariants.{Shared, Differs, ObjectRefused}

-- ---- one member after the other

members_suc : (ms : List Member) (i : ℕ) (m : Member) (os : List ObjectMember) (o : ObjectMember) → i < length ms → m ≡ get_or ms i m → AreObjectMembers (take i ms) os → IsObjectMember m o → AreObjectMembers (take (suc i) ms) (os ++ o ∷ [])
members_suc [] i m os o lt e are is = absurd (omega (arith, lt))
members_suc (x ∷ ms) zero m [] o lt e are is = (subst (λ y. IsObjectMember y o) e is, tt)
members_suc (x ∷ ms) (suc i) m (p ∷ os) o lt e are is = (are.0, members_suc ms i m os o (omega (arith, lt)) e are.1 is)
members_suc ms i m os o lt e are is = absurd are

-- one member more has its code
pub members_more : (ms : List Member) (i : ℕ) (m : Member) (os : List ObjectMember) (o : ObjectMember) → i < length ms → m ≡ get_or ms i m → AreObjectMembers (take i ms) os → IsObjectMember m o → AreObjectMembers (take (i + 1) ms) (os ++ o ∷ [])
members_more ms i m os o lt e are is = let next : suc i ≡ i + 1 = omega arith in subst (λ n. AreObjectMembers (take n ms) (os ++ o ∷ [])) next (members_suc ms i m os o lt e are is)

-- ---- replies

pub objects_memory : (ms : List Member) (s : BinaryStatus) (text : List ℕ) → s ≡ Shared status.NoMemory → text ≡ line (codes "no memory") → IsObjectsReply ms s text
objects_memory ms s text is spelled = subst (λ t. IsObjectsReply ms t text) (sym is) spelled

pub objects_file : (ms : List Member) (os : List ObjectMember) (file : List ℕ) (s : BinaryStatus) (text : List ℕ) → duplicate_of ms ≡ None → AreObjectMembers ms os → members_cause [] os ≡ None → IsObjectOfMembers [] os file → IsLinkedAsMembers [] os file
    → s ≡ Shared status.Ok → text ≡ file → IsObjectsReply ms s text
objects_file ms os file s text names are accepted object linked ok spelled =
    subst (λ t. IsObjectsReply ms t text) (sym ok)
    (subst (λ t. IsObjectsReply ms (Shared status.Ok) t) (sym spelled)
    (record { objects = os; names = names; are = are; accepted = accepted; object = object; linked = linked }))

pub objects_none : (ms : List Member) (os : List ObjectMember) (e : ObjectError) (s : BinaryStatus) (text : List ℕ) → duplicate_of ms ≡ None → AreObjectMembers ms os → (e ≡ kind.NoMemory) ⊎ (members_cause [] os ≡ Some e) → IsObjectRefusal e s text → IsObjectsReply ms s text
objects_none ms os e s text names are (inl memory) (inl named) = absurd (named.0 memory)
objects_none ms os e s text names are (inr cause) (inl named) =
    subst (λ t. IsObjectsReply ms t text) (sym named.1) (record { objects = os; names = names; are = are; error = e; cause = cause; spelled = named.2 })
objects_none ms os e s text names are why (inr memory) = objects_memory ms s text memory.1 memory.2

pub objects_uncoded : (ms : List Member) (e : BundleError) (first : Status) (s : BinaryStatus) (text : List ℕ) → HasNoCodes ms e → IsBundleRefusal e first text → s ≡ Shared first → IsObjectsReply ms s text
objects_uncoded ms e first s text none (inl refusal) is =
    subst (λ t. IsObjectsReply ms t text) (sym (is ∙ ap Shared refusal.1)) (record { error = e; named = refusal.0; cause = none; spelled = refusal.2 })
objects_uncoded ms e first s text none (inr memory) is = objects_memory ms s text (is ∙ ap Shared memory.0) memory.1

-- ---- answers

-- the reply to the only functions whose text the input is
pub objects_answer : (input : List ℕ) (fs : List NamedJob) (ms : List Member) (s : BinaryStatus) (text : List ℕ) → AreFunctionsOf input fs → ms ≡ map member_of fs → IsObjectsReply ms s text → IsObjectsAnswer input s text
objects_answer input fs ms Differs text are is reply = absurd reply
objects_answer input fs ms ObjectRefused text are is reply = record { functions = fs; are = are; reply = subst (λ l. IsObjectsReply l ObjectRefused text) is reply }
objects_answer input fs ms (Shared status.Ok) text are is reply = record { functions = fs; are = are; reply = subst (λ l. IsObjectsReply l (Shared status.Ok) text) is reply }
objects_answer input fs ms (Shared status.BundleRefused) text are is reply =
    record { functions = fs; are = are; reply = subst (λ l. IsObjectsReply l (Shared status.BundleRefused) text) is reply }
objects_answer input fs ms (Shared status.NoMemory) text are is reply = reply
objects_answer input fs ms (Shared s) text are is reply = absurd reply

-- ---- functions with the same lines

same_object : (f g : NamedJob) (o : ObjectMember) → (code : IsEmitted (member_of f) o.code → IsEmitted (member_of g) o.code) → f.name ≡ g.name → IsObjectMember (member_of f) o → IsObjectMember (member_of g) o
same_object f g o code name h = record { named = h.named ∙ ap symbol_name name; emitted = code h.emitted }

-- the codes of one are those of the other
pub same_objects : (fs gs : List NamedJob) (os : List ObjectMember) → AreFunctions fs → AreFunctions gs → SameFunctions fs gs → AreObjectMembers (members fs) os → AreObjectMembers (members gs) os
same_objects [] [] os a b same h = h
same_objects (f ∷ fs) (g ∷ gs) [] a b same h = absurd h
same_objects (f ∷ fs) (g ∷ gs) (o ∷ os) a b same h =
    (same_object f g o (λ is. member_emitted g o.code (same_code f.job g.job o.code a.1 b.1 same.1 (code_of_job f o.code is))) same.0 h.0, same_objects fs gs os a.2 b.2 same.2 h.1)
same_objects fs gs os a b same h = absurd same

-- members without a name that comes twice, none of which emission refuses, have codes
pub coded : (ms : List Member) (e : BundleError) → duplicate_of ms ≡ None → first_refused ms ≡ None → e ≢ cause.NoMemory → HasNoCodes ms e → ⊥
coded ms (cause.DuplicateName name) names valid named none = let clash = sym names ∙ none in cc
coded ms (cause.Emit name error) names valid named none = let clash = sym valid ∙ none.1 in cc
coded ms cause.NoMemory names valid named none = named refl
coded ms e names valid named none = none

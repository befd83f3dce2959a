-- From an answer to the reply, and what follows from it and how it was written.
use Rattle.std.proofs.Common.{◌≡◌, ℕ, ◌<◌, ◌⊎◌, inl, inr, List, refl, sym, ◌∙◌, subst, arith}
use Rattle.std.specs.Prelude.{Option}
use Rattle.s390x_tool.specs.Causes.{FaultCountRose}
use Rattle.s390x_tool.specs.Ends.{IsTooLong}
use Rattle.s390x_tool.specs.Replies.{CallContext}
use Rattle.s390x_tool.specs.declared.status.Status.TheVariants as status
use Rattle.s390x_binary_tool.specs.Words.{IsNoForm}
use Rattle.s390x_binary_tool.specs.Replies.{IsDelivered, IsDone, IsReply}
use Rattle.s390x_binary_tool.specs.declared.status.BinaryStatus.{BinaryStatus}
use Rattle.s390x_binary_tool.specs.declared.status.BinaryStatus.TheVariants.{Shared}

-- ---- what follows from it

-- where the words are no command the reply is that
usage_reply : (f : CallContext) (s : BinaryStatus) (text : List ℕ) → IsNoForm f.words → IsReply f s text → s ≡ Shared status.Usage
usage_reply f (Shared status.Usage) text none reply = refl
usage_reply f (Shared status.ReadFault) text none reply = absurd (none reply.0.command reply.0.form)
usage_reply f (Shared status.InputTooLong) text none reply = absurd (none reply.0.command reply.0.form)
usage_reply f (Shared status.NoMemory) text none reply = absurd (none reply.0.command reply.0.form)
usage_reply f (Shared status.WriteFault) text none reply = absurd reply
usage_reply f s text none reply = absurd (none reply.command reply.form)

-- where the count of faults has risen, the reply says so
fault_reply : (f : CallContext) (s : BinaryStatus) (text : List ℕ) → f.faults < f.faults' → IsReply f s text → s ≡ Shared status.ReadFault
fault_reply f (Shared status.ReadFault) text rose reply = refl
fault_reply f (Shared status.Usage) text rose reply = absurd (omega (arith, rose, reply.0.same))
fault_reply f (Shared status.InputTooLong) text rose reply = absurd (omega (arith, rose, reply.0.same))
fault_reply f (Shared status.NoMemory) text rose reply = absurd (omega (arith, rose, reply.0.same))
fault_reply f (Shared status.WriteFault) text rose reply = absurd reply
fault_reply f s text rose reply = absurd (omega (arith, rose, reply.same))

-- a delivered status is the reply's or tells of a failed write
delivered_status : (told told' : Option (List ℕ)) (faults faults' : ℕ) (s : BinaryStatus) (text : List ℕ) (result : BinaryStatus)
    → IsDelivered told told' faults faults' s text result → (result ≡ s) ⊎ (result ≡ Shared status.WriteFault)
delivered_status told told' faults faults' s text result (inl whole) = inl whole.0
delivered_status told told' faults faults' s text result (inr part) = inr part.0

-- the reply with a status that tells of no failed write
replied : (f : CallContext) (told told' : Option (List ℕ)) (faults faults' : ℕ) (s : BinaryStatus) (text : List ℕ) (result wanted : BinaryStatus)
    → IsReply f s text → IsDelivered told told' faults faults' s text result → (Shared status.WriteFault ≡ wanted → ⊥) → result ≡ wanted → IsReply f wanted text
replied f told told' faults faults' s text result wanted reply (inl whole) other is = subst (λ t. IsReply f t text) (sym whole.0 ∙ is) reply
replied f told told' faults faults' s text result wanted reply (inr part) other is = absurd (other (sym part.0 ∙ is))

pub always_usage : (f : CallContext) (told told' : Option (List ℕ)) (faults faults' : ℕ) (s : BinaryStatus) (text : List ℕ) (result : BinaryStatus)
    → IsReply f s text → IsDelivered told told' faults faults' s text result → IsNoForm f.words → (result ≡ Shared status.Usage) ⊎ (result ≡ Shared status.WriteFault)
always_usage f told told' faults faults' s text result reply delivered none =
    subst (λ t. (result ≡ t) ⊎ (result ≡ Shared status.WriteFault)) (usage_reply f s text none reply) (delivered_status told told' faults faults' s text result delivered)

pub always_read_fault : (f : CallContext) (told told' : Option (List ℕ)) (faults faults' : ℕ) (s : BinaryStatus) (text : List ℕ) (result : BinaryStatus)
    → IsReply f s text → IsDelivered told told' faults faults' s text result → f.faults < f.faults' → (result ≡ Shared status.ReadFault) ⊎ (result ≡ Shared status.WriteFault)
always_read_fault f told told' faults faults' s text result reply delivered rose =
    subst (λ t. (result ≡ t) ⊎ (result ≡ Shared status.WriteFault)) (fault_reply f s text rose reply) (delivered_status told told' faults faults' s text result delivered)

pub usage_of : (f : CallContext) (told told' : Option (List ℕ)) (faults faults' : ℕ) (s : BinaryStatus) (text : List ℕ) (result : BinaryStatus)
    → IsReply f s text → IsDelivered told told' faults faults' s text result → result ≡ Shared status.Usage → IsNoForm f.words
usage_of f told told' faults faults' s text result reply delivered is = (replied f told told' faults faults' s text result (Shared status.Usage) reply delivered (λ clash. cc) is).0.none

pub read_fault_of : (f : CallContext) (told told' : Option (List ℕ)) (faults faults' : ℕ) (s : BinaryStatus) (text : List ℕ) (result : BinaryStatus)
    → IsReply f s text → IsDelivered told told' faults faults' s text result → result ≡ Shared status.ReadFault → FaultCountRose f.faults f.faults'
read_fault_of f told told' faults faults' s text result reply delivered is = (replied f told told' faults faults' s text result (Shared status.ReadFault) reply delivered (λ clash. cc) is).0.rose

pub too_long_of : (f : CallContext) (told told' : Option (List ℕ)) (faults faults' : ℕ) (s : BinaryStatus) (text : List ℕ) (result : BinaryStatus)
    → IsReply f s text → IsDelivered told told' faults faults' s text result → result ≡ Shared status.InputTooLong → IsTooLong f.left f.left'
too_long_of f told told' faults faults' s text result reply delivered is = (replied f told told' faults faults' s text result (Shared status.InputTooLong) reply delivered (λ clash. cc) is).0.long

pub write_fault_of : (f : CallContext) (told told' : Option (List ℕ)) (faults faults' : ℕ) (s : BinaryStatus) (text : List ℕ) (result : BinaryStatus)
    → IsReply f s text → IsDelivered told told' faults faults' s text result → result ≡ Shared status.WriteFault → FaultCountRose faults faults'
write_fault_of f told told' faults faults' s text result reply (inl whole) is = let none : IsReply f (Shared status.WriteFault) text = subst (λ t. IsReply f t text) (sym whole.0 ∙ is) reply in absurd none
write_fault_of f told told' faults faults' s text result reply (inr part) is = part.2

pub always_write_fault : (told told' : Option (List ℕ)) (faults faults' : ℕ) (s : BinaryStatus) (text : List ℕ) (result : BinaryStatus)
    → IsDelivered told told' faults faults' s text result → faults < faults' → result ≡ Shared status.WriteFault
always_write_fault told told' faults faults' s text result (inl whole) rose = absurd (omega (arith, rose, whole.2))
always_write_fault told told' faults faults' s text result (inr part) rose = part.0

-- at `Ok` all was done
pub done : (f : CallContext) (told told' : Option (List ℕ)) (faults faults' : ℕ) (s : BinaryStatus) (text : List ℕ) (result : BinaryStatus)
    → IsReply f s text → IsDelivered told told' faults faults' s text result → result ≡ Shared status.Ok → IsDone f told told'
done f told told' faults faults' s text result reply (inl whole) is =
    record { text = text; reply = subst (λ t. IsReply f t text) (sym whole.0 ∙ is) reply; appended = whole.1 }
done f told told' faults faults' s text result reply (inr part) is = absurd cc

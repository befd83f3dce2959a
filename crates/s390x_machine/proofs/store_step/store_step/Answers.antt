use Rattle.std.proofs.Common.{◌≡◌, ℕ, Bool, true, false, if◌then◌else◌, Some, refl, sym, ap, ap₂, ◌∙◌}
use Rattle.std.specs.Prelude.{slice_index}
use Rattle.s390x_operations.specs.Access.{store_event_at}
use Rattle.s390x_operations.specs.Bits.{bytes}
use Rattle.s390x_operations.specs.State.{Memory, after_store, bytes_to, reaches, wrapping_add64, write_get}
use Rattle.s390x_operations.specs.Values.{in_byte_order}
use Rattle.s390x_operations.specs.declared.stop.StopKind.TheVariants.{Access}
use Rattle.s390x_machine.specs.Semantics.{source}
use Rattle.s390x_machine.specs.State.{state_of, memory_of}
use Rattle.s390x_format.specs.declared.semantics.RowSemantics.TheVariants.{Store}
use Rattle.s390x_machine.specs.declared.step.StepEnd.TheVariants.{Stopped, Went}
use Rattle.s390x_machine.proofs.Stepping.{executed}
use Rattle.s390x_machine.proofs.ValueSteps.{not_stored, stored_there}
use Rattle.s390x_machine.proofs.store_step.store_step.Goals as goal

pub returns-then-not-put_reached : goal.returns-then-not-put_reached
returns-then-not-put_reached g c =
    let held = g.M.Memory.held c.args.memory.now in
    let byte = g.M.Memory.byte c.args.memory.now in
    let s = state_of c.args.machine.now held byte in
    let t = state_of c.args.machine.now (g.M.Memory.held c.put_reached.new.self) (g.M.Memory.byte c.put_reached.new.self) in
    let d = c.args.decoded.now in
    let width = c.args.second.width in
    let a = c.args.address in
    let destination = source c.args.second.operand_source d.fields s.core.registers s.address in
    let value = in_byte_order c.args.second.reversed width (s.core.registers.general (slice_index d.fields.regs 0)) in
    let missing : reaches held a (bytes width) ≡ false = sym (sym c.if-not-put_reached.true ∙ c.put_reached.ensures.reached ∙ ap (λ (n : ℕ). reaches held a n) c.bytes.ensures.value) in
    let stays : g.M.Memory.byte c.put_reached.new.self ≡ byte =
    c.put_reached.ensures.written ∙ ap (λ (r : Bool). if r then write_get (bytes_to a c.bytes.result c.in_byte_order-value.result) byte else byte) c.if-not-put_reached.true in
    let same : t ≡ s = ap₂ (λ (h : ℕ → Bool) (b : ℕ → ℕ). state_of c.args.machine.now h b) c.put_reached.ensures.same stays in
    executed s d (Store c.args.second) (Stopped Access s.address) t c.requires.found c.requires.is refl refl
    ((not_stored destination width value a held c.requires.there missing, same), refl)

pub returns : goal.returns
returns g c =
    let held = g.M.Memory.held c.args.memory.now in
    let byte = g.M.Memory.byte c.args.memory.now in
    let s = state_of c.args.machine.now held byte in
    let d = c.args.decoded.now in
    let width = c.args.second.width in
    let a = c.args.address in
    let destination = source c.args.second.operand_source d.fields s.core.registers s.address in
    let x = in_byte_order c.args.second.reversed width (s.core.registers.general (slice_index d.fields.regs 0)) in
    let reached : reaches held a (bytes width) ≡ true = sym (sym c.if-not-put_reached.false ∙ c.put_reached.ensures.reached ∙ ap (λ (n : ℕ). reaches held a n) c.bytes.ensures.value) in
    let value : c.in_byte_order-value.result ≡ x = c.in_byte_order-value.ensures ∙ ap (λ (y : ℕ). in_byte_order c.args.second.reversed width y) c.general-register.ensures in
    let written : g.M.Memory.byte c.put_reached.new.self ≡ write_get (bytes_to a (bytes width) x) byte =
    c.put_reached.ensures.written
    ∙ ap (λ (r : Bool). if r then write_get (bytes_to a c.bytes.result c.in_byte_order-value.result) byte else byte) c.if-not-put_reached.false
    ∙ ap₂ (λ (n v : ℕ). write_get (bytes_to a n v) byte) c.bytes.ensures.value value in
    let m : Memory = memory_of (g.M.Memory.held c.put_reached.new.self) (g.M.Memory.byte c.put_reached.new.self) in
    let after : m ≡ after_store (store_event_at a (bytes width) (Some x)) s.core.memory = ap₂ (λ (h : ℕ → Bool) (b : ℕ → ℕ). memory_of h b) c.put_reached.ensures.same written in
    let goes = stored_there destination width x a s.core m c.requires.there reached after in
    executed s d (Store c.args.second) Went _ c.requires.found c.requires.is refl refl ((goes, ap (λ (n : ℕ). wrapping_add64 s.address n) c.length.ensures, refl), λ h. h)

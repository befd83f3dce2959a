use Rattle.std.proofs.Common.{◌≡◌, ℕ, Bool, true, false, if◌then◌else◌, refl, sym, ap, ap₂, ◌∙◌}
use Rattle.s390x_operations.specs.Access.{Stores, store_event}
use Rattle.s390x_operations.specs.State.{Memory, after_store, bytes_to, reaches, wrapping_add64, write_get}
use Rattle.s390x_operations.specs.Vectors.{layout_bytes, vector_stored}
use Rattle.s390x_operations.specs.declared.effect.VectorLayout.{VectorLayout}
use Rattle.s390x_operations.specs.declared.stop.StopKind.TheVariants.{Access}
use Rattle.s390x_machine.specs.Semantics.{indexed_address, vector_field, vector_layout_of}
use Rattle.s390x_machine.specs.State.{memory_of, state_of}
use Rattle.s390x_format.specs.declared.semantics.RowSemantics.TheVariants.{StoreVector}
use Rattle.s390x_machine.specs.declared.step.StepEnd.TheVariants.{Stopped, Went}
use Rattle.s390x_machine.proofs.Stepping.{executed}
use Rattle.s390x_machine.proofs.VectorAccess.{store_stops, vector_kept}
use Rattle.s390x_machine.proofs.vector_step.vector_store_step.Goals as goal

pub returns-then-not-put_reached : goal.returns-then-not-put_reached
returns-then-not-put_reached g c =
    let held = g.M.Memory.held c.args.memory.now in
    let byte = g.M.Memory.byte c.args.memory.now in
    let s = state_of c.args.machine.now held byte in
    let t = state_of c.args.machine.now (g.M.Memory.held c.put_reached.new.self) (g.M.Memory.byte c.put_reached.new.self) in
    let d = c.args.decoded.now in
    let layout = vector_layout_of c.args.storage d.fields in
    let address = indexed_address d.fields s.core.registers in
    let count : c.layout_bytes.result ≡ layout_bytes layout = c.layout_bytes.ensures.value ∙ ap (λ (l : VectorLayout). layout_bytes l) c.layout_of-layout.ensures in
    let missing : reaches held address (layout_bytes layout) ≡ false = sym (sym c.if-not-put_reached.true ∙ c.put_reached.ensures.reached ∙ ap₂ (λ (a n : ℕ). reaches held a n) c.indexed_address-address.ensures count) in
    let stays : g.M.Memory.byte c.put_reached.new.self ≡ byte =
    c.put_reached.ensures.written ∙ ap (λ (r : Bool). if r then write_get (bytes_to c.indexed_address-address.result c.layout_bytes.result c.vector_stored-value.result) byte else byte) c.if-not-put_reached.true in
    let same : t ≡ s = ap₂ (λ (h : ℕ → Bool) (b : ℕ → ℕ). state_of c.args.machine.now h b) c.put_reached.ensures.same stays in
    executed s d (StoreVector c.args.storage) (Stopped Access s.address) t c.requires.found c.requires.is refl refl
    ((store_stops layout (vector_field d.fields s.core.registers 0) address held missing, same), refl)

pub returns : goal.returns
returns g c =
    let held = g.M.Memory.held c.args.memory.now in
    let byte = g.M.Memory.byte c.args.memory.now in
    let s = state_of c.args.machine.now held byte in
    let d = c.args.decoded.now in
    let layout = vector_layout_of c.args.storage d.fields in
    let x = vector_field d.fields s.core.registers 0 in
    let address = indexed_address d.fields s.core.registers in
    let count : c.layout_bytes.result ≡ layout_bytes layout = c.layout_bytes.ensures.value ∙ ap (λ (l : VectorLayout). layout_bytes l) c.layout_of-layout.ensures in
    let reached : reaches held address (layout_bytes layout) ≡ true = sym (sym c.if-not-put_reached.false ∙ c.put_reached.ensures.reached ∙ ap₂ (λ (a n : ℕ). reaches held a n) c.indexed_address-address.ensures count) in
    let value : c.vector_stored-value.result ≡ vector_stored layout x =
    c.vector_stored-value.ensures ∙ ap (λ (l : VectorLayout). vector_stored l c.vector.result) c.layout_of-layout.ensures ∙ ap (λ (y : ℕ). vector_stored layout y) c.vector.ensures in
    let written : g.M.Memory.byte c.put_reached.new.self ≡ write_get (bytes_to address (layout_bytes layout) (vector_stored layout x)) byte =
    c.put_reached.ensures.written
    ∙ ap (λ (r : Bool). if r then write_get (bytes_to c.indexed_address-address.result c.layout_bytes.result c.vector_stored-value.result) byte else byte) c.if-not-put_reached.false
    ∙ ap₂ (λ (a n : ℕ). write_get (bytes_to a n c.vector_stored-value.result) byte) c.indexed_address-address.ensures count
    ∙ ap (λ (v : ℕ). write_get (bytes_to address (layout_bytes layout) v) byte) value in
    let m : Memory = memory_of (g.M.Memory.held c.put_reached.new.self) (g.M.Memory.byte c.put_reached.new.self) in
    let after : m ≡ after_store (store_event (Stores false address (layout_bytes layout) (vector_stored layout x)) s.core.memory) s.core.memory =
    ap₂ (λ (h : ℕ → Bool) (b : ℕ → ℕ). memory_of h b) c.put_reached.ensures.same written in
    let goes = vector_kept layout x address s.core m reached after in
    executed s d (StoreVector c.args.storage) Went _ c.requires.found c.requires.is refl refl ((goes, ap (λ (n : ℕ). wrapping_add64 s.address n) c.length.ensures, refl), λ h. h)

-- A load or a store of a vector register is the row's operation.
use Rattle.std.proofs.Common.{◌≡◌, ℕ, ◌^◌, ◌<◌, Bool, true, false, if◌then◌else◌, Option, None, Some, inl, refl, sym, ap, ◌∙◌}
use Rattle.s390x_operations.specs.State.{Core, Memory, Registers, after_store, number_at, reaches, set_vector, with_code}
use Rattle.s390x_operations.specs.Access.{Stores, store_event}
use Rattle.s390x_operations.specs.Effects.{MayExecute, MayInterrupt}
use Rattle.s390x_operations.specs.Vectors.{layout_bytes, register_after_load, vector_stored}
use Rattle.s390x_operations.specs.declared.effect.Effect.TheVariants.{LoadVector, StoreVector}
use Rattle.s390x_operations.specs.declared.effect.CodeRule.TheVariants.{Kept}
use Rattle.s390x_operations.specs.declared.effect.VectorLayout.{VectorLayout}
use Rattle.s390x_operations.specs.declared.stop.ConditionCode.{ConditionCode}
use Rattle.s390x_operations.specs.declared.stop.StopKind.{StopKind}
use Rattle.s390x_operations.specs.declared.stop.StopKind.TheVariants.{Access as AccessStop}

-- the fault of bytes that needn't be aligned
abbrev fault_where : Bool → Option StopKind
fault_where reached = if reached then None else Some AccessStop

pub vector_loaded : (layout : VectorLayout) (target old known address : ℕ) (c : Core) (r : Registers) → reaches c.memory.has address (layout_bytes layout) ≡ true →
    register_after_load layout old (number_at c.memory.get address (layout_bytes layout)) < 2 ^ 128 → r ≡ set_vector c.registers target (register_after_load layout old (number_at c.memory.get address (layout_bytes layout))) →
    MayExecute (record { effect = LoadVector layout target old known address; rule = Kept }) c (record { registers = r; memory = c.memory })
vector_loaded layout target old known address c r reached small e =
    let y = register_after_load layout old (number_at c.memory.get address (layout_bytes layout)) in
    let code : r.code ≡ c.registers.code = ap (λ (q : Registers). q.code) e in
    record {
      reached = ap fault_where reached;
      allowed = refl;
      results = (y, small, refl, e ∙ ap (λ (k : ConditionCode). with_code k (set_vector c.registers target y)) (sym code));
      code = code;
      memory = refl;
    }

pub vector_kept : (layout : VectorLayout) (x address : ℕ) (c : Core) (m : Memory) → reaches c.memory.has address (layout_bytes layout) ≡ true →
    m ≡ after_store (store_event (Stores false address (layout_bytes layout) (vector_stored layout x)) c.memory) c.memory →
    MayExecute (record { effect = StoreVector layout x address; rule = Kept }) c (record { registers = c.registers; memory = m })
vector_kept layout x address c m reached e = record { reached = ap fault_where reached; allowed = refl; results = refl; code = refl; memory = e }

pub load_stops : (layout : VectorLayout) (target old known address : ℕ) (has : ℕ → Bool) → reaches has address (layout_bytes layout) ≡ false → MayInterrupt (record { effect = LoadVector layout target old known address; rule = Kept }) has AccessStop
load_stops layout target old known address has missing = inl (ap fault_where missing)

pub store_stops : (layout : VectorLayout) (x address : ℕ) (has : ℕ → Bool) → reaches has address (layout_bytes layout) ≡ false → MayInterrupt (record { effect = StoreVector layout x address; rule = Kept }) has AccessStop
store_stops layout x address has missing = inl (ap fault_where missing)

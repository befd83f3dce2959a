-- An operation goes or stops, where what it computes or leaves free has a value.
use Rattle.std.proofs.Common.{◌≡◌, ℕ, ◌^◌, ◌<◌, inl, inr, Bool, true, false, cond, Option, None, Some, refl, ap, subst, sym, ◌∙◌, arith, bit_and}
use Rattle.std.proofs.Math.Pow.{pow_pos}
use Rattle.std.proofs.lemmas.Nat.{and_assoc, and_le_r}
use Rattle.std.specs.Int.Bits.{and_self}
use Rattle.s390x_lanes.specs.Relation.{Gives, divides_by_zero, code_of as vector_code_of}
use Rattle.s390x_lanes.specs.Results.{vector_result}
use Rattle.s390x_operations.specs.State.{Registers, Core, with_code, set_general, set_vector, number_at, after_store}
use Rattle.s390x_operations.specs.Access.{fault, store_event}
use Rattle.s390x_operations.specs.Vectors.{register_after_load, layout_bytes}
use Rattle.s390x_operations.specs.Effects.{access, stop_of_effect, results, Results, effect_code, CodeAfter, MayExecute, MayInterrupt}
use Rattle.s390x_operations.specs.declared.stop.ConditionCode.{ConditionCode}
use Rattle.s390x_operations.specs.declared.stop.ConditionCode.TheVariants.{Code0}
use Rattle.s390x_operations.specs.declared.stop.StopKind.{StopKind}
use Rattle.s390x_operations.specs.declared.stop.StopKind.TheVariants.{Divide as DivideStop}
use Rattle.s390x_operations.specs.declared.effect.Effect.{Effect}
use Rattle.s390x_operations.specs.declared.effect.Effect.TheVariants.{Nothing, Havoc, ComputeVector, PutVector, LoadVector}
use Rattle.s390x_operations.specs.declared.effect.CodeRule.{CodeRule}
use Rattle.s390x_operations.specs.declared.effect.CodeRule.TheVariants.{Kept, Set, Unspecified}
use Rattle.s390x_operations.specs.declared.effect.Operation.{Operation}

-- a vector operation has a result of 128 bits, and so have the bits that are known of a vector register
abbrev pub HasValue : Effect → Type 0
HasValue (ComputeVector operation target first second third fourth) = vector_result operation first second third fourth < 2 ^ 128
HasValue (PutVector target known x) = known < 2 ^ 128
HasValue (LoadVector layout target old known address) = known < 2 ^ 128
HasValue _ = Unit {0}

masked_twice : (x known : ℕ) → bit_and (bit_and x known) known ≡ bit_and x known
masked_twice x known = and_assoc known x known ∙ ap (λ (n : ℕ). bit_and x n) (and_self known)

masked_lt : (x known : ℕ) → known < 2 ^ 128 → bit_and x known < 2 ^ 128
masked_lt x known h = omega (arith, and_le_r x known)

not_refused : (b : Bool) → cond b (Some DivideStop) None ≡ None → b ≡ false
not_refused true e = cc
not_refused false e = refl

-- registers after it, with this code
pub record Ends (effect : Effect) (c : Core) (code : ConditionCode) : Type 0 where
  pub registers : Registers
  pub results : Results effect c registers
  pub code_is : registers.code ≡ code

ends : (effect : Effect) (c : Core) (code : ConditionCode) → HasValue effect → stop_of_effect effect ≡ None → Ends effect c code
ends (Havoc target) c code h e = record { registers = with_code code (set_general c.registers target 0); results = (0, pow_pos 64, refl); code_is = refl }
ends (ComputeVector operation target first second third fourth) c code h e =
    let x = vector_result operation first second third fourth in
    let gives : Gives operation first second third fourth x (vector_code_of operation first second third) = record { no_zero_divisor = not_refused (divides_by_zero operation third) e; result = λ determined. refl; fits = h; code_set = refl } in
    record { registers = with_code code (set_vector c.registers target x); results = (x, gives, refl); code_is = refl }
ends (PutVector target known x) c code h e =
    record { registers = with_code code (set_vector c.registers target (bit_and x known)); results = (bit_and x known, masked_lt x known h, masked_twice x known, refl); code_is = refl }
ends (LoadVector layout target old known address) c code h e =
    let x = register_after_load layout old (number_at c.memory.get address (layout_bytes layout)) in
    record { registers = with_code code (set_vector c.registers target (bit_and x known)); results = (bit_and x known, masked_lt x known h, masked_twice x known, refl); code_is = refl }
ends Nothing c code h e = record { registers = with_code code (results Nothing c); results = refl; code_is = refl }
ends effect c code h e = record { registers = with_code code (results effect c); results = refl; code_is = refl }

-- a code that the rule allows
abbrev allowed_code : CodeRule → Effect → Core → ConditionCode
allowed_code Kept effect c = c.registers.code
allowed_code Set effect c = effect_code effect c
allowed_code Unspecified effect c = Code0

code_allowed : (rule : CodeRule) (effect : Effect) (c : Core) → CodeAfter rule effect c (allowed_code rule effect c)
code_allowed Kept effect c = refl
code_allowed Set effect c = refl
code_allowed Unspecified effect c = tt

-- what an operation may do
pub data Does (op : Operation) (c : Core) : Type 0 where
  Goes : (t : Core) → MayExecute op c t → Does op c
  Stops : (kind : StopKind) → MayInterrupt op c.memory.has kind → Does op c

goes : (op : Operation) (c : Core) → HasValue op.effect → fault (access op.effect) c.memory.has ≡ None → stop_of_effect op.effect ≡ None → Does op c
goes op c h reached allowed =
    let end = ends op.effect c (allowed_code op.rule op.effect c) h allowed in
    Goes (record { registers = end.registers; memory = after_store (store_event (access op.effect) c.memory) c.memory })
    (record {
      reached = reached;
      allowed = allowed;
      results = end.results;
      code = subst (λ (code : ConditionCode). CodeAfter op.rule op.effect c code) (sym end.code_is) (code_allowed op.rule op.effect c);
      memory = refl;
    })

pub operation_does : (op : Operation) (c : Core) → HasValue op.effect → Does op c
operation_does op c h = by_fault (fault (access op.effect) c.memory.has) refl
  where
    by_values : fault (access op.effect) c.memory.has ≡ None → (stop : Option StopKind) → stop_of_effect op.effect ≡ stop → Does op c
    by_values reached None e = goes op c h reached e
    by_values reached (Some kind) e = Stops kind (inr (reached, inl e))

    by_fault : (stop : Option StopKind) → fault (access op.effect) c.memory.has ≡ stop → Does op c
    by_fault None e = by_values e (stop_of_effect op.effect) refl
    by_fault (Some kind) e = Stops kind (inl e)

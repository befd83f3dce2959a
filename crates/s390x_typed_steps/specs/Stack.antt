-- The stack sizes along the instructions of a block (cranelift-codegen, `emit.rs`).
use Rattle.std.specs.Prelude.{ℕ, ◌+◌, ◌-◌, cond, None}
use Rattle.s390x_inst.specs.Emission.{Emission}
use Rattle.s390x_inst.specs.declared.inst.Inst.{Inst, Row_of-Inst, end_of-Inst, more_of-Inst}
use Rattle.s390x_inst.specs.declared.inst.Inst.TheVariants.{AllocateArgs, Call, Loop'}

-- the nominal size behind an instruction: `AllocateArgs` adds its size, and a call takes off what its callee takes. A `Loop` leaves it, since no instruction in
-- one may change it
abbrev pub nominal_after : (nominal : ℕ) → Inst → ℕ
nominal_after nominal (AllocateArgs size) = nominal + size
nominal_after nominal (Call link info) = nominal - info.callee_pop_size
nominal_after nominal _ = nominal

abbrev mutual
  -- the outgoing size behind an instruction: none behind a call that loads its results, also inside a `Loop`
  pub outgoing_after : (outgoing : ℕ) → Inst → ℕ
  outgoing_after outgoing (Call link info) = cond info.patchable outgoing 0
  outgoing_after outgoing (Loop' mask body all) = outgoing_behind outgoing all
  outgoing_after outgoing _ = outgoing

  -- the outgoing size behind the members of a loop
  pub outgoing_behind : (outgoing : ℕ) → {m : _} → Row_of-Inst m → ℕ
  outgoing_behind outgoing end_of-Inst = outgoing
  outgoing_behind outgoing (more_of-Inst i rest) = outgoing_behind (outgoing_after outgoing i) rest

-- the state of emission behind an instruction, which has no stack map
abbrev pub state_after : Emission → Inst → Emission
state_after e i = record e { nominal = nominal_after e.nominal i; outgoing = outgoing_after e.outgoing i; stack_map = None }

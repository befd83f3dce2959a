-- The state of emission, as contracts see it.
use Rattle.std.specs.Prelude.{ℕ, Option}
use Rattle.s390x_inst.specs.declared.state.FrameLayout.{FrameLayout}

-- the stack sizes in bytes, the stack map of the next safepoint, and the layout of the frame
pub record Emission : Type 0 where
  pub nominal : ℕ
  pub outgoing : ℕ
  pub incoming : ℕ
  pub stack_map : Option ℕ
  pub layout : FrameLayout

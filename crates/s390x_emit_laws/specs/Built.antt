-- A typed step that is built: it is told what it does, and it has machine instructions for that.
use Rattle.std.specs.Prelude.{◌≡◌}
use Rattle.s390x_typed_steps.specs.StepBody.{NothingLeft}
use Rattle.s390x_typed_steps.specs.Steps.{Step, Shortened}
use Rattle.s390x_typed_steps.specs.Parts.{step_size}
use Rattle.s390x_machine.specs.Layout.{Layout}
use Rattle.s390x_machine.specs.StepKinds.{Unsupported, Silent, step_kind}

-- a step that needs no bytes: it does nothing, or the end of its block has left all its branches away
abbrev pub NeedsNoBytes : Layout → Step → Type 0
NeedsNoBytes L (Shortened NothingLeft i) = Unit {0}
NeedsNoBytes L s = step_kind L s ≡ Silent

-- it is none of those that emission refuses, and it has bytes, unless it needs none
pub record IsBuilt (L : Layout) (s : Step) : Type 0 where
  pub told : step_kind L s ≡ Unsupported → ⊥
  pub bytes : step_size s ≡ 0 → NeedsNoBytes L s

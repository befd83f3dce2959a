-- The branch of a loop is one transition.
use Rattle.std.proofs.Common.{◌≡◌, ℕ, suc, ◌+◌, ◌<◌, ◌≤◌, List, [], ◌∷◌, length, Some, None, Bool, true, false, cond, if◌then◌else◌, refl, sym, ap, ◌∙◌, subst, arith}
use Rattle.s390x_format.specs.Formats.{length_of}
use Rattle.s390x_typed_steps.specs.Parts.{ToStep, Branch as BranchPart, step_parts}
use Rattle.s390x_typed_steps.specs.Steps.{Step}
use Rattle.s390x_operations.specs.State.{Core, core_after_writes, wrapping_add64, IsLoaded}
use Rattle.s390x_operations.specs.Effects.{is_selected}
use Rattle.s390x_machine.specs.declared.action_type.Action.TheVariants.{Branch}
use Rattle.s390x_machine.specs.Layout.{Layout, step_address, InStep}
use Rattle.s390x_machine.specs.Machine.{Executed, Transition, Run, all_writes}
use Rattle.s390x_machine.specs.Match.{start}
use Rattle.s390x_machine.specs.StepKinds.{Leads}
use Rattle.s390x_machine.specs.Typed.{At, KindStep, TypedStep, kind_at, kind_of_step}
use Rattle.s390x_machine.proofs.Built.{StepAt, step_even, step_small, step_form, stand_as, size_as}
use Rattle.s390x_machine.proofs.Rows.{brcl_at}
use Rattle.s390x_machine.proofs.Simulation.{RowAt, mid, at_start, turned, branch_executes}
use Rattle.s390x_machine.proofs.Standing.{inside_first, next_place}

-- nothing yet, or one transition that goes to the one step or the other
pub data Branched (L : Layout) (k mask j : ℕ) (c : Core) (trace : List Transition) : Type 0 where
  none_yet : trace ≡ [] → Branched L k mask j c trace
  one_transition : (t : Transition) (rest : List Transition) → trace ≡ t ∷ rest → t.event ≡ Executed None → t.after ≡ start L (if is_selected mask c.registers.code then j else suc k) (core_after_writes (all_writes (t ∷ [])) c) → IsLoaded L.image (core_after_writes (all_writes (t ∷ [])) c).memory →
      TypedStep L k (core_after_writes (all_writes (t ∷ [])) c) (if is_selected mask c.registers.code then At j else At (suc k)) (core_after_writes (all_writes (t ∷ [])) c) → Branched L k mask j c trace

branch_address : (L : Layout) (k j size : ℕ) (taken : Bool) → wrapping_add64 (step_address L k) size ≡ step_address L (suc k) → cond taken (step_address L j) (wrapping_add64 (step_address L k) size) ≡ step_address L (cond taken j (suc k))
branch_address L k j size true next = refl
branch_address L k j size false next = next

branched : (L : Layout) (k mask j size : ℕ) → kind_at L k ≡ Some (Leads mask j) → RowAt L (step_address L k) (λ r. Branch mask (step_address L j)) size → wrapping_add64 (step_address L k) size ≡ step_address L (suc k) → InStep L k (step_address L k) → (c : Core) → IsLoaded L.image c.memory → (trace : List Transition) → Run L.image (start L k c) trace → Branched L k mask j c trace
branched L k mask j size is row next here c is_loaded [] run = none_yet refl
branched L k mask j size is row next here c is_loaded (t ∷ rest) run =
    let p = step_address L k in
    let taken = is_selected mask c.registers.code in
    let y = core_after_writes (all_writes (t ∷ [])) c in
    let u = turned L k c [] c.registers p (λ r. Branch mask (step_address L j)) size t (at_start L k c here is_loaded) row run.0 in
    let m = branch_executes c c.registers (all_writes (t ∷ [])) p mask (step_address L j) size t.event t.after u.acts in
    one_transition t rest refl m.0 (m.1 ∙ ap (λ q. mid c c.registers (all_writes (t ∷ [])) q) (branch_address L k j size taken next)) u.is_loaded
    (subst (λ f. KindStep L f k y (cond taken (At j) (At (suc k))) y) (sym is) (refl, refl))

-- the back branch of a loop, or a break
pub loop_branched : {L : Layout} {k : ℕ} {s : Step} (x : StepAt L k s) (mask j : ℕ) → kind_of_step L (Some s) ≡ Some (Leads mask j) → step_parts s ≡ BranchPart mask (ToStep j) ∷ [] → mask < 16 → j ≤ length L.steps → (c : Core) → IsLoaded L.image c.memory → (trace : List Transition) → Run L.image (start L k c) trace → Branched L k mask j c trace
unfolding length_of
loop_branched {L = L} {k = k} x mask j is parts lm le =
    let rows = stand_as x _ parts in
    let size : L.offsets.step (suc k) ≡ L.offsets.step k + 6 = size_as x _ parts in
    branched L k mask j 6 (step_form x _ is) (brcl_at L x.image (L.offsets.step k) (step_even x) mask (L.offsets.step j) lm (step_small x) (x.image.step_places j le).0 (x.image.step_places j le).1 rows.0) (next_place L k 6 size) (inside_first L k 6 size (omega arith))

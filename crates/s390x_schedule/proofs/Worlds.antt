-- Worlds: a step of one processor, and machines as processors.
use Rattle.std.proofs.Common.{◌≡◌, ℕ, zero, suc, ◌<◌, List, [], ◌∷◌, length, slice_set, get_or, Bool, true, false, cond, ◌==◌, refl, sym, ap, ◌∙◌, subst, eqb-true, arith}
use Rattle.std.proofs.Math.Path.{fun_ext}
use Rattle.std.proofs.lemmas.Bool.{eqb-false}
use Rattle.s390x_operations.specs.State.{Memory, State}
use Rattle.s390x_machine.specs.declared.machine.Machine.{Machine}
use Rattle.s390x_machine.specs.Step.{Steps}
use Rattle.s390x_machine.specs.declared.step.StepEnd.{StepEnd}
use Rattle.s390x_schedule.specs.Schedule.{Processor, World, after_step, processor_of, processors_of, view, world_of}

-- a step that changes nothing
pub same_world : (w : World) (p : ℕ) → after_step w p (view w p) ≡ w
same_world w p = ap (λ (f : ℕ → Processor). record { processor = f; memory = w.memory }) (fun_ext (λ q. go q (q == p) refl))
  where
    go : (q : ℕ) (t : Bool) → (q == p) ≡ t → cond t (w.processor p) (w.processor q) ≡ w.processor q
    go q true e = ap w.processor (sym (eqb-true q p e))
    go q false e = refl

-- one machine is replaced
replaced_itself : (ms : List Machine) (p : ℕ) (m : Machine) → p < length ms → processors_of (slice_set ms p m) p ≡ processor_of m
replaced_itself [] p m lt = absurd (omega (arith, lt))
replaced_itself (n ∷ ms) zero m lt = refl
replaced_itself (n ∷ ms) (suc p) m lt = replaced_itself ms p m (omega (arith, lt))

others_stand : (ms : List Machine) (p : ℕ) (m : Machine) (q : ℕ) → (q ≡ p → ⊥) → processors_of (slice_set ms p m) q ≡ processors_of ms q
others_stand (n ∷ ms) zero m zero other = absurd (other refl)
others_stand (n ∷ ms) (suc p) m (suc q) other = others_stand ms p m q (λ e. other (ap suc e))
others_stand ms p m q other = refl

replaced_at : (ms : List Machine) (p : ℕ) (m : Machine) → p < length ms → (q : ℕ) → processors_of (slice_set ms p m) q ≡ cond (q == p) (processor_of m) (processors_of ms q)
replaced_at ms p m lt q = go (q == p) refl
  where
    go : (t : Bool) → (q == p) ≡ t → processors_of (slice_set ms p m) q ≡ cond t (processor_of m) (processors_of ms q)
    go true e = ap (processors_of (slice_set ms p m)) (eqb-true q p e) ∙ replaced_itself ms p m lt
    go false e = others_stand ms p m q (eqb-false q p e)

-- the machine of a number is the processor of that number
pub at_number : (ms : List Machine) (p : ℕ) (d : Machine) → p < length ms → processors_of ms p ≡ processor_of (get_or ms p d)
at_number [] p d lt = absurd (omega (arith, lt))
at_number (m ∷ ms) zero d lt = refl
at_number (m ∷ ms) (suc p) d lt = at_number ms p d (omega (arith, lt))

-- the state of a processor with a memory
abbrev with_memory : Memory → Processor → State
with_memory m x = record { core = record { registers = x.registers; memory = m }; address = x.address }

-- a step of one machine is that of one processor of the world
pub stepped : (ms : List Machine) (m m' : Memory) (p : ℕ) (d new : Machine) (r : StepEnd) → p < length ms → Steps (with_memory m (processor_of (get_or ms p d))) r (with_memory m' (processor_of new)) → Steps (view (world_of ms m) p) r (view (world_of (slice_set ms p new) m') p)
stepped ms m m' p d new r lt steps =
    subst (λ z. Steps z r (view (world_of (slice_set ms p new) m') p)) (ap (with_memory m) (sym (at_number ms p d lt)))
    (subst (λ z. Steps (with_memory m (processor_of (get_or ms p d))) r z) (ap (with_memory m') (sym (replaced_itself ms p new lt))) steps)

pub stepped_world : (ms : List Machine) (m m' : Memory) (p : ℕ) (new : Machine) → p < length ms → world_of (slice_set ms p new) m' ≡ after_step (world_of ms m) p (view (world_of (slice_set ms p new) m') p)
stepped_world ms m m' p new lt =
    ap (λ (f : ℕ → Processor). record { processor = f; memory = m' }) (fun_ext (λ q. replaced_at ms p new lt q ∙ ap (λ x. cond (q == p) x (processors_of ms q)) (sym (replaced_itself ms p new lt))))

-- A schedule as one of its processors sees it: a run under others' writes.
use Rattle.std.proofs.Common.{◌≡◌, ℕ, List, [], ◌∷◌, ◌++◌, ◌⊎◌, Bool, true, false, cond, ◌==◌, IsFalse, inl, inr, refl, sym, ap, ◌∙◌, subst, eqb-true}
use Rattle.std.proofs.lemmas.Bool.{eqb-false}
use Rattle.s390x_operations.specs.State.{Memory, State, Write, CodeImage, MayWrite, write_get, core_after_writes}
use Rattle.s390x_machine.specs.Machine.{MachineStep, Run, TransitionStep}
use Rattle.s390x_machine.proofs.Frame.{written_append}
use Rattle.s390x_schedule.specs.Schedule.{Processor, World, Goes, LeavesImage, OthersLeaveImage, Scheduled, Tick, after_tick, stored_writes, transitions_of, view}
use Rattle.s390x_schedule.proofs.Storing.{step_stores}

may_append : (image : CodeImage) (has : ℕ → Bool) (ws vs : List Write) → MayWrite image has ws → MayWrite image has vs → MayWrite image has (ws ++ vs)
may_append image has [] vs h g = g
may_append image has (w ∷ ws) vs h g = (h.0, h.1, h.2, may_append image has ws vs h.3 g)

-- a state with the writes of others
abbrev with_writes : List Write → State → State
with_writes ws s = record { core = core_after_writes ws s.core; address = s.address }

-- what a processor has of its own, with a memory
abbrev seen : Processor → Memory → State
seen p m = record { core = record { registers = p.registers; memory = m }; address = p.address }

swapped : (a b : ℕ) → (a == b) ≡ (b == a)
swapped a b = go (a == b) (b == a) refl refl
  where
    go : (t u : Bool) → (a == b) ≡ t → (b == a) ≡ u → t ≡ u
    go true true e f = refl
    go true false e f = absurd (eqb-false b a f (sym (eqb-true a b e)))
    go false true e f = absurd (eqb-false a b e (sym (eqb-true b a f)))
    go false false e f = refl

-- the processor whose step it was
own_view : (w : World) (t : Tick) (p : ℕ) → (t.processor == p) ≡ true → view (after_tick w t) p ≡ t.after
own_view w t p e = ap (λ b. seen (cond b (record { registers = t.after.core.registers; address = t.after.address }) (w.processor p)) t.after.core.memory) (swapped p t.processor ∙ e)

-- another one
other_view : (w : World) (t : Tick) (p : ℕ) → (p == t.processor) ≡ false → view (after_tick w t) p ≡ seen (w.processor p) t.after.core.memory
other_view w t p e = ap (λ b. seen (cond b (record { registers = t.after.core.registers; address = t.after.address }) (w.processor p)) t.after.core.memory) e

-- ---- a processor that sees its state behind writes of others

module _ (image : CodeImage) (p : ℕ) (w : World) (s : State) (ws : List Write) (is : view w p ≡ with_writes ws s) (t : Tick) where
  -- its own step, behind these writes
  own_step : MayWrite image s.core.memory.has ws → (q : ℕ) → t.processor ≡ q → MachineStep (view w q) t.event t.after → (t.processor == p) ≡ true → TransitionStep image s (record { writes = ws; event = t.event; after = t.after })
  own_step may q who steps e = record {
    may = may;
    goes = subst (λ z. MachineStep z t.event t.after) (ap (view w) (sym who ∙ eqb-true t.processor p e) ∙ is) steps;
  }

  memory_is : w.memory ≡ record { has = s.core.memory.has; get = write_get ws s.core.memory.get }
  memory_is = ap (λ (z : State). z.core.memory) is

  -- behind another one's step it sees what that step stores too
  sees_store : (q : ℕ) → MachineStep (view w q) t.event t.after → (t.processor == p) ≡ false → view (after_tick w t) p ≡ with_writes (ws ++ stored_writes t.event) s
  sees_store q steps e =
      let vs = stored_writes t.event in
      let after : t.after.core.memory ≡ record { has = s.core.memory.has; get = write_get vs (write_get ws s.core.memory.get) } =
      (step_stores (view w q) t.event t.after steps).memory ∙ ap (λ (m : Memory). record { has = m.has; get = write_get vs m.get }) memory_is in
      other_view w t p (swapped p t.processor ∙ e)
      ∙ ap (λ m. seen (w.processor p) m) after
      ∙ ap (λ (z : State). record { core = record { registers = z.core.registers; memory = record { has = s.core.memory.has; get = write_get vs (write_get ws s.core.memory.get) } }; address = z.address }) is
      ∙ ap (λ c. record { core = c; address = s.address }) (written_append ws vs s.core)

  may_store_more : MayWrite image s.core.memory.has ws → (q : ℕ) → MachineStep (view w q) t.event t.after → LeavesImage image t.event → MayWrite image s.core.memory.has (ws ++ stored_writes t.event)
  may_store_more may q steps leaves =
      may_append image s.core.memory.has ws (stored_writes t.event) may (subst (λ (m : Memory). MayWrite image m.has (stored_writes t.event)) memory_is ((step_stores (view w q) t.event t.after steps).may image leaves))

-- one step of the schedule, and then the rest, as the processor sees it behind that step
tick_then :
    (image : CodeImage) (p : ℕ) (w : World) (s : State) (ws : List Write) (t : Tick) (q : ℕ) (ps : List ℕ) (ticks : List Tick) (own : Bool)
    → (t.processor == p) ≡ own → view w p ≡ with_writes ws s → MayWrite image s.core.memory.has ws → t.processor ≡ q → MachineStep (view w q) t.event t.after
    → ((Goes t.event → ⊥) × (ticks ≡ [])) ⊎ (Goes t.event × Scheduled (after_tick w t) ps ticks) → (IsFalse (t.processor == p) → LeavesImage image t.event)
    → ((u : State) (vs : List Write) → view (after_tick w t) p ≡ with_writes vs u → MayWrite image u.core.memory.has vs → Scheduled (after_tick w t) ps ticks → Run image u (transitions_of p vs ticks))
    → Run image s (cond own (record { writes = ws; event = t.event; after = t.after } ∷ transitions_of p [] ticks) (transitions_of p (ws ++ stored_writes t.event) ticks))
tick_then image p w s ws t q ps ticks true e is may who steps (inl none) out rest =
    (own_step image p w s ws is t may q who steps e, subst (λ z. Run image t.after (transitions_of p [] z)) (sym none.1) tt)
tick_then image p w s ws t q ps ticks true e is may who steps (inr next) out rest =
    (own_step image p w s ws is t may q who steps e, rest t.after [] (own_view w t p e) tt next.1)
tick_then image p w s ws t q ps ticks false e is may who steps (inl none) out rest = subst (λ z. Run image s (transitions_of p (ws ++ stored_writes t.event) z)) (sym none.1) tt
tick_then image p w s ws t q ps ticks false e is may who steps (inr next) out rest =
    rest s (ws ++ stored_writes t.event) (sees_store image p w s ws is t q steps e) (may_store_more image p w s ws is t may q steps (out e)) next.1

pub sees : (image : CodeImage) (p : ℕ) (w : World) (s : State) (ws : List Write) → view w p ≡ with_writes ws s → MayWrite image s.core.memory.has ws → (ps : List ℕ) (ticks : List Tick) → Scheduled w ps ticks → OthersLeaveImage image p ticks → Run image s (transitions_of p ws ticks)
sees image p w s ws is may [] [] h out = tt
sees image p w s ws is may [] (t ∷ ticks) h out = absurd (cc)
sees image p w s ws is may (q ∷ ps) [] h out = absurd h
sees image p w s ws is may (q ∷ ps) (t ∷ ticks) h out =
    tick_then image p w s ws t q ps ticks (t.processor == p) refl is may h.0 h.1 h.2 out.0 (λ u vs is' may' scheduled. sees image p (after_tick w t) u vs is' may' ps ticks scheduled out.1)

-- A step's end by its number.
use Rattle.std.proofs.Common.{◌≡◌, ℕ, refl, sym, ap₂, subst}
use Rattle.s390x_operations.specs.State.{State}
use Rattle.s390x_operations.specs.declared.stop.StopKind.TheVariants.{Access}
use Rattle.s390x_machine.specs.State.{memory_of, registers_of, state_of}
use Rattle.s390x_machine.specs.Step.{Steps}
use Rattle.s390x_machine.specs.declared.machine.Machine.{Machine}
use Rattle.s390x_machine.specs.declared.step.StepEnd.{StepEnd}
use Rattle.s390x_machine.specs.declared.step.StepEnd.TheVariants.{Went, Stopped, NoRow}
use Rattle.s390x_page.specs.Stepping.{byte_of, end_numbered, is_held, number_of_end, registers_in, state_in}
use Rattle.s390x_page.specs.declared.registers.Registers as page
use Rattle.s390x_page.specs.declared.storage.Storage.{Storage}

pub ends : (s t : State) (end : StepEnd) → Steps s end t → Steps s (end_numbered (number_of_end end) s.address) t
ends s t Went h = h
ends s t NoRow h = h
ends s t (Stopped Access place) h = (h.0, h.1, refl)
ends s t end h = (h.0, h.1, refl)

-- a machine with the page's registers is in the page's state
same_state : (m : Machine) (r : page.Registers) (s : Storage) → registers_of m ≡ registers_in r → m.place ≡ r.place → state_of m (is_held s) (byte_of s) ≡ state_in r s
same_state m r s registers place =
    ap₂ (λ rs p. record { core = record { registers = rs; memory = memory_of (is_held s) (byte_of s) }; address = p }) registers place

-- a step of the machine is one of the page's
pub page_step : (m n : Machine) (r q : page.Registers) (s t : Storage) (end : StepEnd) (k : ℕ) → registers_of m ≡ registers_in r → m.place ≡ r.place → registers_in q ≡ registers_of n → q.place ≡ n.place → k ≡ number_of_end end → Steps (state_of m (is_held s) (byte_of s)) end (state_of n (is_held t) (byte_of t)) → Steps (state_in r s) (end_numbered k r.place) (state_in q t)
page_step m n r q s t end k before place after goes number h =
    subst (λ j. Steps (state_in r s) (end_numbered j r.place) (state_in q t)) (sym number)
    (ends (state_in r s) (state_in q t) end
    (subst (λ x. Steps x end (state_in q t)) (same_state m r s before place)
    (subst (λ y. Steps (state_of m (is_held s) (byte_of s)) end y) (same_state n q t (sym after) (sym goes)) h)))

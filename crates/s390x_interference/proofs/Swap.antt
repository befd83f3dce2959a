-- The swap at the end of a retry loop: what its step does, and that it has bytes.
use Rattle.std.proofs.Common.{◌≡◌, ℕ, suc, List, [], ◌∷◌, ◌++◌, length, Option, Some, None, Bool, true, false, cond, refl, sym, ap, ◌∙◌, subst, arith, length-append}
use Rattle.s390x_base.specs.Regs.{number_of}
use Rattle.s390x_base.specs.declared.regs.Reg.{Reg}
use Rattle.s390x_base.specs.declared.trap.TrapKind.{TrapKind}
use Rattle.s390x_inst.specs.declared.args.MemArg.{MemArg}
use Rattle.s390x_inst.specs.declared.inst.Inst.TheVariants.{AtomicCas32, AtomicCas64}
use Rattle.s390x_operations.specs.State.{Registers, Memory, Core, IsLoaded, core_after_writes}
use Rattle.s390x_operations.specs.Effects.{MayExecute}
use Rattle.s390x_operations.specs.declared.effect.Operation.{Operation}
use Rattle.s390x_operations.specs.declared.size.Size.{Size}
use Rattle.s390x_operations.specs.declared.stop.ConditionCode.TheVariants.{Code0, Code1, Code2}
use Rattle.s390x_operations.specs.declared.stop.StopKind.{StopKind}
use Rattle.s390x_machine.specs.CodeAt.{AllCodeAt}
use Rattle.s390x_machine.specs.Layout.{Layout}
use Rattle.s390x_machine.specs.Machine.{Transition, after_all, all_writes}
use Rattle.s390x_machine.specs.Match.{HasNoBytes, EndsAt, start}
use Rattle.s390x_machine.specs.OneStep.{Runs, waits, silent, goes, stops, ends, stuck, Loses}
use Rattle.s390x_machine.specs.StepKinds.{Performs, Unsupported, performed_at, kind_or, branch_kind, instruction_kind, fault_codes}
use Rattle.s390x_machine.specs.Storage.{OperandStep, operand_address, needs_scratch, is_relative_access, aligned_where, swaps_at, based_forms}
use Rattle.s390x_machine.specs.Typed.{Ending, Trapped, At, Ended, loosen, OperationStep, goes_on, traps, KindStep, kind_at, kind_of_step}
use Rattle.s390x_machine.proofs.Induction.{some_bytes_in}
use Rattle.s390x_machine.proofs.Instructions.{step_runs_placed}
use Rattle.s390x_interference.specs.Retry.{Retry, swap_instruction, swap_size}

-- ---- what it does

abbrev swap_operand : Bool → Reg → Reg → MemArg → OperandStep
swap_operand true rd rn mem = record { operand = mem; forms = based_forms false true; accesses = true; operation = swaps_at (swap_size true) (number_of rd) (number_of rn) }
swap_operand false rd rn mem = record { operand = mem; forms = based_forms true true; accesses = true; operation = swaps_at (swap_size false) (number_of rd) (number_of rn) }

-- its operation at an address
abbrev pub swapping : (L : Layout) → Retry L → (Registers → ℕ) → Registers → Operation
swapping L R address r = swaps_at (swap_size R.wide) (number_of R.rd) (number_of R.rn) (address r) r

aligned_swap : (relative : Bool) (size : Size) (d n a : ℕ) (r : Registers) → aligned_where relative (swaps_at size d n a r) ≡ swaps_at size d n a r
aligned_swap true size d n a r = refl
aligned_swap false size d n a r = refl

-- the step performs it, at the address of its operand
pub record SwapKind (L : Layout) (R : Retry L) (address : Registers → ℕ) : Type 0 where
  pub needs : Bool
  pub operation : Registers → Operation
  pub code : StopKind → Option TrapKind
  pub is : kind_at L R.swap ≡ Some (Performs needs operation code)
  pub swaps : (r : Registers) → operation r ≡ swapping L R address r

pub swap_kind : (L : Layout) (R : Retry L) (address : Registers → ℕ) → operand_address L R.operand ≡ Some address → SwapKind L R address
swap_kind L R address e = go R.wide refl
  where
    step : (wide : Bool) → R.wide ≡ wide → kind_at L R.swap ≡ Some (instruction_kind L (swap_instruction wide R.rd R.ri R.rn R.operand))
    step wide w = ap (kind_of_step L) R.swaps ∙ ap (λ b. Some (instruction_kind L (swap_instruction b R.rd R.ri R.rn R.operand))) w

    size : (wide : Bool) → R.wide ≡ wide → (r : Registers) → swaps_at (swap_size wide) (number_of R.rd) (number_of R.rn) (address r) r ≡ swapping L R address r
    size wide w r = ap (λ b. swaps_at (swap_size b) (number_of R.rd) (number_of R.rn) (address r) r) (sym w)

    go : (wide : Bool) → R.wide ≡ wide → SwapKind L R address
    go true w = let x = swap_operand true R.rd R.rn R.operand in record {
      needs = needs_scratch (based_forms false true) R.operand;
      operation = λ r. aligned_where (is_relative_access x) (swaps_at (swap_size true) (number_of R.rd) (number_of R.rn) (address r) r);
      code = fault_codes x;
      is = step true w ∙ ap (λ o. Some (kind_or (performed_at x o) (branch_kind (AtomicCas64 R.rd R.ri R.rn R.operand)))) e;
      swaps = λ r. aligned_swap (is_relative_access x) (swap_size true) (number_of R.rd) (number_of R.rn) (address r) r ∙ size true w r;
    }
    go false w = let x = swap_operand false R.rd R.rn R.operand in record {
      needs = needs_scratch (based_forms true true) R.operand;
      operation = λ r. aligned_where (is_relative_access x) (swaps_at (swap_size false) (number_of R.rd) (number_of R.rn) (address r) r);
      code = fault_codes x;
      is = step false w ∙ ap (λ o. Some (kind_or (performed_at x o) (branch_kind (AtomicCas32 R.rd R.ri R.rn R.operand)))) e;
      swaps = λ r. aligned_swap (is_relative_access x) (swap_size false) (number_of R.rd) (number_of R.rn) (address r) r ∙ size false w r;
    }

-- an operand without an address is none that emission lets pass
pub unaddressed : (L : Layout) (R : Retry L) → operand_address L R.operand ≡ None → kind_at L R.swap ≡ Some Unsupported
unaddressed L R e = ap (kind_of_step L) R.swaps ∙ go R.wide
  where
    go : (wide : Bool) → Some (instruction_kind L (swap_instruction wide R.rd R.ri R.rn R.operand)) ≡ Some Unsupported
    go true = ap (λ o. Some (kind_or (performed_at (swap_operand true R.rd R.rn R.operand) o) (branch_kind (AtomicCas64 R.rd R.ri R.rn R.operand)))) e
    go false = ap (λ o. Some (kind_or (performed_at (swap_operand false R.rd R.rn R.operand) o) (branch_kind (AtomicCas32 R.rd R.ri R.rn R.operand)))) e

-- ---- an operation's step that goes on, or ends

pub operation_goes : (needs : Bool) (op : Operation) (code : StopKind → Option TrapKind) (k : ℕ) (c : Core) (j : ℕ) (t : Core) → OperationStep needs op code k c (At j) t → (v : ℕ) × MayExecute op (loosen needs v c) t × (j ≡ suc k)
operation_goes needs op code k c j t (goes_on v may e) = (v, may, cc)
operation_goes needs op code k c j t (traps v kind n may some same e) = absurd (cc)

pub operation_ends : (needs : Bool) (op : Operation) (code : StopKind → Option TrapKind) (k : ℕ) (c : Core) (e : Ending) (t : Core) → OperationStep needs op code k c (Ended e) t → (n : TrapKind) × (e ≡ Trapped n)
operation_ends needs op code k c e t (goes_on v may h) = absurd (cc)
operation_ends needs op code k c e t (traps v kind n may some same h) = (n, cc)

-- ---- that it has bytes

-- a core that no swap leaves as it is
abbrev untouched_core : Memory → Core
untouched_core m = record { registers = record { general = λ i. 0; vector = λ i. 0; access = λ i. 0; code = Code2 }; memory = m }

two_codes : (b : Bool) → Code2 ≡ cond b Code0 Code1 → ⊥
two_codes true e = cc
two_codes false e = cc

some_transition : (h rest : List Transition) (t : Transition) → [] ≡ h ++ t ∷ rest → ⊥
some_transition h rest t e = omega (arith, ap length e, length-append h (t ∷ rest))

addressed_bytes : (L : Layout) (R : Retry L) (m : Memory) (address : Registers → ℕ) → SwapKind L R address → Runs L R.swap (untouched_core m) [] → HasNoBytes L R.swap → ⊥
addressed_bytes L R m address x (waits few quiet at) no_bytes = some_bytes_in L R.swap at no_bytes
addressed_bytes L R m address x (silent step below same) no_bytes =
    let c = untouched_core m in
    let q = operation_goes x.needs (x.operation c.registers) x.code R.swap c (suc R.swap) c (subst (λ f. KindStep L f R.swap c (At (suc R.swap)) c) x.is step) in
    two_codes _ (subst (λ op. MayExecute op (loosen x.needs q.0 c) c) (x.swaps c.registers) q.1).code
addressed_bytes L R m address x (goes h rest t split few some nothing j y step e memory lands l) no_bytes = some_transition h rest t split
addressed_bytes L R m address x (stops h rest t kind split quiet e wrong) no_bytes = some_transition h rest t split
addressed_bytes L R m address x (ends g rest split e y step group ends_match) no_bytes =
    let c = core_after_writes (all_writes g) (untouched_core m) in
    let n = operation_ends x.needs (x.operation c.registers) x.code R.swap c e y (subst (λ f. KindStep L f R.swap c (Ended e) y) x.is step) in
    some_bytes_in L R.swap (subst (λ z. EndsAt L R.swap z g (after_all (start L R.swap (untouched_core m)) g)) n.1 group.2) no_bytes
addressed_bytes L R m address x (stuck wrong loses) no_bytes = subst Loses x.is loses

unaddressed_bytes : (L : Layout) (R : Retry L) (m : Memory) → kind_at L R.swap ≡ Some Unsupported → Runs L R.swap (untouched_core m) [] → HasNoBytes L R.swap → ⊥
unaddressed_bytes L R m is (waits few quiet at) no_bytes = some_bytes_in L R.swap at no_bytes
unaddressed_bytes L R m is (silent step below same) no_bytes = subst (λ f. KindStep L f R.swap (untouched_core m) (At (suc R.swap)) (untouched_core m)) is step
unaddressed_bytes L R m is (goes h rest t split few some nothing j y step e memory lands l) no_bytes = some_transition h rest t split
unaddressed_bytes L R m is (stops h rest t kind split quiet e wrong) no_bytes = some_transition h rest t split
unaddressed_bytes L R m is (ends g rest split e y step group ends_match) no_bytes = subst (λ f. KindStep L f R.swap (core_after_writes (all_writes g) (untouched_core m)) (Ended e) y) is step
unaddressed_bytes L R m is (stuck wrong loses) no_bytes = subst Loses is loses

pub swap_has_bytes : (L : Layout) → AllCodeAt L → (R : Retry L) (m : Memory) → IsLoaded L.image m → HasNoBytes L R.swap → ⊥
swap_has_bytes L all R m is_loaded = go (operand_address L R.operand) refl
  where
    runs : Runs L R.swap (untouched_core m) []
    runs = step_runs_placed L all R.swap _ R.swaps (untouched_core m) is_loaded [] tt

    go : (o : Option (Registers → ℕ)) → operand_address L R.operand ≡ o → HasNoBytes L R.swap → ⊥
    go None e = unaddressed_bytes L R m (unaddressed L R e) runs
    go (Some address) e = addressed_bytes L R m address (swap_kind L R address e) runs

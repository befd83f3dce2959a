-- Some instructions with registers are meant by the law.
use Rattle.std.proofs.Common.{◌≡◌, ℕ, ◌<◌, false, true, refl, ap, arith}
use Rattle.s390x_base.specs.Registers.{RealRegister, general, vector}
use Rattle.s390x_base.specs.Regs.{is_int}
use Rattle.s390x_base.specs.declared.regs.Reg.TheVariants.{Real}
use Rattle.s390x_assign.specs.Assignments.{assigned_operator}
use Rattle.s390x_alloc_laws.specs.Allocatable.{Place, IsOrdinary}
use Rattle.s390x_alloc_laws.specs.Examples.{far_load, division, selection}
use Rattle.s390x_alloc_laws.proofs.Witness.{far_load_allocatable, division_allocatable, selection_allocatable}
use Rattle.s390x_alloc_laws.specs.OutputExamples.{IsMeant, load_registers, load_changes, division_registers, division_changes, selection_registers, selection_changes}

other_general : (n m : ℕ) → (n ≡ m → ⊥) → ◌≡◌ {A = RealRegister} (general n) (general m) → ⊥
other_general n m f h = f (ap (λ (r : RealRegister). r.number) h)

-- a general register between %r1 and %r15 is ordinary
general_ordinary : (n : ℕ) → 1 < n → n < 15 → IsOrdinary (Real (general n))
general_ordinary n low high =
    let fits : n < 16 = omega arith in
    (fits, other_general n 0 (λ e. omega arith), other_general n 1 (λ e. omega arith), other_general n 15 (λ e. omega arith))

other_class : (n m : ℕ) → ◌≡◌ {A = RealRegister} (vector n) (general m) → ⊥
other_class n m h =
    let e : false ≡ true = ap (λ (r : RealRegister). is_int r.class) h in
    absurd (cc)

vector_ordinary : (n : ℕ) → n < 32 → IsOrdinary (Real (vector n))
vector_ordinary n fits = (fits, other_class n 0, other_class n 1, other_class n 15)

pub load_meant : (P : Place) → IsMeant P far_load load_registers load_changes
load_meant P =
    record {
      allocatable = far_load_allocatable P;
      meet = (refl, (tt, (refl, (tt, tt))));
      spare = (general_ordinary 2 (omega arith) (omega arith), (general_ordinary 3 (omega arith) (omega arith), tt));
      instruction = (assigned_operator far_load load_registers).0;
      assigned = refl;
      unrefused = refl;
      may_change = refl;
    }

pub division_meant : (P : Place) → IsMeant P division division_registers division_changes
division_meant P =
    let four : IsOrdinary (Real (general 4)) = general_ordinary 4 (omega arith) (omega arith) in
    let two : IsOrdinary (Real (general 2)) = general_ordinary 2 (omega arith) (omega arith) in
    let three : IsOrdinary (Real (general 3)) = general_ordinary 3 (omega arith) (omega arith) in
    record {
      allocatable = division_allocatable P;
      meet = (refl, (tt, (refl, (refl, (refl, (refl, (refl, (refl, tt))))))));
      spare = (four, (two, (three, (three, tt))));
      instruction = (assigned_operator division division_registers).0;
      assigned = refl;
      unrefused = refl;
      may_change = refl;
    }

pub selection_meant : (P : Place) → IsMeant P selection selection_registers selection_changes
selection_meant P =
    record {
      allocatable = selection_allocatable P;
      meet = (refl, (tt, (refl, (tt, (refl, (tt, (refl, (tt, tt))))))));
      spare = (vector_ordinary 1 (omega arith), (vector_ordinary 17 (omega arith), (vector_ordinary 2 (omega arith), (vector_ordinary 3 (omega arith), tt))));
      instruction = (assigned_operator selection selection_registers).0;
      assigned = refl;
      unrefused = refl;
      may_change = refl;
    }

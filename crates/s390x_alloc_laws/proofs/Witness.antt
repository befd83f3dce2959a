-- Some instructions are allocatable, wherever they are emitted.
use Rattle.std.proofs.Common.{refl}
use Rattle.s390x_assign.specs.Assignments.{assigned_operator}
use Rattle.s390x_alloc_laws.specs.Allocatable.{Place, IsAllocatable}
use Rattle.s390x_alloc_laws.specs.Examples.{far_load, division, selection}
use Rattle.s390x_alloc_laws.specs.OutputExamples.{load_registers, division_registers, selection_registers}

pub far_load_allocatable : (P : Place) → IsAllocatable P far_load
far_load_allocatable P =
    record {
      stands = (tt, tt);
      possible = record { registers = load_registers; meet = (refl, (tt, (refl, (tt, tt)))); instruction = (assigned_operator far_load load_registers).0; assigned = refl; unrefused = refl };
    }

pub division_allocatable : (P : Place) → IsAllocatable P division
division_allocatable P =
    record {
      stands = (tt, ((tt, tt), (tt, tt)));
      possible = record { registers = division_registers; meet = (refl, (tt, (refl, (refl, (refl, (refl, (refl, (refl, tt)))))))); instruction = (assigned_operator division division_registers).0; assigned = refl; unrefused = refl };
    }

pub selection_allocatable : (P : Place) → IsAllocatable P selection
selection_allocatable P =
    record {
      stands = (tt, (tt, (tt, (tt, tt))));
      possible = record { registers = selection_registers; meet = (refl, (tt, (refl, (tt, (refl, (tt, (refl, (tt, tt)))))))); instruction = (assigned_operator selection selection_registers).0; assigned = refl; unrefused = refl };
    }

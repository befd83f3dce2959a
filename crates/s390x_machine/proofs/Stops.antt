-- Which stops an operation's values may bring about, and that each has a code.
use Rattle.std.proofs.Common.{◌≡◌, ℕ, ◌+◌, ◌*◌, inl, inr, Option, Some, None, Bool, true, false, cond, refl}
use Rattle.s390x_base.specs.declared.trap.TrapKind.{TrapKind}
use Rattle.s390x_base.specs.declared.trap.TrapKind.TheVariants.{IntegerDivisionByZero}
use Rattle.s390x_lanes.specs.declared.operators.Signedness.{Signedness}
use Rattle.s390x_operations.specs.Numbers.{modulus, signed_number}
use Rattle.s390x_operations.specs.Unsigned.{compare_code, signed_division, unsigned_division}
use Rattle.s390x_operations.specs.Effects.{stop_of_effect, MayRefuse, divide_stop, is_selected}
use Rattle.s390x_operations.specs.declared.size.Size.{Size}
use Rattle.s390x_operations.specs.declared.size.Size.TheVariants.{Doubleword}
use Rattle.s390x_operations.specs.declared.operand.Pair.{Pair}
use Rattle.s390x_operations.specs.declared.stop.StopKind.{StopKind}
use Rattle.s390x_operations.specs.declared.stop.StopKind.TheVariants.{Divide, CompareTrap}
use Rattle.s390x_operations.specs.declared.effect.Effect.TheVariants.{CompareAndTrap, DividePair, DivideLogicalPair}
use Rattle.s390x_operations.specs.declared.effect.CodeRule.{CodeRule}
use Rattle.s390x_operations.specs.declared.effect.Operation.{Operation}
use Rattle.s390x_machine.specs.Computations.{with_rule}
use Rattle.s390x_machine.specs.StepKinds.{division_code, comparison_code}
use Rattle.s390x_machine.proofs.Simulation.{ValuesCoded}

-- an operation whose values bring about no stop
pub never_by_values : (op : Operation) (code : StopKind → Option TrapKind) → stop_of_effect op.effect ≡ None → ((kind : StopKind) → MayRefuse op.effect kind → ⊥) → ValuesCoded op code
never_by_values op code none free kind (inl e) = absurd (cc)
never_by_values op code none free kind (inr by) = absurd (free kind by)

-- one whose values bring about this kind of stop alone, which has a code
pub only_by : (op : Operation) (code : StopKind → Option TrapKind) (only : StopKind) (n : TrapKind) → code only ≡ Some n → ((kind : StopKind) → stop_of_effect op.effect ≡ Some kind → kind ≡ only) → ((kind : StopKind) → MayRefuse op.effect kind → kind ≡ only) → ValuesCoded op code
only_by op code only n has values free kind (inl e) = let same : kind ≡ only = values kind e in (n, cc)
only_by op code only n has values free kind (inr by) = let same : kind ≡ only = free kind by in (n, cc)

divide_alone : (o : Option Pair) (kind : StopKind) → divide_stop o ≡ Some kind → kind ≡ Divide
divide_alone None kind e = cc
divide_alone (Some p) kind e = absurd (cc)

trap_alone : (selected : Bool) (kind : StopKind) → cond selected (Some CompareTrap) None ≡ Some kind → kind ≡ CompareTrap
trap_alone true kind e = cc
trap_alone false kind e = absurd (cc)

-- divisions and compares and traps are such operations; an access is none that stops by its values
pub division_coded : (rule : CodeRule) (pair dividend divisor : ℕ) → ValuesCoded (with_rule rule (DividePair pair dividend divisor)) division_code
division_coded rule pair dividend divisor =
    only_by (with_rule rule (DividePair pair dividend divisor)) division_code Divide IntegerDivisionByZero refl (divide_alone (signed_division (signed_number Doubleword dividend) (signed_number Doubleword divisor))) (λ kind by. absurd by)

pub logical_division_coded : (rule : CodeRule) (size : Size) (pair high low divisor : ℕ) → ValuesCoded (with_rule rule (DivideLogicalPair size pair high low divisor)) division_code
logical_division_coded rule size pair high low divisor =
    only_by (with_rule rule (DivideLogicalPair size pair high low divisor)) division_code Divide IntegerDivisionByZero refl (divide_alone (unsigned_division size (high * modulus size + low) divisor)) (λ kind by. absurd by)

pub comparison_coded : (rule : CodeRule) (n : TrapKind) (sign : Signedness) (size : Size) (first second mask : ℕ) → ValuesCoded (with_rule rule (CompareAndTrap sign size first second mask)) (comparison_code n)
comparison_coded rule n sign size first second mask =
    only_by (with_rule rule (CompareAndTrap sign size first second mask)) (comparison_code n) CompareTrap n refl (trap_alone (is_selected mask (compare_code sign size first second))) (λ kind by. absurd by)

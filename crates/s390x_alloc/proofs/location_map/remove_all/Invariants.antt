use Rattle.std.proofs.Common.{◌≡◌, ℕ, length, take}
use Rattle.std.specs.Prelude.{◌&&◌, not, nat_eq}
use Rattle.std.specs.List.{list_any}
use Rattle.s390x_base.specs.declared.regs.RegClass.{RegClass}
use Rattle.s390x_alloc.specs.Locations.{is_value_of}
use Rattle.s390x_alloc.specs.Registers.{same_virtual}
use Rattle.s390x_alloc.proofs.location_map.remove_all.Given as goal

abbrev pub invariant-loop-value : goal.invariant-loop-value
invariant-loop-value l = record {
  count : length l.sets ≡ length l.initial.sets;
  sets : (v n : ℕ) (c : RegClass) → is_value_of l.sets v n c ≡ (not (list_any (nat_eq v) (take l.value-index l.values) && same_virtual n c l.num l.class) && is_value_of l.initial.sets v n c);
}

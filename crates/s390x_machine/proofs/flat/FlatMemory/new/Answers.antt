use Rattle.std.proofs.Common.{ℕ, Bool, ◌||◌, false, List, ap, ap₂, ◌∙◌}
use Rattle.std.specs.BTreeMap.{is_at}
use Rattle.std.specs.Map.{lookup}
use Rattle.std.specs.Option.{is_some}
use Rattle.std.specs.Ordering.{nat_cmp}
use Rattle.s390x_machine.specs.Regions.{held_in}
use Rattle.s390x_machine.specs.declared.flat.Region.{Region}
use Rattle.s390x_machine.proofs.Regions.{none_held}
use Rattle.s390x_machine.proofs.flat.FlatMemory.new.Goals as goal

pub returns : goal.returns
returns c = λ a. ap₂ (λ (rs : List Region) (es : List (ℕ × ℕ)). held_in rs a || is_some (lookup (is_at (nat_cmp a)) es)) c.new.ensures.items c.new-2.ensures.empty ∙ ap (λ (b : Bool). b || false) (none_held a)

-- What members lead to that are left, behind those that stand in a text.
use Rattle.std.proofs.Common.{◌≡◌, ℕ, Option, None, List, ◌++◌, length, map}
use Rattle.s390x_elf.specs.declared.members.ObjectMember.{ObjectMember}
use Rattle.s390x_elf.specs.declared.members.Text.{Text}
use Rattle.s390x_elf.specs.Object.{function_of}
use Rattle.s390x_elf.specs.Members.{end_or_zero, functions_behind, greatest_alignment, places_cause, relocs_behind, text_behind}

-- to what all of these members lead
pub record Leads (ms : List ObjectMember) (text : Text) (end : Option ℕ) (left : List ObjectMember) : Type 0 where
  pub cause : places_cause end left ≡ places_cause None ms
  pub functions : map function_of text.functions.items ++ functions_behind end left ≡ functions_behind None ms
  pub alignment : greatest_alignment text.alignment left ≡ greatest_alignment 1 ms
  pub bytes : text.bytes.items ++ text_behind end left ≡ text_behind None ms
  pub relocs : text.relocs.items ++ relocs_behind end left ≡ relocs_behind None ms
  pub size : length text.bytes.items ≡ end_or_zero end

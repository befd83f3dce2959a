use Rattle.std.proofs.Common.{◌≡◌, ◌++◌, drop, length}
use Rattle.s390x_bundle.specs.Bytes.{Rise, parts_behind}
use Rattle.s390x_bundle.specs.Linking.{first_unlinked, linked_parts}
use Rattle.s390x_bundle.proofs.linking.link_members.Given as goal

abbrev pub invariant-loop-number : goal.invariant-loop-number
invariant-loop-number l =
    let rest = linked_parts l.base l.members l.starts (drop l.number l.members) (drop l.number l.starts) (drop l.number l.codes) in
    let end = length l.bytes.items in
    record {
      cause : first_unlinked l.base l.members l.starts l.number (drop l.number l.members) (drop l.number l.starts) (drop l.number l.codes) ≡ first_unlinked l.base l.members l.starts 0 l.members l.starts l.codes;
      bytes : l.bytes.items ++ parts_behind end rest ≡ parts_behind 0 (linked_parts l.base l.members l.starts l.members l.starts l.codes);
      rise : Rise end rest;
    }

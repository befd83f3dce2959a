use Rattle.std.proofs.Common.{◌≡◌, ◌++◌, ◌&&◌, string_bytes}
use Rattle.s390x_base.specs.Registers.{vector}
use Rattle.s390x_base.specs.Sets.{has}
use Rattle.s390x_job_fields.specs.Sets.{members_below}
use Rattle.s390x_listing.specs.Members.{no_member, members_text}
use Rattle.s390x_listing.proofs.members.put_each_vector.Given as goal

abbrev pub invariant-loop-n : goal.invariant-loop-n
invariant-loop-n l = record {
  first : l.is_first ≡ (l.begins_list && no_member (members_below vector (has l.set) l.n));
  text : string_bytes l.out ≡ string_bytes l.initial.out ++ members_text l.begins_list (members_below vector (has l.set) l.n);
}

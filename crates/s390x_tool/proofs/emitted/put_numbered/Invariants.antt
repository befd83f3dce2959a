use Rattle.std.proofs.Common.{◌≡◌, ◌++◌, drop, string_bytes}
use Rattle.s390x_job.specs.Completions.{text_of_lines}
use Rattle.s390x_tool.specs.Emitted.{numbered_lines}
use Rattle.s390x_tool.proofs.emitted.put_numbered.Given as goal

-- what is written, with the lines of the offsets that are left
abbrev pub invariant-loop-number : goal.invariant-loop-number
invariant-loop-number l =
    string_bytes l.out ++ text_of_lines (numbered_lines l.name l.number-counter (drop l.number-counter l.offsets)) ≡ string_bytes l.initial.out ++ text_of_lines (numbered_lines l.name 0 l.offsets)

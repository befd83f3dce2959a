use Rattle.std.proofs.Common.{◌≡◌, ◌++◌, drop, map, string_bytes}
use Rattle.s390x_job.specs.Completions.{text_of_lines}
use Rattle.s390x_tool.specs.Emitted.{call_line}
use Rattle.s390x_tool.proofs.emitted.put_calls.Given as goal

-- what is written, with the lines of the calls that are left
abbrev pub invariant-loop-site : goal.invariant-loop-site
invariant-loop-site l =
    string_bytes l.out ++ text_of_lines (map call_line (drop l.site-index l.sites)) ≡ string_bytes l.initial.out ++ text_of_lines (map call_line l.sites)

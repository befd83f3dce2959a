use Rattle.std.proofs.Common.{◌≡◌, ◌++◌, drop, map, string_bytes}
use Rattle.s390x_job.specs.Completions.{text_of_lines}
use Rattle.s390x_tool.proofs.emitted.put_entries.Given as goal

-- what is written, with the lines of the entries that are left
abbrev pub invariant-loop-entry : goal.invariant-loop-entry
invariant-loop-entry g l =
    string_bytes l.out ++ text_of_lines (map g.T.Entry.line (drop l.entry-index l.entries)) ≡ string_bytes l.initial.out ++ text_of_lines (map g.T.Entry.line l.entries)

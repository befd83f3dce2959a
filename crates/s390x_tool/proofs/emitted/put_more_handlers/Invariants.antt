use Rattle.std.proofs.Common.{◌≡◌, ◌++◌, drop, string_bytes}
use Rattle.s390x_job_fields.specs.Lists.{more_text}
use Rattle.s390x_tool.specs.Emitted.{handler_entry_text}
use Rattle.s390x_tool.proofs.emitted.put_more_handlers.Given as goal

-- what is written, with the handlers that are left
abbrev pub invariant-loop-handler : goal.invariant-loop-handler
invariant-loop-handler l =
    string_bytes l.out ++ more_text handler_entry_text (drop l.handler-index l.handlers) ≡ string_bytes l.initial.out ++ more_text handler_entry_text l.handlers

use Rattle.std.proofs.Common.{refl}
use Rattle.s390x_c.proofs.Answering.{no_room}
use Rattle.s390x_c.proofs.emit.emit_job.Goals as goal

pub returns-then-write_tables-clause-answer : goal.returns-then-write_tables-clause-answer
returns-then-write_tables-clause-answer c = (
  record {
    code = c.in-Ok.code;
    is = record { valid = c.in-Ok.ensures.0; ranges = c.in-Ok.ensures.2; finished = c.in-Ok.ensures.1 };
    tables = c.write_tables.ensures.written c.if-write_tables.true;
    counted = c.sizes_of.ensures;
  },
  refl,
)

pub returns-in-Ok-clause-answer : goal.returns-in-Ok-clause-answer
returns-in-Ok-clause-answer c = (
  record {
    code = c.in-Ok.code;
    is = record { valid = c.in-Ok.ensures.0; ranges = c.in-Ok.ensures.2; finished = c.in-Ok.ensures.1 };
    lacks = λ h. no_room c.write_tables.result c.if-write_tables.false (c.write_tables.ensures.room.1 h);
    kept = c.write_tables.ensures.kept c.if-write_tables.false;
    counted = c.sizes_of.ensures;
  },
  refl,
)

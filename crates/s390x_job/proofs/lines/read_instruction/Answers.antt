use Rattle.std.proofs.Common.{length}
use Rattle.s390x_job.specs.Grammar.{Within}
use Rattle.s390x_job.specs.Builds.{body_lines}
use Rattle.s390x_job.proofs.Told.{next_of_same, reads_instruction, reads_of_same}
use Rattle.s390x_job.proofs.lines.read_instruction.Goals as goal

pub returns-in-Some : goal.returns-in-Some
returns-in-Some c =
    let b = c.args.b.now in
    let h = next_of_same b _ c.in-Some.x c.add.new.b c.in_ok-make_room.ensures.items c.add.ensures in
    reads_instruction c.add.new.b (body_lines b) (Within (length b.loops.items)) c.in-Some.x c.args.w.now c.in-Some.ensures h

pub returns-in-None : goal.returns-in-None
returns-in-None c =
    reads_of_same c.args.b.now _ c.args.w.now c.read_part.new.b c.read_part.result c.in_ok-make_room.ensures.items c.read_part.ensures

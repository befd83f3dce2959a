use Rattle.std.proofs.Common.{◌≡◌, ◌++◌, ◌∷◌, [], length, suc, Vec, Global, ap, ◌∙◌, arith, length-append}
use Rattle.s390x_inst.specs.declared.inst.Inst.{Inst}
use Rattle.s390x_job.specs.Items.{block_line, loop_line}
use Rattle.s390x_job.specs.Jobs.{insts_lines, blocks_lines}
use Rattle.s390x_job.specs.Builds.{open_lines, beginning_lines}
use Rattle.s390x_job.proofs.Builds.{at_open, one_frame, loop_of, to_open}
use Rattle.s390x_job.proofs.build.open.Goals as goal

pub returns : goal.returns
returns c =
    let b = c.args.b.now in
    let ss = beginning_lines b.beginning in
    let bs = blocks_lines b.blocks.items in
    let f = loop_of c.args.cond b.here in
    let here = ap (λ (v : Vec Inst Global). v.items) c.replace-before.ensures.after ∙ c.new.ensures.items in
    let loops = c.in_ok-push.ensures.items ∙ ap (λ (v : Vec Inst Global). b.loops.items ++ loop_of c.args.cond v ∷ []) c.replace-before.ensures.value in
    let n : length c.push.new.self.items ≡ suc (length b.loops.items) = omega (arith, ap length loops, length-append b.loops.items (f ∷ [])) in
    record {
      state = c.requires.full;
      lines = ap (λ t. ss ++ (bs ++ (block_line ∷ (open_lines c.push.new.self.items ++ insts_lines t)))) here
          ∙ ap (λ t. ss ++ (bs ++ (block_line ∷ (open_lines t ++ [])))) loops
          ∙ ap (λ t. ss ++ (bs ++ (block_line ∷ (t ++ [])))) (one_frame b.loops.items f)
          ∙ at_open ss bs (open_lines b.loops.items) (insts_lines b.here.items) (loop_line c.args.cond);
      place = to_open (length b.loops.items) (length c.push.new.self.items) c.requires.few n;
    }

use Rattle.std.proofs.Common.{◌≡◌, ◌++◌, ◌∷◌, [], length, suc, Vec, Global, sym, ap, ◌∙◌, arith, length-append}
use Rattle.s390x_inst.specs.declared.inst.Inst.{Inst}
use Rattle.s390x_inst.specs.declared.inst.Inst.TheViews as V
use Rattle.s390x_job.specs.Items.{block_line, loop_line, close_line}
use Rattle.s390x_job.specs.Jobs.{insts_lines, blocks_lines}
use Rattle.s390x_job.specs.Builds.{open_lines, beginning_lines}
use Rattle.s390x_job.proofs.Builds.{at_close, one_loop, one_frame, to_close}
use Rattle.s390x_job.proofs.build.close.Goals as goal

pub returns : goal.returns
returns c =
    let b = c.args.b.now in
    let f = c.in-Some.top in
    let e = c.in-Some.ensures.items in
    let ss = beginning_lines b.beginning in
    let bs = blocks_lines b.blocks.items in
    let ls = c.pop.new.self.items in
    let fs = open_lines ls in
    let hs = insts_lines b.here.items in
    let body = c.replace-body.result in
    let here = c.in_ok-push-in-Some.ensures.items
    ∙ ap (λ (v : Vec Inst Global). v.items ++ V.Loop f.cond body ∷ []) c.replace-body.ensures.after in
    let bodied = ap (λ (v : Vec Inst Global). v.items) c.replace-body.ensures.value ∙ c.shrink_to_fit.ensures.items in
    let n : length b.loops.items ≡ suc (length ls) = omega (arith, ap length e, length-append ls (f ∷ [])) in
    record {
      state = c.requires.full;
      lines = ap (λ t. ss ++ (bs ++ (block_line ∷ (fs ++ insts_lines t)))) here
          ∙ ap (λ t. ss ++ (bs ++ (block_line ∷ (fs ++ t)))) (one_loop f.before.items f.cond body)
          ∙ ap (λ t. ss ++ (bs ++ (block_line ∷ (fs ++ (insts_lines f.before.items ++ (loop_line f.cond ∷ (insts_lines t ++ close_line ∷ []))))))) bodied
          ∙ at_close ss bs fs hs (insts_lines f.before.items) (loop_line f.cond) close_line
          ∙ ap (λ t. (ss ++ (bs ++ (block_line ∷ (t ++ hs)))) ++ close_line ∷ []) (sym (one_frame ls f))
          ∙ ap (λ t. (ss ++ (bs ++ (block_line ∷ (open_lines t ++ hs)))) ++ close_line ∷ []) (sym e);
      place = to_close (length b.loops.items) (length ls) n;
    }

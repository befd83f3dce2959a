-- What one more line adds.
use Rattle.std.proofs.Common.{◌≡◌, ℕ, suc, ◌<◌, true, List, [], ◌∷◌, ◌++◌, length, refl, sym, ap, ◌∙◌, arith, append_assoc, append-nil, Vec, Global}
use Rattle.std.specs.Prelude.{Some, nat_lt}
use Rattle.std.proofs.lemmas.Bool.Decides.{nat_tests}
use Rattle.s390x_job_lines.specs.Line.{Line}
use Rattle.s390x_job_lines.specs.Instructions.{inst_line}
use Rattle.s390x_job.specs.Grammar.{class, next_place, Within, AtEnd, OpenBlock, OpenLoop as OpenLoop', CloseLoop, CloseJob, Instruction}
use Rattle.s390x_job.specs.Items.{block_line, loop_line, close_line}
use Rattle.s390x_job.specs.Jobs.{inst_lines, insts_lines, blocks_lines}
use Rattle.s390x_job.specs.Builds.{open_lines}
use Rattle.s390x_inst.specs.declared.function.Block.{Block}
use Rattle.s390x_inst.specs.declared.inst.Inst.{Inst}
use Rattle.s390x_inst.specs.declared.inst.Inst.TheVariants.{Loop'}
use Rattle.s390x_inst.specs.declared.inst.Inst.TheViews as V
use Rattle.s390x_job.specs.declared.build.OpenLoop.{OpenLoop}
use Rattle.s390x_job.proofs.Trees.{loop_lines}

pub insts_append : (a b : List Inst) → insts_lines (a ++ b) ≡ insts_lines a ++ insts_lines b
insts_append [] b = refl
insts_append (i ∷ a) b = ap (λ t. inst_lines i ++ t) (insts_append a b) ∙ sym (append_assoc (inst_lines i) (insts_lines a) (insts_lines b))

pub open_append : (a b : List OpenLoop) → open_lines (a ++ b) ≡ open_lines a ++ open_lines b
open_append [] b = refl
open_append (f ∷ a) b =
    ap (λ t. insts_lines f.before.items ++ (loop_line f.cond ∷ t)) (open_append a b) ∙ sym (append_assoc (insts_lines f.before.items) (loop_line f.cond ∷ open_lines a) (open_lines b))

pub blocks_append : (a b : List Block) → blocks_lines (a ++ b) ≡ blocks_lines a ++ blocks_lines b
blocks_append [] b = refl
blocks_append (x ∷ a) b =
    ap (λ t. block_line ∷ (insts_lines x.insts.items ++ t)) (blocks_append a b) ∙ ap (λ t. block_line ∷ t) (sym (append_assoc (insts_lines x.insts.items) (blocks_lines a) (blocks_lines b)))

pub alone : (i : Inst) → class (inst_line i) ≡ Instruction → inst_lines i ≡ inst_line i ∷ []
alone (Loop' c s k) h = cc
alone i h = refl

module _ (a b f h : List Line) where
  pub at_end : (e : List Line) → a ++ (b ++ (block_line ∷ (f ++ (h ++ e)))) ≡ (a ++ (b ++ (block_line ∷ (f ++ h)))) ++ e
  at_end e = simp append_assoc

  pub at_open : (l : Line) → a ++ (b ++ (block_line ∷ ((f ++ (h ++ l ∷ [])) ++ []))) ≡ (a ++ (b ++ (block_line ∷ (f ++ h)))) ++ l ∷ []
  at_open l = simp (append_assoc, append-nil)

  pub at_close : (g : List Line) (l k : Line) → a ++ (b ++ (block_line ∷ (f ++ (g ++ (l ∷ (h ++ k ∷ [])))))) ≡ (a ++ (b ++ (block_line ∷ ((f ++ (g ++ l ∷ [])) ++ h)))) ++ k ∷ []
  at_close g l k = simp append_assoc

  pub at_block : (l : Line) → a ++ ((b ++ (block_line ∷ h)) ++ l ∷ []) ≡ (a ++ (b ++ (block_line ∷ h))) ++ l ∷ []
  at_block l = simp append_assoc

pub one_more : (hs : List Inst) (x : Inst) → class (inst_line x) ≡ Instruction → insts_lines (hs ++ x ∷ []) ≡ insts_lines hs ++ inst_line x ∷ []
one_more hs x h = insts_append hs (x ∷ []) ∙ ap (λ t. insts_lines hs ++ t) (append-nil (inst_lines x) ∙ alone x h)

pub one_loop : (hs : List Inst) (c : ℕ) (v : Vec Inst Global) → insts_lines (hs ++ V.Loop c v ∷ []) ≡ insts_lines hs ++ (loop_line c ∷ (insts_lines v.items ++ close_line ∷ []))
one_loop hs c v = insts_append hs (V.Loop c v ∷ []) ∙ ap (λ t. insts_lines hs ++ t) (append-nil (inst_lines (V.Loop c v)) ∙ loop_lines c v)

pub one_frame : (fs : List OpenLoop) (f : OpenLoop) → open_lines (fs ++ f ∷ []) ≡ open_lines fs ++ (insts_lines f.before.items ++ loop_line f.cond ∷ [])
one_frame fs f = open_append fs (f ∷ [])

pub one_block : (bs : List Block) (h : Block) → blocks_lines (bs ++ h ∷ []) ≡ blocks_lines bs ++ (block_line ∷ insts_lines h.insts.items)
one_block bs h = blocks_append bs (h ∷ []) ∙ ap (λ t. blocks_lines bs ++ (block_line ∷ t)) (append-nil (insts_lines h.insts.items))

abbrev pub block_of : Vec Inst Global → Block
block_of v = record { insts = v }

abbrev pub loop_of : ℕ → Vec Inst Global → OpenLoop
loop_of c v = record { cond = c; before = v }

-- a block ends before a line
pub shut_lines : (s : List Line) (bs ns : List Block) (fs : List OpenLoop) (h v : Vec Inst Global) (l : Line) → fs ≡ [] → v.items ≡ h.items → ns ≡ bs ++ block_of v ∷ [] → s ++ (blocks_lines ns ++ l ∷ []) ≡ (s ++ (blocks_lines bs ++ (block_line ∷ (open_lines fs ++ insts_lines h.items)))) ++ l ∷ []
shut_lines s bs ns fs h v l f e k =
    ap (λ t. s ++ (blocks_lines t ++ l ∷ [])) k
    ∙ ap (λ t. s ++ (t ++ l ∷ [])) (one_block bs (block_of v))
    ∙ at_block s (blocks_lines bs) [] (insts_lines v.items) l
    ∙ ap (λ t. (s ++ (blocks_lines bs ++ (block_line ∷ insts_lines t))) ++ l ∷ []) e
    ∙ ap (λ t. (s ++ (blocks_lines bs ++ (block_line ∷ (open_lines t ++ insts_lines h.items)))) ++ l ∷ []) (sym f)

pub none_open : (fs : List OpenLoop) (v : Vec Inst Global) → fs ≡ [] → v.items ≡ [] → open_lines fs ++ insts_lines v.items ≡ []
none_open fs v f e = ap (λ t. open_lines t ++ insts_lines v.items) f ∙ ap insts_lines e

-- where a line leads within a block
pub to_block : (fs : List OpenLoop) → fs ≡ [] → next_place (Within (length fs)) OpenBlock ≡ Some (Within (length fs))
to_block fs f = rw f refl

pub to_end : (fs : List OpenLoop) → fs ≡ [] → next_place (Within (length fs)) CloseJob ≡ Some AtEnd
to_end fs f = rw f refl

few : (d : ℕ) → d < 9 → nat_lt d 9 ≡ true
few d h = grind (arith, nat_tests)

pub to_open : (d e : ℕ) → d < 9 → e ≡ suc d → next_place (Within d) OpenLoop' ≡ Some (Within e)
to_open d e h k = rw (k, few d h) refl

pub to_close : (d e : ℕ) → d ≡ suc e → next_place (Within d) CloseLoop ≡ Some (Within e)
to_close d e k = rw k refl

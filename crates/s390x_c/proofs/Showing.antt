-- Where emission has no cause to refuse a job's function, each of its instructions has a text.
use Rattle.std.proofs.Common.{◌≡◌, ℕ, ◌+◌, List, map, length, None, ◌&&◌}
use Rattle.std.proofs.lemmas.Bool.{and_parts, eqb-true}
use Rattle.std.specs.Prelude.{All, nat_eq}
use Rattle.s390x_base.specs.declared.error.EmitError.TheVariants.{BadStackState}
use Rattle.s390x_buffer.specs.State.{new_cause}
use Rattle.s390x_inst.specs.Emission.{Emission}
use Rattle.s390x_inst.specs.declared.function.Block.{Block}
use Rattle.s390x_inst.specs.declared.state.IsaFlags.{IsaFlags}
use Rattle.s390x_typed_steps.proofs.Causes.{first_left, first_right, unless_true}
use Rattle.s390x_typed_steps.specs.Causes.{Declared, blocks_cause, declared_of}
use Rattle.s390x_emit_int.specs.Function.{checked_cause, constants_of, start_cause, trees_of}
use Rattle.s390x_listing.proofs.Causes.{blocks_told}
use Rattle.s390x_text.specs.Laws.{HasTextsInOrder, tree_of_block}
use Rattle.s390x_job.specs.declared.job.Job.{Job}
use Rattle.s390x_c.specs.Refused.{job_cause}
use Rattle.s390x_c.specs.Show.{texts_of}

-- by the law on texts, whose premises are among the causes of the function
pub all_told : ((flags : IsaFlags) (D : Declared) (n : ℕ) (e : Emission) (blocks : List Block) → e.nominal ≡ 0 → e.outgoing ≡ 0 → blocks_cause flags D n (map (tree_of_block flags e) blocks) ≡ None → All (HasTextsInOrder flags e) blocks)
    → (j : Job) → job_cause j ≡ None → (texts_of j).cause ≡ None
all_told law j valid =
    let flags = j.info.isa_flags in
    let ts = trees_of j.info.isa_flags j.state j.function in
    let cs = constants_of j.function in
    let n = length ts + length cs in
    let start = unless_true (nat_eq j.state.nominal 0 && nat_eq j.state.outgoing 0) BadStackState (first_left (start_cause j.state) (checked_cause flags ts cs) valid) in
    let checked = first_right (start_cause j.state) (checked_cause flags ts cs) valid in
    let sizes = and_parts (nat_eq j.state.nominal 0) (nat_eq j.state.outgoing 0) start in
    let steps = first_left (blocks_cause flags (declared_of ts cs) n ts) _ (first_right (new_cause (length ts) cs) _ checked) in
    blocks_told flags j.state 0 j.function.blocks.items (law flags (declared_of ts cs) n j.state j.function.blocks.items (eqb-true j.state.nominal 0 sizes.0) (eqb-true j.state.outgoing 0 sizes.1) steps)

-- Two jobs with the same lines have the same causes, the same code and the same symbols.
use Rattle.std.proofs.Common.{◌≡◌, ℕ, ◌+◌, ◌++◌, List, map, length, Option, None, sym, ap, ◌∙◌, subst, append-nil, nat_lt, ◌&&◌}
use Rattle.std.proofs.lemmas.List.{length-map}
use Rattle.s390x_inst.specs.declared.state.IsaFlags.{IsaFlags}
use Rattle.s390x_base.specs.declared.error.EmitError.{EmitError}
use Rattle.s390x_base.specs.declared.error.EmitError.TheVariants.{LabelOutOfRange}
use Rattle.s390x_buffer.specs.State.{Constant, new_cause, limit}
use Rattle.s390x_buffer.specs.Constants.{constant_starts, constant_bytes, constants_end}
use Rattle.s390x_buffer.specs.declared.entries.MachBufferFinalized.{MachBufferFinalized}
use Rattle.s390x_typed_steps.specs.Tree.{Tree}
use Rattle.s390x_typed_steps.specs.Causes.{Declared, aligns_of, first_emit_cause, unless}
use Rattle.s390x_typed_steps.specs.Folding.{folded_trees}
use Rattle.s390x_typed_steps.specs.Sizes.{blocks_size}
use Rattle.s390x_typed_steps.specs.Ranges.{BlocksInRange}
use Rattle.s390x_typed_steps.specs.Image.{unlinked_environment, function_code}
use Rattle.s390x_typed_steps.specs.Sites.{call_offsets, patches, stack_maps}
use Rattle.s390x_emit_int.specs.Function.{IsFinishedCode, start_cause, checked_cause, code_length_cause, trees_of, constants_of}
use Rattle.s390x_job.specs.Jobs.{IsJob}
use Rattle.s390x_job.specs.Same.{SameJob}
use Rattle.s390x_job.specs.declared.job.Job.{Job}
use Rattle.s390x_image.specs.Causes.{link_cause}
use Rattle.s390x_image.specs.Symbols.{no_symbols}
use Rattle.s390x_bundle.specs.Table.{with_lines}
use Rattle.s390x_tool.specs.Answers.{IsCodeOfJob, Links, job_cause}
use Rattle.s390x_tool.specs.declared.words.JobCommand.{JobCommand}
use Rattle.s390x_tool.specs.declared.words.JobCommand.TheVariants.{Image, Emit, Run, Operands, Show}
use Rattle.s390x_tool.proofs.SameTree.{LineTree, lines_tree, lines_for, line_blocks_cause, line_blocks_size, line_ranges, parts_code, line_at, line_places, line_environment, line_steps_from, same_blocks_cause, same_function_code, same_starts, same_block_starts, same_blocks_size}
use Rattle.s390x_tool.proofs.SameTree.{parts_places, line_block_places, ranges_to, ranges_from, each_traps, same_function_traps, each_relocs, same_function_relocs, line_sites, same_function_sites, line_tries, same_function_tries}
use Rattle.s390x_tool.proofs.SameEnds.{lines_from, line_peak, same_peak, folded_blocks_told, same_folded}
use Rattle.s390x_tool.proofs.SameLines.{found, with_flags, with_frame, frame_of, Said, job_found}
use Rattle.s390x_tool.proofs.Frameless.{raw_block, resolved_lines, blocks_resolved}
use Rattle.s390x_inst.specs.State.{fresh_emission}

-- what two jobs share
pub same_found : (j k : Job) → IsJob j → IsJob k → SameJob j k → with_flags j.info.isa_flags (with_frame (frame_of j) (Said j)) ≡ with_flags k.info.isa_flags (with_frame (frame_of k) (Said k))
same_found j k a b e = sym (job_found j a.frame) ∙ ap found e ∙ job_found k b.frame

pub same_state : (j k : Job) → IsJob j → IsJob k → SameJob j k → j.state ≡ k.state
same_state j k a b e = a.state ∙ ap (λ f. fresh_emission f.frame.layout f.frame.conv) (same_found j k a b e) ∙ sym b.state

same_flags : (j k : Job) → IsJob j → IsJob k → SameJob j k → j.info.isa_flags ≡ k.info.isa_flags
same_flags j k a b e = ap (λ f. f.flags) (same_found j k a b e)

pub same_blocks : (j k : Job) → IsJob j → IsJob k → SameJob j k → map lines_tree (trees_of j.info.isa_flags j.state j.function) ≡ map lines_tree (trees_of k.info.isa_flags k.state k.function)
same_blocks j k a b e =
    blocks_resolved j.info.isa_flags j.state j.function.blocks.items
    ∙ ap (λ f. map (lines_for j.info.isa_flags) (map (resolved_lines j.state) f.blocks)) (same_found j k a b e)
    ∙ ap (λ s. map (lines_for j.info.isa_flags) (map (resolved_lines s) (map lines_tree (map raw_block k.function.blocks.items)))) (same_state j k a b e)
    ∙ ap (λ x. map (lines_for x) (map (resolved_lines k.state) (map lines_tree (map raw_block k.function.blocks.items)))) (same_flags j k a b e)
    ∙ sym (blocks_resolved k.info.isa_flags k.state k.function.blocks.items)

pub same_constants : (j k : Job) → IsJob j → IsJob k → SameJob j k → constants_of j.function ≡ constants_of k.function
same_constants j k a b e =
    sym (append-nil (constants_of j.function)) ∙ ap (λ f. f.constants) (same_found j k a b e) ∙ append-nil (constants_of k.function)

pub same_symbols : (j k : Job) → IsJob j → IsJob k → SameJob j k → j.symbols.items ≡ k.symbols.items
same_symbols j k a b e =
    sym (append-nil j.symbols.items) ∙ ap (λ f. f.symbols) (same_found j k a b e) ∙ append-nil k.symbols.items

-- what instructions may name
abbrev line_declared : (blocks : ℕ) → List Constant → Declared
line_declared blocks cs = record { blocks = blocks; aligns = aligns_of cs }

-- the length, at its greatest and in the end
abbrev line_length : List LineTree → List Constant → Option EmitError
line_length ts cs = unless (nat_lt (line_peak 0 0 ts) limit && nat_lt (constants_end (line_blocks_size (lines_from 0 ts)) cs) limit) LabelOutOfRange

same_length : (ts : List Tree) (cs : List Constant) → code_length_cause ts cs ≡ line_length (map lines_tree ts) cs
same_length ts cs =
    ap (λ n. unless (nat_lt n limit && nat_lt (constants_end (blocks_size (folded_trees ts)) cs) limit) LabelOutOfRange) (same_peak ts)
    ∙ ap (λ n. unless (nat_lt (line_peak 0 0 (map lines_tree ts)) limit && nat_lt (constants_end n cs) limit) LabelOutOfRange) (same_blocks_size (folded_trees ts) ∙ ap line_blocks_size (folded_blocks_told ts))

-- the causes after the state's
abbrev line_checked : IsaFlags → List LineTree → List Constant → Option EmitError
line_checked flags ts cs =
    first_emit_cause (new_cause (length ts) cs)
    (first_emit_cause (line_blocks_cause flags (line_declared (length ts) cs) (length ts + length cs) ts) (line_length ts cs))

same_checked : (flags : IsaFlags) (ts : List Tree) (cs : List Constant) → checked_cause flags ts cs ≡ line_checked flags (map lines_tree ts) cs
same_checked flags ts cs =
    let D = line_declared (length ts) cs in
    let ls = map lines_tree ts in
    ap (λ o. first_emit_cause (new_cause (length ts) cs) (first_emit_cause o (code_length_cause ts cs))) (same_blocks_cause flags D (length ts + length cs) ts)
    ∙ ap (λ o. first_emit_cause (new_cause (length ts) cs) (first_emit_cause (line_blocks_cause flags D (length ts + length cs) ls) o)) (same_length ts cs)
    ∙ ap (λ n. first_emit_cause (new_cause n cs) (first_emit_cause (line_blocks_cause flags (line_declared n cs) (n + length cs) ls) (line_length ls cs))) (sym (length-map ts lines_tree))

start_none : (j : Job) → IsJob j → start_cause j.state ≡ None
start_none j is = ap start_cause is.state

-- they are refused by the same cause
pub same_cause : (j k : Job) → IsJob j → IsJob k → SameJob j k → job_cause j ≡ job_cause k
same_cause j k a b e =
    let f = j.info.isa_flags in
    let g = k.info.isa_flags in
    ap (λ o. first_emit_cause o (checked_cause f (trees_of j.info.isa_flags j.state j.function) (constants_of j.function))) (start_none j a)
    ∙ same_checked f (trees_of j.info.isa_flags j.state j.function) (constants_of j.function)
    ∙ ap (λ ts. line_checked f ts (constants_of j.function)) (same_blocks j k a b e)
    ∙ ap (line_checked f (map lines_tree (trees_of k.info.isa_flags k.state k.function))) (same_constants j k a b e)
    ∙ ap (λ x. line_checked x (map lines_tree (trees_of k.info.isa_flags k.state k.function)) (constants_of k.function)) (same_flags j k a b e)
    ∙ sym (same_checked g (trees_of k.info.isa_flags k.state k.function) (constants_of k.function))
    ∙ ap (λ o. first_emit_cause o (checked_cause g (trees_of k.info.isa_flags k.state k.function) (constants_of k.function))) (sym (start_none k b))

same_ranges : (ts us : List Tree) → map lines_tree ts ≡ map lines_tree us → BlocksInRange ts → BlocksInRange us
same_ranges ts us e h = ranges_from us (subst line_ranges e (ranges_to ts h))

same_bytes : (ts us : List Tree) (cs : List Constant) → map lines_tree ts ≡ map lines_tree us → function_code (unlinked_environment ts cs) ts ≡ function_code (unlinked_environment us cs) us
same_bytes ts us cs e = same_function_code ts cs ∙ ap (λ ls. parts_code (line_places (line_environment ls cs) ls) 0 (line_steps_from 0 ls)) e ∙ sym (same_function_code us cs)

same_sizes : (ts us : List Tree) → map lines_tree ts ≡ map lines_tree us → blocks_size ts ≡ blocks_size us
same_sizes ts us e = same_blocks_size ts ∙ ap line_blocks_size e ∙ sym (same_blocks_size us)

same_image : (ts us : List Tree) (cs : List Constant) (f : MachBufferFinalized) → map lines_tree ts ≡ map lines_tree us → IsFinishedCode ts cs f → IsFinishedCode us cs f
same_image ts us cs f e h =
    let size = same_sizes ts us e in
    let sites = same_function_sites ts ∙ ap line_sites e ∙ sym (same_function_sites us) in
    record {
      bytes = h.bytes ∙ ap (λ bs. bs ++ constant_bytes (blocks_size ts) cs) (same_bytes ts us cs e) ∙ ap (λ n. function_code (unlinked_environment us cs) us ++ constant_bytes n cs) size;
      block_starts = h.block_starts ∙ same_block_starts ts ∙ ap (λ ls. line_block_places (line_at ls) 0 ls) e ∙ sym (same_block_starts us);
      constant_starts = h.constant_starts ∙ ap (λ n. constant_starts n cs) size;
      starts = h.starts ∙ same_starts ts ∙ ap (λ ls. parts_places (line_at ls) 0 (line_steps_from 0 ls)) e ∙ sym (same_starts us);
      relocs = h.relocs ∙ same_function_relocs ts ∙ ap (λ ls. each_relocs (line_at ls) 0 (line_steps_from 0 ls)) e ∙ sym (same_function_relocs us);
      traps = h.traps ∙ same_function_traps ts ∙ ap (λ ls. each_traps (line_at ls) 0 (line_steps_from 0 ls)) e ∙ sym (same_function_traps us);
      call_sites = h.call_sites ∙ ap call_offsets sites;
      try_call_sites = h.try_call_sites ∙ same_function_tries ts ∙ ap line_tries e ∙ sym (same_function_tries us);
      patchable_sites = h.patchable_sites ∙ ap patches sites;
      stack_maps = h.stack_maps ∙ ap stack_maps sites;
      alignment = h.alignment;
      short = h.short;
    }

-- a code of one is a code of the other
pub same_code : (j k : Job) (code : MachBufferFinalized) → IsJob j → IsJob k → SameJob j k → IsCodeOfJob j code → IsCodeOfJob k code
same_code j k code a b e h =
    let ts = trees_of j.info.isa_flags j.state j.function in
    let us = trees_of k.info.isa_flags k.state k.function in
    record {
      valid = sym (same_cause j k a b e) ∙ h.valid;
      ranges = same_ranges ts us (same_blocks j k a b e) h.ranges;
      emitted = subst (λ cs. IsFinishedCode (folded_trees us) cs code) (same_constants j k a b e) (same_image (folded_trees ts) (folded_trees us) (constants_of j.function) code (same_folded ts us (same_blocks j k a b e)) h.emitted);
    }

-- what links of one links of the other
pub same_links : (command : JobCommand) (j k : Job) → IsJob j → IsJob k → SameJob j k → Links command k → Links command j
same_links (Image base) j k a b e links =
    λ code is. ap (λ ss. link_cause code base (with_lines no_symbols ss)) (same_symbols j k a b e) ∙ links code (same_code j k code a b e is)
same_links (Run base steps) j k a b e links =
    λ code is. ap (λ ss. link_cause code base (with_lines no_symbols ss)) (same_symbols j k a b e) ∙ links code (same_code j k code a b e is)
same_links command j k a b e links = tt

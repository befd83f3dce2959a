-- The finished function is its image.
use Rattle.s390x_emit_int.proofs.Handlers.{sites_agree, function_named}
use Rattle.s390x_emit_int.proofs.Siting.{Sited, sited, sites_run, function_sited}
use Rattle.s390x_typed_steps.specs.Sites.{function_sites, call_offsets, patches, stack_maps, try_sites, block_offset, function_try_entries}
use Rattle.std.proofs.Common.{◌≡◌, ℕ, suc, ◌+◌, ◌-◌, ◌<◌, ◌≤◌, ◌≢◌, List, [], ◌∷◌, ◌++◌, length, map, get_or, take, drop, refl, sym, ap, ◌∙◌, subst, arith, length-append, length-set, zero-add, drop-cons, length-take, Option, None, Some}
use Rattle.std.proofs.lemmas.List.{length-map, length-replicate, get_or_append_left, get_or-append-add, get_or-take, get_or-drop}
use Rattle.s390x_inst.specs.Emission.{Emission}
use Rattle.s390x_inst.specs.declared.state.IsaFlags.{IsaFlags}
use Rattle.s390x_buffer.specs.State.{BufferState, Constant, fresh_buffer, constant_label}
use Rattle.s390x_buffer.specs.Patch.{offset_of_label, bound_offset}
use Rattle.s390x_buffer.specs.Constants.{constant_starts, constant_bytes, constants_end, greatest_align}
use Rattle.s390x_buffer.specs.Finish.{Finished, bind_constants, final_labels, starts_of_constants, bound_site}
use Rattle.s390x_buffer.specs.declared.entries.MachBufferFinalized.{MachBufferFinalized}
use Rattle.s390x_inst.specs.declared.function.Block.{Block}
use Rattle.s390x_typed_steps.specs.Tree.{Tree}
use Rattle.s390x_typed_steps.specs.Ranges.{AllInRange, BlocksInRange}
use Rattle.s390x_emit_int.specs.Room.{HasRoom}
use Rattle.s390x_inst.specs.declared.inst.Inst.{Inst}
use Rattle.s390x_typed_steps.specs.Steps.{function_steps, first_step}
use Rattle.s390x_typed_steps.specs.Image.{step_offset, offsets, constant_offset, unlinked_environment, function_code}
use Rattle.s390x_typed_steps.specs.Folding.{folded_before, next_block, folded_from}
use Rattle.s390x_typed_steps.specs.Sizes.{blocks_size}
use Rattle.s390x_typed_steps.specs.Causes.{declared_of, fresh_labels, blocks_cause}
use Rattle.s390x_emit_int.specs.Fragments.{Fragment, apply, apply_all, Put, PutTrapping, PutReloc, Link, LinkConstant, StartStep, Draw, Bind, AddSite, RecordBranch}
use Rattle.s390x_emit_int.specs.Members.{block_members_of}
use Rattle.s390x_emit_int.specs.Emission.{fragments, function_fragments}
use Rattle.s390x_emit_int.specs.Resolve.{resolve, put_length, Wide, UsesWithin}
use Rattle.s390x_emit_int.specs.Bound.{TreesName, AllBound}
use Rattle.s390x_emit_int.specs.Function.{IsFinishedCode, tree_of}
use Rattle.s390x_emit_int.proofs.Runs.{run-append}
use Rattle.s390x_emit_int.proofs.Patching.{patched, patched_run, all_left, within_more, within_append}
use Rattle.s390x_emit_int.proofs.Names.{all_names}
use Rattle.s390x_emit_int.proofs.Starts.{Same, same_run, starts_run, marks, function_marks}
use Rattle.s390x_emit_int.proofs.Functions.{function_wide, TellsBlocks, all_bound, function_join, block_at, blocks_upto, places_upto, place_follows, place_zero, bound_state, block_state, block_labels, block_kept, longer, function_put}
use Rattle.s390x_emit_int.proofs.Constants.{middle_label}
use Rattle.s390x_emit_int.proofs.Relocating.{relocated, relocs_run, function_relocated}
use Rattle.s390x_emit_int.proofs.Recording.{recorded, traps_run, function_recorded}
use Rattle.s390x_buffer.specs.declared.entries.LabelFixup.{LabelFixup}
use Rattle.s390x_buffer.specs.declared.label_use.LabelUse.TheVariants.{BranchRIL}
use Rattle.s390x_buffer.proofs.Placing.{length-constant_bytes, length-constant_starts}
use Rattle.s390x_buffer.proofs.Branching.{length-patch_all}

-- how long the bytes become
pub bytes_run : (ps : List Fragment) (s : BufferState) → length (apply_all s ps).bytes ≡ length s.bytes + put_length ps
bytes_run [] s = omega arith
bytes_run (Put bs ∷ ps) s = omega (arith, bytes_run ps (apply s (Put bs)), length-append s.bytes bs)
bytes_run (PutReloc bs byte kind name addend ∷ ps) s = omega (arith, bytes_run ps (apply s (PutReloc bs byte kind name addend)), length-append s.bytes bs)
bytes_run (PutTrapping bs byte code ∷ ps) s = omega (arith, bytes_run ps (apply s (PutTrapping bs byte code)), length-append s.bytes bs)
bytes_run (Link k l bs ∷ ps) s = omega (arith, bytes_run ps (apply s (Link k l bs)), length-append s.bytes bs)
bytes_run (LinkConstant c bs ∷ ps) s = omega (arith, bytes_run ps (apply s (LinkConstant c bs)), length-append s.bytes bs)
bytes_run (StartStep ∷ ps) s = bytes_run ps (apply s StartStep)
bytes_run (Draw ∷ ps) s = bytes_run ps (apply s Draw)
bytes_run (Bind l ∷ ps) s = bytes_run ps (apply s (Bind l))
bytes_run (AddSite site ∷ ps) s = bytes_run ps (apply s (AddSite site))
bytes_run (RecordBranch noted ∷ ps) s = bytes_run ps (apply s (RecordBranch noted))

-- the uses lie within the bytes
within_run : (ps : List Fragment) (s : BufferState) → UsesWithin (length s.bytes) s.uses → Wide ps → UsesWithin (length (apply_all s ps).bytes) (apply_all s ps).uses
within_run [] s w h = w
within_run (Put bs ∷ ps) s w h =
    let n = length-append s.bytes bs in
    within_run ps (apply s (Put bs)) (within_more (length s.bytes) (length (s.bytes ++ bs)) s.uses (omega (arith, n)) w) h
within_run (PutReloc bs byte kind name addend ∷ ps) s w h =
    let n = length-append s.bytes bs in
    within_run ps (apply s (PutReloc bs byte kind name addend)) (within_more (length s.bytes) (length (s.bytes ++ bs)) s.uses (omega (arith, n)) w) h
within_run (PutTrapping bs byte code ∷ ps) s w h =
    let n = length-append s.bytes bs in
    within_run ps (apply s (PutTrapping bs byte code)) (within_more (length s.bytes) (length (s.bytes ++ bs)) s.uses (omega (arith, n)) w) h
within_run (Link k l bs ∷ ps) s w h =
    let n = length-append s.bytes bs in
    let u : LabelFixup = record { kind = k; offset = length s.bytes; label = record { 0 = l } } in
    within_run ps (apply s (Link k l bs)) (within_append (length (s.bytes ++ bs)) s.uses u (within_more (length s.bytes) (length (s.bytes ++ bs)) s.uses (omega (arith, n)) w) (omega (arith, n, h.0))) h.1
within_run (LinkConstant c bs ∷ ps) s w h =
    let n = length-append s.bytes bs in
    let u : LabelFixup = record { kind = BranchRIL; offset = length s.bytes; label = record { 0 = constant_label s c } } in
    within_run ps (apply s (LinkConstant c bs)) (within_append (length (s.bytes ++ bs)) s.uses u (within_more (length s.bytes) (length (s.bytes ++ bs)) s.uses (omega (arith, n)) w) (omega (arith, n, h.0))) h.1
within_run (StartStep ∷ ps) s w h = within_run ps (apply s StartStep) w h
within_run (Draw ∷ ps) s w h = within_run ps (apply s Draw) w h
within_run (Bind l ∷ ps) s w h = within_run ps (apply s (Bind l)) w h
within_run (AddSite site ∷ ps) s w h = within_run ps (apply s (AddSite site)) w h
within_run (RecordBranch noted ∷ ps) s w h = within_run ps (apply s (RecordBranch noted)) w h

-- binding the constants leaves the labels before theirs, and those behind
pub low_label : (n : ℕ) (starts : List ℕ) (labels : List (Option ℕ)) (l : ℕ) → l < n → n ≤ length labels → get_or (bind_constants n starts labels) l None ≡ get_or labels l None
low_label n starts labels l lt le =
    let h : l < length (take n labels) = omega (arith, length-take n labels) in
    get_or_append_left (take n labels) _ None l h ∙ get_or-take n labels l None lt

pub high_label : (n : ℕ) (starts : List ℕ) (labels : List (Option ℕ)) (l : ℕ) → n + length starts ≤ l → n ≤ length labels → get_or (bind_constants n starts labels) l None ≡ get_or labels l None
high_label n starts labels l lo le =
    let m = length starts in
    let j = l - (n + m) in
    let first : length (take n labels) ≡ n = omega (arith, length-take n labels) in
    let second : length (map Some starts) ≡ m = length-map starts Some in
    let e1 : l ≡ length (take n labels) + (m + j) = omega arith in
    let e2 : m + j ≡ length (map Some starts) + j = omega arith in
    let e3 : n + m + j ≡ l = omega arith in
    ap (λ k. get_or (bind_constants n starts labels) k None) e1
    ∙ get_or-append-add (take n labels) (map Some starts ++ drop (n + m) labels) (m + j) None
    ∙ ap (λ k. get_or (map Some starts ++ drop (n + m) labels) k None) e2
    ∙ get_or-append-add (map Some starts) (drop (n + m) labels) j None
    ∙ get_or-drop (n + m) labels j None
    ∙ ap (λ k. get_or labels k None) e3

code_is : (ts : List Tree) (cs : List Constant) (off : ℕ → ℕ) (n : ℕ) → ((l : ℕ) → l < length ts → off l ≡ (offsets (unlinked_environment ts cs) ts).block l) → ((c : ℕ) → c < length cs → off (length ts + c) ≡ constant_offset ts cs c) →
    TreesName (length ts) (length cs) ts → AllBound off n 0 (step_offset (function_steps ts) 0) ts → resolve (length ts) off 0 (function_fragments n 0 ts) ≡ function_code (unlinked_environment ts cs) ts
code_is [] cs off n agree held names bound = refl
code_is (t ∷ ts) cs off n agree held names bound =
    let all = function_steps (t ∷ ts) in
    ap (λ m. resolve (length (t ∷ ts)) off m (function_fragments n 0 (t ∷ ts))) (sym (place_zero all))
    ∙ function_join (t ∷ ts) off (offsets (unlinked_environment (t ∷ ts) cs) (t ∷ ts)) (length (t ∷ ts)) (length cs) n 0 0 (agree, held, λ name offset. refl, λ p name offset. refl) names bound (place_follows all) bound.0

-- what was emitted, as one buffer has it
pub record Emitted (flags : IsaFlags) (ts : List Tree) (cs : List Constant) (u : BufferState) : Type 0 where
  pub is : u ≡ apply_all (fresh_buffer (length ts) cs) (function_fragments (length ts + length cs) 0 ts)
  pub checked : blocks_cause flags (declared_of ts cs) (length ts + length cs) ts ≡ None

pub image_of : (flags : IsaFlags) (ts : List Tree) (cs : List Constant) (u : BufferState) (f : MachBufferFinalized) → Emitted flags ts cs u → Finished u f → IsFinishedCode ts cs f
image_of flags ts cs u0 f emitted fin0 =
    let b = length ts in
    let n = b + length cs in
    let s0 = fresh_buffer b cs in
    let ps = function_fragments n 0 ts in
    let u = apply_all s0 ps in
    let fin : Finished u f = subst (λ x. Finished x f) emitted.is fin0 in
    let same : Same s0 u = same_run ps s0 in
    let off = offset_of_label (final_labels u) in
    let all = function_steps ts in
    let at = step_offset all in
    let follow = place_follows all in
    let drawn : length s0.labels ≡ n = length-replicate n None in
    let long : n ≤ length u.labels = longer ts s0 n 0 (sym drawn) in
    let count : u.block_count ≡ b = same.block_count in
    let starts : length (starts_of_constants u) ≡ length cs = length-constant_starts (length u.bytes) u.constants ∙ ap length same.constants in
    let enough : u.block_count ≤ length u.labels = omega arith in
    let blocks : TellsBlocks off 0 b u = λ l lo hi. let lt : l < u.block_count = omega arith in ap bound_offset (low_label u.block_count (starts_of_constants u) u.labels l lt enough) in
    let tells : (l : ℕ) → n ≤ l → l < length u.labels → off l ≡ offset_of_label u.labels l = λ l lo hi. let le : u.block_count + length (starts_of_constants u) ≤ l = omega arith in ap bound_offset (high_label u.block_count (starts_of_constants u) u.labels l le enough) in
    let bound0 : AllBound off n 0 0 ts = all_bound ts s0 n 0 off (sym drawn) (omega arith) blocks tells in
    let bound : AllBound off n 0 (at 0) ts = subst (λ m. AllBound off n 0 m ts) (sym (place_zero all)) bound0 in
    let agree : (l : ℕ) → l < b → off l ≡ (offsets (unlinked_environment ts cs) ts).block l = λ l h. ap off (sym (zero-add l)) ∙ block_at ts off at n 0 0 l bound follow h ∙ ap at (zero-add (first_step ts l)) in
    let wide : Wide ps = function_wide ts n 0 in
    let within : UsesWithin (length u.bytes) u.uses = within_run ps s0 tt wide in
    let size : length u.bytes ≡ blocks_size ts = bytes_run ps s0 ∙ omega (arith, function_put ts n 0) in
    let held : (c : ℕ) → c < length cs → off (b + c) ≡ constant_offset ts cs c = λ c h.
    ap (λ m. off (m + c)) (sym count)
    ∙ ap bound_offset (middle_label u.block_count (starts_of_constants u) u.labels c (omega (arith, starts)) enough)
    ∙ ap (λ m. get_or (constant_starts m u.constants) c 0) size
    ∙ ap (λ x. get_or (constant_starts (blocks_size ts) x) c 0) same.constants in
    let names : TreesName b (length cs) ts = subst (λ k. TreesName b k ts) (length-map cs (λ (c : Constant). c.align)) (all_names flags (declared_of ts cs) n ts emitted.checked) in
    let code = function_code (unlinked_environment ts cs) ts in
    let body : patched off u ≡ code = patched_run ps s0 off tt wide ∙ code_is ts cs off n agree held names bound in
    let sized : length code ≡ blocks_size ts = ap length (sym body) ∙ length-patch_all off u.uses u.bytes ∙ size in
    let whole : f.bytes.items ≡ code ++ constant_bytes (blocks_size ts) cs = fin.bytes ∙ all_left off u.uses u.bytes (constant_bytes (length u.bytes) u.constants) within ∙ ap (λ l. l ++ constant_bytes (length u.bytes) u.constants) body ∙ ap (λ m. code ++ constant_bytes m u.constants) size ∙ ap (λ x. code ++ constant_bytes (blocks_size ts) x) same.constants in
    let ends : length f.bytes.items ≡ constants_end (length u.bytes) u.constants = ap length whole ∙ length-append code (constant_bytes (blocks_size ts) cs) ∙ ap (λ m. m + length (constant_bytes (blocks_size ts) cs)) sized ∙ length-constant_bytes (blocks_size ts) cs ∙ ap (λ m. constants_end m cs) (sym size) ∙ ap (constants_end (length u.bytes)) (sym same.constants) in
    let sites : Sited s0 u (sited 0 ps) = sites_run ps s0 in
    let placed : sited 0 ps ≡ function_sites ts = ap (λ m. sited m ps) (sym (place_zero all)) ∙ function_sited ts at n 0 0 follow in
    let handled : map (bound_site off) (try_sites (function_sites ts)) ≡ function_try_entries ts = sites_agree b off (block_offset ts) agree (function_sites ts) (function_named ts at 0 b (length cs) names) in
    record {
      short = omega (arith, ends, fin.small);
      bytes = whole;
      block_starts = fin.block_starts ∙ ap (λ m. map bound_offset (take m u.labels)) count ∙ places_upto b 0 u.labels off (omega arith) blocks ∙ blocks_upto ts off at n 0 0 bound follow;
      constant_starts = fin.constant_starts ∙ ap (λ m. constant_starts m u.constants) size ∙ ap (λ x. constant_starts (blocks_size ts) x) same.constants;
      starts = fin.starts ∙ starts_run ps s0 ∙ ap (λ m. marks m ps) (sym (place_zero all)) ∙ function_marks ts at n 0 0 follow;
      relocs = fin.relocs ∙ relocs_run ps s0 ∙ ap (λ m. relocated m ps) (sym (place_zero all)) ∙ function_relocated ts at n 0 0 follow;
      traps = fin.traps ∙ traps_run ps s0 ∙ ap (λ m. recorded m ps) (sym (place_zero all)) ∙ function_recorded ts at n 0 0 follow;
      call_sites = fin.call_sites ∙ sites.calls ∙ ap call_offsets placed;
      try_call_sites = fin.try_call_sites ∙ ap (λ x. map (bound_site off) x) (sites.tries ∙ ap try_sites placed) ∙ handled;
      patchable_sites = fin.patchable_sites ∙ sites.patched ∙ ap patches placed;
      stack_maps = fin.stack_maps ∙ sites.mapped ∙ ap stack_maps placed;
      alignment = fin.alignment ∙ ap (λ x. greatest_align 4 x) same.constants;
    }

block_is : (s s1 s2 : BufferState) (k : ℕ) (t : Tree) → s1 ≡ apply s (Bind k) → s2 ≡ apply_all s1 (fragments (length s1.labels) 0 t) → s2 ≡ block_state s (length s.labels) k t
block_is s s1 s2 k t e1 e2 =
    e2 ∙ ap (λ x. apply_all x (fragments (length x.labels) 0 t)) e1 ∙ ap (λ m. apply_all (bound_state s k) (fragments m 0 t)) (length-set s.labels k (Some (length s.bytes)))

-- one more block
pub block_more : (flags : IsaFlags) (state : Emission) (bs : List Block) (k : ℕ) (v : Block) (s s1 s2 r : BufferState) → k < length bs → v ≡ get_or bs k v
    → s1 ≡ apply s (Bind k) → s2 ≡ apply_all s1 (fragments (length s1.labels) 0 (folded_before (next_block k (map (tree_of flags state) (drop (k + 1) bs))) (tree_of flags state v)))
    → apply_all s (function_fragments (length s.labels) k (folded_from k (map (tree_of flags state) (drop k bs)))) ≡ r
    → apply_all s2 (function_fragments (length s2.labels) (k + 1) (folded_from (k + 1) (map (tree_of flags state) (drop (k + 1) bs)))) ≡ r
block_more flags state bs k v s s1 s2 r lt at e1 e2 h =
    let n = length s.labels in
    let rest = drop (k + 1) bs in
    let t = folded_before (next_block k (map (tree_of flags state) rest)) (tree_of flags state v) in
    let us = folded_from (k + 1) (map (tree_of flags state) rest) in
    let k1 : suc k ≡ k + 1 = omega arith in
    let cons : drop k bs ≡ v ∷ rest = drop-cons bs k v lt ∙ ap (λ x. x ∷ drop (suc k) bs) (sym at) ∙ ap (λ m. v ∷ drop m bs) k1 in
    let e2' : s2 ≡ block_state s n k t = block_is s s1 s2 k t e1 e2 in
    let len : length s2.labels ≡ n + fresh_labels t = ap (λ x. length x.labels) e2' ∙ sym (block_labels t s n k refl) in
    ap (λ m. apply_all s2 (function_fragments m (k + 1) us)) len
    ∙ ap (λ x. apply_all x (function_fragments (n + fresh_labels t) (k + 1) us)) e2'
    ∙ sym (run-append (bound_state s k) (fragments n 0 t) (function_fragments (n + fresh_labels t) (k + 1) us))
    ∙ ap (λ l. apply_all s (function_fragments n k (folded_from k (map (tree_of flags state) l)))) (sym cons)
    ∙ h

pub record NextBlock (s2 : BufferState) (k n : ℕ) : Type 0 where
  pub drawn : n ≤ length s2.labels
  pub free : (j : ℕ) → k + 1 ≤ j → j < n → get_or s2.labels j None ≡ None

pub next_free : (k m : ℕ) (t : Tree) (s s1 s2 : BufferState) → m ≤ length s.labels → ((j : ℕ) → k ≤ j → j < m → get_or s.labels j None ≡ None) → s1 ≡ apply s (Bind k) → s2 ≡ apply_all s1 (fragments (length s1.labels) 0 t) → NextBlock s2 k m
next_free k m t s s1 s2 room free e1 e2 =
    let n = length s.labels in
    let e2' : s2 ≡ block_state s n k t = block_is s s1 s2 k t e1 e2 in
    let len : length s2.labels ≡ n + fresh_labels t = ap (λ x. length x.labels) e2' ∙ sym (block_labels t s n k refl) in
    record {
      drawn = omega (arith, len);
      free = λ j lo hi. let ne : j ≢ k = omega arith in ap (λ x. get_or x.labels j None) e2' ∙ block_kept t s n k j refl (omega arith) ne ∙ free j (omega arith) hi;
    }

pub block_room : (k : ℕ) (t : Tree) (s s1 s2 : BufferState) → HasRoom s → s1 ≡ apply s (Bind k) → s2 ≡ apply_all s1 (fragments (length s1.labels) 0 t) → HasRoom s2
block_room k t s s1 s2 room e1 e2 =
    let n = length s.labels in
    let e2' : s2 ≡ block_state s n k t = block_is s s1 s2 k t e1 e2 in
    let same : Same s (block_state s n k t) = same_run (Bind k ∷ fragments n 0 t) s in
    subst HasRoom (sym e2') (omega (arith, block_labels t s n k refl, same.block_count, ap length same.constants))

pub block_ranges : (flags : IsaFlags) (state : Emission) (bs : List Block) (k : ℕ) (v : Block) (members : List Inst) → k < length bs → v ≡ get_or bs k v → members ≡ v.insts.items → AllInRange (block_members_of flags state members) → BlocksInRange (map (tree_of flags state) (drop (k + 1) bs)) → BlocksInRange (map (tree_of flags state) (drop k bs))
block_ranges flags state bs k v members lt at e here rest =
    let k1 : suc k ≡ k + 1 = omega arith in
    let cons : drop k bs ≡ v ∷ drop (k + 1) bs = drop-cons bs k v lt ∙ ap (λ x. x ∷ drop (suc k) bs) (sym at) ∙ ap (λ m. v ∷ drop m bs) k1 in
    subst (λ l. BlocksInRange (map (tree_of flags state) l)) (sym cons) (subst (λ l. AllInRange (block_members_of flags state l)) e here, rest)

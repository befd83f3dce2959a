-- The bytes that emission appends for an instruction that names no block are those of the instruction by itself.
use Rattle.std.proofs.Common.{◌≡◌, ℕ, zero, suc, ◌+◌, ◌-◌, ◌<◌, ◌≤◌, [], ◌∷◌, ◌++◌, List, length, None, refl, sym, ap, ◌∙◌, subst, arith, append-nil, add_assoc, add-zero}
use Rattle.std.specs.Int.{w64, to_be_bytes}
use Rattle.std.specs.Prelude.{ℤ, pos}
use Rattle.s390x_base.specs.declared.ir.ExternalName.{ExternalName}
use Rattle.s390x_buffer.specs.State.{BufferState}
use Rattle.s390x_buffer.specs.Patch.{offset_of_label}
use Rattle.s390x_buffer.specs.declared.entries.RecordedBranches.{RecordedBranches}
use Rattle.s390x_buffer.specs.declared.entries.RecordedBranches.TheVariants.{NoBranch}
use Rattle.s390x_inst.specs.declared.inst.Inst.{Inst}
use Rattle.s390x_inst.specs.declared.inst.Inst.TheVariants.{CondBreak}
use Rattle.s390x_inst.specs.declared.state.IsaFlags.{IsaFlags}
use Rattle.s390x_rows.specs.declared.opcodes.TheConstants as opcodes
use Rattle.s390x_typed_steps.specs.Causes.{Declared, declared_in, aligns_of, tree_cause, body_cause, body_fresh_labels, body_nominal_after, fresh_labels, nesting_cause, numbers_cause, first_emit_cause}
use Rattle.s390x_typed_steps.specs.Image.{offsets, code, function_code, step_offset}
use Rattle.s390x_typed_steps.specs.MachineInstruction.{bytes_of, ril_b, ril_c}
use Rattle.s390x_typed_steps.specs.Parts.{CodePart, Row, Trapping, Branch, Relative, RelativeConstant, RelativeSymbol, SymbolValue, TrapHere, TableWord, CallSymbol, SiteHere, ToBlock, ToStep, instruction_parts, part_size, step_parts, step_size}
use Rattle.s390x_typed_steps.specs.Rows.{Offsets, half_distance, table_distance, word_bytes, symbol_call, part_bytes, parts_bytes, step_bytes}
use Rattle.s390x_typed_steps.specs.StepBody.{StepBody, Whole, Loaded, Folded, CallStep, NoLoad, TailOpening, TailJump}
use Rattle.s390x_typed_steps.specs.Steps.{Step, Opening, Back, step_count, step_of, steps_of, function_steps}
use Rattle.s390x_typed_steps.specs.Tree.{Tree, empty, leaf, loop_node}
use Rattle.s390x_typed_steps.proofs.Causes.{first_left, first_right}
use Rattle.s390x_emit_int.specs.Bound.{StepsFollow, Bound, PartNames, PartsName, BodyNames, TreeNames}
use Rattle.s390x_emit_int.specs.Emission.{fragments, own_fragments}
use Rattle.s390x_emit_int.specs.Fragments.{Fragment, Put, PutTrapping, PutReloc, Link, LinkConstant, StartStep, Draw, Bind, AddSite, RecordBranch, apply, apply_all}
use Rattle.s390x_emit_int.specs.Resolve.{UsesWithin, Wide, resolve}
use Rattle.s390x_emit_int.proofs.Binding.{tree_bound}
use Rattle.s390x_emit_int.proofs.Functions.{place_follows, place_zero, tree_wide}
use Rattle.s390x_emit_int.proofs.Joining.{code_append, follows_left, steps_length, tree_join}
use Rattle.s390x_emit_int.proofs.Names.{tree_names}
use Rattle.s390x_emit_int.proofs.Patching.{patched_run}
use Rattle.s390x_emit_int.proofs.Trees.{Begins}
use Rattle.s390x_emit_laws.specs.Alone.{ConstantsBehind, StandAsBound, outside, patched_bytes, placed_offsets, surroundings}
use Rattle.s390x_emit_laws.specs.Behind.{places}

-- ---- a step's offset more, or less, changes no label

labels_alike : (ps : List Fragment) (s : BufferState) (starts : List ℕ) (branches : RecordedBranches) → (apply_all (record s { starts = starts; branches = branches }) ps).labels ≡ (apply_all s ps).labels
labels_alike [] s starts branches = refl
labels_alike (Put bs ∷ ps) s starts branches = labels_alike ps (apply s (Put bs)) starts branches
labels_alike (PutTrapping bs byte c ∷ ps) s starts branches = labels_alike ps (apply s (PutTrapping bs byte c)) starts branches
labels_alike (PutReloc bs byte kind name addend ∷ ps) s starts branches = labels_alike ps (apply s (PutReloc bs byte kind name addend)) starts branches
labels_alike (Link kind l bs ∷ ps) s starts branches = labels_alike ps (apply s (Link kind l bs)) starts branches
labels_alike (LinkConstant c bs ∷ ps) s starts branches = labels_alike ps (apply s (LinkConstant c bs)) starts branches
labels_alike (StartStep ∷ ps) s starts branches = labels_alike ps s _ _ ∙ sym (labels_alike ps s _ _)
labels_alike (Draw ∷ ps) s starts branches = labels_alike ps (apply s Draw) starts branches
labels_alike (Bind l ∷ ps) s starts branches = labels_alike ps (record s { labels = (apply s (Bind l)).labels }) _ _ ∙ sym (labels_alike ps (record s { labels = (apply s (Bind l)).labels }) _ _)
labels_alike (AddSite site ∷ ps) s starts branches = labels_alike ps (apply s (AddSite site)) starts branches
labels_alike (RecordBranch branch ∷ ps) s starts branches = labels_alike ps s _ _ ∙ sym (labels_alike ps s _ _)

-- ---- no break stands outside a loop

body_alike : (flags : IsaFlags) (D : Declared) (n nominal : ℕ) (b : StepBody) → body_cause flags D n nominal 0 b ≡ None → (e f : ℕ) → step_of e b ≡ step_of f b
body_alike flags D n nominal (Whole (CondBreak mask)) valid e f = absurd (cc)
body_alike flags D n nominal (Whole i) valid e f = refl
body_alike flags D n nominal b valid e f = refl

steps_alike : (flags : IsaFlags) (D : Declared) (n nominal : ℕ) (t : Tree) → tree_cause flags D n nominal 0 t ≡ None → (k e f : ℕ) → steps_of k e t ≡ steps_of k f t
steps_alike flags D n nominal empty valid k e f = refl
steps_alike flags D n nominal (leaf b rest) valid k e f =
    let own = first_left (body_cause flags D n nominal 0 b) (tree_cause flags D (n + body_fresh_labels b) (body_nominal_after nominal b) 0 rest) valid in
    let later = first_right (body_cause flags D n nominal 0 b) (tree_cause flags D (n + body_fresh_labels b) (body_nominal_after nominal b) 0 rest) valid in
    ap (λ s. s ∷ steps_of (k + 1) e rest) (body_alike flags D n nominal b own e f) ∙ ap (λ l. step_of f b ∷ l) (steps_alike flags D (n + body_fresh_labels b) (body_nominal_after nominal b) rest later (k + 1) e f)
steps_alike flags D n nominal (loop_node mask members rest) valid k e f =
    let own = first_emit_cause (first_emit_cause (nesting_cause 0) (numbers_cause n 2)) (tree_cause flags D (n + 2) nominal 1 members) in
    let later = first_right own (tree_cause flags D (n + 2 + fresh_labels members) nominal 0 rest) valid in
    ap (λ l. Opening ∷ (steps_of (k + 1) (k + 2 + step_count members) members ++ (Back mask (k + 1) ∷ l))) (steps_alike flags D (n + 2 + fresh_labels members) nominal rest later (k + 2 + step_count members) e f)

-- ---- the same bytes, counted from another place

module _ (P Q : Offsets) (place bound count constants : ℕ) (steps : (j : ℕ) → j ≤ bound → P.step j ≡ place + Q.step j) (blocks : (b : ℕ) → b < count → P.block b ≡ place + Q.block b) (stand : (c : ℕ) → c < constants → P.environment.constant c ≡ place + Q.environment.constant c)
    (values : (name : ExternalName) (offset : ℤ) → P.environment.symbol_value name offset ≡ Q.environment.symbol_value name offset)
    (distances : (q : ℕ) (name : ExternalName) (offset : ℤ) → P.environment.symbol_distance (place + q) name offset ≡ Q.environment.symbol_distance q name offset) where
  half_moved : (q x y : ℕ) → x ≡ place + y → half_distance (place + q) x ≡ half_distance q y
  half_moved q x y e = ap (half_distance (place + q)) e ∙ omega arith

  word_moved : (q before x y : ℕ) → x ≡ place + y → table_distance (place + q) before x ≡ table_distance q before y
  word_moved q before x y e = ap (table_distance (place + q) before) e ∙ omega arith

  part_moved : (part : CodePart) (q : ℕ) → PartNames count constants part → part_bytes P (place + q) part ≡ part_bytes Q q part
  part_moved (Branch mask (ToBlock b)) q names = ap (λ h. bytes_of (ril_c opcodes.BRCL mask h)) (half_moved q (P.block b) (Q.block b) (blocks b names))
  part_moved (Branch mask (ToStep k)) q names = absurd names
  part_moved (Relative opcode register (ToBlock b)) q names = ap (λ h. bytes_of (ril_b opcode register h)) (half_moved q (P.block b) (Q.block b) (blocks b names))
  part_moved (Relative opcode register (ToStep k)) q names = absurd names
  part_moved (RelativeConstant opcode register c) q names = ap (λ h. bytes_of (ril_b opcode register h)) (half_moved q (P.environment.constant c) (Q.environment.constant c) (stand c names))
  part_moved (RelativeSymbol opcode register name offset) q names = ap (λ h. bytes_of (ril_b opcode register h)) (distances q name offset)
  part_moved (SymbolValue name offset) q names = ap (λ v. to_be_bytes w64 v) (values name offset)
  part_moved (TableWord before (ToBlock b)) q names = ap word_bytes (word_moved q before (P.block b) (Q.block b) (blocks b names))
  part_moved (TableWord before (ToStep k)) q names = absurd names
  part_moved (CallSymbol link name) q names = ap (λ h. bytes_of (symbol_call link h)) (distances q name (pos 0))
  part_moved part q names = refl

  parts_moved : (parts : List CodePart) (q : ℕ) → PartsName count constants parts → parts_bytes P (place + q) parts ≡ parts_bytes Q q parts
  parts_moved [] q names = refl
  parts_moved (part ∷ parts) q names =
      let e : place + q + part_size part ≡ place + (q + part_size part) = omega arith in
      ap (λ l. l ++ parts_bytes P (place + q + part_size part) parts) (part_moved part q names.0) ∙ ap (λ l. part_bytes Q q part ++ l) (ap (λ m. parts_bytes P m parts) e ∙ parts_moved parts (q + part_size part) names.1)

  branch_moved : (mask j q : ℕ) → j ≤ bound → parts_bytes P (place + q) (Branch mask (ToStep j) ∷ []) ≡ parts_bytes Q q (Branch mask (ToStep j) ∷ [])
  branch_moved mask j q le = ap (λ h. bytes_of (ril_c opcodes.BRCL mask h) ++ []) (half_moved q (P.step j) (Q.step j) (steps j le))

  whole_moved : (i : Inst) (e q : ℕ) → e ≤ bound → PartsName count constants (instruction_parts i) → step_bytes P (place + q) (step_of e (Whole i)) ≡ step_bytes Q q (step_of e (Whole i))
  whole_moved (CondBreak mask) e q le names = branch_moved mask e q le
  whole_moved i e q le names = parts_moved (instruction_parts i) q names

  body_moved : (b : StepBody) (e q : ℕ) → e ≤ bound → BodyNames count constants b → step_bytes P (place + q) (step_of e b) ≡ step_bytes Q q (step_of e b)
  body_moved (Whole i) e q le names = whole_moved i e q le names
  body_moved b e q le names = parts_moved (step_parts (step_of 0 b)) q names

  -- a step at its offset
  step_moved : (s : Step) (k : ℕ) → k ≤ bound → ((q : ℕ) → step_bytes P (place + q) s ≡ step_bytes Q q s) → step_bytes P (P.step k) s ≡ step_bytes Q (Q.step k) s
  step_moved s k le moved = ap (λ p. step_bytes P p s) (steps k le) ∙ moved (Q.step k)

  tree_moved : (t : Tree) (k e : ℕ) → k + step_count t ≤ bound → e ≤ bound → TreeNames count constants t → code P k (steps_of k e t) ≡ code Q k (steps_of k e t)
  tree_moved empty k e within le names = refl
  tree_moved (leaf b rest) k e within le names =
      ap (λ l. l ++ code P (k + 1) (steps_of (k + 1) e rest)) (step_moved (step_of e b) k (omega arith) (λ q. body_moved b e q le names.0))
      ∙ ap (λ l. step_bytes Q (Q.step k) (step_of e b) ++ l) (tree_moved rest (k + 1) e (omega arith) le names.1)
  tree_moved (loop_node mask members rest) k e within le names =
      let end = k + 2 + step_count members in
      let ms = steps_of (k + 1) end members in
      let rs = steps_of end e rest in
      let turn = k + 1 + length ms in
      let counted : turn ≡ k + 1 + step_count members = ap (λ m. k + 1 + m) (steps_length members (k + 1) end) in
      let next : turn + 1 ≡ end = omega (arith, counted) in
      let inner = tree_moved members (k + 1) end (omega arith) (omega arith) names.0 in
      let outer = tree_moved rest end e (omega arith) le names.1 in
      let back = step_moved (Back mask (k + 1)) turn (omega (arith, counted)) (λ q. branch_moved mask (k + 1) q (omega arith)) in
      code_append P ms (Back mask (k + 1) ∷ rs) (k + 1)
      ∙ ap (λ l. l ++ (step_bytes P (P.step turn) (Back mask (k + 1)) ++ code P (turn + 1) rs)) inner
      ∙ ap (λ l. code Q (k + 1) ms ++ (l ++ code P (turn + 1) rs)) back
      ∙ ap (λ m. code Q (k + 1) ms ++ (step_bytes Q (Q.step turn) (Back mask (k + 1)) ++ code P m rs)) next
      ∙ ap (λ l. code Q (k + 1) ms ++ (step_bytes Q (Q.step turn) (Back mask (k + 1)) ++ l)) outer
      ∙ ap (λ m. code Q (k + 1) ms ++ (step_bytes Q (Q.step turn) (Back mask (k + 1)) ++ code Q m rs)) (sym next)
      ∙ sym (code_append Q ms (Back mask (k + 1) ∷ rs) (k + 1))

-- ---- what is appended

pub follows_moved : (at to : ℕ → ℕ) (ss : List Step) (k place : ℕ) → ((j : ℕ) → j ≤ k + length ss → to j ≡ place + at j) → StepsFollow at k ss → StepsFollow to k ss
follows_moved at to [] k place same follow = tt
follows_moved at to (s ∷ ss) k place same follow =
    (same (k + 1) (omega arith) ∙ ap (λ n. place + n) follow.0 ∙ sym (add_assoc place (at k) (step_size s)) ∙ ap (λ n. n + step_size s) (sym (same k (omega arith))), follows_moved at to ss (k + 1) place (λ j le. same j (omega arith)) follow.1)

none_more : (n : ℕ) → n ≡ 0 + n
none_more n = omega arith

-- a step behind others, and a block
pub place_within : (block : ℕ → ℕ) (offset : ℕ) (ss : List Step) (j : ℕ) → j ≤ length ss → places block offset ss j ≡ offset + step_offset ss j
place_within block offset [] zero le = sym (add-zero offset)
place_within block offset [] (suc j) le = absurd (omega (arith, le))
place_within block offset (s ∷ ss) zero le = sym (add-zero offset)
place_within block offset (s ∷ ss) (suc j) le = place_within block (offset + step_size s) ss j (omega (arith, le)) ∙ add_assoc offset (step_size s) (step_offset ss j)

pub place_of_block : (block : ℕ → ℕ) (offset : ℕ) (ss : List Step) (b : ℕ) → places block offset ss (suc (length ss + b)) ≡ block b
place_of_block block offset [] b = ap block (sym (none_more b))
place_of_block block offset (s ∷ ss) b = let e : suc (length ss) + b ≡ suc (length ss + b) = omega arith in ap (places block (offset + step_size s) ss) e ∙ place_of_block block (offset + step_size s) ss b

module _ (flags : IsaFlags) (nominal : ℕ) (t : Tree) (s : BufferState) (off : ℕ → ℕ) (begins : Begins t) (valid : tree_cause flags (declared_in s) (length s.labels) nominal 0 t ≡ None) (within : UsesWithin (length s.bytes) s.uses)
    (tells : StandAsBound off (length s.labels) (apply_all s (own_fragments (length s.labels) 0 t))) where
  abbrev n : ℕ
  n = length s.labels

  abbrev place : ℕ
  place = length s.bytes

  abbrev ps : List Fragment
  ps = own_fragments n 0 t

  abbrev at : ℕ → ℕ
  at = step_offset (function_steps (t ∷ []))

  abbrev far : ℕ
  far = suc (step_count t)

  -- the offsets, where the first number past the steps and what stands behind them is that of the first label
  abbrev P : Offsets
  P = record { step = places off place (function_steps (t ∷ [])); block = off; environment = outside off s }

  counted : length (function_steps (t ∷ [])) ≡ step_count t
  counted = ap length (append-nil (steps_of 0 0 t)) ∙ steps_length t 0 0

  same : (j : ℕ) → j ≤ step_count t → P.step j ≡ place + at j
  same j le = place_within off place (function_steps (t ∷ [])) j (omega (arith, le, counted))

  first_label : P.step far ≡ off 0
  first_label = let e : far ≡ suc (length (function_steps (t ∷ [])) + 0) = omega (arith, counted) in ap P.step e ∙ place_of_block off place (function_steps (t ∷ [])) 0

  alike : steps_of 0 far t ≡ steps_of 0 0 t
  alike = steps_alike flags (declared_in s) n nominal t valid 0 far 0

  follow : StepsFollow P.step 0 (steps_of 0 far t)
  follow =
      let counted = steps_length t 0 0 in
      let own = follows_left at (steps_of 0 0 t) [] 0 (place_follows (function_steps (t ∷ []))) in
      subst (λ ss. StepsFollow P.step 0 ss) (sym alike) (follows_moved at P.step (steps_of 0 0 t) 0 place (λ j le. same j (omega (arith, counted, le))) own)

  begin : P.step 0 ≡ place
  begin = same 0 (omega arith) ∙ ap (λ m. place + m) (place_zero (function_steps (t ∷ []))) ∙ add-zero place

  wide : Wide ps
  wide = subst (λ l. Wide l) (begins n 0) (tree_wide t n 0)

  bound : Bound off n place t
  bound = tree_bound t s n 0 off refl (λ l lo hi.
      let labels = ap (λ l. (apply_all s l).labels) (begins n 0) ∙ labels_alike ps s (s.starts ++ length s.bytes ∷ []) NoBranch in
      tells l lo (subst (λ ls. l < length ls) labels hi) ∙ ap (λ ls. offset_of_label ls l) (sym labels))

  names : TreeNames s.block_count (length (aligns_of s.constants)) t
  names = tree_names flags (declared_in s) n nominal 0 t valid

  resolved : resolve s.block_count off place ps ≡ code P 0 (steps_of 0 far t)
  resolved =
      ap (resolve s.block_count off place) (sym (begins n 0))
      ∙ ap (λ q. resolve s.block_count off q (fragments n 0 t)) (sym begin)
      ∙ tree_join t off P s.block_count (length (aligns_of s.constants)) n 0 0 far ((λ l lt. refl), (λ c lt. refl), (λ name offset. refl), (λ p name offset. refl)) names (subst (λ q. Bound off n q t) (sym begin) bound) follow (sym first_label)

  there : code P 0 (steps_of 0 0 t) ≡ code (placed_offsets off s (t ∷ [])) 0 (steps_of 0 0 t)
  there = tree_moved P (placed_offsets off s (t ∷ [])) 0 (step_count t) s.block_count (length (aligns_of s.constants)) (λ j le. same j le ∙ none_more (place + at j)) (λ b lt. none_more (off b)) (λ c lt. none_more (off (s.block_count + c))) (λ name offset. refl) (λ q name offset. refl) t 0 0 (omega arith) (omega arith) names

  -- at its place
  pub appended_behind : patched_bytes off (apply_all s ps) ≡ patched_bytes off s ++ code P 0 (function_steps (t ∷ []))
  appended_behind = patched_run ps s off within wide ∙ ap (λ l. patched_bytes off s ++ l) (resolved ∙ ap (λ ss. code P 0 ss) alike ∙ ap (λ ss. code P 0 ss) (sym (append-nil (steps_of 0 0 t))))

  pub appended : patched_bytes off (apply_all s ps) ≡ patched_bytes off s ++ code (placed_offsets off s (t ∷ [])) 0 (function_steps (t ∷ []))
  appended = appended_behind ∙ ap (λ l. patched_bytes off s ++ l) (ap (λ ss. code P 0 ss) (append-nil (steps_of 0 0 t)) ∙ there ∙ ap (λ ss. code (placed_offsets off s (t ∷ [])) 0 ss) (sym (append-nil (steps_of 0 0 t))))

  -- by itself
  pub own_code : TreeNames 0 (length (aligns_of s.constants)) t → ConstantsBehind off s → code (placed_offsets off s (t ∷ [])) 0 (function_steps (t ∷ [])) ≡ function_code (surroundings off s) (t ∷ [])
  own_code no_block behind =
      let P0 = placed_offsets off s (t ∷ []) in
      let Q = offsets (surroundings off s) (t ∷ []) in
      ap (λ ss. code P0 0 ss) (append-nil (steps_of 0 0 t))
      ∙ tree_moved P0 Q place (step_count t) 0 (length (aligns_of s.constants)) (λ j le. refl) (λ b lt. absurd (omega (arith, lt))) (λ c lt. let le = behind c lt in omega (arith, le)) (λ name offset. refl) (λ q name offset. refl) t 0 0 (omega arith) (omega arith) no_block
      ∙ ap (λ ss. code Q 0 ss) (sym (append-nil (steps_of 0 0 t)))

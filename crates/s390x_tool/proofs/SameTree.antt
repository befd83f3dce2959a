-- What emission reads of a function stands in the lines of its blocks.
use Rattle.std.proofs.Common.{◌≡◌, ℕ, suc, ◌+◌, List, [], ◌∷◌, ◌++◌, map, get_or, Option, Some, None, Bool, true, false, cond, ◌&&◌, refl, ap, ◌∙◌, nat_eq}
use Rattle.std.proofs.Math.Path.{fun_ext}
use Rattle.std.proofs.lemmas.List.{map-append}
use Rattle.s390x_inst.specs.declared.state.IsaFlags.{IsaFlags}
use Rattle.s390x_base.specs.declared.error.EmitError.{EmitError}
use Rattle.s390x_buffer.specs.State.{Constant}
use Rattle.s390x_buffer.specs.Constants.{constant_starts}
use Rattle.s390x_buffer.specs.declared.entries.TrapEntry.{TrapEntry}
use Rattle.s390x_typed_steps.specs.Tree.{StepBody, Tree, empty, leaf, loop_node, Whole, Loaded}
use Rattle.s390x_typed_steps.specs.Baseline.{whole_or_loaded, body_for, tree_for}
use Rattle.s390x_typed_steps.specs.Memory.{memory, accesses_relative}
use Rattle.s390x_inst.specs.declared.inst.Inst.{Inst}
use Rattle.s390x_typed_steps.specs.Causes.{Declared, aligns_of, body_cause, body_fresh_labels, body_nominal_after, first_emit_cause, instruction_fresh_labels, fresh_labels, nesting_cause, numbers_cause, tree_cause, blocks_cause, unless, block_cause, nominal_behind}
use Rattle.s390x_typed_steps.specs.Parts.{CodePart, Branch, ToStep, step_parts, parts_size}
use Rattle.s390x_typed_steps.specs.Steps.{Step, step_count, step_of, steps_of, steps_from, function_steps, first_step}
use Rattle.s390x_typed_steps.specs.Sizes.{tree_size, blocks_size}
use Rattle.s390x_typed_steps.specs.Rows.{LinkEnvironment, Offsets, parts_bytes}
use Rattle.s390x_typed_steps.specs.Image.{step_offset, offsets, unlinked_environment, code, function_code, step_offsets, block_offsets}
use Rattle.s390x_buffer.specs.declared.entries.RelocEntry.{RelocEntry}
use Rattle.s390x_typed_steps.specs.Relocs.{parts_relocs, relocs_from, function_relocs}
use Rattle.s390x_typed_steps.specs.Traps.{parts_traps, traps_from, function_traps}
use Rattle.s390x_typed_steps.specs.Ranges.{IsConditionMask, BodyInRange, AllInRange, BlocksInRange}
use Rattle.s390x_typed_steps.specs.Sites.{PlacedSite, parts_sites, sites_from, function_sites, try_entries, function_try_entries}
use Rattle.s390x_buffer.specs.Finish.{PlacedTryCallSite}
use Rattle.s390x_job_lines.specs.Line.{Line}
use Rattle.s390x_job_lines.specs.Instructions.{inst_line}
use Rattle.s390x_base.specs.declared.error.EmitError.TheVariants.{BadStackState}
use Rattle.s390x_job_lines.proofs.Contents.{read_line}
use Rattle.s390x_tool.proofs.SameInstruction.{lacking, lacking_read, held_cause, held_fresh_labels, fresh_labels_read, held_parts, held_range, cause_read, parts_read, range_read, range_round_trip, nominal_read, held_after}

-- ---- bodies

-- a body with the line in place of a whole instruction; the steps of calls hold no vectors
pub data BodyLine : Type 0 where
  of_line : Line → BodyLine
  of_step : StepBody → BodyLine

abbrev pub body_line : StepBody → BodyLine
body_line (Whole i) = of_line (inst_line i)
body_line b = of_step b

-- labels drawn
abbrev told_fresh_labels : BodyLine → ℕ
told_fresh_labels (of_line l) = held_fresh_labels (read_line l)
told_fresh_labels (of_step b) = body_fresh_labels b

fresh_labels_told : (b : StepBody) → body_fresh_labels b ≡ told_fresh_labels (body_line b)
fresh_labels_told (Whole i) = fresh_labels_read i
fresh_labels_told b = refl

-- the first cause
abbrev told_cause : IsaFlags → Declared → (n nominal depth : ℕ) → BodyLine → Option EmitError
told_cause flags D n m depth (of_line l) = first_emit_cause (held_cause flags D m depth (read_line l)) (numbers_cause n (held_fresh_labels (read_line l)))
told_cause flags D n m depth (of_step b) = body_cause flags D n m depth b

cause_told : (flags : IsaFlags) (D : Declared) (n m depth : ℕ) (b : StepBody) → body_cause flags D n m depth b ≡ told_cause flags D n m depth (body_line b)
cause_told flags D n m depth (Whole i) =
    ap (λ o. first_emit_cause o (numbers_cause n (instruction_fresh_labels i))) (cause_read flags D m depth i)
    ∙ ap (λ d. first_emit_cause (held_cause flags D m depth (read_line (inst_line i))) (numbers_cause n d)) (fresh_labels_read i)
cause_told flags D n m depth b = refl

-- the nominal size behind it
abbrev told_after : ℕ → BodyLine → ℕ
told_after m (of_line l) = held_after m (read_line l)
told_after m (of_step b) = body_nominal_after m b

after_told : (m : ℕ) (b : StepBody) → body_nominal_after m b ≡ told_after m (body_line b)
after_told m (Whole i) = nominal_read m i
after_told m b = refl

-- the parts of its step, in a loop that ends at the step `after`
abbrev told_parts : ℕ → BodyLine → List CodePart
told_parts after (of_line l) = held_parts after (read_line l)
told_parts after (of_step b) = step_parts (step_of after b)

parts_told : (after : ℕ) (b : StepBody) → step_parts (step_of after b) ≡ told_parts after (body_line b)
parts_told after (Whole i) = parts_read after i
parts_told after b = refl

-- its ranges
abbrev told_range : BodyLine → Type 0
told_range (of_line l) = held_range (read_line l)
told_range (of_step b) = BodyInRange b

range_told : (b : StepBody) → BodyInRange b → told_range (body_line b)
range_told (Whole i) h = range_read i h
range_told b h = h

range_back : (b : StepBody) → told_range (body_line b) → BodyInRange b
range_back (Whole i) h = range_round_trip i h
range_back b h = h

-- on a machine by its flags: an access that lacks its row holds no vectors either
abbrev loaded_or : Option Inst → Line → BodyLine
loaded_or None l = of_line l
loaded_or (Some i) l = of_step (Loaded i)

abbrev line_for : IsaFlags → BodyLine → BodyLine
line_for flags (of_line l) = loaded_or (lacking flags (read_line l)) l
line_for flags (of_step b) = of_step b

body_for_told : (flags : IsaFlags) (b : StepBody) → body_line (body_for flags b) ≡ line_for flags (body_line b)
body_for_told flags (Whole i) = go (accesses_relative (memory i) && flags.no_relative_memory) ∙ ap (λ o. loaded_or o (inst_line i)) (lacking_read flags i)
  where
    go : (t : Bool) → body_line (whole_or_loaded t i) ≡ loaded_or (cond t (Some i) None) (inst_line i)
    go true = refl
    go false = refl
body_for_told flags b = refl

-- ---- trees

-- a tree with lines in place of instructions
pub data LineTree : Type 0 where
  none : LineTree
  one : BodyLine → LineTree → LineTree
  around : ℕ → LineTree → LineTree → LineTree

abbrev pub lines_tree : Tree → LineTree
lines_tree empty = none
lines_tree (leaf b rest) = one (body_line b) (lines_tree rest)
lines_tree (loop_node mask members rest) = around mask (lines_tree members) (lines_tree rest)

-- on a machine by its flags
abbrev pub lines_for : IsaFlags → LineTree → LineTree
lines_for flags none = none
lines_for flags (one l rest) = one (line_for flags l) (lines_for flags rest)
lines_for flags (around mask members rest) = around mask (lines_for flags members) (lines_for flags rest)

pub tree_for_told : (flags : IsaFlags) (t : Tree) → lines_tree (tree_for flags t) ≡ lines_for flags (lines_tree t)
tree_for_told flags empty = refl
tree_for_told flags (leaf b rest) = ap (λ l. one l (lines_tree (tree_for flags rest))) (body_for_told flags b) ∙ ap (one (line_for flags (body_line b))) (tree_for_told flags rest)
tree_for_told flags (loop_node mask members rest) =
    ap (λ t. around mask t (lines_tree (tree_for flags rest))) (tree_for_told flags members) ∙ ap (around mask (lines_for flags (lines_tree members))) (tree_for_told flags rest)

-- labels drawn
abbrev pub line_fresh_labels : LineTree → ℕ
line_fresh_labels none = 0
line_fresh_labels (one l rest) = told_fresh_labels l + line_fresh_labels rest
line_fresh_labels (around mask members rest) = 2 + line_fresh_labels members + line_fresh_labels rest

same_fresh_labels : (t : Tree) → fresh_labels t ≡ line_fresh_labels (lines_tree t)
same_fresh_labels empty = refl
same_fresh_labels (leaf b rest) = let a = fresh_labels_told b in let c = same_fresh_labels rest in cc
same_fresh_labels (loop_node mask members rest) = let a = same_fresh_labels members in let b = same_fresh_labels rest in cc

-- the first cause
abbrev pub line_cause : IsaFlags → Declared → (n nominal depth : ℕ) → LineTree → Option EmitError
line_cause flags D n m depth none = None
line_cause flags D n m depth (one l rest) = first_emit_cause (told_cause flags D n m depth l) (line_cause flags D (n + told_fresh_labels l) (told_after m l) depth rest)
line_cause flags D n m depth (around mask members rest) =
    first_emit_cause (first_emit_cause (first_emit_cause (nesting_cause depth) (numbers_cause n 2)) (line_cause flags D (n + 2) m (depth + 1) members)) (line_cause flags D (n + 2 + line_fresh_labels members) m depth rest)

same_tree_cause : (flags : IsaFlags) (D : Declared) (n m depth : ℕ) (t : Tree) → tree_cause flags D n m depth t ≡ line_cause flags D n m depth (lines_tree t)
same_tree_cause flags D n m depth empty = refl
same_tree_cause flags D n m depth (leaf b rest) =
    let l = body_line b in
    ap (λ o. first_emit_cause o (tree_cause flags D (n + body_fresh_labels b) (body_nominal_after m b) depth rest)) (cause_told flags D n m depth b)
    ∙ ap (λ d. first_emit_cause (told_cause flags D n m depth l) (tree_cause flags D (n + d) (body_nominal_after m b) depth rest)) (fresh_labels_told b)
    ∙ ap (λ k. first_emit_cause (told_cause flags D n m depth l) (tree_cause flags D (n + told_fresh_labels l) k depth rest)) (after_told m b)
    ∙ ap (first_emit_cause (told_cause flags D n m depth l)) (same_tree_cause flags D (n + told_fresh_labels l) (told_after m l) depth rest)
same_tree_cause flags D n m depth (loop_node mask members rest) =
    let own = first_emit_cause (nesting_cause depth) (numbers_cause n 2) in
    ap (λ o. first_emit_cause (first_emit_cause own o) (tree_cause flags D (n + 2 + fresh_labels members) m depth rest)) (same_tree_cause flags D (n + 2) m (depth + 1) members)
    ∙ ap (first_emit_cause (first_emit_cause own (line_cause flags D (n + 2) m (depth + 1) (lines_tree members)))) (same_tree_cause flags D (n + 2 + fresh_labels members) m depth rest)
    ∙ ap (λ d. first_emit_cause (first_emit_cause own (line_cause flags D (n + 2) m (depth + 1) (lines_tree members))) (line_cause flags D (n + 2 + d) m depth (lines_tree rest))) (same_fresh_labels members)

-- the nominal size behind them
abbrev pub line_behind : ℕ → LineTree → ℕ
line_behind m none = m
line_behind m (one l rest) = line_behind (told_after m l) rest
line_behind m (around mask members rest) = line_behind m rest

same_behind : (m : ℕ) (t : Tree) → nominal_behind m t ≡ line_behind m (lines_tree t)
same_behind m empty = refl
same_behind m (leaf b rest) = ap (λ n. nominal_behind n rest) (after_told m b) ∙ same_behind (told_after m (body_line b)) rest
same_behind m (loop_node mask members rest) = same_behind m rest

abbrev pub line_block_cause : IsaFlags → Declared → (n : ℕ) → LineTree → Option EmitError
line_block_cause flags D n t = first_emit_cause (line_cause flags D n 0 0 t) (unless (nat_eq (line_behind 0 t) 0) BadStackState)

same_block_cause : (flags : IsaFlags) (D : Declared) (n : ℕ) (t : Tree) → block_cause flags D n t ≡ line_block_cause flags D n (lines_tree t)
same_block_cause flags D n t =
    ap (λ o. first_emit_cause o (unless (nat_eq (nominal_behind 0 t) 0) BadStackState)) (same_tree_cause flags D n 0 0 t)
    ∙ ap (λ m. first_emit_cause (line_cause flags D n 0 0 (lines_tree t)) (unless (nat_eq m 0) BadStackState)) (same_behind 0 t)

abbrev pub line_blocks_cause : IsaFlags → Declared → (n : ℕ) → List LineTree → Option EmitError
line_blocks_cause flags D n [] = None
line_blocks_cause flags D n (t ∷ ts) = first_emit_cause (line_block_cause flags D n t) (line_blocks_cause flags D (n + line_fresh_labels t) ts)

pub same_blocks_cause : (flags : IsaFlags) (D : Declared) (n : ℕ) (ts : List Tree) → blocks_cause flags D n ts ≡ line_blocks_cause flags D n (map lines_tree ts)
same_blocks_cause flags D n [] = refl
same_blocks_cause flags D n (t ∷ ts) =
    ap (λ o. first_emit_cause o (blocks_cause flags D (n + fresh_labels t) ts)) (same_block_cause flags D n t)
    ∙ ap (first_emit_cause (line_block_cause flags D n (lines_tree t))) (same_blocks_cause flags D (n + fresh_labels t) ts)
    ∙ ap (λ d. first_emit_cause (line_block_cause flags D n (lines_tree t)) (line_blocks_cause flags D (n + d) (map lines_tree ts))) (same_fresh_labels t)

-- steps
abbrev pub line_count : LineTree → ℕ
line_count none = 0
line_count (one l rest) = 1 + line_count rest
line_count (around mask members rest) = 2 + line_count members + line_count rest

same_count : (t : Tree) → step_count t ≡ line_count (lines_tree t)
same_count empty = refl
same_count (leaf b rest) = ap (λ n. 1 + n) (same_count rest)
same_count (loop_node mask members rest) = let a = same_count members in let b = same_count rest in cc

-- the parts of each step
abbrev pub line_steps : (k after : ℕ) → LineTree → List (List CodePart)
line_steps k after none = []
line_steps k after (one l rest) = told_parts after l ∷ line_steps (k + 1) after rest
line_steps k after (around mask members rest) =
    [] ∷ (line_steps (k + 1) (k + 2 + line_count members) members ++ ((Branch mask (ToStep (k + 1)) ∷ []) ∷ line_steps (k + 2 + line_count members) after rest))

same_steps : (k after : ℕ) (t : Tree) → map step_parts (steps_of k after t) ≡ line_steps k after (lines_tree t)
same_steps k after empty = refl
same_steps k after (leaf b rest) =
    ap (λ p. p ∷ map step_parts (steps_of (k + 1) after rest)) (parts_told after b) ∙ ap (λ ps. told_parts after (body_line b) ∷ ps) (same_steps (k + 1) after rest)
same_steps k after (loop_node mask members rest) =
    let back = Branch mask (ToStep (k + 1)) ∷ [] in
    let n = step_count members in
    ap (λ ps. [] ∷ ps) (
    map-append step_parts (steps_of (k + 1) (k + 2 + n) members) _
    ∙ ap (λ ps. ps ++ (back ∷ map step_parts (steps_of (k + 2 + n) after rest))) (same_steps (k + 1) (k + 2 + n) members)
    ∙ ap (λ ps. line_steps (k + 1) (k + 2 + n) (lines_tree members) ++ (back ∷ ps)) (same_steps (k + 2 + n) after rest)
    ∙ ap (λ m. line_steps (k + 1) (k + 2 + m) (lines_tree members) ++ (back ∷ line_steps (k + 2 + m) after (lines_tree rest))) (same_count members)
    )

abbrev pub line_steps_from : ℕ → List LineTree → List (List CodePart)
line_steps_from k [] = []
line_steps_from k (t ∷ ts) = line_steps k 0 t ++ line_steps_from (k + line_count t) ts

same_steps_from : (k : ℕ) (ts : List Tree) → map step_parts (steps_from k ts) ≡ line_steps_from k (map lines_tree ts)
same_steps_from k [] = refl
same_steps_from k (t ∷ ts) =
    map-append step_parts (steps_of k 0 t) _
    ∙ ap (λ ps. ps ++ map step_parts (steps_from (k + step_count t) ts)) (same_steps k 0 t)
    ∙ ap (λ ps. line_steps k 0 (lines_tree t) ++ ps) (same_steps_from (k + step_count t) ts)
    ∙ ap (λ n. line_steps k 0 (lines_tree t) ++ line_steps_from (k + n) (map lines_tree ts)) (same_count t)

abbrev pub line_first_step : List LineTree → ℕ → ℕ
line_first_step (t ∷ ts) (suc b) = line_count t + line_first_step ts b
line_first_step _ _ = 0

same_first_step : (ts : List Tree) (b : ℕ) → first_step ts b ≡ line_first_step (map lines_tree ts) b
same_first_step (t ∷ ts) (suc b) = let a = same_count t in let c = same_first_step ts b in cc
same_first_step ts b = refl

-- places
abbrev pub parts_place : List (List CodePart) → ℕ → ℕ
parts_place (p ∷ ps) (suc k) = parts_size p + parts_place ps k
parts_place _ _ = 0

same_place : (ss : List Step) (k : ℕ) → step_offset ss k ≡ parts_place (map step_parts ss) k
same_place (s ∷ ss) (suc k) = ap (λ n. parts_size (step_parts s) + n) (same_place ss k)
same_place ss k = refl

abbrev pub line_at : List LineTree → ℕ → ℕ
line_at ts = parts_place (line_steps_from 0 ts)

same_step_place : (ts : List Tree) (k : ℕ) → step_offset (function_steps ts) k ≡ parts_place (line_steps_from 0 (map lines_tree ts)) k
same_step_place ts k = same_place (function_steps ts) k ∙ ap (λ ps. parts_place ps k) (same_steps_from 0 ts)

same_at : (ts : List Tree) → step_offset (function_steps ts) ≡ parts_place (line_steps_from 0 (map lines_tree ts))
same_at ts = fun_ext (same_step_place ts)

abbrev pub line_places : LinkEnvironment → List LineTree → Offsets
line_places environment ts = record { step = parts_place (line_steps_from 0 ts); block = λ b. parts_place (line_steps_from 0 ts) (line_first_step ts b); environment = environment }

same_places : (environment : LinkEnvironment) (ts : List Tree) → offsets environment ts ≡ line_places environment (map lines_tree ts)
same_places environment ts =
    let first_emit_cause : first_step ts ≡ line_first_step (map lines_tree ts) = fun_ext (same_first_step ts) in
    ap (λ p. record { step = p; block = λ b. p (first_step ts b); environment = environment }) (same_at ts)
    ∙ ap (λ f. record { step = parts_place (line_steps_from 0 (map lines_tree ts)); block = λ b. parts_place (line_steps_from 0 (map lines_tree ts)) (f b); environment = environment }) first_emit_cause

-- sizes
abbrev pub line_size : LineTree → ℕ
line_size none = 0
line_size (one l rest) = parts_size (told_parts 0 l) + line_size rest
line_size (around mask members rest) = line_size members + 6 + line_size rest

pub same_size : (t : Tree) → tree_size t ≡ line_size (lines_tree t)
same_size empty = refl
same_size (leaf b rest) = ap (λ ps. parts_size ps + tree_size rest) (parts_told 0 b) ∙ ap (λ n. parts_size (told_parts 0 (body_line b)) + n) (same_size rest)
same_size (loop_node mask members rest) = let a = same_size members in let b = same_size rest in cc

abbrev pub line_blocks_size : List LineTree → ℕ
line_blocks_size [] = 0
line_blocks_size (t ∷ ts) = line_size t + line_blocks_size ts

pub same_blocks_size : (ts : List Tree) → blocks_size ts ≡ line_blocks_size (map lines_tree ts)
same_blocks_size [] = refl
same_blocks_size (t ∷ ts) = let a = same_size t in let b = same_blocks_size ts in cc

-- what stands outside the steps before linking
abbrev pub behind : (size : ℕ) → List Constant → LinkEnvironment
behind size cs = record { constant = λ c. get_or (constant_starts size cs) c 0; aligns = aligns_of cs; symbol_value = λ name offset. 0; symbol_distance = λ step_offset name offset. 0 }

abbrev pub line_environment : List LineTree → List Constant → LinkEnvironment
line_environment ts cs = behind (line_blocks_size ts) cs

same_environment : (ts : List Tree) (cs : List Constant) → unlinked_environment ts cs ≡ line_environment (map lines_tree ts) cs
same_environment ts cs = ap (λ n. behind n cs) (same_blocks_size ts)

-- bytes
abbrev pub parts_code : Offsets → ℕ → List (List CodePart) → List ℕ
parts_code P k [] = []
parts_code P k (p ∷ ps) = parts_bytes P (P.step k) p ++ parts_code P (k + 1) ps

same_code : (P : Offsets) (k : ℕ) (ss : List Step) → code P k ss ≡ parts_code P k (map step_parts ss)
same_code P k [] = refl
same_code P k (s ∷ ss) = ap (λ bs. parts_bytes P (P.step k) (step_parts s) ++ bs) (same_code P (k + 1) ss)

pub same_function_code : (ts : List Tree) (cs : List Constant) → function_code (unlinked_environment ts cs) ts ≡ parts_code (line_places (line_environment (map lines_tree ts) cs) (map lines_tree ts)) 0 (line_steps_from 0 (map lines_tree ts))
same_function_code ts cs =
    ap (λ o. function_code o ts) (same_environment ts cs)
    ∙ same_code (offsets (line_environment (map lines_tree ts) cs) ts) 0 (function_steps ts)
    ∙ ap (λ P. parts_code P 0 (map step_parts (function_steps ts))) (same_places (line_environment (map lines_tree ts) cs) ts)
    ∙ ap (parts_code (line_places (line_environment (map lines_tree ts) cs) (map lines_tree ts)) 0) (same_steps_from 0 ts)

abbrev pub parts_places : (ℕ → ℕ) → ℕ → List (List CodePart) → List ℕ
parts_places at k [] = []
parts_places at k (p ∷ ps) = at k ∷ parts_places at (k + 1) ps

same_step_places : (at : ℕ → ℕ) (k : ℕ) (ss : List Step) → step_offsets at k ss ≡ parts_places at k (map step_parts ss)
same_step_places at k [] = refl
same_step_places at k (s ∷ ss) = ap (λ ps. at k ∷ ps) (same_step_places at (k + 1) ss)

pub same_starts : (ts : List Tree) → step_offsets (step_offset (function_steps ts)) 0 (function_steps ts) ≡ parts_places (line_at (map lines_tree ts)) 0 (line_steps_from 0 (map lines_tree ts))
same_starts ts =
    same_step_places (step_offset (function_steps ts)) 0 (function_steps ts)
    ∙ ap (λ at. parts_places at 0 (map step_parts (function_steps ts))) (same_at ts)
    ∙ ap (parts_places (line_at (map lines_tree ts)) 0) (same_steps_from 0 ts)

-- the traps that the parts of each step record
abbrev pub each_traps : (ℕ → ℕ) → ℕ → List (List CodePart) → List TrapEntry
each_traps at k [] = []
each_traps at k (p ∷ ps) = parts_traps (at k) p ++ each_traps at (k + 1) ps

same_traps : (at : ℕ → ℕ) (k : ℕ) (ss : List Step) → traps_from at k ss ≡ each_traps at k (map step_parts ss)
same_traps at k [] = refl
same_traps at k (s ∷ ss) = ap (λ es. parts_traps (at k) (step_parts s) ++ es) (same_traps at (k + 1) ss)

pub same_function_traps : (ts : List Tree) → function_traps ts ≡ each_traps (line_at (map lines_tree ts)) 0 (line_steps_from 0 (map lines_tree ts))
same_function_traps ts =
    same_traps (step_offset (function_steps ts)) 0 (function_steps ts)
    ∙ ap (λ at. each_traps at 0 (map step_parts (function_steps ts))) (same_at ts)
    ∙ ap (each_traps (line_at (map lines_tree ts)) 0) (same_steps_from 0 ts)

-- the relocations that the parts of each step have
abbrev pub each_relocs : (ℕ → ℕ) → ℕ → List (List CodePart) → List RelocEntry
each_relocs at k [] = []
each_relocs at k (p ∷ ps) = parts_relocs (at k) p ++ each_relocs at (k + 1) ps

same_relocs : (at : ℕ → ℕ) (k : ℕ) (ss : List Step) → relocs_from at k ss ≡ each_relocs at k (map step_parts ss)
same_relocs at k [] = refl
same_relocs at k (s ∷ ss) = ap (λ es. parts_relocs (at k) (step_parts s) ++ es) (same_relocs at (k + 1) ss)

pub same_function_relocs : (ts : List Tree) → function_relocs ts ≡ each_relocs (line_at (map lines_tree ts)) 0 (line_steps_from 0 (map lines_tree ts))
same_function_relocs ts =
    same_relocs (step_offset (function_steps ts)) 0 (function_steps ts)
    ∙ ap (λ at. each_relocs at 0 (map step_parts (function_steps ts))) (same_at ts)
    ∙ ap (each_relocs (line_at (map lines_tree ts)) 0) (same_steps_from 0 ts)

-- the sites among the parts of each step
abbrev each_sites : (ℕ → ℕ) → ℕ → List (List CodePart) → List PlacedSite
each_sites at k [] = []
each_sites at k (p ∷ ps) = parts_sites (at k) p ++ each_sites at (k + 1) ps

same_sites : (at : ℕ → ℕ) (k : ℕ) (ss : List Step) → sites_from at k ss ≡ each_sites at k (map step_parts ss)
same_sites at k [] = refl
same_sites at k (s ∷ ss) = ap (λ es. parts_sites (at k) (step_parts s) ++ es) (same_sites at (k + 1) ss)

abbrev pub line_sites : List LineTree → List PlacedSite
line_sites ts = each_sites (line_at ts) 0 (line_steps_from 0 ts)

pub same_function_sites : (ts : List Tree) → function_sites ts ≡ line_sites (map lines_tree ts)
same_function_sites ts =
    same_sites (step_offset (function_steps ts)) 0 (function_steps ts)
    ∙ ap (λ at. each_sites at 0 (map step_parts (function_steps ts))) (same_at ts)
    ∙ ap (each_sites (line_at (map lines_tree ts)) 0) (same_steps_from 0 ts)

-- the calls with handlers, which stand where their labels' blocks start
abbrev pub line_tries : List LineTree → List PlacedTryCallSite
line_tries ts = try_entries (λ b. line_at ts (line_first_step ts b)) (line_sites ts)

pub same_function_tries : (ts : List Tree) → function_try_entries ts ≡ line_tries (map lines_tree ts)
same_function_tries ts =
    let first_of : first_step ts ≡ line_first_step (map lines_tree ts) = fun_ext (same_first_step ts) in
    ap (λ at. try_entries (λ b. at (first_step ts b)) (function_sites ts)) (same_at ts)
    ∙ ap (λ f. try_entries (λ b. line_at (map lines_tree ts) (f b)) (function_sites ts)) first_of
    ∙ ap (try_entries (λ b. line_at (map lines_tree ts) (line_first_step (map lines_tree ts) b))) (same_function_sites ts)

abbrev pub line_block_places : (ℕ → ℕ) → ℕ → List LineTree → List ℕ
line_block_places at k [] = []
line_block_places at k (t ∷ ts) = at k ∷ line_block_places at (k + line_count t) ts

same_block_places : (at : ℕ → ℕ) (k : ℕ) (ts : List Tree) → block_offsets at k ts ≡ line_block_places at k (map lines_tree ts)
same_block_places at k [] = refl
same_block_places at k (t ∷ ts) =
    ap (λ ps. at k ∷ ps) (same_block_places at (k + step_count t) ts ∙ ap (λ n. line_block_places at (k + n) (map lines_tree ts)) (same_count t))

pub same_block_starts : (ts : List Tree) → block_offsets (step_offset (function_steps ts)) 0 ts ≡ line_block_places (line_at (map lines_tree ts)) 0 (map lines_tree ts)
same_block_starts ts =
    same_block_places (step_offset (function_steps ts)) 0 ts ∙ ap (λ at. line_block_places at 0 (map lines_tree ts)) (same_at ts)

-- ranges
abbrev pub line_range : LineTree → Type 0
line_range none = Unit {0}
line_range (one l rest) = told_range l × line_range rest
line_range (around mask members rest) = IsConditionMask mask × line_range members × line_range rest

range_to : (t : Tree) → AllInRange t → line_range (lines_tree t)
range_to empty h = tt
range_to (leaf b rest) h = (range_told b h.0, range_to rest h.1)
range_to (loop_node mask members rest) h = (h.0, range_to members h.1, range_to rest h.2)

range_from : (t : Tree) → line_range (lines_tree t) → AllInRange t
range_from empty h = tt
range_from (leaf b rest) h = (range_back b h.0, range_from rest h.1)
range_from (loop_node mask members rest) h = (h.0, range_from members h.1, range_from rest h.2)

abbrev pub line_ranges : List LineTree → Type 0
line_ranges [] = Unit {0}
line_ranges (t ∷ ts) = line_range t × line_ranges ts

pub ranges_to : (ts : List Tree) → BlocksInRange ts → line_ranges (map lines_tree ts)
ranges_to [] h = tt
ranges_to (t ∷ ts) h = (range_to t h.0, ranges_to ts h.1)

pub ranges_from : (ts : List Tree) → line_ranges (map lines_tree ts) → BlocksInRange ts
ranges_from [] h = tt
ranges_from (t ∷ ts) h = (range_from t h.0, ranges_from ts h.1)

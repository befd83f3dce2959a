-- The steps that a call or a tail call consists of: a list of bodies, one after another. What `leaves bodies empty` puts, draws, is refused by and what it
-- does to the nominal size is that of its bodies in order; so a loop over them goes from `leaf body rest` to `rest`.
use Rattle.std.proofs.Common.{◌≡◌, ℕ, ◌+◌, ◌<◌, min, List, [], ◌∷◌, ◌++◌, length, get_or, drop, drop-cons, suc, None, refl, sym, ap, ◌∙◌, subst, arith}
use Rattle.s390x_buffer.specs.State.{BufferState}
use Rattle.s390x_inst.specs.Emission.{Emission}
use Rattle.s390x_inst.specs.declared.calls.CallRetPair.{CallRetPair}
use Rattle.s390x_inst.specs.declared.inst.Inst.{Inst}
use Rattle.s390x_inst.specs.declared.state.IsaFlags.{IsaFlags}
use Rattle.s390x_typed_steps.specs.Calls.{wholes, load_before, load_bodies}
use Rattle.s390x_typed_steps.specs.Causes.{Declared, first_emit_cause, declared_in, body_cause, body_fresh_labels, body_nominal_after, tree_cause}
use Rattle.s390x_typed_steps.specs.Resolved.{resolved_instruction}
use Rattle.s390x_typed_steps.specs.Sizes.{body_size, tree_size}
use Rattle.s390x_typed_steps.specs.Tree.{StepBody, Tree, Whole, leaf, leaves}
use Rattle.s390x_typed_steps.proofs.Causes.{first_left, first_right}
use Rattle.s390x_emit_int.specs.Emission.{body_fragments, fragments, own_fragments}
use Rattle.s390x_emit_int.specs.Fragments.{StartStep, apply, apply_all}
use Rattle.s390x_emit_int.specs.Room.{HasRoom, MembersFit, TreeFits}
use Rattle.s390x_emit_int.specs.CodeSize.{Adds, code_limit}
use Rattle.s390x_emit_int.specs.declared.check.CodeSize.{CodeSize}
use Rattle.s390x_emit_int.proofs.Checking.{GoesOn, capped}
use Rattle.s390x_emit_int.proofs.Passing.{Turns, turns_declared}
use Rattle.s390x_emit_int.proofs.Runs.{run-append, body_grows}
use Rattle.s390x_emit_int.proofs.Starts.{same_run}

-- ---- lists of bodies

pub leaves_append : (a b : List StepBody) (rest : Tree) → leaves (a ++ b) rest ≡ leaves a (leaves b rest)
leaves_append [] b rest = refl
leaves_append (x ∷ a) b rest = ap (leaf x) (leaves_append a b rest)

-- the next of a call's results, and those behind it
pub loads_behind : (e : Emission) (ds : List CallRetPair) (k : ℕ) (d : CallRetPair) → k < length ds → d ≡ get_or ds k d → load_bodies e (drop k ds) ≡ load_before e d.vreg d.location (load_bodies e (drop (k + 1) ds))
loads_behind e ds k d lt at =
    let k1 : suc k ≡ k + 1 = omega arith in
    ap (load_bodies e) (drop-cons ds k d lt ∙ ap (λ x. x ∷ drop (suc k) ds) (sym at) ∙ ap (λ m. d ∷ drop m ds) k1)

-- the next of the instructions that take a frame down
pub wholes_behind : (e : Emission) (is : List Inst) (k : ℕ) (i : Inst) → k < length is → i ≡ get_or is k i → wholes e (drop k is) ≡ Whole (resolved_instruction e i) ∷ wholes e (drop (k + 1) is)
wholes_behind e is k i lt at =
    let k1 : suc k ≡ k + 1 = omega arith in
    ap (wholes e) (drop-cons is k i lt ∙ ap (λ x. x ∷ drop (suc k) is) (sym at) ∙ ap (λ m. i ∷ drop m is) k1)

-- ---- what bodies put

-- one body, without its step's offset
pub body_turns : (b : StepBody) (s t : BufferState) (n after : ℕ) → n ≡ length s.labels → t ≡ apply_all s (body_fragments n after b) → Turns s t (body_fresh_labels b) (body_size b)
body_turns b s t n after en e =
    let g = body_grows b s n after en in
    let same = same_run (body_fragments n after b) s in
    record { unpoisoned = ap (λ x. x.is_poisoned) e ∙ same.is_poisoned; blocks = ap (λ x. x.block_count) e ∙ same.block_count; constants = ap (λ x. x.constants) e ∙ same.constants; labels = ap (λ x. length x.labels) e ∙ g.labels; bytes = ap (λ x. length x.bytes) e ∙ g.bytes }

-- the first of an instruction's steps, whose offset stands already, and the rest
pub first_run : (b : StepBody) (rest : Tree) (s t : BufferState) (after : ℕ) → t ≡ apply_all s (body_fragments (length s.labels) after b) →
    apply_all s (own_fragments (length s.labels) after (leaf b rest)) ≡ apply_all t (fragments (length t.labels) after rest)
first_run b rest s t after e =
    let n = length s.labels in
    run-append s (body_fragments n after b) (fragments (n + body_fresh_labels b) after rest)
    ∙ ap (λ x. apply_all x (fragments (n + body_fresh_labels b) after rest)) (sym e)
    ∙ ap (λ m. apply_all t (fragments m after rest)) (sym (body_turns b s t n after refl e).labels)

-- a further one, from its step's offset on
pub next_run : (b : StepBody) (rest : Tree) (s s1 t : BufferState) (after : ℕ) → s1 ≡ apply s StartStep → t ≡ apply_all s1 (body_fragments (length s1.labels) after b) →
    apply_all s (fragments (length s.labels) after (leaf b rest)) ≡ apply_all t (fragments (length t.labels) after rest)
next_run b rest s s1 t after e1 e =
    first_run b rest (apply s StartStep) t after (e ∙ ap (λ x. apply_all x (body_fragments (length x.labels) after b)) e1)

-- there is room behind a body
pub body_room : (b : StepBody) (s t : BufferState) (n after : ℕ) → n ≡ length s.labels → t ≡ apply_all s (body_fragments n after b) → HasRoom s → HasRoom t
body_room b s t n after en e room =
    let u = body_turns b s t n after en e in
    omega (arith, u.labels, u.blocks, ap length u.constants, room)

-- ---- what the check let pass

pub body_passed : (flags : IsaFlags) (s : BufferState) (after nominal depth : ℕ) (b : StepBody) (rest : Tree) → TreeFits flags s after nominal depth (leaf b rest) → MembersFit s after depth (body_size b) (body_cause flags (declared_in s) (length s.labels) nominal depth b)
body_passed flags s after nominal depth b rest p = record { unpoisoned = p.unpoisoned; blocks = p.blocks; label = p.label; short = omega (arith, p.short); passed = first_left _ _ p.passed }

-- a step's offset changes nothing of it
pub started_passed : (flags : IsaFlags) (s t : BufferState) (after nominal depth : ℕ) (x : Tree) → t ≡ apply s StartStep → TreeFits flags s after nominal depth x → TreeFits flags t after nominal depth x
started_passed flags s t after nominal depth x e p =
    let here : TreeFits flags (apply s StartStep) after nominal depth x = record { unpoisoned = p.unpoisoned; blocks = p.blocks; label = p.label; short = p.short; passed = p.passed } in
    subst (λ y. TreeFits flags y after nominal depth x) (sym e) here

pub rest_passed : (flags : IsaFlags) (s t : BufferState) (after nominal depth : ℕ) (b : StepBody) (rest : Tree) → t ≡ apply_all s (body_fragments (length s.labels) after b) → TreeFits flags s after nominal depth (leaf b rest) → TreeFits flags t after (body_nominal_after nominal b) depth rest
rest_passed flags s t after nominal depth b rest e p =
    let u = body_turns b s t (length s.labels) after refl e in
    let m = body_nominal_after nominal b in
    let later = first_right (body_cause flags (declared_in s) (length s.labels) nominal depth b) _ p.passed in
    record {
      unpoisoned = u.unpoisoned ∙ p.unpoisoned;
      blocks = omega (arith, u.blocks, u.labels, p.blocks);
      label = λ d. omega (arith, u.labels, p.label d);
      short = omega (arith, u.bytes, p.short);
      passed = ap (λ D. tree_cause flags D (length t.labels) m depth rest) (turns_declared s t _ _ u) ∙ ap (λ l. tree_cause flags (declared_in s) l m depth rest) u.labels ∙ later;
    }

-- the cause of the rest behind a body without one is that of both
pub rest_cause : (flags : IsaFlags) (s t : BufferState) (after nominal depth : ℕ) (b : StepBody) (rest : Tree) → t ≡ apply_all s (body_fragments (length s.labels) after b) → body_cause flags (declared_in s) (length s.labels) nominal depth b ≡ None →
    tree_cause flags (declared_in t) (length t.labels) (body_nominal_after nominal b) depth rest ≡ tree_cause flags (declared_in s) (length s.labels) nominal depth (leaf b rest)
rest_cause flags s t after nominal depth b rest e none =
    let u = body_turns b s t (length s.labels) after refl e in
    let m = body_nominal_after nominal b in
    let later = tree_cause flags (declared_in s) (length s.labels + body_fresh_labels b) m depth rest in
    ap (λ D. tree_cause flags D (length t.labels) m depth rest) (turns_declared s t _ _ u)
    ∙ ap (λ l. tree_cause flags (declared_in s) l m depth rest) u.labels
    ∙ ap (λ o. first_emit_cause o later) (sym none)

-- ---- the check

-- behind a body without a cause it goes on
pub body_goes_on : (flags : IsaFlags) (D : Declared) (nominal depth : ℕ) (sum r : CodeSize) (b : StepBody) (rest : Tree) → body_cause flags D sum.labels nominal depth b ≡ None → Adds sum r (body_fresh_labels b) (body_size b) → GoesOn flags D depth sum r nominal (body_nominal_after nominal b) rest (leaf b rest)
body_goes_on flags D nominal depth sum r b rest none adds =
    let m = body_nominal_after nominal b in
    record {
      cause = ap (λ l. tree_cause flags D l m depth rest) adds.labels ∙ ap (λ o. first_emit_cause o (tree_cause flags D (sum.labels + body_fresh_labels b) m depth rest)) (sym none);
      labels = omega (arith, adds.labels);
      bytes = capped r.bytes (sum.bytes + body_size b) (tree_size rest) adds.bytes ∙ ap (min code_limit) (omega arith);
      nominal = refl;
    }

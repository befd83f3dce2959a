-- Steps one after another: what is left behind the first of them comes to what was left before it, and so on.
use Rattle.std.proofs.Common.{◌≡◌, ℕ, ◌+◌, ◌-◌, ◌<◌, ◌≤◌, ◌⊎◌, inl, inr, min, Bool, true, false, ◌&&◌, List, [], ◌∷◌, ◌++◌, length, get_or, drop, drop-cons, suc, Option, None, Some, Result, Ok, Err, OnOk, IsErrAnd, MatchResult, refl, sym, ap, ◌∙◌, subst, arith}
use Rattle.std.proofs.lemmas.List.{drop_all}
use Rattle.std.proofs.lemmas.Bool.{and_parts}
use Rattle.std.specs.Prelude.{ℤ}
use Rattle.s390x_base.specs.declared.error.EmitError.{EmitError}
use Rattle.s390x_base.specs.declared.error.EmitError.TheVariants.{NoMemory, BadRegister}
use Rattle.s390x_base.specs.declared.ir.ValueType.{ValueType}
use Rattle.s390x_base.specs.declared.regs.Reg.{Reg}
use Rattle.s390x_buffer.specs.Extends.{Extends}
use Rattle.s390x_buffer.proofs.Extending.{extends_on, extends_same}
use Rattle.s390x_buffer.specs.State.{BufferState, put_cause}
use Rattle.s390x_inst.specs.Emission.{Emission}
use Rattle.s390x_inst.specs.Constructors.{load_of}
use Rattle.s390x_inst.specs.Frames.{load_from}
use Rattle.s390x_inst.specs.declared.args.MemArg.TheVariants.{OutgoingArgOffset}
use Rattle.s390x_inst.specs.declared.calls.CallInstDest.{CallInstDest}
use Rattle.s390x_inst.specs.declared.calls.CallRetPair.{CallRetPair}
use Rattle.s390x_inst.specs.declared.calls.RetLocation.{RetLocation}
use Rattle.s390x_inst.specs.declared.calls.RetLocation.TheVariants.{Stack}
use Rattle.s390x_inst.specs.declared.inst.Inst.{Inst}
use Rattle.s390x_inst.specs.declared.state.IsaFlags.{IsaFlags}
use Rattle.s390x_typed_steps.specs.Causes.{Declared, call_cause, tail_cause, unless, first_emit_cause, declared_in, body_cause, body_fresh_labels, body_nominal_after, fresh_labels, instruction_fresh_labels, leaf_cause, tree_cause}
use Rattle.s390x_typed_steps.specs.Calls.{call_size, is_first_saved, is_target, load_or, load_before, load_bodies, wholes}
use Rattle.s390x_typed_steps.specs.Ranges.{InRange, BodyInRange}
use Rattle.s390x_typed_steps.specs.Resolved.{resolved_instruction}
use Rattle.s390x_typed_steps.specs.Sizes.{body_size, instruction_size, tree_size}
use Rattle.s390x_typed_steps.specs.Stack.{nominal_after}
use Rattle.s390x_typed_steps.specs.Tree.{StepBody, Tree, Whole, CallStep, TailOpening, TailJump, empty, leaf, leaves}
use Rattle.s390x_typed_steps.specs.Parts.{step_parts, step_size, tail_part}
use Rattle.s390x_typed_steps.specs.StepBody.{Calling, AtCall}
use Rattle.s390x_typed_steps.specs.Steps.{CallingStep}
use Rattle.s390x_typed_steps.proofs.Causes.{first_left, unless_true}
use Rattle.s390x_typed_steps.proofs.Trees.{nominal_resolved}
use Rattle.s390x_emit_int.specs.Emission.{body_fragments, leaf_fragments, part_fragments}
use Rattle.s390x_emit_int.specs.Fragments.{AddSite, StartStep, apply, apply_all}
use Rattle.s390x_emit_int.specs.Room.{HasRoom, MembersFit, TreeFits, OnlyOutOfMemory}
use Rattle.s390x_emit_int.specs.Sequence.{AllKeepNominal, Reaches, Emits, EmitsOwn, Counts, Checks, ChecksTree}
use Rattle.s390x_emit_int.specs.CodeSize.{Adds, IsCounted, code_limit}
use Rattle.s390x_emit_int.specs.declared.check.CodeSize.{CodeSize}
use Rattle.s390x_emit_int.proofs.Bodies.{first_run, next_run, body_passed, body_room, rest_passed, started_passed, rest_cause, body_goes_on, leaves_append, loads_behind}
use Rattle.s390x_emit_int.proofs.CallSites.{at_call, load_keeps, tail_part_size}
use Rattle.s390x_emit_int.proofs.OnlyMemory.{only_memory_again, put_none}
use Rattle.s390x_emit_int.proofs.Tables.{parts_turns}

-- ---- what is left

pub reaches_same : (flags : IsaFlags) (s : BufferState) (after depth nominal : ℕ) (x : Tree) → Reaches flags s s after depth nominal nominal x x
reaches_same flags s after depth nominal x = record { put = refl; cause = refl; passed = λ p. p; ranges = λ f. f; room = λ r. r }

pub reaches_on : (flags : IsaFlags) (s t u : BufferState) (after depth nominal between behind : ℕ) (x y z : Tree) → Reaches flags s t after depth nominal between x y → Reaches flags t u after depth between behind y z → Reaches flags s u after depth nominal behind x z
reaches_on flags s t u after depth nominal between behind x y z a b = record {
  put = b.put ∙ a.put;
  cause = b.cause ∙ a.cause;
  passed = λ p. b.passed (a.passed p);
  ranges = λ f. a.ranges (b.ranges f);
  room = λ r. b.room (a.room r);
}

-- a step whose offset is put first
pub reaches_step : (flags : IsaFlags) (s s1 t : BufferState) (after depth nominal : ℕ) (b : StepBody) (rest : Tree) → s1 ≡ apply s StartStep → t ≡ apply_all s1 (body_fragments (length s1.labels) after b) → body_cause flags (declared_in s1) (length s1.labels) nominal depth b ≡ None → BodyInRange b →
    Reaches flags s t after depth nominal (body_nominal_after nominal b) (leaf b rest) rest
reaches_step flags s s1 t after depth nominal b rest e1 e none range =
    let e2 : t ≡ apply_all (apply s StartStep) (body_fragments (length (apply s StartStep).labels) after b) = e ∙ ap (λ x. apply_all x (body_fragments (length x.labels) after b)) e1 in
    let here : body_cause flags (declared_in (apply s StartStep)) (length (apply s StartStep).labels) nominal depth b ≡ None = subst (λ (x : BufferState). body_cause flags (declared_in x) (length x.labels) nominal depth b ≡ None) e1 none in
    record {
      put = sym (next_run b rest s s1 t after e1 e);
      cause = rest_cause flags (apply s StartStep) t after nominal depth b rest e2 here;
      passed = λ p. rest_passed flags s1 t after nominal depth b rest e (started_passed flags s s1 after nominal depth (leaf b rest) e1 p);
      ranges = λ f. (range, f);
      room = λ r. body_room b (apply s StartStep) t (length s.labels) after refl e2 r;
    }

-- ---- a whole tree whose first step has its place already

pub own_done : {T : Type 0} (flags : IsaFlags) (s t u : BufferState) (after depth nominal behind : ℕ) (b : StepBody) (rest : Tree) (x : T) → t ≡ apply_all s (body_fragments (length s.labels) after b) → body_cause flags (declared_in s) (length s.labels) nominal depth b ≡ None → BodyInRange b → Extends s t →
    Reaches flags t u after depth (body_nominal_after nominal b) behind rest empty → Extends t u → EmitsOwn flags s u after depth nominal (leaf b rest) (Ok x)
own_done flags s t u after depth nominal behind b rest x e none range kept g further = record {
  answer = g.put ∙ sym (first_run b rest s t after e);
  cause = sym (rest_cause flags s t after nominal depth b rest e none) ∙ sym g.cause;
  only_memory = λ p. tt;
  ranges = (range, g.ranges tt);
  kept = extends_on _ _ _ kept further;
}

-- an error that is want of memory wherever the tree passed the check
pub own_failed : {T : Type 0} (flags : IsaFlags) (s u : BufferState) (after depth nominal : ℕ) (x : Tree) (e : EmitError) → (TreeFits flags s after nominal depth x → e ≡ NoMemory) → Extends s u → EmitsOwn {T = T} flags s u after depth nominal x (Err e)
own_failed flags s u after depth nominal x e only_memory kept = record { answer = tt; cause = tt; only_memory = only_memory; ranges = tt; kept = kept }

-- ---- the check

pub counts_same : (flags : IsaFlags) (D : Declared) (t : CodeSize) (depth nominal : ℕ) (x : Tree) → Counts flags D t t depth nominal nominal x x
counts_same flags D t depth nominal x = record { cause = refl; labels = refl; bytes = refl }

pub counts_on : (flags : IsaFlags) (D : Declared) (t r q : CodeSize) (depth nominal between behind : ℕ) (x y z : Tree) → Counts flags D t r depth nominal between x y → Counts flags D r q depth between behind y z → Counts flags D t q depth nominal behind x z
counts_on flags D t r q depth nominal between behind x y z a b = record { cause = b.cause ∙ a.cause; labels = b.labels ∙ a.labels; bytes = b.bytes ∙ a.bytes }

pub counts_step : (flags : IsaFlags) (D : Declared) (t r : CodeSize) (depth nominal : ℕ) (b : StepBody) (rest : Tree) → body_cause flags D t.labels nominal depth b ≡ None → Adds t r (body_fresh_labels b) (body_size b) → Counts flags D t r depth nominal (body_nominal_after nominal b) (leaf b rest) rest
counts_step flags D t r depth nominal b rest none adds =
    let g = body_goes_on flags D nominal depth t r b rest none adds in
    record { cause = g.cause; labels = g.labels; bytes = g.bytes }

-- of a whole tree
pub counts_done : (flags : IsaFlags) (D : Declared) (t r : CodeSize) (depth nominal behind : ℕ) (x : Tree) → IsCounted r → Counts flags D t r depth nominal behind x empty → (tree_cause flags D t.labels nominal depth x ≡ None) × Adds t r (fresh_labels x) (tree_size x)
counts_done flags D t r depth nominal behind x counted g =
    let bytes : r.bytes ≡ r.bytes + 0 = omega arith in (
      sym g.cause,
      record { counted = counted; labels = omega (arith, g.labels); bytes = ap (min code_limit) bytes ∙ g.bytes },
    )

-- a cause of a step is the first one from there on
pub step_stops : (flags : IsaFlags) (D : Declared) (n depth nominal : ℕ) (b : StepBody) (rest : Tree) (e : EmitError) → body_cause flags D n nominal depth b ≡ Some e → tree_cause flags D n nominal depth (leaf b rest) ≡ Some e
step_stops flags D n depth nominal b rest e some = ap (λ o. first_emit_cause o (tree_cause flags D (n + body_fresh_labels b) (body_nominal_after nominal b) depth rest)) some

-- ---- lists of steps, whatever comes behind

-- from steps to the last of them
abbrev pub Goes : IsaFlags → (s t : BufferState) → (after depth nominal behind : ℕ) → (all more : List StepBody) → Type 0
Goes flags s t after depth nominal behind all more = (rest : Tree) → Reaches flags s t after depth nominal behind (leaves all rest) (leaves more rest)

pub goes_same : (flags : IsaFlags) (s : BufferState) (after depth nominal : ℕ) (all : List StepBody) → Goes flags s s after depth nominal nominal all all
goes_same flags s after depth nominal all = λ rest. reaches_same flags s after depth nominal (leaves all rest)

-- the next of them
pub goes_step : (flags : IsaFlags) (s t u : BufferState) (after depth nominal between behind : ℕ) (bs all more others : List StepBody) → more ≡ bs ++ others → Goes flags s t after depth nominal between all more →
    ((rest : Tree) → Reaches flags t u after depth between behind (leaves bs rest) rest) → behind ≡ between → Goes flags s u after depth nominal between all others
goes_step flags s t u after depth nominal between behind bs all more others split before own same = λ rest.
    let next : Reaches flags t u after depth between between (leaves bs (leaves others rest)) (leaves others rest) = subst (λ m. Reaches flags t u after depth between m (leaves bs (leaves others rest)) (leaves others rest)) same (own (leaves others rest)) in
    let step : Reaches flags t u after depth between between (leaves more rest) (leaves others rest) = subst (λ x. Reaches flags t u after depth between between x (leaves others rest)) (sym (ap (λ l. leaves l rest) split ∙ leaves_append bs others rest)) next in
    reaches_on flags s t u after depth nominal between between (leaves all rest) (leaves more rest) (leaves others rest) (before rest) step

pub goes_room : (flags : IsaFlags) (s t : BufferState) (after depth nominal behind : ℕ) (bs : List StepBody) → ((rest : Tree) → Reaches flags s t after depth nominal behind (leaves bs rest) rest) → HasRoom s → HasRoom t
goes_room flags s t after depth nominal behind bs own room = (own empty).room room

on_err : {T : Type 0} (r : Result T EmitError) (P : EmitError → Type 0) (Q : Type 0) → IsErrAnd r P → OnOk r Q
on_err (Ok x) P Q h = absurd h
on_err (Err e) P Q h = tt

-- one of them is refused
pub goes_failed : {T U : Type 0} (flags : IsaFlags) (s t u : BufferState) (after depth nominal between behind last : ℕ) (bs all more others : List StepBody) (r : Result U EmitError) (e : EmitError) → more ≡ bs ++ others → Goes flags s t after depth nominal between all more → Extends s t →
    Emits {T = T} flags t u after depth between behind bs (Err e) → IsErrAnd r (λ y. y ≡ e) → Emits flags s u after depth nominal last all r
goes_failed {T} {U} flags s t u after depth nominal between behind last bs all more others r e split before kept own is = record {
  reaches = on_err r (λ y. y ≡ e) _ is;
  only_memory = λ rest p.
      let q : TreeFits flags t after between depth (leaves bs (leaves others rest)) = subst (TreeFits flags t after between depth) (ap (λ l. leaves l rest) split ∙ leaves_append bs others rest) ((before rest).passed p) in
      only_memory_again r e is (own.only_memory (leaves others rest) q);
  kept = extends_on _ _ _ kept own.kept;
}

-- none is left
pub goes_done : {T : Type 0} (flags : IsaFlags) (s t : BufferState) (after depth nominal behind : ℕ) (all more : List StepBody) (x : T) → more ≡ [] → Goes flags s t after depth nominal behind all more → Extends s t → Emits flags s t after depth nominal behind all (Ok x)
goes_done flags s t after depth nominal behind all more x none before kept = record {
  reaches = λ rest. subst (λ l. Reaches flags s t after depth nominal behind (leaves all rest) (leaves l rest)) none (before rest);
  only_memory = λ rest p. tt;
  kept = kept;
}

-- ---- the lists that emission goes through

pub keep_behind : (is : List Inst) (k : ℕ) (i : Inst) → k < length is → i ≡ get_or is k i → AllKeepNominal (drop k is) → ((nominal : ℕ) → nominal_after nominal i ≡ nominal) × AllKeepNominal (drop (k + 1) is)
keep_behind is k i lt at keep =
    let k1 : suc k ≡ k + 1 = omega arith in
    subst AllKeepNominal (drop-cons is k i lt ∙ ap (λ x. x ∷ drop (suc k) is) (sym at) ∙ ap (λ m. i ∷ drop m is) k1) keep

pub wholes_drained : (e : Emission) (is : List Inst) (k : ℕ) → length is ≤ k → wholes e (drop k is) ≡ []
wholes_drained e is k h = ap (wholes e) (drop_all k is h)

before_append : (e : Emission) (rd : Reg) (l : RetLocation) (rest : List StepBody) → load_before e rd l rest ≡ load_before e rd l [] ++ rest
before_append e rd (Stack off ty) rest = refl
before_append e rd l rest = refl

pub loads_next : (e : Emission) (ds : List CallRetPair) (k : ℕ) (d : CallRetPair) → k < length ds → d ≡ get_or ds k d → load_bodies e (drop k ds) ≡ load_before e d.vreg d.location [] ++ load_bodies e (drop (k + 1) ds)
loads_next e ds k d lt at = loads_behind e ds k d lt at ∙ before_append e d.vreg d.location (load_bodies e (drop (k + 1) ds))

pub loads_drained : (e : Emission) (ds : List CallRetPair) (k : ℕ) → length ds ≤ k → load_bodies e (drop k ds) ≡ []
loads_drained e ds k h = ap (load_bodies e) (drop_all k ds h)

-- ---- one instruction as a step

step_reaches : {T : Type 0} (flags : IsaFlags) (s s1 t : BufferState) (after depth : ℕ) (e : Emission) (i : Inst) (r : Result T EmitError) → s1 ≡ apply s StartStep →
    OnOk r ((leaf_cause flags (declared_in s1) (length s1.labels) e.nominal depth (resolved_instruction e i) ≡ None) × (t ≡ apply_all s1 (leaf_fragments (length s1.labels) after (resolved_instruction e i)))) → OnOk r (InRange (resolved_instruction e i)) →
    OnOk r ((rest : Tree) → Reaches flags s t after depth e.nominal (nominal_after e.nominal i) (leaf (Whole (resolved_instruction e i)) rest) rest)
step_reaches flags s s1 t after depth e i (Ok x) e1 answer range = λ rest.
    subst (λ m. Reaches flags s t after depth e.nominal m (leaf (Whole (resolved_instruction e i)) rest) rest) (nominal_resolved e e.nominal i) (reaches_step flags s s1 t after depth e.nominal (Whole (resolved_instruction e i)) rest e1 answer.1 answer.0 range)
step_reaches flags s s1 t after depth e i (Err y) e1 answer range = tt

pub step_emits : {T : Type 0} (flags : IsaFlags) (s s1 t : BufferState) (after depth : ℕ) (e : Emission) (i : Inst) (r : Result T EmitError) → s1 ≡ apply s StartStep → Extends s s1 →
    OnOk r ((leaf_cause flags (declared_in s1) (length s1.labels) e.nominal depth (resolved_instruction e i) ≡ None) × (t ≡ apply_all s1 (leaf_fragments (length s1.labels) after (resolved_instruction e i)))) →
    (MembersFit s1 after depth (instruction_size (resolved_instruction e i)) (leaf_cause flags (declared_in s1) (length s1.labels) e.nominal depth (resolved_instruction e i)) → OnlyOutOfMemory r) → OnOk r (InRange (resolved_instruction e i)) → Extends s1 t →
    Emits flags s t after depth e.nominal (nominal_after e.nominal i) (Whole (resolved_instruction e i) ∷ []) r
step_emits flags s s1 t after depth e i r e1 begun answer only_memory range kept = record {
  reaches = step_reaches flags s s1 t after depth e i r e1 answer range;
  only_memory = λ rest p. only_memory (body_passed flags s1 after e.nominal depth (Whole (resolved_instruction e i)) rest (started_passed flags s s1 after e.nominal depth (leaf (Whole (resolved_instruction e i)) rest) e1 p));
  kept = extends_on _ _ _ begun kept;
}

-- the load of a result
pub result_load : {T : Type 0} (flags : IsaFlags) (s t : BufferState) (after depth : ℕ) (e : Emission) (rd : Reg) (l : RetLocation) (off : ℤ) (ty : ValueType) (load : Inst) (r : Result T EmitError) → l ≡ Stack off ty → Some load ≡ load_from rd l →
    Emits flags s t after depth e.nominal (nominal_after e.nominal load) (Whole (resolved_instruction e load) ∷ []) r → Emits flags s t after depth e.nominal e.nominal (load_before e rd l []) r
result_load flags s t after depth e rd l off ty load r is given own =
    let some : Some load ≡ load_of rd (OutgoingArgOffset off) ty = given ∙ ap (load_from rd) is in
    let body : load_or e (load_of rd (OutgoingArgOffset off) ty) ≡ Whole (resolved_instruction e load) = ap (load_or e) (sym some) in
    let keep : nominal_after e.nominal load ≡ e.nominal = sym (nominal_resolved e e.nominal load) ∙ ap (body_nominal_after e.nominal) (sym body) ∙ load_keeps e rd (OutgoingArgOffset off) ty e.nominal in
    let bodies : load_before e rd l [] ≡ Whole (resolved_instruction e load) ∷ [] = ap (λ x. load_before e rd x []) is ∙ ap (λ b. b ∷ []) body in
    subst (λ bs. Emits flags s t after depth e.nominal e.nominal bs r) (sym bodies) (subst (λ m. Emits flags s t after depth e.nominal m (Whole (resolved_instruction e load) ∷ []) r) keep own)

-- ---- the check of lists of steps

abbrev pub CountsOn : IsaFlags → Declared → (t r : CodeSize) → (depth nominal behind : ℕ) → (all more : List StepBody) → Type 0
CountsOn flags D t r depth nominal behind all more = (rest : Tree) → Counts flags D t r depth nominal behind (leaves all rest) (leaves more rest)

pub counts_begin : (flags : IsaFlags) (D : Declared) (t : CodeSize) (depth nominal : ℕ) (all : List StepBody) → CountsOn flags D t t depth nominal nominal all all
counts_begin flags D t depth nominal all = λ rest. counts_same flags D t depth nominal (leaves all rest)

pub counts_next : (flags : IsaFlags) (D : Declared) (t r q : CodeSize) (depth nominal between behind : ℕ) (bs all more others : List StepBody) → more ≡ bs ++ others → CountsOn flags D t r depth nominal between all more →
    ((rest : Tree) → Counts flags D r q depth between behind (leaves bs rest) rest) → behind ≡ between → CountsOn flags D t q depth nominal between all others
counts_next flags D t r q depth nominal between behind bs all more others split before own same = λ rest.
    let next : Counts flags D r q depth between between (leaves bs (leaves others rest)) (leaves others rest) = subst (λ m. Counts flags D r q depth between m (leaves bs (leaves others rest)) (leaves others rest)) same (own (leaves others rest)) in
    let step : Counts flags D r q depth between between (leaves more rest) (leaves others rest) = subst (λ x. Counts flags D r q depth between between x (leaves others rest)) (sym (ap (λ l. leaves l rest) split ∙ leaves_append bs others rest)) next in
    counts_on flags D t r q depth nominal between between (leaves all rest) (leaves more rest) (leaves others rest) (before rest) step

-- the first cause of one of them is that of all
pub counts_failed : (flags : IsaFlags) (D : Declared) (t r : CodeSize) (depth nominal between last : ℕ) (bs all more others : List StepBody) (result : Result CodeSize EmitError) (e : EmitError) → more ≡ bs ++ others → CountsOn flags D t r depth nominal between all more →
    ((rest : Tree) → tree_cause flags D r.labels between depth (leaves bs rest) ≡ Some e) → IsErrAnd result (λ y. y ≡ e) → Checks flags D t depth nominal last all result
counts_failed flags D t r depth nominal between last bs all more others (Ok x) e split before own is = absurd is
counts_failed flags D t r depth nominal between last bs all more others (Err y) e split before own is = λ rest.
    sym (before rest).cause ∙ ap (tree_cause flags D r.labels between depth) (ap (λ l. leaves l rest) split ∙ leaves_append bs others rest) ∙ own (leaves others rest) ∙ ap Some (sym is)

pub counts_end : (flags : IsaFlags) (D : Declared) (t r : CodeSize) (depth nominal behind : ℕ) (all more : List StepBody) → more ≡ [] → IsCounted r → CountsOn flags D t r depth nominal behind all more → Checks flags D t depth nominal behind all (Ok r)
counts_end flags D t r depth nominal behind all more none counted before = (counted, λ rest. subst (λ l. Counts flags D t r depth nominal behind (leaves all rest) (leaves l rest)) none (before rest))

-- one instruction
pub step_checks : (flags : IsaFlags) (D : Declared) (t : CodeSize) (depth : ℕ) (e : Emission) (i : Inst) (result : Result CodeSize EmitError) →
    MatchResult result (λ r. (leaf_cause flags D t.labels e.nominal depth (resolved_instruction e i) ≡ None) × Adds t r (instruction_fresh_labels (resolved_instruction e i)) (instruction_size (resolved_instruction e i))) (λ y. leaf_cause flags D t.labels e.nominal depth (resolved_instruction e i) ≡ Some y) →
    Checks flags D t depth e.nominal (nominal_after e.nominal i) (Whole (resolved_instruction e i) ∷ []) result
step_checks flags D t depth e i (Ok r) h = (
  h.1.counted,
  λ rest. subst (λ m. Counts flags D t r depth e.nominal m (leaf (Whole (resolved_instruction e i)) rest) rest) (nominal_resolved e e.nominal i) (counts_step flags D t r depth e.nominal (Whole (resolved_instruction e i)) rest h.0 h.1),
)
step_checks flags D t depth e i (Err y) h = λ rest. step_stops flags D t.labels depth e.nominal (Whole (resolved_instruction e i)) rest y h

-- the load of a result
pub result_checks : (flags : IsaFlags) (D : Declared) (t : CodeSize) (depth : ℕ) (e : Emission) (rd : Reg) (l : RetLocation) (off : ℤ) (ty : ValueType) (load : Inst) (result : Result CodeSize EmitError) → l ≡ Stack off ty → Some load ≡ load_from rd l →
    Checks flags D t depth e.nominal (nominal_after e.nominal load) (Whole (resolved_instruction e load) ∷ []) result → Checks flags D t depth e.nominal e.nominal (load_before e rd l []) result
result_checks flags D t depth e rd l off ty load result is given own =
    let some : Some load ≡ load_of rd (OutgoingArgOffset off) ty = given ∙ ap (load_from rd) is in
    let body : load_or e (load_of rd (OutgoingArgOffset off) ty) ≡ Whole (resolved_instruction e load) = ap (load_or e) (sym some) in
    let keep : nominal_after e.nominal load ≡ e.nominal = sym (nominal_resolved e e.nominal load) ∙ ap (body_nominal_after e.nominal) (sym body) ∙ load_keeps e rd (OutgoingArgOffset off) ty e.nominal in
    let bodies : load_before e rd l [] ≡ Whole (resolved_instruction e load) ∷ [] = ap (λ x. load_before e rd x []) is ∙ ap (λ b. b ∷ []) body in
    subst (λ bs. Checks flags D t depth e.nominal e.nominal bs result) (sym bodies) (subst (λ m. Checks flags D t depth e.nominal m (Whole (resolved_instruction e load) ∷ []) result) keep own)

-- ---- a call

-- an error that is handed on
own_again : {T : Type 0} (flags : IsaFlags) (s u : BufferState) (after depth nominal : ℕ) (x : Tree) (r : Result T EmitError) (e : EmitError) → IsErrAnd r (λ y. y ≡ e) → (TreeFits flags s after nominal depth x → e ≡ NoMemory) → Extends s u → EmitsOwn flags s u after depth nominal x r
own_again flags s u after depth nominal x (Ok y) e is only_memory kept = absurd is
own_again flags s u after depth nominal x (Err y) e is only_memory kept = own_failed flags s u after depth nominal x y (λ p. is ∙ only_memory p) kept

-- what was passed before the loads of a call
loads_passed : (flags : IsaFlags) (s s1 : BufferState) (after depth nominal : ℕ) (c : Calling) (a b : List StepBody) → s1 ≡ apply_all s (part_fragments (step_parts (CallingStep c))) → TreeFits flags s after nominal depth (leaves (CallStep c ∷ (a ++ b)) empty) → TreeFits flags s1 after (nominal - c.popped) depth (leaves a (leaves b empty))
loads_passed flags s s1 after depth nominal c a b put p =
    subst (TreeFits flags s1 after (nominal - c.popped) depth) (leaves_append a b empty) (rest_passed flags s s1 after nominal depth (CallStep c) (leaves (a ++ b) empty) put p)

pub call_step_failed : {T : Type 0} (flags : IsaFlags) (s u : BufferState) (after depth nominal : ℕ) (c : Calling) (later : List StepBody) (r : Result T EmitError) (e : EmitError) → IsErrAnd r (λ y. y ≡ e) →
    (MembersFit s after depth (step_size (CallingStep c)) (call_cause s.block_count nominal depth c) → e ≡ NoMemory) → Extends s u → EmitsOwn flags s u after depth nominal (leaves (CallStep c ∷ later) empty) r
call_step_failed flags s u after depth nominal c later r e is only_memory kept =
    own_again flags s u after depth nominal (leaves (CallStep c ∷ later) empty) r e is (λ p. only_memory (body_passed flags s after nominal depth (CallStep c) (leaves later empty) p)) kept

pub call_loads_failed : {T U : Type 0} (flags : IsaFlags) (s s1 u : BufferState) (after depth nominal m : ℕ) (c : Calling) (a b : List StepBody) (r : Result T EmitError) (e : EmitError) → IsErrAnd r (λ y. y ≡ e) → m ≡ nominal - c.popped → s1 ≡ apply_all s (part_fragments (step_parts (CallingStep c))) → Extends s s1 →
    Emits {T = U} flags s1 u after depth m m a (Err e) → EmitsOwn flags s u after depth nominal (leaves (CallStep c ∷ (a ++ b)) empty) r
call_loads_failed {T} {U} flags s s1 u after depth nominal m c a b r e is same put kept own =
    own_again flags s u after depth nominal (leaves (CallStep c ∷ (a ++ b)) empty) r e is (λ p. own.only_memory (leaves b empty) (subst (λ n. TreeFits flags s1 after n depth (leaves a (leaves b empty))) (sym same) (loads_passed flags s s1 after depth nominal c a b put p))) (extends_on _ _ _ kept own.kept)

call_emits_there : {T : Type 0} (flags : IsaFlags) (s s1 s2 t : BufferState) (after depth nominal : ℕ) (c : Calling) (a b : List StepBody) (r : Result T EmitError) → call_cause s.block_count nominal depth c ≡ None → s1 ≡ apply_all s (part_fragments (step_parts (CallingStep c))) → Extends s s1 →
    ((rest : Tree) → Reaches flags s1 s2 after depth (nominal - c.popped) (nominal - c.popped) (leaves a rest) rest) → Extends s1 s2 → Emits flags s2 t after depth (nominal - c.popped) (nominal - c.popped) b r → EmitsOwn flags s t after depth nominal (leaves (CallStep c ∷ (a ++ b)) empty) r
call_emits_there flags s s1 s2 t after depth nominal c a b (Ok x) none put kept loads further own =
    let m = nominal - c.popped in
    let first : Reaches flags s1 s2 after depth m m (leaves (a ++ b) empty) (leaves b empty) = subst (λ l. Reaches flags s1 s2 after depth m m l (leaves b empty)) (sym (leaves_append a b empty)) (loads (leaves b empty)) in
    own_done flags s s1 t after depth nominal m (CallStep c) (leaves (a ++ b) empty) x put none tt kept (reaches_on flags s1 s2 t after depth m m m (leaves (a ++ b) empty) (leaves b empty) empty first (own.reaches empty)) (extends_on _ _ _ further own.kept)
call_emits_there flags s s1 s2 t after depth nominal c a b (Err e) none put kept loads further own =
    own_failed flags s t after depth nominal (leaves (CallStep c ∷ (a ++ b)) empty) e (λ p. own.only_memory empty ((loads (leaves b empty)).passed (loads_passed flags s s1 after depth nominal c a b put p))) (extends_on _ _ _ kept (extends_on _ _ _ further own.kept))

pub call_emits : {T : Type 0} (flags : IsaFlags) (s s1 s2 t : BufferState) (after depth nominal m : ℕ) (c : Calling) (a b : List StepBody) (r : Result T EmitError) → m ≡ nominal - c.popped → call_cause s.block_count nominal depth c ≡ None → s1 ≡ apply_all s (part_fragments (step_parts (CallingStep c))) → Extends s s1 →
    ((rest : Tree) → Reaches flags s1 s2 after depth m m (leaves a rest) rest) → Extends s1 s2 → Emits flags s2 t after depth m m b r → EmitsOwn flags s t after depth nominal (leaves (CallStep c ∷ (a ++ b)) empty) r
call_emits flags s s1 s2 t after depth nominal m c a b r same none put kept loads further own =
    call_emits_there flags s s1 s2 t after depth nominal c a b r none put kept (subst (λ n. (rest : Tree) → Reaches flags s1 s2 after depth n n (leaves a rest) rest) same loads) further (subst (λ n. Emits flags s2 t after depth n n b r) same own)

-- ---- a tail call

-- its opening has no bytes
pub opening_failed : {T : Type 0} (flags : IsaFlags) (s : BufferState) (after depth nominal : ℕ) (target : CallInstDest) (first : Option ℕ) (lost : Bool) (later : List StepBody) (r : Result T EmitError) (e : EmitError) → IsErrAnd r (λ y. y ≡ e) → (e ≡ NoMemory) ⊎ (tail_cause target first lost ≡ Some e) → Extends s s →
    EmitsOwn flags s s after depth nominal (leaves (TailOpening target first lost ∷ later) empty) r
opening_failed flags s after depth nominal target first lost later r e is given kept =
    own_again flags s s after depth nominal (leaves (TailOpening target first lost ∷ later) empty) r e is (λ p. elim given [ inl n ↦ n | inr some ↦ (let none = first_left (tail_cause target first lost) _ p.passed in absurd (cc)) ]) kept

steps_passed : (flags : IsaFlags) (s : BufferState) (after depth nominal : ℕ) (target : CallInstDest) (first : Option ℕ) (lost : Bool) (a b : List StepBody) → TreeFits flags s after nominal depth (leaves (TailOpening target first lost ∷ (a ++ b)) empty) → TreeFits flags s after nominal depth (leaves a (leaves b empty))
steps_passed flags s after depth nominal target first lost a b p =
    subst (TreeFits flags s after nominal depth) (leaves_append a b empty) (rest_passed flags s s after nominal depth (TailOpening target first lost) (leaves (a ++ b) empty) refl p)

pub tail_steps_failed : {T U : Type 0} (flags : IsaFlags) (s u : BufferState) (after depth nominal : ℕ) (target : CallInstDest) (first : Option ℕ) (lost : Bool) (a b : List StepBody) (r : Result T EmitError) (e : EmitError) → IsErrAnd r (λ y. y ≡ e) →
    Emits {T = U} flags s u after depth nominal nominal a (Err e) → EmitsOwn flags s u after depth nominal (leaves (TailOpening target first lost ∷ (a ++ b)) empty) r
tail_steps_failed flags s u after depth nominal target first lost a b r e is own =
    own_again flags s u after depth nominal (leaves (TailOpening target first lost ∷ (a ++ b)) empty) r e is (λ p. own.only_memory (leaves b empty) (steps_passed flags s after depth nominal target first lost a b p)) own.kept

pub tail_emits : {T : Type 0} (flags : IsaFlags) (s s2 t : BufferState) (after depth nominal : ℕ) (target : CallInstDest) (first : Option ℕ) (lost : Bool) (a b : List StepBody) (r : Result T EmitError) → tail_cause target first lost ≡ None →
    ((rest : Tree) → Reaches flags s s2 after depth nominal nominal (leaves a rest) rest) → Extends s s2 → Emits flags s2 t after depth nominal nominal b r → EmitsOwn flags s t after depth nominal (leaves (TailOpening target first lost ∷ (a ++ b)) empty) r
tail_emits flags s s2 t after depth nominal target first lost a b (Ok x) none steps kept own =
    let here : Reaches flags s s2 after depth nominal nominal (leaves (a ++ b) empty) (leaves b empty) = subst (λ l. Reaches flags s s2 after depth nominal nominal l (leaves b empty)) (sym (leaves_append a b empty)) (steps (leaves b empty)) in
    own_done flags s s t after depth nominal nominal (TailOpening target first lost) (leaves (a ++ b) empty) x refl none tt (extends_same s) (reaches_on flags s s2 t after depth nominal nominal nominal (leaves (a ++ b) empty) (leaves b empty) empty here (own.reaches empty)) (extends_on _ _ _ kept own.kept)
tail_emits flags s s2 t after depth nominal target first lost a b (Err e) none steps kept own =
    own_failed flags s t after depth nominal (leaves (TailOpening target first lost ∷ (a ++ b)) empty) e (λ p. own.only_memory empty ((steps (leaves b empty)).passed (steps_passed flags s after depth nominal target first lost a b p))) (extends_on _ _ _ kept own.kept)

-- its jump, with the site behind it
pub jump_emits : {T : Type 0} (flags : IsaFlags) (s s1 s2 t : BufferState) (after depth nominal : ℕ) (dest : CallInstDest) (r : Result T EmitError) → is_target dest ≡ true → s1 ≡ apply s StartStep → s2 ≡ apply_all s1 (part_fragments (tail_part dest ∷ [])) → OnOk r (t ≡ record s2 { call_sites = s2.call_sites ++ length s2.bytes ∷ [] }) →
    (s2.is_poisoned ≡ false → OnlyOutOfMemory r) → Extends s t → Emits flags s t after depth nominal nominal (TailJump dest ∷ []) r
jump_emits flags s s1 s2 t after depth nominal dest (Ok x) valid e1 e2 e3 only_memory kept = record {
  reaches = λ rest.
      let put : t ≡ apply_all s1 (body_fragments (length s1.labels) after (TailJump dest)) = at_call s2 t e3 ∙ ap (λ x. apply x (AddSite AtCall)) e2 in
      reaches_step flags s s1 t after depth nominal (TailJump dest) rest e1 put (ap (λ t. unless t BadRegister) valid) tt;
  only_memory = λ rest p. tt;
  kept = kept;
}
jump_emits flags s s1 s2 t after depth nominal dest (Err y) valid e1 e2 e3 only_memory kept = record {
  reaches = tt;
  only_memory = λ rest p.
      let u = parts_turns s1 s2 (tail_part dest ∷ []) e2 in
      let q = started_passed flags s s1 after nominal depth (leaves (TailJump dest ∷ []) rest) e1 p in
      only_memory (u.unpoisoned ∙ q.unpoisoned);
  kept = kept;
}

pub jump_failed : {T : Type 0} (flags : IsaFlags) (s s1 u : BufferState) (after depth nominal : ℕ) (dest : CallInstDest) (r : Result T EmitError) (e : EmitError) → s1 ≡ apply s StartStep → (put_cause s1 (call_size dest) ≡ None → e ≡ NoMemory) → IsErrAnd r (λ y. y ≡ e) → Extends s u →
    Emits flags s u after depth nominal nominal (TailJump dest ∷ []) r
jump_failed flags s s1 u after depth nominal dest r e e1 only_memory is kept = record {
  reaches = on_err r (λ y. y ≡ e) _ is;
  only_memory = λ rest p.
      let q = body_passed flags s1 after nominal depth (TailJump dest) rest (started_passed flags s s1 after nominal depth (leaves (TailJump dest ∷ []) rest) e1 p) in
      only_memory_again r e is (only_memory (put_none s1 (call_size dest) q.unpoisoned (omega (arith, q.short, tail_part_size dest))));
  kept = kept;
}

-- ---- the check of calls

-- a body, steps behind it, and others
pub steps_refused : (flags : IsaFlags) (D : Declared) (t r : CodeSize) (depth nominal m : ℕ) (first : StepBody) (a b : List StepBody) (result : Result CodeSize EmitError) (e : EmitError) → m ≡ body_nominal_after nominal first → IsErrAnd result (λ y. y ≡ e) → body_cause flags D t.labels nominal depth first ≡ None → Adds t r (body_fresh_labels first) (body_size first) →
    ((rest : Tree) → tree_cause flags D r.labels m depth (leaves a rest) ≡ Some e) → ChecksTree flags D t depth nominal (leaves (first ∷ (a ++ b)) empty) result
steps_refused flags D t r depth nominal m first a b (Ok x) e same is none adds own = absurd is
steps_refused flags D t r depth nominal m first a b (Err y) e same is none adds own =
    let g = counts_step flags D t r depth nominal first (leaves (a ++ b) empty) none adds in
    inr (sym g.cause ∙ ap (tree_cause flags D r.labels (body_nominal_after nominal first) depth) (leaves_append a b empty) ∙ ap (λ n. tree_cause flags D r.labels n depth (leaves a (leaves b empty))) (sym same) ∙ own (leaves b empty) ∙ ap Some (sym is))

body_checks_there : (flags : IsaFlags) (D : Declared) (t r q : CodeSize) (depth nominal behind : ℕ) (first : StepBody) (a b : List StepBody) (result : Result CodeSize EmitError) → body_cause flags D t.labels nominal depth first ≡ None → Adds t r (body_fresh_labels first) (body_size first) →
    ((rest : Tree) → Counts flags D r q depth (body_nominal_after nominal first) (body_nominal_after nominal first) (leaves a rest) rest) → Checks flags D q depth (body_nominal_after nominal first) behind b result → ChecksTree flags D t depth nominal (leaves (first ∷ (a ++ b)) empty) result
body_checks_there flags D t r q depth nominal behind first a b (Ok x) none adds steps own =
    let m = body_nominal_after nominal first in
    let begun = counts_step flags D t r depth nominal first (leaves (a ++ b) empty) none adds in
    let between : Counts flags D r q depth m m (leaves (a ++ b) empty) (leaves b empty) = subst (λ l. Counts flags D r q depth m m l (leaves b empty)) (sym (leaves_append a b empty)) (steps (leaves b empty)) in
    let both = counts_on flags D t r q depth nominal m m (leaves (first ∷ (a ++ b)) empty) (leaves (a ++ b) empty) (leaves b empty) begun between in
    counts_done flags D t x depth nominal behind (leaves (first ∷ (a ++ b)) empty) own.0 (counts_on flags D t q x depth nominal m behind (leaves (first ∷ (a ++ b)) empty) (leaves b empty) empty both (own.1 empty))
body_checks_there flags D t r q depth nominal behind first a b (Err y) none adds steps own =
    let m = body_nominal_after nominal first in
    let begun = counts_step flags D t r depth nominal first (leaves (a ++ b) empty) none adds in
    let between : Counts flags D r q depth m m (leaves (a ++ b) empty) (leaves b empty) = subst (λ l. Counts flags D r q depth m m l (leaves b empty)) (sym (leaves_append a b empty)) (steps (leaves b empty)) in
    let both = counts_on flags D t r q depth nominal m m (leaves (first ∷ (a ++ b)) empty) (leaves (a ++ b) empty) (leaves b empty) begun between in
    inr (sym both.cause ∙ own empty)

pub body_checks : (flags : IsaFlags) (D : Declared) (t r q : CodeSize) (depth nominal m : ℕ) (first : StepBody) (a b : List StepBody) (result : Result CodeSize EmitError) → m ≡ body_nominal_after nominal first → body_cause flags D t.labels nominal depth first ≡ None → Adds t r (body_fresh_labels first) (body_size first) →
    ((rest : Tree) → Counts flags D r q depth m m (leaves a rest) rest) → Checks flags D q depth m m b result → ChecksTree flags D t depth nominal (leaves (first ∷ (a ++ b)) empty) result
body_checks flags D t r q depth nominal m first a b result same none adds steps own =
    let n = body_nominal_after nominal first in
    body_checks_there flags D t r q depth nominal n first a b result none adds (subst (λ k. (rest : Tree) → Counts flags D r q depth k k (leaves a rest) rest) same steps) (subst (λ k. Checks flags D q depth k k b result) same own)

-- ---- the check of tail calls

pub adds_none : (t : CodeSize) → IsCounted t → Adds t t 0 0
adds_none t counted = record { counted = counted; labels = omega arith; bytes = ap (min code_limit) (add_nothing t.bytes) }
  where
    add_nothing : (n : ℕ) → n ≡ n + 0
    add_nothing n = omega arith

pub opening_valid : (target : CallInstDest) (first : Option ℕ) (lost : Bool) → tail_cause target first lost ≡ None → is_target target ≡ true
opening_valid target first lost none =
    let valid = unless_true (is_target target && is_first_saved first) BadRegister (first_left (unless (is_target target && is_first_saved first) BadRegister) _ none) in
    (and_parts (is_target target) (is_first_saved first) valid).0

pub opening_refused : (flags : IsaFlags) (D : Declared) (t : CodeSize) (depth nominal : ℕ) (target : CallInstDest) (first : Option ℕ) (lost : Bool) (later : List StepBody) (result : Result CodeSize EmitError) (e : EmitError) → IsErrAnd result (λ y. y ≡ e) → (e ≡ NoMemory) ⊎ (tail_cause target first lost ≡ Some e) →
    ChecksTree flags D t depth nominal (leaves (TailOpening target first lost ∷ later) empty) result
opening_refused flags D t depth nominal target first lost later (Ok x) e is given = absurd is
opening_refused flags D t depth nominal target first lost later (Err y) e is given =
    elim given [ inl n ↦ inl (is ∙ n) | inr some ↦ inr (step_stops flags D t.labels depth nominal (TailOpening target first lost) (leaves later empty) y (some ∙ ap Some (sym is))) ]

pub jump_checks : (flags : IsaFlags) (D : Declared) (t r : CodeSize) (depth nominal size : ℕ) (dest : CallInstDest) → is_target dest ≡ true → size ≡ call_size dest → Adds t r 0 size → Checks flags D t depth nominal nominal (TailJump dest ∷ []) (Ok r)
jump_checks flags D t r depth nominal size dest valid given adds =
    let bytes : size ≡ body_size (TailJump dest) = omega (arith, given, tail_part_size dest) in
    let own : Adds t r 0 (body_size (TailJump dest)) = subst (λ n. Adds t r 0 n) bytes adds in
    (adds.counted, λ rest. counts_step flags D t r depth nominal (TailJump dest) rest (ap (λ v. unless v BadRegister) valid) own)

-- Emitting steps one after another, and the check of their causes: whatever comes behind them, what is left behind comes to what was left before.
use Rattle.std.specs.Prelude.{◌≡◌, ℕ, ◌+◌, ◌⊎◌, min, length, List, [], ◌∷◌, None, Some, Result, OnOk, MatchResult}
use Rattle.s390x_base.specs.declared.error.EmitError.{EmitError}
use Rattle.s390x_base.specs.declared.error.EmitError.TheVariants.{NoMemory}
use Rattle.s390x_buffer.specs.Extends.{Extends}
use Rattle.s390x_buffer.specs.State.{BufferState}
use Rattle.s390x_inst.specs.declared.inst.Inst.{Inst}
use Rattle.s390x_inst.specs.declared.state.IsaFlags.{IsaFlags}
use Rattle.s390x_typed_steps.specs.Causes.{Declared, declared_in, fresh_labels, tree_cause}
use Rattle.s390x_typed_steps.specs.Ranges.{AllInRange}
use Rattle.s390x_typed_steps.specs.Sizes.{tree_size}
use Rattle.s390x_typed_steps.specs.Stack.{nominal_after}
use Rattle.s390x_typed_steps.specs.Tree.{StepBody, Tree, leaves}
use Rattle.s390x_emit_int.specs.Emission.{fragments, own_fragments}
use Rattle.s390x_emit_int.specs.Fragments.{apply_all}
use Rattle.s390x_emit_int.specs.Room.{HasRoom, TreeFits, OnlyOutOfMemory}
use Rattle.s390x_emit_int.specs.CodeSize.{Adds, IsCounted, code_limit}
use Rattle.s390x_emit_int.specs.declared.check.CodeSize.{CodeSize}

-- from a buffer before a tree to another one before its rest, at these nominal sizes
pub record Reaches (flags : IsaFlags) (s t : BufferState) (after depth nominal behind : ℕ) (all rest : Tree) : Type 0 where
  pub put : apply_all t (fragments (length t.labels) after rest) ≡ apply_all s (fragments (length s.labels) after all)
  pub cause : tree_cause flags (declared_in t) (length t.labels) behind depth rest ≡ tree_cause flags (declared_in s) (length s.labels) nominal depth all
  pub passed : TreeFits flags s after nominal depth all → TreeFits flags t after behind depth rest
  pub ranges : AllInRange rest → AllInRange all
  pub room : HasRoom s → HasRoom t

-- Steps, each with its place, at a nominal size that is another one behind them: where the result is Ok, they stand and have no cause; where they passed the check, an
-- error is want of memory; what stood still stands
pub record Emits {T : Type 0} (flags : IsaFlags) (s t : BufferState) (after depth nominal behind : ℕ) (bs : List StepBody) (r : Result T EmitError) : Type 0 where
  pub reaches : OnOk r ((rest : Tree) → Reaches flags s t after depth nominal behind (leaves bs rest) rest)
  pub only_memory : (rest : Tree) → TreeFits flags s after nominal depth (leaves bs rest) → OnlyOutOfMemory r
  pub kept : Extends s t

-- what emission answers of a whole tree whose first step has its place already
pub record EmitsOwn {T : Type 0} (flags : IsaFlags) (s t : BufferState) (after depth nominal : ℕ) (x : Tree) (r : Result T EmitError) : Type 0 where
  pub answer : OnOk r (t ≡ apply_all s (own_fragments (length s.labels) after x))
  pub cause : OnOk r (tree_cause flags (declared_in s) (length s.labels) nominal depth x ≡ None)
  pub only_memory : TreeFits flags s after nominal depth x → OnlyOutOfMemory r
  pub ranges : OnOk r (AllInRange x)
  pub kept : Extends s t

-- what was counted before a tree, and what before its rest
pub record Counts (flags : IsaFlags) (D : Declared) (t r : CodeSize) (depth nominal behind : ℕ) (all rest : Tree) : Type 0 where
  pub cause : tree_cause flags D r.labels behind depth rest ≡ tree_cause flags D t.labels nominal depth all
  pub labels : r.labels + fresh_labels rest ≡ t.labels + fresh_labels all
  pub bytes : min code_limit (r.bytes + tree_size rest) ≡ min code_limit (t.bytes + tree_size all)

-- the check of steps: they have no cause, and this was counted behind them; or the first cause
abbrev pub Checks : IsaFlags → Declared → CodeSize → (depth nominal behind : ℕ) → List StepBody → Result CodeSize EmitError → Type 0
Checks flags D t depth nominal behind bs result =
    MatchResult result (λ r. IsCounted r × ((rest : Tree) → Counts flags D t r depth nominal behind (leaves bs rest) rest)) (λ e. (rest : Tree) → tree_cause flags D t.labels nominal depth (leaves bs rest) ≡ Some e)

-- the check of a tree: it has no cause, and what it adds; or the first cause, or want of memory
abbrev pub ChecksTree : IsaFlags → Declared → CodeSize → (depth nominal : ℕ) → Tree → Result CodeSize EmitError → Type 0
ChecksTree flags D t depth nominal x result =
    MatchResult result (λ r. (tree_cause flags D t.labels nominal depth x ≡ None) × Adds t r (fresh_labels x) (tree_size x)) (λ e. (e ≡ NoMemory) ⊎ (tree_cause flags D t.labels nominal depth x ≡ Some e))

-- none of the instructions changes the nominal size
abbrev pub AllKeepNominal : List Inst → Type 0
AllKeepNominal [] = Unit {0}
AllKeepNominal (i ∷ is) = ((nominal : ℕ) → nominal_after nominal i ≡ nominal) × AllKeepNominal is

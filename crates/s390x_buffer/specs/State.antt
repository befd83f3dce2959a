-- What callers see of a buffer, and the causes of refusal of its calls.
use Rattle.std.specs.Prelude.{◌≡◌, ℕ, ◌+◌, ◌≤◌, List, [], ◌∷◌, length, map, replicate, slice_index_or, Option, Some, None, Bool, true, false, cond, ◌||◌, ◌&&◌, nat_lt, nat_eq}
use Rattle.std.specs.List.{slice_get}
use Rattle.s390x_base.specs.declared.ir.ConstantData.{ConstantData}
use Rattle.s390x_base.specs.declared.error.EmitError.{EmitError}
use Rattle.s390x_base.specs.declared.error.EmitError.TheVariants.{UnboundLabel, BadAlignment, LabelOutOfRange, Failed, NoMemory}
use Rattle.s390x_buffer.specs.declared.entries.LabelFixup.{LabelFixup}
use Rattle.s390x_buffer.specs.declared.entries.TrapEntry.{TrapEntry}
use Rattle.s390x_buffer.specs.declared.entries.RelocEntry.{RelocEntry}
use Rattle.s390x_buffer.specs.declared.entries.PatchEntry.{PatchEntry}
use Rattle.s390x_buffer.specs.declared.entries.MapEntry.{MapEntry}
use Rattle.s390x_buffer.specs.declared.entries.TryHandler.{TryHandler}
use Rattle.s390x_buffer.specs.declared.entries.TrySite.{TrySite}
use Rattle.s390x_buffer.specs.declared.entries.RecordedBranches.{RecordedBranches}
use Rattle.s390x_buffer.specs.declared.entries.RecordedBranches.TheVariants.{NoBranch}

-- a declared constant
pub record Constant : Type 0 where
  pub bytes : List ℕ
  pub align : ℕ

-- a constant of a function, as contracts see it
abbrev pub constant_of : ConstantData → Constant
constant_of c = record { bytes = c.bytes.items; align = c.align }

-- a call with a try, its handlers by their labels
pub record TryCallSite : Type 0 where
  pub offset : ℕ
  pub frame : ℕ
  pub handlers : List TryHandler

-- a recorded call with a try, as contracts see it
abbrev pub site_of : TrySite → TryCallSite
site_of s = record { offset = s.offset; frame = s.frame; handlers = s.handlers.items }

-- what was put, bound, used and recorded: the labels are the offsets where they are bound,
-- first those of the blocks, then those of the constants, then those that were drawn
pub record BufferState : Type 0 where
  pub bytes : List ℕ
  pub labels : List (Option ℕ)
  pub uses : List LabelFixup
  pub traps : List TrapEntry
  pub relocs : List RelocEntry
  pub call_sites : List ℕ
  pub try_call_sites : List TryCallSite
  pub patchable_sites : List PatchEntry
  pub stack_maps : List MapEntry
  pub starts : List ℕ
  pub branches : RecordedBranches
  pub block_count : ℕ
  pub constants : List Constant
  pub is_poisoned : Bool

-- a buffer to which nothing was put
abbrev pub fresh_buffer : ℕ → List Constant → BufferState
fresh_buffer n cs = record {
  bytes = [];
  labels = replicate (n + length cs) None;
  uses = [];
  traps = [];
  relocs = [];
  call_sites = [];
  try_call_sites = [];
  patchable_sites = [];
  stack_maps = [];
  starts = [];
  branches = NoBranch;
  block_count = n;
  constants = cs;
  is_poisoned = false;
}

-- a refused call leaves the buffer poisoned, and all else as it was
abbrev pub poisoned_buffer : BufferState → BufferState
poisoned_buffer s = record s { is_poisoned = true }

-- an error is the cause where there is one, else want of memory
abbrev pub FailsWith : Option EmitError → EmitError → Type 0
FailsWith None e = e ≡ NoMemory
FailsWith (Some c) e = e ≡ c

-- code ends below 2 ^ 31
abbrev pub limit : ℕ
limit = 2147483648

-- label numbers end below 2 ^ 32
abbrev pub label_limit : ℕ
label_limit = 4294967296

-- a call that is refused only where the buffer is poisoned
abbrev pub mark_cause : BufferState → Option EmitError
mark_cause s = cond s.is_poisoned (Some Failed) None

-- a call that appends so many bytes
abbrev pub put_cause : BufferState → ℕ → Option EmitError
put_cause s n = cond s.is_poisoned (Some Failed) (cond (nat_lt (length s.bytes + n) limit) None (Some LabelOutOfRange))

-- a call that takes the next label
abbrev pub draw_cause : BufferState → Option EmitError
draw_cause s = cond s.is_poisoned (Some Failed) (cond (nat_lt (length s.labels) label_limit) None (Some LabelOutOfRange))

-- a call that names a label
abbrev pub label_cause : BufferState → ℕ → Option EmitError
label_cause s l = cond s.is_poisoned (Some Failed) (cond (nat_lt l (length s.labels)) None (Some UnboundLabel))

-- whether each handler's label is one of so many
abbrev pub labels_below : ℕ → List TryHandler → Bool
labels_below n [] = true
labels_below n (h ∷ hs) = nat_lt h.label.0 n && labels_below n hs

-- a call that names the labels of handlers
abbrev pub handlers_cause : BufferState → List TryHandler → Option EmitError
handlers_cause s hs = cond s.is_poisoned (Some Failed) (cond (labels_below (length s.labels) hs) None (Some UnboundLabel))

-- a call that names a constant
abbrev pub constant_cause : BufferState → ℕ → Option EmitError
constant_cause s c = cond s.is_poisoned (Some Failed) (cond (nat_lt c (length s.constants)) None (Some UnboundLabel))

-- an alignment that a constant may have
abbrev pub is_alignment : ℕ → Bool
is_alignment a = nat_eq a 1 || nat_eq a 2 || nat_eq a 4 || nat_eq a 8 || nat_eq a 16

-- whether each constant has an allowed alignment
abbrev pub all_aligned : List Constant → Bool
all_aligned [] = true
all_aligned (c ∷ cs) = is_alignment c.align && all_aligned cs

-- making a buffer of so many blocks and these constants
abbrev pub new_cause : ℕ → List Constant → Option EmitError
new_cause n cs = cond (all_aligned cs) (cond (nat_lt (n + length cs) label_limit) None (Some LabelOutOfRange)) (Some BadAlignment)

-- the label of a constant
abbrev pub constant_label : BufferState → ℕ → ℕ
constant_label s c = s.block_count + c

-- a label that isn't bound so far
abbrev pub IsUnbound : BufferState → ℕ → Type 0
IsUnbound s l = slice_index_or s.labels l None ≡ None

-- a label that isn't a constant's
abbrev pub IsNoConstant : BufferState → ℕ → Type 0
IsNoConstant s l = (s.block_count ≤ l) → (s.block_count + length s.constants ≤ l)

-- the declared alignment of a constant
abbrev pub align_of : BufferState → ℕ → Option ℕ
align_of s c = slice_get (map (λ (d : Constant). d.align) s.constants) c

-- What finishing gives.
use Rattle.std.specs.Prelude.{◌≡◌, ℕ, ◌+◌, ◌<◌, List, ◌++◌, length, map, take, drop, Option, Some, None, cond, nat_lt, ◌⊎◌}
use Rattle.s390x_buffer.specs.State.{BufferState, Constant, TryCallSite, limit}
use Rattle.s390x_buffer.specs.Patch.{first_use_cause, uses_cause, patch_all, offset_of_label, bound_offset}
use Rattle.s390x_buffer.specs.Constants.{constant_starts, constant_bytes, constants_end, greatest_align}
use Rattle.s390x_buffer.specs.declared.entries.TryHandler.{TryHandler}
use Rattle.s390x_buffer.specs.declared.entries.HandlerEntry.{HandlerEntry}
use Rattle.s390x_buffer.specs.declared.entries.TryEntry.{TryEntry}
use Rattle.s390x_buffer.specs.declared.entries.MachBufferFinalized.{MachBufferFinalized}
use Rattle.s390x_base.specs.declared.error.EmitError.{EmitError}
use Rattle.s390x_base.specs.declared.error.EmitError.TheVariants.{LabelOutOfRange, Failed, NoMemory}

-- a call with a try, its handlers by their offsets
pub record PlacedTryCallSite : Type 0 where
  pub offset : ℕ
  pub frame : ℕ
  pub handlers : List HandlerEntry

-- an entry of the finished table, as contracts see it
abbrev pub entry_of : TryEntry → PlacedTryCallSite
entry_of e = record { offset = e.offset; frame = e.frame; handlers = e.handlers.items }

-- a handler with the offset of its label
abbrev pub bound_handler : (ℕ → ℕ) → TryHandler → HandlerEntry
bound_handler off h = record { tag = h.tag; offset = off h.label.0 }

-- a call with a try, its handlers with their offsets
abbrev pub bound_site : (ℕ → ℕ) → TryCallSite → PlacedTryCallSite
bound_site off s = record { offset = s.offset; frame = s.frame; handlers = map (bound_handler off) s.handlers }

-- where the constants start
abbrev pub starts_of_constants : BufferState → List ℕ
starts_of_constants s = constant_starts (length s.bytes) s.constants

-- the length of the code with the constants
abbrev pub finished_length : BufferState → ℕ
finished_length s = constants_end (length s.bytes) s.constants

-- the labels, those of the constants bound to where these start
abbrev pub bind_constants : ℕ → List ℕ → List (Option ℕ) → List (Option ℕ)
bind_constants n starts labels = take n labels ++ (map Some starts ++ drop (n + length starts) labels)

-- a buffer's labels when it is finished
abbrev pub final_labels : BufferState → List (Option ℕ)
final_labels s = bind_constants s.block_count (starts_of_constants s) s.labels

-- bytes with the constants behind them, before any use is patched
abbrev pub with_constants : List ℕ → List Constant → List ℕ
with_constants bs cs = bs ++ constant_bytes (length bs) cs

-- a buffer's bytes and constants, before any use is patched
abbrev pub unpatched_bytes : BufferState → List ℕ
unpatched_bytes s = with_constants s.bytes s.constants

-- why a buffer can't be finished, before any memory is taken: it is poisoned, or too long
abbrev pub length_cause : BufferState → Option EmitError
length_cause s = cond s.is_poisoned (Some Failed) (cond (nat_lt (finished_length s) limit) None (Some LabelOutOfRange))

-- why its uses can't be patched
abbrev pub patch_cause : BufferState → Option EmitError
patch_cause s = uses_cause (final_labels s) s.uses (unpatched_bytes s)

-- why a buffer can't be finished: it is poisoned, too long, or one of its uses, in order, can't be patched
abbrev pub finish_cause : BufferState → Option EmitError
finish_cause s = first_use_cause (length_cause s) (patch_cause s)

-- an error is the first cause, where that is told before memory is taken; else want of memory may come before the second
abbrev pub FailsWithEither : Option EmitError → Option EmitError → EmitError → Type 0
FailsWithEither (Some c) later e = e ≡ c
FailsWithEither None later e = (e ≡ NoMemory) ⊎ (later ≡ Some e)

-- where the first n labels stand
abbrev pub offsets_of : List (Option ℕ) → ℕ → List ℕ
offsets_of labels n = map bound_offset (take n labels)

-- the bytes that were put and the constants, each use patched, and the tables as they were added
pub record Finished (s : BufferState) (f : MachBufferFinalized) : Type 0 where
  pub bytes : f.bytes.items ≡ patch_all (offset_of_label (final_labels s)) s.uses (unpatched_bytes s)
  pub block_starts : f.block_starts.items ≡ offsets_of s.labels s.block_count
  pub constant_starts : f.constant_starts.items ≡ starts_of_constants s
  pub starts : f.starts.items ≡ s.starts
  pub relocs : f.relocs.items ≡ s.relocs
  pub traps : f.traps.items ≡ s.traps
  pub call_sites : f.call_sites.items ≡ s.call_sites
  pub try_call_sites : map entry_of f.try_call_sites.items ≡ map (bound_site (offset_of_label (final_labels s))) s.try_call_sites
  pub patchable_sites : f.patchable_sites.items ≡ s.patchable_sites
  pub stack_maps : f.stack_maps.items ≡ s.stack_maps
  pub alignment : f.alignment ≡ greatest_align 4 s.constants
  pub small : finished_length s < limit

-- What the caller's buffers hold.
use Rattle.std.specs.Prelude.{◌≡◌, ◌≤◌, length, map}
use Rattle.s390x_buffer.specs.declared.entries.MachBufferFinalized.{MachBufferFinalized}
use Rattle.s390x_tables.specs.Tables.{handler_count, handlers_of, overwritten, patchable_call_of, relocation_of, stack_map_of, trap_of, tries_from}
use Rattle.s390x_tables.specs.declared.buffers.Buffers.{Buffers}

-- each table of the code has room in its buffer
pub record HasRoom (f : MachBufferFinalized) (b : Buffers) : Type 0 where
  pub code : length f.bytes.items ≤ length b.code.now
  pub block_starts : length f.block_starts.items ≤ length b.block_starts.now
  pub constant_starts : length f.constant_starts.items ≤ length b.constant_starts.now
  pub relocations : length f.relocs.items ≤ length b.relocations.now
  pub traps : length f.traps.items ≤ length b.traps.now
  pub call_sites : length f.call_sites.items ≤ length b.call_sites.now
  pub tries : length f.try_call_sites.items ≤ length b.tries.now
  pub handlers : handler_count f.try_call_sites.items ≤ length b.handlers.now
  pub patchable_calls : length f.patchable_sites.items ≤ length b.patchable_calls.now
  pub stack_maps : length f.stack_maps.items ≤ length b.stack_maps.now

-- each buffer begins with its table of the code, entry by entry with every field, and behind it holds what it held
pub record HoldTables (f : MachBufferFinalized) (old new : Buffers) : Type 0 where
  pub code : new.code.now ≡ overwritten old.code.now f.bytes.items
  pub block_starts : new.block_starts.now ≡ overwritten old.block_starts.now f.block_starts.items
  pub constant_starts : new.constant_starts.now ≡ overwritten old.constant_starts.now f.constant_starts.items
  pub relocations : new.relocations.now ≡ overwritten old.relocations.now (map relocation_of f.relocs.items)
  pub traps : new.traps.now ≡ overwritten old.traps.now (map trap_of f.traps.items)
  pub call_sites : new.call_sites.now ≡ overwritten old.call_sites.now f.call_sites.items
  pub tries : new.tries.now ≡ overwritten old.tries.now (tries_from 0 f.try_call_sites.items)
  pub handlers : new.handlers.now ≡ overwritten old.handlers.now (handlers_of f.try_call_sites.items)
  pub patchable_calls : new.patchable_calls.now ≡ overwritten old.patchable_calls.now (map patchable_call_of f.patchable_sites.items)
  pub stack_maps : new.stack_maps.now ≡ overwritten old.stack_maps.now (map stack_map_of f.stack_maps.items)

-- each buffer holds what it held
pub record AreUntouched (old new : Buffers) : Type 0 where
  pub code : new.code.now ≡ old.code.now
  pub block_starts : new.block_starts.now ≡ old.block_starts.now
  pub constant_starts : new.constant_starts.now ≡ old.constant_starts.now
  pub relocations : new.relocations.now ≡ old.relocations.now
  pub traps : new.traps.now ≡ old.traps.now
  pub call_sites : new.call_sites.now ≡ old.call_sites.now
  pub tries : new.tries.now ≡ old.tries.now
  pub handlers : new.handlers.now ≡ old.handlers.now
  pub patchable_calls : new.patchable_calls.now ≡ old.patchable_calls.now
  pub stack_maps : new.stack_maps.now ≡ old.stack_maps.now

-- the buffers lie where they lay
pub record LieInPlace (old new : Buffers) : Type 0 where
  pub code : new.code.ghost_name ≡ old.code.ghost_name
  pub block_starts : new.block_starts.ghost_name ≡ old.block_starts.ghost_name
  pub constant_starts : new.constant_starts.ghost_name ≡ old.constant_starts.ghost_name
  pub relocations : new.relocations.ghost_name ≡ old.relocations.ghost_name
  pub traps : new.traps.ghost_name ≡ old.traps.ghost_name
  pub call_sites : new.call_sites.ghost_name ≡ old.call_sites.ghost_name
  pub tries : new.tries.ghost_name ≡ old.tries.ghost_name
  pub handlers : new.handlers.ghost_name ≡ old.handlers.ghost_name
  pub patchable_calls : new.patchable_calls.ghost_name ≡ old.patchable_calls.ghost_name
  pub stack_maps : new.stack_maps.ghost_name ≡ old.stack_maps.ghost_name

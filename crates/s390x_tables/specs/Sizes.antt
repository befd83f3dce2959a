-- How many entries the tables of finished code have.
use Rattle.std.specs.Prelude.{◌-◌, ◌^◌, min, length}
use Rattle.s390x_buffer.specs.declared.entries.MachBufferFinalized.{MachBufferFinalized}
use Rattle.s390x_tables.specs.Tables.{handler_count}
use Rattle.s390x_tables.specs.declared.sizes.Sizes.{Sizes}

-- the sizes of a code's tables; the handlers are counted up to the greatest number of 64 bits
abbrev pub sizes_of : MachBufferFinalized → Sizes
sizes_of f = record {
  code = length f.bytes.items;
  block_starts = length f.block_starts.items;
  constant_starts = length f.constant_starts.items;
  relocations = length f.relocs.items;
  traps = length f.traps.items;
  call_sites = length f.call_sites.items;
  tries = length f.try_call_sites.items;
  handlers = min (handler_count f.try_call_sites.items) (2 ^ 64 - 1);
  patchable_calls = length f.patchable_sites.items;
  stack_maps = length f.stack_maps.items;
  alignment = f.alignment;
}

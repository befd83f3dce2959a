-- The tables of calls: what the steps record at their return places, by its offset in the code.
use Rattle.std.specs.Prelude.{ℕ, ◌+◌, List, [], ◌∷◌, ◌++◌, map}
use Rattle.s390x_buffer.specs.Finish.{PlacedTryCallSite, bound_site}
use Rattle.s390x_buffer.specs.State.{TryCallSite}
use Rattle.s390x_buffer.specs.declared.entries.MapEntry.{MapEntry}
use Rattle.s390x_buffer.specs.declared.entries.PatchEntry.{PatchEntry}
use Rattle.s390x_typed_steps.specs.Image.{step_offset}
use Rattle.s390x_typed_steps.specs.Parts.{CodePart, SiteHere, part_size, step_parts}
use Rattle.s390x_typed_steps.specs.StepBody.{Site, AtCall, AtTry, AtPatchable, AtStackMap}
use Rattle.s390x_typed_steps.specs.Steps.{Step, first_step, function_steps}
use Rattle.s390x_typed_steps.specs.Tree.{Tree}

-- a site at its offset
pub record PlacedSite : Type 0 where
  pub offset : ℕ
  pub site : Site

-- the site that a part at an offset is, if it is one
abbrev pub part_sites : ℕ → CodePart → List PlacedSite
part_sites p (SiteHere site) = record { offset = p; site = site } ∷ []
part_sites p _ = []

-- those of parts from an offset on
abbrev pub parts_sites : ℕ → List CodePart → List PlacedSite
parts_sites p [] = []
parts_sites p (part ∷ parts) = part_sites p part ++ parts_sites (p + part_size part) parts

-- those of a step at an offset
abbrev pub step_sites : ℕ → Step → List PlacedSite
step_sites p s = parts_sites p (step_parts s)

-- those of the steps from number k on, in the order of the steps
abbrev pub sites_from : (ℕ → ℕ) → ℕ → List Step → List PlacedSite
sites_from at k [] = []
sites_from at k (s ∷ ss) = step_sites (at k) s ++ sites_from at (k + 1) ss

-- those of a function: its steps' sites, and no others
abbrev pub function_sites : List Tree → List PlacedSite
function_sites ts = sites_from (step_offset (function_steps ts)) 0 (function_steps ts)

-- ---- the four tables

-- the offset of a call without handlers, or of a tail call
abbrev pub call_of : ℕ → Site → List ℕ
call_of p AtCall = p ∷ []
call_of p _ = []

-- a call with handlers, by their labels
abbrev pub try_of : ℕ → Site → List TryCallSite
try_of p (AtTry handlers sp_to_fp) = record { offset = p; frame = sp_to_fp; handlers = handlers } ∷ []
try_of p _ = []

-- a call that may be patched
abbrev pub patch_of : ℕ → Site → List PatchEntry
patch_of p (AtPatchable length) = record { offset = p; len = length } ∷ []
patch_of p _ = []

-- a stack map
abbrev pub map_of : ℕ → Site → List MapEntry
map_of p (AtStackMap n) = record { offset = p; map = n } ∷ []
map_of p _ = []

-- in the order of the sites: the calls without handlers
abbrev pub call_offsets : List PlacedSite → List ℕ
call_offsets [] = []
call_offsets (s ∷ ss) = call_of s.offset s.site ++ call_offsets ss

-- those with handlers
abbrev pub try_sites : List PlacedSite → List TryCallSite
try_sites [] = []
try_sites (s ∷ ss) = try_of s.offset s.site ++ try_sites ss

-- those that may be patched
abbrev pub patches : List PlacedSite → List PatchEntry
patches [] = []
patches (s ∷ ss) = patch_of s.offset s.site ++ patches ss

-- the stack maps
abbrev pub stack_maps : List PlacedSite → List MapEntry
stack_maps [] = []
stack_maps (s ∷ ss) = map_of s.offset s.site ++ stack_maps ss

-- the calls with handlers, their handlers where their labels' blocks start
abbrev pub try_entries : (block : ℕ → ℕ) → List PlacedSite → List PlacedTryCallSite
try_entries block sites = map (bound_site block) (try_sites sites)

-- where the blocks of a function start
abbrev pub block_offset : List Tree → ℕ → ℕ
block_offset ts b = step_offset (function_steps ts) (first_step ts b)

-- the table of a function's calls with handlers
abbrev pub function_try_entries : List Tree → List PlacedTryCallSite
function_try_entries ts = try_entries (block_offset ts) (function_sites ts)

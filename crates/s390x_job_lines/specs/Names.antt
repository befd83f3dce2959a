-- The names of lines.
use Rattle.std.specs.Prelude.{ℕ, List, [], map, get_or, codes}
use denote.Enum.Declared.{tag_of}
use Rattle.s390x_inst.specs.declared.load.LoadOp.{LoadOp}
use Rattle.s390x_inst.specs.Loads.{load_place}
use Rattle.s390x_inst.specs.declared.store.StoreOp.{StoreOp}
use Rattle.s390x_inst.specs.Stores.{store_place}
use Rattle.s390x_inst.specs.declared.whole.Direction.{Direction}
use Rattle.s390x_inst.specs.declared.whole.WholeLayout.{WholeLayout}
use Rattle.s390x_inst.specs.Wholes.{by_direction, layout_place}
use Rattle.s390x_job_fields.specs.Found.{rows, found_by_name, name_at}
use Rattle.s390x_job_lines.specs.declared.access_names.TheConstants.{LOAD_NAMES, STORE_NAMES, WHOLE_LOAD_NAMES, WHOLE_STORE_NAMES}
use Rattle.s390x_job_lines.specs.declared.inst_name.TheConstants.{INTEGER_NAMES, MEMORY_NAMES, CONTROL_NAMES, VECTOR_NAMES}
use Rattle.s390x_job_lines.specs.declared.inst_name.IntegerName.{IntegerName}
use Rattle.s390x_job_lines.specs.contracts.inst_name.IntegerName as the_integer
use Rattle.s390x_job_lines.specs.declared.inst_name.MemoryName.{MemoryName}
use Rattle.s390x_job_lines.specs.contracts.inst_name.MemoryName as the_memory
use Rattle.s390x_job_lines.specs.declared.inst_name.ControlName.{ControlName}
use Rattle.s390x_job_lines.specs.contracts.inst_name.ControlName as the_control
use Rattle.s390x_job_lines.specs.declared.inst_name.VectorName.{VectorName}
use Rattle.s390x_job_lines.specs.contracts.inst_name.VectorName as the_vector
use Rattle.s390x_job_lines.specs.declared.name.LineName.{LineName}
use Rattle.s390x_job_lines.specs.declared.name.LineName.TheVariants as N
use Rattle.s390x_job_lines.specs.declared.name_hash.TheConstants.{ALL_NAMES}

-- of the instructions on general registers alone
abbrev pub integer_text : IntegerName → List ℕ
integer_text n = name_at (rows INTEGER_NAMES.now) (tag_of the_integer.the_type n)

-- the name at a place of a table
abbrev pub name_in : List (List ℕ) → ℕ → List ℕ
name_in names at = get_or names at []

-- of loads of one register
abbrev pub load_name_text : LoadOp → List ℕ
load_name_text op = name_in (map (λ name. name.now) LOAD_NAMES) (load_place op)

-- of stores of one register
abbrev pub store_name_text : StoreOp → List ℕ
store_name_text op = name_in (map (λ name. name.now) STORE_NAMES) (store_place op)

-- of loads and stores of a whole vector register
abbrev pub whole_name_text : Direction → WholeLayout → List ℕ
whole_name_text direction layout =
    name_in (map (λ name. name.now) (by_direction direction WHOLE_LOAD_NAMES WHOLE_STORE_NAMES)) (layout_place layout)

-- of multiple loads and stores, stores of numbers, addresses and atomic instructions
abbrev pub memory_name_text : MemoryName → List ℕ
memory_name_text n = name_at (rows MEMORY_NAMES.now) (tag_of the_memory.the_type n)

-- of traps, branches and calls, and of what has no code
abbrev pub control_text : ControlName → List ℕ
control_text n = name_at (rows CONTROL_NAMES.now) (tag_of the_control.the_type n)

-- of the other instructions on vector or float registers
abbrev pub vector_name_text : VectorName → List ℕ
vector_name_text n = name_at (rows VECTOR_NAMES.now) (tag_of the_vector.the_type n)

-- of every line
abbrev pub name_text : LineName → List ℕ
name_text N.FlagsLine = codes "flags"
name_text N.FrameLine = codes "frame"
name_text N.ConstantLine = codes "const"
name_text N.SymbolLine = codes "symbol"
name_text N.RegisterLine = codes "reg"
name_text N.MemoryLine = codes "mem"
name_text N.BlockLine = codes "block"
name_text N.EndLoopLine = codes "endloop"
name_text N.EndLine = codes "end"
name_text N.Loop = codes "Loop"
name_text (N.Integer n) = integer_text n
name_text (N.Load op) = load_name_text op
name_text (N.Store op) = store_name_text op
name_text (N.Memory n) = memory_name_text n
name_text (N.Control n) = control_text n
name_text (N.Vector n) = vector_name_text n
name_text (N.Whole direction layout) = whole_name_text direction layout

-- names, each with its text
abbrev pub with_texts : List LineName → List (LineName × List ℕ)
with_texts names = map (λ name. (name, name_text name)) names

-- the name that a word spells; a word that is no name counts as `end`
abbrev pub line_name_of : List ℕ → LineName
line_name_of w = found_by_name (with_texts ALL_NAMES) w N.EndLine

-- A slot for each word, of which no two names have one.
use Rattle.std.specs.Prelude.{ℕ, ◌+◌, ◌*◌, ◌%◌, List, [], ◌∷◌, length, slice_index_or}
use Rattle.s390x_job_lines.specs.declared.name.TheConstants.{OFFSETS}

-- a number below 512 that letters tell, behind h
abbrev pub mix : ℕ → List ℕ → ℕ
mix h [] = h
mix h (x ∷ s) = mix ((h * 5 + x) % 512) s

-- the slot of a word
unfoldable pub slot_of : List ℕ → ℕ
slot_of w = (slice_index_or OFFSETS (length w % 32) 0 + mix 0 w) % 512

-- A job of blocks and nothing else: its lines, and that it is a job.
use Rattle.std.proofs.Common.{◌≡◌, ℕ, zero, suc, ◌<◌, ◌^◌, List, [], ◌∷◌, ◌++◌, length, Some, Vec, Global, refl, sym, ap, ◌∙◌, subst, arith}
use Rattle.s390x_inst.specs.State.{base_facilities, fresh_emission}
use Rattle.s390x_inst.specs.declared.calls.CallConv.TheVariants.{SystemV}
use Rattle.s390x_inst.specs.declared.function.Block.{Block}
use Rattle.s390x_job.specs.Grammar.{AtEnd, Header, run}
use Rattle.s390x_job.specs.Items.{end_line}
use Rattle.s390x_job.specs.Jobs.{AllLines, IsJob, blocks_lines, job_lines, plain_layout}
use Rattle.s390x_job.specs.declared.job.Job.{Job}
use Rattle.s390x_job.proofs.Beginnings.{plain_frame}

-- a vector of these
unfoldable pub vec : {X : Type 0} (items : List X) → length items < 2 ^ 63 → Vec X Global
vec items small = record { ptr = denote.RawPtr.null_ptr; len = length items; cap = length items; alloc = record { memory = record { seal = tt } }; items = items; ok = (refl, omega arith); small = small }

unfoldable pub zeros : ℕ → List ℕ
zeros zero = []
zeros (suc n) = 0 ∷ zeros n

-- these blocks, and of all else what is so where no line says it
unfoldable pub plain_job : (blocks : List Block) → length blocks < 2 ^ 63 → Job
plain_job blocks small = record {
  function = record { blocks = vec blocks small; constants = vec [] (omega arith) };
  info = record { isa_flags = base_facilities };
  conv = SystemV;
  state = fresh_emission plain_layout SystemV;
  symbols = vec [] (omega arith);
  registers = record { general = zeros 16; vector = zeros 32 };
  memory = vec [] (omega arith);
}

pub plain_lines : (blocks : List Block) (small : length blocks < 2 ^ 63) → job_lines (plain_job blocks small) ≡ blocks_lines blocks ++ end_line ∷ []
unfolding vec zeros plain_job
plain_lines blocks small = ap (λ fs. (fs ++ []) ++ (blocks_lines blocks ++ end_line ∷ [])) plain_frame

pub plain_is_job : (blocks : List Block) (small : length blocks < 2 ^ 63) → AllLines (blocks_lines blocks ++ end_line ∷ []) → run (Some (Header 0 0)) (blocks_lines blocks ++ end_line ∷ []) ≡ Some AtEnd → IsJob (plain_job blocks small)
unfolding vec zeros plain_job
plain_is_job blocks small fit ordered = record {
  lines = subst AllLines (sym (plain_lines blocks small)) fit;
  order = ap (run (Some (Header 0 0))) (plain_lines blocks small) ∙ ordered;
  state = refl;
  frame = λ e. (refl, refl);
  general_count = refl;
  vector_count = refl;
}

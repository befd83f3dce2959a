-- What one more line before the blocks adds.
use Rattle.std.proofs.Common.{◌≡◌, ℕ, zero, suc, ◌+◌, ◌^◌, ◌<◌, ◌≤◌, Bool, true, false, List, [], ◌∷◌, ◌++◌, map, length, get_or, refl, sym, ap, ◌∙◌, ◌⊎◌, inl, inr, arith, append_assoc, append-nil, zero-add, set, length-set, Vec, Global}
use Rattle.std.specs.Prelude.{◌==◌, ◌||◌, ◌&&◌, nat_lt, nat_le, if◌then◌else◌, codes, Some, None}
use Rattle.std.specs.Str.{bytes_eq}
use Rattle.std.proofs.lemmas.Fmt.{decimal_digit}
use Rattle.std.proofs.lemmas.List.{map-append, get_or-set_other}
use Rattle.std.proofs.lemmas.Bool.Decides.{nat_tests}
use Rattle.s390x_base.specs.Registers.{RealRegister, general, vector}
use Rattle.s390x_job_lines.specs.Line.{Line}
use Rattle.s390x_base.specs.declared.ir.ConstantData.{ConstantData}
use Rattle.s390x_inst.specs.declared.calls.CallConv.{CallConv}
use Rattle.s390x_inst.specs.declared.calls.CallConv.TheVariants.{SystemV}
use Rattle.s390x_inst.specs.declared.state.FrameLayout.{FrameLayout}
use Rattle.s390x_inst.specs.declared.state.IsaFlags.{IsaFlags}
use Rattle.s390x_job_lines.specs.Line.{fields_text}
use Rattle.s390x_job.specs.Items.{flags_line, frame_line, constant_line, symbol_line, register_line, memory_line, block_line, end_line}
use Rattle.s390x_job.specs.Grammar.{Place, may_follow, register_place, region_class, class, next_place, Header, Head}
use Rattle.s390x_job.specs.Jobs.{plain_layout, flags_lines, frame_lines, start_lines, registers_lines, head_lines}
use Rattle.s390x_job.specs.Builds.{rank_of, IsZeroFrom, IsFull, IsBeginning, IsBegun, IsNext, beginning_lines}
use Rattle.s390x_job.specs.declared.job.SymbolLine.{SymbolLine}
use Rattle.s390x_job.specs.declared.job.MemLine.{MemLine}
use Rattle.s390x_job.specs.declared.build.Beginning.{Beginning}
use Rattle.s390x_job.specs.declared.build.Body.{Body}
use Rattle.s390x_job.specs.declared.build.Stage.{Stage}
use Rattle.s390x_job.specs.declared.build.Stage.TheVariants as S
use Rattle.s390x_job.specs.declared.build.Progress.TheVariants as P
use Rattle.s390x_job.specs.declared.job.StartRegs.{StartRegs}
use Rattle.s390x_job_fields.specs.Operators.{convention_text}
use Rattle.s390x_job_fields.proofs.Members.{either}
use Rattle.std.proofs.lemmas.Bool.{and_parts, eqb-true}

follows_cases : (a b c : Bool) → (a || (b && c)) ≡ true → (a ≡ true) ⊎ ((b ≡ true) × (c ≡ true))
follows_cases true b c h = inl refl
follows_cases false true true h = inr (refl, refl)
follows_cases false true false h = absurd cc
follows_cases false false c h = absurd cc

is_less : (m n : ℕ) → nat_lt m n ≡ true → m < n
is_less m n h = grind (arith, nat_tests)

is_most : (m n : ℕ) → nat_le m n ≡ true → m ≤ n
is_most m n h = grind (arith, nat_tests)

pub ranked : (rank bound r first : ℕ) → may_follow rank bound r first ≡ true → (rank < r) ⊎ ((rank ≡ r) × (bound ≤ first))
ranked rank bound r first h =
    elim (follows_cases (nat_lt rank r) (rank == r) (nat_le bound first) h) [ inl e ↦ inl (is_less rank r e) | inr e ↦ inr (eqb-true rank r e.0, is_most bound first e.1) ]

-- registers
pub no_starts : (of : ℕ → RealRegister) (n : ℕ) (vs : List ℕ) → ((i : ℕ) → get_or vs i 0 ≡ 0) → start_lines of n vs ≡ []
no_starts of n [] h = refl
no_starts of n (v ∷ vs) h = rw (h 0) (no_starts of (suc n) vs (λ i. h (suc i)))

pub zero_registers : (r : StartRegs) → IsZeroFrom 0 r → registers_lines r ≡ []
zero_registers r z =
    ap (λ t. t ++ start_lines vector 0 r.vector) (no_starts general 0 r.general (λ i. z.general_zero i (omega arith)))
    ∙ no_starts vector 0 r.vector (λ i. z.vector_zero i (omega arith))

pub one_start : (of : ℕ → RealRegister) (n : ℕ) (vs : List ℕ) (i v : ℕ) → i < length vs → ((j : ℕ) → i ≤ j → get_or vs j 0 ≡ 0) → (v == 0) ≡ false → start_lines of n (set vs i v) ≡ start_lines of n vs ++ register_line (of (n + i)) v ∷ []
one_start of n [] i v h z e = absurd (omega arith)
one_start of n (x ∷ xs) zero v h z e =
    let rest = no_starts of (suc n) xs (λ j. z (suc j) (omega arith)) in
    let p : n ≡ n + 0 = omega arith in
    rw (e, z 0 (omega arith), rest) (ap (λ m. register_line (of m) v ∷ []) p)
one_start of n (x ∷ xs) (suc i) v h z e =
    let r = one_start of (suc n) xs i v (omega arith) (λ j k. z (suc j) (omega arith)) e in
    let p : suc n + i ≡ n + suc i = omega arith in
    let q = r ∙ ap (λ m. start_lines of (suc n) xs ++ register_line (of m) v ∷ []) p in
    elim (either (x == 0)) [ inl f ↦ rw f q | inr f ↦ rw f (ap (λ t. register_line (of n) x ∷ t) q) ]

zero_after : (vs : List ℕ) (i v : ℕ) → ((j : ℕ) → i ≤ j → get_or vs j 0 ≡ 0) → (j : ℕ) → i + 1 ≤ j → get_or (set vs i v) j 0 ≡ 0
zero_after vs i v z j h = get_or-set_other vs i j v 0 (λ e. absurd (omega (arith, e))) ∙ z j (omega arith)

-- one line more behind others, where nothing stands behind it
module _ (x : Line) where
  pub more6 : (a b c d e f : List Line) → a ++ (b ++ (c ++ (d ++ (e ++ (f ++ x ∷ []))))) ≡ (a ++ (b ++ (c ++ (d ++ (e ++ f))))) ++ x ∷ []
  more6 a b c d e f = simp append_assoc

  at5 : (a b c d e : List Line) → a ++ (b ++ (c ++ (d ++ ((e ++ x ∷ []) ++ [])))) ≡ (a ++ (b ++ (c ++ (d ++ (e ++ []))))) ++ x ∷ []
  at5 a b c d e = simp (append_assoc, append-nil)

  pub more5 : (a b c d e t : List Line) → t ≡ [] → a ++ (b ++ (c ++ (d ++ ((e ++ x ∷ []) ++ t)))) ≡ (a ++ (b ++ (c ++ (d ++ (e ++ t))))) ++ x ∷ []
  more5 a b c d e t h = rw h (at5 a b c d e)

  at4 : (a b c d : List Line) → a ++ (b ++ (c ++ ((d ++ x ∷ []) ++ []))) ≡ (a ++ (b ++ (c ++ (d ++ [])))) ++ x ∷ []
  at4 a b c d = simp (append_assoc, append-nil)

  pub more4 : (a b c d t : List Line) → t ≡ [] → a ++ (b ++ (c ++ ((d ++ x ∷ []) ++ t))) ≡ (a ++ (b ++ (c ++ (d ++ t)))) ++ x ∷ []
  more4 a b c d t h = rw h (at4 a b c d)

  at3 : (a b c : List Line) → a ++ (b ++ ((c ++ x ∷ []) ++ [])) ≡ (a ++ (b ++ (c ++ []))) ++ x ∷ []
  at3 a b c = simp (append_assoc, append-nil)

  pub more3 : (a b c t : List Line) → t ≡ [] → a ++ (b ++ ((c ++ x ∷ []) ++ t)) ≡ (a ++ (b ++ (c ++ t))) ++ x ∷ []
  more3 a b c t h = rw h (at3 a b c)

  at2 : (a b : List Line) → a ++ ((b ++ x ∷ []) ++ []) ≡ (a ++ (b ++ [])) ++ x ∷ []
  at2 a b = simp (append_assoc, append-nil)

  pub more2 : (a b t : List Line) → t ≡ [] → a ++ ((b ++ x ∷ []) ++ t) ≡ (a ++ (b ++ t)) ++ x ∷ []
  more2 a b t h = rw h (at2 a b)

  at1 : (a : List Line) → (a ++ x ∷ []) ++ [] ≡ (a ++ []) ++ x ∷ []
  at1 a = simp (append_assoc, append-nil)

  pub more1 : (a t : List Line) → t ≡ [] → (a ++ x ∷ []) ++ t ≡ (a ++ t) ++ x ∷ []
  more1 a t h = rw h (at1 a)

none2 : (a b : List Line) → a ≡ [] → b ≡ [] → a ++ b ≡ []
none2 a b h k = rw (h, k) refl

-- a frame that has a line
told_not : (b : Bool) (l : Line) → b ≡ false → (if b then [] else l ∷ []) ≡ [] → ⊥
told_not b l n e = let k : l ∷ [] ≡ [] = ap (λ t. if t then [] else l ∷ []) (sym n) ∙ e in cc

-- the beginning after one more line
pub record IsHeadNext (ls : List Line) (p : Place) (l : Line) (b : Beginning) (stage : Stage) (bound : ℕ) : Type 0 where
  pub state : IsBeginning (rank_of stage) bound b
  pub lines : beginning_lines b ≡ ls ++ l ∷ []
  pub place : next_place p (class l) ≡ Some (Header (rank_of stage) bound)

module _ (rank bound : ℕ) (b : Body) (h : IsBegun rank bound b) where
  pub begun : {ls : List Line} {p : Place} {l : Line} {a : Beginning} {stage : Stage} {n : ℕ} → IsHeadNext ls p l a stage n → IsNext ls p l (P.Head stage n) (record b { beginning = a })
  begun k = record {
    state = record { beginning = k.state; no_blocks = h.no_blocks; no_loops = h.no_loops; none_here = h.none_here };
    lines = k.lines;
    place = k.place;
  }

  pub block_next : IsNext (beginning_lines b.beginning) (Header rank bound) block_line P.Inside b
  block_next = record {
    state = h.beginning.full;
    lines = rw (h.no_blocks, h.no_loops, h.none_here) refl;
    place = rw h.no_loops refl;
  }

  pub end_next : IsNext (beginning_lines b.beginning) (Header rank bound) end_line P.Done b
  end_next = record { state = h.beginning.full; lines = rw h.no_blocks refl; place = refl }

module _ (rank bound : ℕ) (b : Beginning) (h : IsBeginning rank bound b) where
  no_regions : rank < 5 → map memory_line b.memory.items ≡ []
  no_regions r = ap (map memory_line) (h.no_memory r)

  none_from_registers : rank < 4 → registers_lines b.registers ++ map memory_line b.memory.items ≡ []
  none_from_registers r =
      none2 (registers_lines b.registers) (map memory_line b.memory.items) (zero_registers b.registers (h.no_registers r)) (no_regions (omega arith))

  none_from_symbols : rank < 3 → map symbol_line b.symbols.items ++ (registers_lines b.registers ++ map memory_line b.memory.items) ≡ []
  none_from_symbols r =
      none2 (map symbol_line b.symbols.items) (registers_lines b.registers ++ map memory_line b.memory.items) (ap (map symbol_line) (h.no_symbols r)) (none_from_registers (omega arith))

  none_from_constants : rank < 2 → map constant_line b.constants.items ++ (map symbol_line b.symbols.items ++ (registers_lines b.registers ++ map memory_line b.memory.items)) ≡ []
  none_from_constants r =
      none2 (map constant_line b.constants.items) (map symbol_line b.symbols.items ++ (registers_lines b.registers ++ map memory_line b.memory.items)) (ap (map constant_line) (h.no_constants r)) (none_from_symbols (omega arith))

  none_from_frame : rank < 1 → frame_lines b.conv b.layout ++ (map constant_line b.constants.items ++ (map symbol_line b.symbols.items ++ (registers_lines b.registers ++ map memory_line b.memory.items))) ≡ []
  none_from_frame r =
      none2 (frame_lines b.conv b.layout) (map constant_line b.constants.items ++ (map symbol_line b.symbols.items ++ (registers_lines b.registers ++ map memory_line b.memory.items))) (h.no_frame r) (none_from_constants (omega arith))

  at_most : (r first : ℕ) → may_follow rank bound r first ≡ true → rank ≤ r
  at_most r first f = elim (ranked rank bound r first f) [ inl l ↦ omega arith | inr l ↦ omega (arith, l.0) ]

  pub memory_next : (m : MemLine) (v : Vec MemLine Global) → may_follow rank bound 5 m.address ≡ true → region_class m.address (length m.bytes.items) ≡ Head 5 m.address (m.address + length m.bytes.items) → v.items ≡ b.memory.items ++ m ∷ [] → IsHeadNext (beginning_lines b) (Header rank bound) (memory_line m) (record b { memory = v }) S.Memory (m.address + length m.bytes.items)
  memory_next m v f k e = record {
    state = record {
      full = h.full;
      no_flags = λ p q. absurd (omega (arith, p));
      framed = λ p. absurd (omega (arith, p));
      no_frame = λ p. absurd (omega (arith, p));
      no_constants = λ p. absurd (omega (arith, p));
      no_symbols = λ p. absurd (omega (arith, p));
      no_registers = λ p. absurd (omega (arith, p));
      next_registers = λ p. absurd (omega (arith, p));
      no_memory = λ p. absurd (omega (arith, p));
    };
    lines = ap (λ ms. head_lines b.flags b.conv b.layout b.constants.items b.symbols.items b.registers ms) e
        ∙ ap (λ t. flags_lines b.flags ++ (frame_lines b.conv b.layout ++ (map constant_line b.constants.items ++ (map symbol_line b.symbols.items ++ (registers_lines b.registers ++ t))))) (map-append memory_line b.memory.items (m ∷ []))
        ∙ more6 (memory_line m) (flags_lines b.flags) (frame_lines b.conv b.layout) (map constant_line b.constants.items) (map symbol_line b.symbols.items) (registers_lines b.registers) (map memory_line b.memory.items);
    place = ap (next_place (Header rank bound)) k ∙ rw f refl;
  }

  pub symbol_next : (s : SymbolLine) (v : Vec SymbolLine Global) → may_follow rank bound 3 s.name.0 ≡ true → v.items ≡ b.symbols.items ++ s ∷ [] → IsHeadNext (beginning_lines b) (Header rank bound) (symbol_line s) (record b { symbols = v }) S.Symbols (s.name.0 + 1)
  symbol_next s v f e =
      let r = at_most 3 s.name.0 f in
      record {
        state = record {
          full = h.full;
          no_flags = λ p q. absurd (omega (arith, p));
          framed = λ p. absurd (omega (arith, p));
          no_frame = λ p. absurd (omega (arith, p));
          no_constants = λ p. absurd (omega (arith, p));
          no_symbols = λ p. absurd (omega (arith, p));
          no_registers = λ p. h.no_registers (omega (arith, r));
          next_registers = λ p. absurd (omega (arith, p));
          no_memory = λ p. h.no_memory (omega (arith, r));
        };
        lines = ap (λ ss. head_lines b.flags b.conv b.layout b.constants.items ss b.registers b.memory.items) e
            ∙ ap (λ t. flags_lines b.flags ++ (frame_lines b.conv b.layout ++ (map constant_line b.constants.items ++ (t ++ (registers_lines b.registers ++ map memory_line b.memory.items))))) (map-append symbol_line b.symbols.items (s ∷ []))
            ∙ more4 (symbol_line s) (flags_lines b.flags) (frame_lines b.conv b.layout) (map constant_line b.constants.items) (map symbol_line b.symbols.items) (registers_lines b.registers ++ map memory_line b.memory.items) (none_from_registers (omega (arith, r)));
        place = rw f refl;
      }

  pub constant_next : (k : ConstantData) (v : Vec ConstantData Global) → may_follow rank bound 2 0 ≡ true → v.items ≡ b.constants.items ++ k ∷ [] → IsHeadNext (beginning_lines b) (Header rank bound) (constant_line k) (record b { constants = v }) S.Constants 0
  constant_next k v f e =
      let r = at_most 2 0 f in
      record {
        state = record {
          full = h.full;
          no_flags = λ p q. absurd (omega (arith, p));
          framed = λ p. absurd (omega (arith, p));
          no_frame = λ p. absurd (omega (arith, p));
          no_constants = λ p. absurd (omega (arith, p));
          no_symbols = λ p. h.no_symbols (omega (arith, r));
          no_registers = λ p. h.no_registers (omega (arith, r));
          next_registers = λ p. absurd (omega (arith, p));
          no_memory = λ p. h.no_memory (omega (arith, r));
        };
        lines = ap (λ cs. head_lines b.flags b.conv b.layout cs b.symbols.items b.registers b.memory.items) e
            ∙ ap (λ t. flags_lines b.flags ++ (frame_lines b.conv b.layout ++ (t ++ (map symbol_line b.symbols.items ++ (registers_lines b.registers ++ map memory_line b.memory.items))))) (map-append constant_line b.constants.items (k ∷ []))
            ∙ more3 (constant_line k) (flags_lines b.flags) (frame_lines b.conv b.layout) (map constant_line b.constants.items) (map symbol_line b.symbols.items ++ (registers_lines b.registers ++ map memory_line b.memory.items)) (none_from_symbols (omega (arith, r)));
        place = rw f refl;
      }

  -- a line `frame` stands at most once
  below_frame : may_follow rank bound 1 0 ≡ true → rank < 1
  below_frame f = elim (ranked rank bound 1 0 f) [ inl l ↦ l | inr l ↦ absurd (omega (arith, l.1, h.framed l.0)) ]

  pub frame_next : (conv : CallConv) (layout : FrameLayout) → may_follow rank bound 1 0 ≡ true → bytes_eq (fields_text (frame_line conv layout).fields) (codes " SystemV 0 0 0 0 0 0 - 0") ≡ false → IsHeadNext (beginning_lines b) (Header rank bound) (frame_line conv layout) (record b { conv = conv; layout = layout }) S.Frame 1
  frame_next conv layout f n =
      let r = below_frame f in
      let tail = map constant_line b.constants.items ++ (map symbol_line b.symbols.items ++ (registers_lines b.registers ++ map memory_line b.memory.items)) in
      let fresh : frame_lines conv layout ≡ frame_lines b.conv b.layout ++ frame_line conv layout ∷ [] = rw (n, h.no_frame r) refl in
      record {
        state = record {
          full = record { frame = λ e. absurd (told_not (bytes_eq (fields_text (frame_line conv layout).fields) (codes " SystemV 0 0 0 0 0 0 - 0")) (frame_line conv layout) n e); general_count = h.full.general_count; vector_count = h.full.vector_count };
          no_flags = λ p q. absurd (omega (arith, p));
          framed = λ p. omega arith;
          no_frame = λ p. absurd (omega (arith, p));
          no_constants = λ p. h.no_constants (omega (arith, r));
          no_symbols = λ p. h.no_symbols (omega (arith, r));
          no_registers = λ p. h.no_registers (omega (arith, r));
          next_registers = λ p. absurd (omega (arith, p));
          no_memory = λ p. h.no_memory (omega (arith, r));
        };
        lines = ap (λ t. flags_lines b.flags ++ (t ++ tail)) fresh ∙ more2 (frame_line conv layout) (flags_lines b.flags) (frame_lines b.conv b.layout) tail (none_from_constants (omega (arith, r)));
        place = rw (n, f) refl;
      }

  -- so does a line `flags`
  at_start : may_follow rank bound 0 0 ≡ true → (rank ≡ 0) × (bound ≡ 0)
  at_start f = elim (ranked rank bound 0 0 f) [ inl l ↦ absurd (omega (arith, l)) | inr l ↦ (l.0, omega (arith, l.1)) ]

  pub flags_next : (flags : IsaFlags) → may_follow rank bound 0 0 ≡ true → bytes_eq (fields_text (flags_line flags).fields) [] ≡ false → IsHeadNext (beginning_lines b) (Header rank bound) (flags_line flags) (record b { flags = flags }) S.Flags 1
  flags_next flags f n =
      let r = at_start f in
      let tail = frame_lines b.conv b.layout ++ (map constant_line b.constants.items ++ (map symbol_line b.symbols.items ++ (registers_lines b.registers ++ map memory_line b.memory.items))) in
      let fresh : flags_lines flags ≡ flags_lines b.flags ++ flags_line flags ∷ [] = rw (n, h.no_flags r.0 r.1) refl in
      record {
        state = record {
          full = h.full;
          no_flags = λ p q. absurd (omega (arith, q));
          framed = λ p. absurd (omega (arith, p));
          no_frame = λ p. h.no_frame (omega (arith, r.0));
          no_constants = λ p. h.no_constants (omega (arith, r.0));
          no_symbols = λ p. h.no_symbols (omega (arith, r.0));
          no_registers = λ p. h.no_registers (omega (arith, r.0));
          next_registers = λ p. absurd (omega (arith, p));
          no_memory = λ p. h.no_memory (omega (arith, r.0));
        };
        lines = ap (λ t. t ++ tail) fresh ∙ more1 (flags_line flags) (flags_lines b.flags) tail (none_from_frame (omega (arith, r.0)));
        place = rw (n, f) refl;
      }

  zeros : (first : ℕ) → may_follow rank bound 4 first ≡ true → IsZeroFrom first b.registers
  zeros first f =
      elim (ranked rank bound 4 first f) [
        | inl l ↦ let z = h.no_registers l in record { general_zero = λ i k. z.general_zero i (omega arith); vector_zero = λ i k. z.vector_zero i (omega arith) }
        | inr l ↦ let z = h.next_registers l.0 in record { general_zero = λ i k. z.general_zero i (omega (arith, l.1)); vector_zero = λ i k. z.vector_zero i (omega (arith, l.1)) }
      ]

  registers_next : (x : RealRegister) (v first : ℕ) (r : StartRegs) → register_place x ≡ first → (v == 0) ≡ false → may_follow rank bound 4 first ≡ true → IsFull b.conv b.layout r →
      IsZeroFrom (first + 1) r → registers_lines r ≡ registers_lines b.registers ++ register_line x v ∷ [] → IsHeadNext (beginning_lines b) (Header rank bound) (register_line x v) (record b { registers = r }) S.Registers (first + 1)
  registers_next x v first r p n f full z e =
      let m = h.no_memory (omega (arith, at_most 4 first f)) in
      let tail = map memory_line b.memory.items in
      record {
        state = record {
          full = full;
          no_flags = λ p q. absurd (omega (arith, p));
          framed = λ p. absurd (omega (arith, p));
          no_frame = λ p. absurd (omega (arith, p));
          no_constants = λ p. absurd (omega (arith, p));
          no_symbols = λ p. absurd (omega (arith, p));
          no_registers = λ p. absurd (omega (arith, p));
          next_registers = λ p. z;
          no_memory = λ p. m;
        };
        lines = ap (λ t. flags_lines b.flags ++ (frame_lines b.conv b.layout ++ (map constant_line b.constants.items ++ (map symbol_line b.symbols.items ++ (t ++ tail))))) e
            ∙ more5 (register_line x v) (flags_lines b.flags) (frame_lines b.conv b.layout) (map constant_line b.constants.items) (map symbol_line b.symbols.items) (registers_lines b.registers) tail (ap (map memory_line) m);
        place = rw n (ap (λ k. if may_follow rank bound 4 k then Some (Header 4 (k + 1)) else None) p ∙ rw f refl);
      }

  pub general_next : (i v : ℕ) → i < 16 → (v == 0) ≡ false → may_follow rank bound 4 i ≡ true → IsHeadNext (beginning_lines b) (Header rank bound) (register_line (general i) v) (record b { registers = record b.registers { general = set b.registers.general i v } }) S.Registers (i + 1)
  general_next i v small n f =
      let z = zeros i f in
      let g = b.registers.general in
      let rest = no_starts vector 0 b.registers.vector (λ j. z.vector_zero j (omega arith)) in
      let one = one_start general 0 g i v (omega (arith, h.full.general_count)) (λ j k. z.general_zero j k) n ∙ ap (λ m. start_lines general 0 g ++ register_line (general m) v ∷ []) (zero-add i) in
      registers_next (general i) v i (record b.registers { general = set g i v }) (zero-add i) n f
      (record { frame = h.full.frame; general_count = length-set g i v ∙ h.full.general_count; vector_count = h.full.vector_count })
      (record { general_zero = zero_after g i v z.general_zero; vector_zero = λ j k. z.vector_zero j (omega arith) })
      (ap (λ t. t ++ start_lines vector 0 b.registers.vector) one ∙ more1 (register_line (general i) v) (start_lines general 0 g) (start_lines vector 0 b.registers.vector) rest)

  pub vector_next : (i v : ℕ) → i < 32 → (v == 0) ≡ false → may_follow rank bound 4 (16 + i) ≡ true → IsHeadNext (beginning_lines b) (Header rank bound) (register_line (vector i) v) (record b { registers = record b.registers { vector = set b.registers.vector i v } }) S.Registers (16 + i + 1)
  vector_next i v small n f =
      let z = zeros (16 + i) f in
      let g = b.registers.vector in
      let one = one_start vector 0 g i v (omega (arith, h.full.vector_count)) (λ j k. z.vector_zero j (omega arith)) n ∙ ap (λ m. start_lines vector 0 g ++ register_line (vector m) v ∷ []) (zero-add i) in
      registers_next (vector i) v (16 + i) (record b.registers { vector = set g i v }) refl n f
      (record { frame = h.full.frame; general_count = h.full.general_count; vector_count = length-set g i v ∙ h.full.vector_count })
      (record { general_zero = λ j k. z.general_zero j (omega arith); vector_zero = λ j k. zero_after g i v (λ a c. z.vector_zero a (omega arith)) j (omega arith) })
      (ap (λ t. start_lines general 0 b.registers.general ++ t) one ∙ sym (append_assoc (start_lines general 0 b.registers.general) (start_lines vector 0 g) (register_line (vector i) v ∷ [])))

-- no line is told yet
abbrev is_zeros : List ℕ → Bool
is_zeros [] = true
is_zeros (v ∷ vs) = (v == 0) && is_zeros vs

zeros_at : (vs : List ℕ) → is_zeros vs ≡ true → (i : ℕ) → get_or vs i 0 ≡ 0
zeros_at [] h i = refl
zeros_at (v ∷ vs) h zero = eqb-true v 0 (and_parts (v == 0) (is_zeros vs) h).0
zeros_at (v ∷ vs) h (suc i) = zeros_at vs (and_parts (v == 0) (is_zeros vs) h).1 i

abbrev general_zeros : List ℕ
general_zeros = 0 ∷ 0 ∷ 0 ∷ 0 ∷ 0 ∷ 0 ∷ 0 ∷ 0 ∷ 0 ∷ 0 ∷ 0 ∷ 0 ∷ 0 ∷ 0 ∷ 0 ∷ 0 ∷ []

abbrev vector_zeros : List ℕ
vector_zeros = 0 ∷ 0 ∷ 0 ∷ 0 ∷ 0 ∷ 0 ∷ 0 ∷ 0 ∷ 0 ∷ 0 ∷ 0 ∷ 0 ∷ 0 ∷ 0 ∷ 0 ∷ 0 ∷ 0 ∷ 0 ∷ 0 ∷ 0 ∷ 0 ∷ 0 ∷ 0 ∷ 0 ∷ 0 ∷ 0 ∷ 0 ∷ 0 ∷ 0 ∷ 0 ∷ 0 ∷ 0 ∷ []

abbrev no_registers : StartRegs
no_registers = record { general = general_zeros; vector = vector_zeros }

abbrev no_facilities : IsaFlags
no_facilities = record { has_mie3 = false; has_mie4 = false; has_vxrs_ext2 = false; has_vxrs_ext3 = false; no_relative_memory = false }

abbrev pub beginning : Vec ConstantData Global → Vec SymbolLine Global → Vec MemLine Global → Beginning
beginning cs ss ms = record { flags = no_facilities; conv = SystemV; layout = plain_layout; constants = cs; symbols = ss; registers = no_registers; memory = ms }

all_zero : (k : ℕ) → IsZeroFrom k no_registers
all_zero k = record { general_zero = λ i h. zeros_at general_zeros refl i; vector_zero = λ i h. zeros_at vector_zeros refl i }

pub plain_frame : frame_lines SystemV plain_layout ≡ []
unfolding convention_text
plain_frame = rw (decimal_digit 0 (omega arith)) refl

pub start_state : (cs : Vec ConstantData Global) (ss : Vec SymbolLine Global) (ms : Vec MemLine Global) → cs.items ≡ [] → ss.items ≡ [] → ms.items ≡ [] → IsBeginning 0 0 (beginning cs ss ms)
start_state cs ss ms c s m = record {
  full = record { frame = λ e. (refl, refl); general_count = refl; vector_count = refl };
  no_flags = λ p q. refl;
  framed = λ p. absurd (omega (arith, p));
  no_frame = λ p. plain_frame;
  no_constants = λ p. c;
  no_symbols = λ p. s;
  no_registers = λ p. all_zero 0;
  next_registers = λ p. absurd (omega (arith, p));
  no_memory = λ p. m;
}

pub start_lines_none : (cs : Vec ConstantData Global) (ss : Vec SymbolLine Global) (ms : Vec MemLine Global) → cs.items ≡ [] → ss.items ≡ [] → ms.items ≡ [] → beginning_lines (beginning cs ss ms) ≡ []
start_lines_none cs ss ms c s m = rw (c, s, m) (ap (λ t. t ++ []) plain_frame)

-- a number that is not zero, and a region within memory
pub not_zero : (v : ℕ) → (v ≡ 0 → ⊥) → (v == 0) ≡ false
not_zero v h = elim (either (v == 0)) [ inl e ↦ absurd (h (eqb-true v 0 e)) | inr e ↦ e ]

not_less : (m n : ℕ) → n ≤ m → nat_lt m n ≡ false
not_less m n h = grind (arith, nat_tests)

pub region : (a s : ℕ) → (s ≡ 0 → ⊥) → a + s ≤ 2 ^ 64 → region_class a s ≡ Head 5 a (a + s)
region a s n h = rw (not_zero s n, not_less (2 ^ 64) (a + s) h) refl

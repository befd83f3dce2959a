-- A generated function is refused by nothing.
use Rattle.std.proofs.Common.{◌≡◌, ℕ, ◌+◌, ◌≤◌, ◌*◌, inl, inr, List, [], ◌∷◌, length, map, None, false, true, refl, sym, ap, ap₂, ◌∙◌, subst, arith}
use Rattle.std.specs.Prelude.{nat_lt}
use Rattle.std.proofs.lemmas.Bool.{and_from, le-leb, lt-ltb}
use Rattle.s390x_base.specs.declared.error.EmitError.{EmitError}
use Rattle.s390x_base.specs.declared.error.EmitError.TheVariants as error
use Rattle.s390x_buffer.specs.Constants.{greatest_align}
use Rattle.s390x_buffer.specs.State.{constant_of, new_cause}
use Rattle.s390x_buffer.specs.declared.entries.MachBufferFinalized.{MachBufferFinalized}
use Rattle.s390x_emit_int.specs.Function.{IsFinishedCode, checked_cause, code_length_cause, constants_of, function_cause, tree_of, trees_of, folded_trees_of}
use Rattle.s390x_emit_int.specs.FunctionImage.{HasNoImage, IsImageOf}
use Rattle.s390x_emit_int.specs.declared.image.ImageError.TheVariants.{Refused, Link}
use Rattle.s390x_generator.specs.Generator.{IsGenerated, generated_trees, insts_of}
use Rattle.s390x_image.specs.Causes.{link_cause}
use Rattle.s390x_image.specs.Symbols.{Symbols, no_symbols}
use Rattle.s390x_image.specs.declared.error.LinkError.{LinkError}
use Rattle.s390x_inst.specs.Emission.{Emission}
use Rattle.s390x_inst.specs.State.{base_facilities, empty_emission}
use Rattle.s390x_inst.specs.declared.function.AllocatedFunction.{AllocatedFunction}
use Rattle.s390x_inst.specs.declared.function.Block.{Block}
use Rattle.s390x_inst.specs.declared.state.EmitInfo.{EmitInfo}
use Rattle.s390x_inst.specs.declared.state.IsaFlags.{IsaFlags}
use Rattle.s390x_typed_steps.specs.Causes.{blocks_cause, declared_of, first_emit_cause, unless}
use Rattle.s390x_typed_steps.specs.Folding.{folded_trees, peak}
use Rattle.s390x_typed_steps.proofs.Folding.{peak_few, folded_blocks_size}
use Rattle.s390x_typed_steps.proofs.FoldedRelocs.{folded_relocs}
use Rattle.s390x_typed_steps.specs.Relocs.{function_relocs}
use Rattle.s390x_typed_steps.specs.Sizes.{blocks_size}
use Rattle.s390x_typed_steps.specs.Tree.{block_tree}
use Rattle.s390x_tool.specs.Generated.{IsGenerateReply, generated_base, summary_line}
use Rattle.s390x_tool.specs.Lines.{IsLinkRefusal, IsMade, IsRefusal}
use Rattle.s390x_tool.specs.Replies.{CallContext, IsReply}
use Rattle.s390x_typed_steps.proofs.Baseline.{for_relative_machine}
use Rattle.s390x_tool.specs.Words.{IsForm}
use Rattle.s390x_tool.specs.declared.words.Command.TheVariants.{Generate}
use Rattle.s390x_tool.specs.declared.status.Status.{Status}
use Rattle.s390x_tool.specs.declared.status.Status.TheVariants as status

-- the trees of blocks are those of their instructions, on a machine that has rows relative to the instruction
trees_of_blocks : (flags : IsaFlags) (e : Emission) (bs : List Block) → flags.no_relative_memory ≡ false → map (tree_of flags e) bs ≡ map (block_tree e) (map insts_of bs)
trees_of_blocks flags e [] has = refl
trees_of_blocks flags e (b ∷ bs) has = ap₂ (λ t ts. t ∷ ts) (for_relative_machine flags (block_tree e b.insts.items) has) (trees_of_blocks flags e bs has)

pub same_trees : (flags : IsaFlags) (e : Emission) (n start : ℕ) (f : AllocatedFunction) → flags.no_relative_memory ≡ false → IsGenerated n start f → trees_of flags e f ≡ generated_trees e n start
same_trees flags e n start f has h = trees_of_blocks flags e f.blocks.items has ∙ ap (map (block_tree e)) h.blocks

no_constants : (n start : ℕ) (f : AllocatedFunction) → IsGenerated n start f → constants_of f ≡ []
no_constants n start f h = ap (map constant_of) h.constants

-- what the law says of generated functions
abbrev pub Counts : Type 0
Counts = (e : Emission) (n start : ℕ) → length (generated_trees e n start) ≡ n

abbrev pub AreValid : Type 0
AreValid = (flags : IsaFlags) (e : Emission) (n start : ℕ) → n ≤ 100000 → blocks_cause flags (declared_of (generated_trees e n start) []) n (generated_trees e n start) ≡ None

abbrev pub AreSmall : Type 0
AreSmall = (e : Emission) (n start : ℕ) → blocks_size (generated_trees e n start) ≤ 24 * n

abbrev pub HaveNoRelocs : Type 0
HaveNoRelocs = (e : Emission) (n start : ℕ) → function_relocs (generated_trees e n start) ≡ []

-- emission has no cause
pub checked : Counts → AreValid → AreSmall → (flags : IsaFlags) (e : Emission) (n start : ℕ) → n ≤ 100000 → checked_cause flags (generated_trees e n start) [] ≡ None
checked counts valid small flags e n start few =
    let ts = generated_trees e n start in
    let size = small e n start in
    let new : new_cause (length ts) [] ≡ None = ap (λ b. unless b error.LabelOutOfRange) (lt-ltb (length ts + 0) 4294967296 (omega (arith, counts e n start, few))) in
    let steps : blocks_cause flags (declared_of ts []) (length ts + 0) ts ≡ None =
    subst (λ m. blocks_cause flags (declared_of ts []) m ts ≡ None) (omega (arith, counts e n start)) (valid flags e n start few) in
    let highest : nat_lt (peak ts) 2147483648 ≡ true = lt-ltb (peak ts) 2147483648 (omega (arith, size, few, peak_few 0 0 ts)) in
    let last : nat_lt (blocks_size (folded_trees ts)) 2147483648 ≡ true = lt-ltb (blocks_size (folded_trees ts)) 2147483648 (omega (arith, size, few, folded_blocks_size 0 ts)) in
    let end : code_length_cause ts [] ≡ None = ap (λ b. unless b error.LabelOutOfRange) (and_from (nat_lt (peak ts) 2147483648) (nat_lt (blocks_size (folded_trees ts)) 2147483648) highest last) in
    ap₂ first_emit_cause new (ap₂ first_emit_cause steps end)

pub not_refused : Counts → AreValid → AreSmall → (n start : ℕ) (f : AllocatedFunction) → n ≤ 100000 → IsGenerated n start f
    → function_cause base_facilities (trees_of base_facilities empty_emission f) (constants_of f) empty_emission ≡ None
not_refused counts valid small n start f few h =
    ap₂ (λ ts cs. function_cause base_facilities ts cs empty_emission) (same_trees base_facilities empty_emission n start f refl h) (no_constants n start f h)
    ∙ checked counts valid small base_facilities empty_emission n start few

-- nor has linking
pub not_link_refused : HaveNoRelocs → (n start : ℕ) (f : AllocatedFunction) (code : MachBufferFinalized) → IsGenerated n start f
    → IsFinishedCode (folded_trees_of base_facilities empty_emission f) (constants_of f) code → link_cause code generated_base no_symbols ≡ None
not_link_refused relocs n start f code h finished =
    let none : code.relocs.items ≡ [] = finished.relocs ∙ ap (λ ts. function_relocs (folded_trees ts)) (same_trees base_facilities empty_emission n start f refl h) ∙ folded_relocs (generated_trees empty_emission n start) (relocs empty_emission n start) in
    let align : code.alignment ≡ 4 = finished.alignment ∙ ap (λ cs. greatest_align 4 cs) (no_constants n start f h) in
    let short = finished.short in
    let fits = le-leb (generated_base + length code.bytes.items) 18446744073709551616 (omega (arith, short)) in
    rw none (rw align (rw fits refl))

-- what the defaults are
pub by_default : (P : IsaFlags → Emission → Symbols → Type 0) (info : EmitInfo) (flags : IsaFlags) (state : Emission) (symbols : Symbols)
    → info ≡ record { isa_flags = flags } → flags ≡ base_facilities → state ≡ empty_emission → symbols ≡ no_symbols
    → P info.isa_flags state symbols → P base_facilities empty_emission no_symbols
by_default P info flags state symbols i g s y h =
    subst (λ a. P a empty_emission no_symbols) (ap (λ (x : EmitInfo). x.isa_flags) i ∙ g)
    (subst (λ b. P info.isa_flags b no_symbols) s (subst (λ t. P info.isa_flags state t) y h))

-- the reply where emission or linking refuses
pub reply_of_refusal : Counts → AreValid → AreSmall → (n start : ℕ) (f : AllocatedFunction) (e : EmitError) (s : Status) (text : List ℕ) → n ≤ 100000 → IsGenerated n start f
    → HasNoImage base_facilities empty_emission f generated_base no_symbols (Refused e) → IsRefusal e s text → IsGenerateReply n start s text
reply_of_refusal counts valid small n start f e s text few h (inl short) (inl refusal) = absurd (refusal.0 short)
reply_of_refusal counts valid small n start f e s text few h (inr cause) refusal =
    let none = sym (not_refused counts valid small n start f few h) ∙ cause in
    absurd cc
reply_of_refusal counts valid small n start f e s text few h (inl short) (inr wanted) = rw wanted.1 wanted.2

pub reply_of_link_refusal : HaveNoRelocs → (n start : ℕ) (f : AllocatedFunction) (e : LinkError) (s : Status) (text : List ℕ) → IsGenerated n start f
    → HasNoImage base_facilities empty_emission f generated_base no_symbols (Link e) → IsLinkRefusal e s text → IsGenerateReply n start s text
reply_of_link_refusal relocs n start f e s text h (inl short) (inl refusal) = absurd (refusal.0 short)
reply_of_link_refusal relocs n start f e s text h (inr refused) refusal =
    let none = sym (not_link_refused relocs n start f refused.code h refused.finished) ∙ refused.cause in
    absurd cc
reply_of_link_refusal relocs n start f e s text h (inl short) (inr wanted) = rw wanted.1 wanted.2

-- the reply where it has an image
pub reply_of_generated : (n start : ℕ) (f : AllocatedFunction) (bytes : List ℕ) (s : Status) (text : List ℕ) → IsGenerated n start f
    → IsImageOf base_facilities empty_emission f generated_base no_symbols bytes → IsMade status.Ok (summary_line n bytes) s text → IsGenerateReply n start s text
reply_of_generated n start f bytes s text h image (inl made) =
    rw made.0 (record { bytes = bytes; image = record { function = f; blocks = h; image = image }; spelled = made.1 })
reply_of_generated n start f bytes s text h image (inr short) = rw short.0 short.1

-- the program's reply
pub reply_to_generate : (f : CallContext) (n start : ℕ) (s : Status) (text : List ℕ) → IsForm f.words (Generate n start) → f.left' ≡ f.left → f.faults' ≡ f.faults
    → IsGenerateReply n start s text → IsReply f s text
reply_to_generate f n start status.Ok text form kept same told = inr (inl (record { count = n; start = start; form = form; kept = kept; same = same; told = told }))
reply_to_generate f n start status.NoMemory text form kept same told = (record { command = Generate n start; form = form; left = kept; same = same }, told)
reply_to_generate f n start s text form kept same told = absurd told

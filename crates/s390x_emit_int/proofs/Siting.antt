-- What fragments record of calls, in the order of the steps.
use Rattle.std.proofs.Common.{◌≡◌, ℕ, ◌+◌, List, [], ◌∷◌, ◌++◌, length, refl, sym, ap, ◌∙◌, arith, add-zero, append_assoc, append-nil}
use Rattle.s390x_buffer.specs.State.{BufferState}
use Rattle.s390x_inst.specs.declared.inst.Inst.{Inst}
use Rattle.s390x_inst.specs.declared.inst.Inst.TheVariants.{CondBreak, JTSequence}
use Rattle.s390x_base.specs.declared.ir.MachLabel.{MachLabel}
use Rattle.s390x_typed_steps.specs.Tree.{Tree, Whole, StepBody}
use Rattle.s390x_typed_steps.specs.Steps.{Step as TypedStep, step_of, steps_from}
use Rattle.s390x_typed_steps.specs.Parts.{CodePart, Branch, Relative, TableWord, ToBlock, ToStep, table_words, instruction_parts, step_parts}
use Rattle.s390x_typed_steps.specs.Sites.{PlacedSite, call_of, try_of, patch_of, map_of, call_offsets, try_sites, patches, stack_maps, part_sites, parts_sites, step_sites, sites_from}
use Rattle.s390x_emit_int.specs.Fragments.{Fragment, AddSite, apply, apply_all}
use Rattle.s390x_emit_int.specs.Emission.{part_fragment, part_fragments, leaf_fragments, function_fragments, body_fragments}
use Rattle.s390x_emit_int.specs.Bound.{StepsFollow}
use Rattle.s390x_emit_int.proofs.Collecting.{Collects, end_applied, collected, parts_collected, function_collected}

-- the site that a fragment records
abbrev pub fragment_sites : ℕ → Fragment → List PlacedSite
fragment_sites p (AddSite site) = record { offset = p; site = site } ∷ []
fragment_sites p x = []

-- the sites in fragments that begin at an offset
abbrev pub sited : ℕ → List Fragment → List PlacedSite
sited p xs = collected fragment_sites p xs

-- each table of a buffer has these sites besides
pub record Sited (s t : BufferState) (xs : List PlacedSite) : Type 0 where
  pub calls : t.call_sites ≡ s.call_sites ++ call_offsets xs
  pub tries : t.try_call_sites ≡ s.try_call_sites ++ try_sites xs
  pub patched : t.patchable_sites ≡ s.patchable_sites ++ patches xs
  pub mapped : t.stack_maps ≡ s.stack_maps ++ stack_maps xs

-- behind a fragment that is no site
sited_on : (s s1 t : BufferState) (p q : ℕ) (ps : List Fragment) → s1.call_sites ≡ s.call_sites → s1.try_call_sites ≡ s.try_call_sites → s1.patchable_sites ≡ s.patchable_sites → s1.stack_maps ≡ s.stack_maps → p ≡ q → Sited s1 t (sited p ps) → Sited s t (sited q ps)
sited_on s s1 t p q ps c r a m e x = record {
  calls = x.calls ∙ ap (λ l. l ++ call_offsets (sited p ps)) c ∙ ap (λ n. s.call_sites ++ call_offsets (sited n ps)) e;
  tries = x.tries ∙ ap (λ l. l ++ try_sites (sited p ps)) r ∙ ap (λ n. s.try_call_sites ++ try_sites (sited n ps)) e;
  patched = x.patched ∙ ap (λ l. l ++ patches (sited p ps)) a ∙ ap (λ n. s.patchable_sites ++ patches (sited n ps)) e;
  mapped = x.mapped ∙ ap (λ l. l ++ stack_maps (sited p ps)) m ∙ ap (λ n. s.stack_maps ++ stack_maps (sited n ps)) e;
}

pub sites_run : (ps : List Fragment) (s : BufferState) → Sited s (apply_all s ps) (sited (length s.bytes) ps)
sites_run [] s = record { calls = sym (append-nil s.call_sites); tries = sym (append-nil s.try_call_sites); patched = sym (append-nil s.patchable_sites); mapped = sym (append-nil s.stack_maps) }
sites_run (AddSite site ∷ ps) s =
    let p = length s.bytes in
    let x = sites_run ps (apply s (AddSite site)) in
    record {
      calls = x.calls ∙ append_assoc s.call_sites (call_of p site) (call_offsets (sited p ps));
      tries = x.tries ∙ append_assoc s.try_call_sites (try_of p site) (try_sites (sited p ps));
      patched = x.patched ∙ append_assoc s.patchable_sites (patch_of p site) (patches (sited p ps));
      mapped = x.mapped ∙ append_assoc s.stack_maps (map_of p site) (stack_maps (sited p ps));
    }
sites_run (x ∷ ps) s = sited_on s (apply s x) _ _ _ ps refl refl refl refl (end_applied x s) (sites_run ps (apply s x))

part_sited : (x : CodePart) (p : ℕ) → fragment_sites p (part_fragment x) ≡ part_sites p x
part_sited (Branch mask (ToBlock b)) p = refl
part_sited (Branch mask (ToStep k)) p = refl
part_sited (Relative opcode register (ToBlock b)) p = refl
part_sited (Relative opcode register (ToStep k)) p = refl
part_sited (TableWord before (ToBlock b)) p = refl
part_sited (TableWord before (ToStep k)) p = refl
part_sited x p = refl

parts_sited : (parts : List CodePart) (p : ℕ) → sited p (part_fragments parts) ≡ parts_sites p parts
parts_sited = parts_collected fragment_sites part_sites parts_sites (record { none = λ p. refl; first = λ x xs p. refl; each = part_sited })

-- the words of a table have none
words_sited : (ls : List MachLabel) (before p q : ℕ) → parts_sites p (table_words before ls) ≡ parts_sites q (table_words before ls)
words_sited [] before p q = refl
words_sited (l ∷ ls) before p q = words_sited ls (before + 4) (p + 4) (q + 4)

leaf_sited : (n after end : ℕ) (i : Inst) (p : ℕ) → sited p (leaf_fragments n after i) ≡ step_sites p (step_of end (Whole i))
leaf_sited n after end (CondBreak mask) p = refl
leaf_sited n after end (JTSequence ridx other mask targets) p = parts_sited (table_words 0 targets.items) _ ∙ words_sited targets.items 0 _ _
leaf_sited n after end i p = parts_sited (instruction_parts i) p

body_sited : (n after end : ℕ) (b : StepBody) (p : ℕ) → sited p (body_fragments n after b) ≡ step_sites p (step_of end b)
body_sited n after end (Whole i) p = leaf_sited n after end i p
body_sited n after end b p = parts_sited (step_parts (step_of 0 b)) p

pub sites_append : (at : ℕ → ℕ) (a b : List TypedStep) (k m : ℕ) → k + length a ≡ m → sites_from at k (a ++ b) ≡ sites_from at k a ++ sites_from at m b
sites_append at [] b k m e = ap (λ n. sites_from at n b) (sym (add-zero k) ∙ e)
sites_append at (s ∷ a) b k m e =
    ap (λ l. step_sites (at k) s ++ l) (sites_append at a b (k + 1) m (omega arith)) ∙ sym (append_assoc (step_sites (at k) s) (sites_from at (k + 1) a) (sites_from at m b))

collects_sites : Collects fragment_sites step_sites sites_from
collects_sites = record { none = λ at k. refl; first = λ at k s ss. refl; body = body_sited; opening = λ n p. refl; back = λ n mask k p. refl; bound = λ b p. refl }

pub function_sited : (ts : List Tree) (at : ℕ → ℕ) (n b k : ℕ) → StepsFollow at k (steps_from k ts) → sited (at k) (function_fragments n b ts) ≡ sites_from at k (steps_from k ts)
function_sited = function_collected fragment_sites step_sites sites_from collects_sites

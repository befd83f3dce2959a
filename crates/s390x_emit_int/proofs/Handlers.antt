-- The handlers of calls stand where their labels' blocks start.
use Rattle.std.proofs.Common.{◌≡◌, ℕ, ◌+◌, ◌<◌, List, [], ◌∷◌, ◌++◌, map, refl, sym, ap, ap₂, subst, arith}
use Rattle.s390x_buffer.specs.Finish.{bound_handler, bound_site, PlacedTryCallSite}
use Rattle.s390x_buffer.specs.declared.entries.HandlerEntry.{HandlerEntry}
use Rattle.s390x_buffer.specs.declared.entries.TryHandler.{TryHandler}
use Rattle.s390x_inst.specs.declared.inst.Inst.TheVariants.{CondBreak}
use Rattle.s390x_typed_steps.specs.Parts.{CodePart, SiteHere, instruction_parts, part_size, step_parts}
use Rattle.s390x_typed_steps.specs.Sites.{PlacedSite, parts_sites, step_sites, sites_from, try_of, try_sites}
use Rattle.s390x_typed_steps.specs.StepBody.{Site, AtTry}
use Rattle.s390x_typed_steps.specs.Steps.{Back, step_count, step_of, steps_of, steps_from}
use Rattle.s390x_typed_steps.specs.Tree.{StepBody, Tree, Whole, empty, leaf, loop_node}
use Rattle.s390x_emit_int.specs.Bound.{HandlersName, SiteNames, PartsName, BodyNames, TreeNames, TreesName}
use Rattle.s390x_emit_int.proofs.Joining.{steps_length}
use Rattle.s390x_emit_int.proofs.Siting.{sites_append}

-- the handlers of sites are those of so many blocks
abbrev pub AllNamed : (count : ℕ) → List PlacedSite → Type 0
AllNamed count [] = Unit {0}
AllNamed count (s ∷ ss) = SiteNames count s.site × AllNamed count ss

named_append : (count : ℕ) (a b : List PlacedSite) → AllNamed count a → AllNamed count b → AllNamed count (a ++ b)
named_append count [] b h k = k
named_append count (s ∷ a) b h k = (h.0, named_append count a b h.1 k)

parts_named : (parts : List CodePart) (count constants p : ℕ) → PartsName count constants parts → AllNamed count (parts_sites p parts)
parts_named [] count constants p h = tt
parts_named (SiteHere site ∷ parts) count constants p h = (h.0, parts_named parts count constants (p + 0) h.1)
parts_named (part ∷ parts) count constants p h = parts_named parts count constants (p + part_size part) h.1

body_named : (b : StepBody) (e count constants p : ℕ) → BodyNames count constants b → AllNamed count (step_sites p (step_of e b))
body_named (Whole (CondBreak mask)) e count constants p h = tt
body_named (Whole i) e count constants p h = parts_named (instruction_parts i) count constants p h
body_named b e count constants p h = parts_named (step_parts (step_of 0 b)) count constants p h

tree_named : (t : Tree) (at : ℕ → ℕ) (k e count constants : ℕ) → TreeNames count constants t → AllNamed count (sites_from at k (steps_of k e t))
tree_named empty at k e count constants h = tt
tree_named (leaf b rest) at k e count constants h =
    named_append count (step_sites (at k) (step_of e b)) (sites_from at (k + 1) (steps_of (k + 1) e rest)) (body_named b e count constants (at k) h.0) (tree_named rest at (k + 1) e count constants h.1)
tree_named (loop_node mask members rest) at k e count constants h =
    let k1 = k + 1 + step_count members in
    let k2 = k + 2 + step_count members in
    let inner = steps_of (k + 1) k2 members in
    let outer = steps_of k2 e rest in
    let back = Back mask (k + 1) ∷ outer in
    let after : k1 + 1 ≡ k2 = omega arith in
    let behind : AllNamed count (sites_from at k1 back) = subst (λ m. AllNamed count (sites_from at m outer)) (sym after) (tree_named rest at k2 e count constants h.1) in
    subst (AllNamed count) (sym (sites_append at inner back (k + 1) k1 (ap (λ m. k + 1 + m) (steps_length members (k + 1) k2))))
    (named_append count (sites_from at (k + 1) inner) (sites_from at k1 back) (tree_named members at (k + 1) k2 count constants h.0) behind)

pub function_named : (ts : List Tree) (at : ℕ → ℕ) (k count constants : ℕ) → TreesName count constants ts → AllNamed count (sites_from at k (steps_from k ts))
function_named [] at k count constants h = tt
function_named (t ∷ ts) at k count constants h =
    let here = steps_of k 0 t in
    let next = k + step_count t in
    subst (AllNamed count) (sym (sites_append at here (steps_from next ts) k next (ap (λ m. k + m) (steps_length t k 0))))
    (named_append count (sites_from at k here) (sites_from at next (steps_from next ts)) (tree_named t at k 0 count constants h.0) (function_named ts at next count constants h.1))

module _ (count : ℕ) (off block : ℕ → ℕ) (agree : (l : ℕ) → l < count → off l ≡ block l) where
  handlers_agree : (hs : List TryHandler) → HandlersName count hs → map (bound_handler off) hs ≡ map (bound_handler block) hs
  handlers_agree [] h = refl
  handlers_agree (x ∷ hs) h =
      let entry : ℕ → List HandlerEntry → List HandlerEntry = λ o rest. record { tag = x.tag; offset = o } ∷ rest in
      ap₂ entry (agree x.label.0 h.0) (handlers_agree hs h.1)

  pub sites_agree : (xs : List PlacedSite) → AllNamed count xs → map (bound_site off) (try_sites xs) ≡ map (bound_site block) (try_sites xs)
  sites_agree [] h = refl
  sites_agree (x ∷ xs) h = go x.site h.0 (sites_agree xs h.1)
    where
      go : (s : Site) → SiteNames count s → map (bound_site off) (try_sites xs) ≡ map (bound_site block) (try_sites xs) → map (bound_site off) (try_of x.offset s ++ try_sites xs) ≡ map (bound_site block) (try_of x.offset s ++ try_sites xs)
      go (AtTry handlers sp_to_fp) named later =
          let entry : List HandlerEntry → List PlacedTryCallSite → List PlacedTryCallSite = λ hs rest. record { offset = x.offset; frame = sp_to_fp; handlers = hs } ∷ rest in
          ap₂ entry (handlers_agree handlers named) later
      go s named later = later

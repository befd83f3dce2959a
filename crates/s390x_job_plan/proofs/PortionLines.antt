-- The lines of an instruction's portions: what they are with other registers.
use Rattle.std.proofs.Common.{◌≡◌, Option, Some, None, List, [], ◌∷◌, refl, ap}
use Rattle.s390x_base.specs.Sets.{has}
use Rattle.s390x_base.specs.declared.regs.Reg.{Reg}
use Rattle.s390x_base.specs.declared.regs.Reg.TheVariants.{Real, Virtual}
use Rattle.s390x_inst.specs.Portions.{HandlerTerms, Portion, arguments, calling, closing, first_portion, handler_terms_of, indirect_branch, jump_table, opening, plain, results, tail_calling}
use Rattle.s390x_inst.specs.declared.calls.ArgPair.{ArgPair}
use Rattle.s390x_inst.specs.declared.calls.CallArgPair.{CallArgPair}
use Rattle.s390x_inst.specs.declared.calls.CallInstDest.{CallInstDest}
use Rattle.s390x_inst.specs.declared.calls.CallInstDest.TheVariants.{Direct, Indirect}
use Rattle.s390x_inst.specs.declared.calls.CallRetPair.{CallRetPair}
use Rattle.s390x_inst.specs.declared.calls.RetLocation.{RetLocation}
use Rattle.s390x_inst.specs.declared.calls.RetLocation.TheVariants.{Reg as InReg, Stack}
use Rattle.s390x_inst.specs.declared.calls.RetPair.{RetPair}
use Rattle.s390x_inst.specs.declared.calls.TryCallInfo.{TryCallInfo}
use Rattle.s390x_inst.specs.declared.inst.Inst.{Inst}
use Rattle.s390x_inst.specs.declared.inst.Inst.TheVariants as I
use Rattle.s390x_inst.specs.declared.vec_inst.VecInst.TheVariants as V
use Rattle.s390x_job_fields.specs.Atoms.{IsReg}
use Rattle.s390x_job_fields.specs.Calls.{Goes, IsArg, IsCallTarget, IsResult, IsRet, IsUse, NoTry, TryPart, try_part}
use Rattle.s390x_job_fields.specs.Lists.{AllItems}
use Rattle.s390x_job_fields.specs.Numbers.{W32}
use Rattle.s390x_job_fields.specs.Sets.{members_of}
use Rattle.s390x_job_fields.specs.Fields.{FArgs, FBool, FCond, FConvention, FDefs, FLabels, FNatural, FOption, FReg, FRets, FSet, FTarget, FTry, FUses}
use Rattle.s390x_job_lines.specs.Instructions.{inst_line}
use Rattle.s390x_job_lines.specs.Kinds.{kinds}
use Rattle.s390x_job_lines.specs.Line.{AllFields, IsLine, Line, kinds_of}
use Rattle.s390x_job_lines.specs.declared.inst_name.ControlName.TheVariants as ControlIs
use Rattle.s390x_job_lines.specs.declared.name.LineName.TheVariants as N
use Rattle.s390x_assign.specs.Assignments.{after_placed, argument_at, assigned_portions, call_result_at, destination_at, each_at, incoming_at, outgoing_at, placed_at, portion_at, result_at}
use Rattle.s390x_job_plan.proofs.Fields.{Regs, at, dropped, given, left, operator_fields}

-- where a call goes on, from its terms
abbrev try_of : Option HandlerTerms → TryPart
try_of None = NoTry
try_of (Some t) = Goes t.continuation.0 t.handlers

-- the line of a portion
abbrev pub portion_line : Portion → Line
portion_line (plain i) = inst_line i
portion_line (indirect_branch rn targets) = record { name = N.Control ControlIs.IndirectBr; fields = FReg rn ∷ FLabels targets ∷ [] }
portion_line (jump_table ridx default mask targets) = record { name = N.Control ControlIs.JTSequence; fields = FReg ridx ∷ FNatural W32 default.0 ∷ FCond mask ∷ FLabels targets ∷ [] }
portion_line (calling link dest uses defs terms) = record {
  name = N.Control ControlIs.Call;
  fields = FReg link ∷ FTarget dest ∷ FUses uses ∷ FDefs defs ∷ FSet (members_of (has terms.clobbers)) ∷ FNatural W32 terms.callee_pop_size ∷ FConvention terms.caller_conv ∷ FConvention terms.callee_conv ∷ FTry (try_of terms.handler_terms) ∷ FBool terms.patchable ∷ FOption W32 terms.stack_map ∷ [];
}
portion_line (tail_calling dest uses size) = record { name = N.Control ControlIs.ReturnCall; fields = FTarget dest ∷ FUses uses ∷ FNatural W32 size ∷ [] }
portion_line (arguments args) = record { name = N.Control ControlIs.Args; fields = FArgs args ∷ [] }
portion_line (results rets) = record { name = N.Control ControlIs.Rets; fields = FRets rets ∷ [] }
portion_line (opening mask) = record { name = N.Loop; fields = FCond mask ∷ [] }
portion_line closing = record { name = N.EndLoopLine; fields = [] }

same_try : (o : Option TryCallInfo) → try_part o ≡ try_of (handler_terms_of o)
same_try None = refl
same_try (Some t) = refl

-- the line of an instruction is that of its first portion
pub first_line : (i : Inst) → inst_line i ≡ portion_line (first_portion i)
first_line (I.Call link info) =
    ap (λ t. record { name = N.Control ControlIs.Call; fields = FReg link ∷ FTarget info.dest ∷ FUses info.uses.items ∷ FDefs info.defs.items ∷ FSet (members_of (has info.clobbers)) ∷ FNatural W32 info.callee_pop_size ∷ FConvention info.caller_conv ∷ FConvention info.callee_conv ∷ FTry t ∷ FBool info.patchable ∷ FOption W32 info.stack_map ∷ [] }) (same_try info.try_call_info)
first_line i = refl

-- ---- kinds

kinds_fit : (p : Portion) → kinds (portion_line p).name ≡ kinds_of (portion_line p).fields
kinds_fit (plain (I.Vector (V.VecRR op rd rn))) = refl
kinds_fit p = refl

-- ---- ranges

target : (d : CallInstDest) (s : List Reg) → IsCallTarget d → Regs s → IsCallTarget (destination_at d s).0
target (Direct name) s h k = h
target (Indirect reg) s h k = at reg s h k

target_left : (d : CallInstDest) (s : List Reg) → Regs s → Regs (destination_at d s).1
target_left (Direct name) s k = k
target_left (Indirect reg) s k = left reg s k

placed : (place r : Reg) (s : List Reg) → IsReg r → Regs s → IsReg (placed_at place r s)
placed (Real p) r s h k = given r s h k
placed (Virtual n c) r s h k = h

placed_left : (place : Reg) (s : List Reg) → Regs s → Regs (after_placed place s)
placed_left (Real p) s k = dropped 1 s k
placed_left (Virtual n c) s k = k

result : (r : Reg) (l : RetLocation) (s : List Reg) → IsReg r → Regs s → IsReg (result_at r l s).0
result r (InReg p ty) s h k = placed p r s h k
result r (Stack offset ty) s h k = given r s h k

result_left : (r : Reg) (l : RetLocation) (s : List Reg) → Regs s → Regs (result_at r l s).1
result_left r (InReg p ty) s k = placed_left p s k
result_left r (Stack offset ty) s k = dropped 1 s k

module _ {T : Type 0} (P : T → Type 0) (f : T → List Reg → T × List Reg) (keeps : (x : T) (s : List Reg) → P x → Regs s → P (f x s).0) (leaves : (x : T) (s : List Reg) → Regs s → Regs (f x s).1) where
  each : (xs : List T) (s : List Reg) → AllItems P xs → Regs s → AllItems P (each_at f xs s).0
  each [] s h k = tt
  each (x ∷ xs) s h k = (keeps x s h.0 k, each xs (f x s).1 h.1 (leaves x s k))

  each_left : (xs : List T) (s : List Reg) → Regs s → Regs (each_at f xs s).1
  each_left [] s k = k
  each_left (x ∷ xs) s k = each_left xs (f x s).1 (leaves x s k)

uses_kept : (uses : List CallArgPair) (s : List Reg) → AllItems IsUse uses → Regs s → AllItems IsUse (each_at argument_at uses s).0
uses_kept uses s h k = each IsUse argument_at (λ x s h k. (placed x.preg x.vreg s h.0 k, h.1)) (λ x s k. placed_left x.preg s k) uses s h k

uses_left : (uses : List CallArgPair) (s : List Reg) → Regs s → Regs (each_at argument_at uses s).1
uses_left uses s k = each_left IsUse argument_at (λ x s h k. (placed x.preg x.vreg s h.0 k, h.1)) (λ x s k. placed_left x.preg s k) uses s k

defs_kept : (defs : List CallRetPair) (s : List Reg) → AllItems IsResult defs → Regs s → AllItems IsResult (each_at call_result_at defs s).0
defs_kept defs s h k = each IsResult call_result_at (λ x s h k. (result x.vreg x.location s h.0 k, h.1)) (λ x s k. result_left x.vreg x.location s k) defs s h k

defs_left : (defs : List CallRetPair) (s : List Reg) → Regs s → Regs (each_at call_result_at defs s).1
defs_left defs s k = each_left IsResult call_result_at (λ x s h k. (result x.vreg x.location s h.0 k, h.1)) (λ x s k. result_left x.vreg x.location s k) defs s k

args_kept : (xs : List ArgPair) (s : List Reg) → AllItems IsArg xs → Regs s → AllItems IsArg (each_at incoming_at xs s).0
args_kept xs s h k = each IsArg incoming_at (λ x s h k. (placed x.preg x.vreg s h.0 k, h.1)) (λ x s k. placed_left x.preg s k) xs s h k

args_left : (xs : List ArgPair) (s : List Reg) → Regs s → Regs (each_at incoming_at xs s).1
args_left xs s k = each_left IsArg incoming_at (λ x s h k. (placed x.preg x.vreg s h.0 k, h.1)) (λ x s k. placed_left x.preg s k) xs s k

rets_kept : (xs : List RetPair) (s : List Reg) → AllItems IsRet xs → Regs s → AllItems IsRet (each_at outgoing_at xs s).0
rets_kept xs s h k = each IsRet outgoing_at (λ x s h k. (placed x.preg x.vreg s h.0 k, h.1)) (λ x s k. placed_left x.preg s k) xs s h k

rets_left : (xs : List RetPair) (s : List Reg) → Regs s → Regs (each_at outgoing_at xs s).1
rets_left xs s k = each_left IsRet outgoing_at (λ x s h k. (placed x.preg x.vreg s h.0 k, h.1)) (λ x s k. placed_left x.preg s k) xs s k

portion_fields : (p : Portion) (s : List Reg) → AllFields (portion_line p).fields → Regs s → AllFields (portion_line (portion_at p s).0).fields × Regs (portion_at p s).1
portion_fields (plain i) s h k = operator_fields i s h k
portion_fields (indirect_branch rn targets) s h k = ((at rn s h.0 k, h.1), left rn s k)
portion_fields (jump_table ridx default mask targets) s h k = ((at ridx s h.0 k, h.1), left ridx s k)
portion_fields (calling link dest uses defs terms) s h k =
    let t = (destination_at dest s).1 in
    let k' = target_left dest s k in
    let u = (each_at argument_at uses t).1 in
    let k'' = uses_left uses t k' in
    ((h.0, (target dest s h.1.0 k, (uses_kept uses t h.1.1.0 k', (defs_kept defs u h.1.1.1.0 k'', h.1.1.1.1)))), defs_left defs u k'')
portion_fields (tail_calling dest uses size) s h k =
    let t = (destination_at dest s).1 in
    let k' = target_left dest s k in
    ((target dest s h.0 k, (uses_kept uses t h.1.0 k', h.1.1)), uses_left uses t k')
portion_fields (arguments args) s h k = ((args_kept args s h.0 k, h.1), args_left args s k)
portion_fields (results rets) s h k = ((rets_kept rets s h.0 k, h.1), rets_left rets s k)
portion_fields p s h k = (h, k)

-- the lines of portions
abbrev pub PortionLines : List Portion → Type 0
PortionLines [] = Unit {0}
PortionLines (p ∷ ps) = IsLine (portion_line p) × PortionLines ps

portion_is_line : (p : Portion) → AllFields (portion_line p).fields → IsLine (portion_line p)
portion_is_line p h = record { kinds_fit = kinds_fit p; fields_fit = h }

-- with registers in their ranges they stay lines
pub assigned_lines : (ps : List Portion) (s : List Reg) → PortionLines ps → Regs s → PortionLines (assigned_portions ps s).0
assigned_lines [] s h k = tt
assigned_lines (p ∷ ps) s h k =
    let here = portion_fields p s h.0.fields_fit k in
    (portion_is_line (portion_at p s).0 here.0, assigned_lines ps (portion_at p s).1 h.1 here.1)

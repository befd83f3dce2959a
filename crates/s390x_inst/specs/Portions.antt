-- An instruction as a list of portions: it is one, but a `Loop` is its opening, the portions of its members, and its end. What an instruction holds in a
-- vector stands in its portion as a list, so that two instructions with equal portions are equal, but for where their vectors lie.
use Rattle.std.specs.Prelude.{ℕ, Bool, List, [], ◌∷◌, ◌++◌, Option, Some, None}
use Rattle.s390x_base.specs.declared.ir.MachLabel.{MachLabel}
use Rattle.s390x_base.specs.declared.regs.Reg.{Reg}
use Rattle.s390x_base.specs.declared.sets.PRegSet.{PRegSet}
use Rattle.s390x_inst.specs.declared.calls.ArgPair.{ArgPair}
use Rattle.s390x_inst.specs.declared.calls.CallArgPair.{CallArgPair}
use Rattle.s390x_inst.specs.declared.calls.CallConv.{CallConv}
use Rattle.s390x_inst.specs.declared.calls.CallInfo.{CallInfo}
use Rattle.s390x_inst.specs.declared.calls.CallInstDest.{CallInstDest}
use Rattle.s390x_inst.specs.declared.calls.CallRetPair.{CallRetPair}
use Rattle.s390x_inst.specs.declared.calls.RetPair.{RetPair}
use Rattle.s390x_inst.specs.declared.calls.ReturnCallInfo.{ReturnCallInfo}
use Rattle.s390x_inst.specs.declared.calls.TryCallHandler.{TryCallHandler}
use Rattle.s390x_inst.specs.declared.calls.TryCallInfo.{TryCallInfo}
use Rattle.s390x_inst.specs.declared.inst.Inst.{Inst, Row_of-Inst, end_of-Inst, more_of-Inst}
use Rattle.s390x_inst.specs.declared.inst.Inst.TheVariants.{Loop', IndirectBr, JTSequence, Call, ReturnCall, Args, Rets}

-- where a call with handlers of exceptions goes on
pub record HandlerTerms : Type 0 where
  pub continuation : MachLabel
  pub handlers : List TryCallHandler

-- what is known of a call beside its registers
pub record CallTerms : Type 0 where
  pub clobbers : PRegSet
  pub callee_pop_size : ℕ
  pub caller_conv : CallConv
  pub callee_conv : CallConv
  pub handler_terms : Option HandlerTerms
  pub patchable : Bool
  pub stack_map : Option ℕ

-- an instruction without its vectors, or the beginning or the end of a loop
pub data Portion : Type 0 where
  -- an instruction that has no vector
  plain : Inst → Portion
  indirect_branch : (rn : Reg) → (targets : List MachLabel) → Portion
  jump_table : (ridx : Reg) → (default : MachLabel) → (mask : ℕ) → (targets : List MachLabel) → Portion
  calling : (link : Reg) → CallInstDest → List CallArgPair → List CallRetPair → CallTerms → Portion
  tail_calling : CallInstDest → List CallArgPair → (callee_pop_size : ℕ) → Portion
  arguments : List ArgPair → Portion
  results : List RetPair → Portion
  opening : (mask : ℕ) → Portion
  closing : Portion

abbrev pub handler_terms_of : Option TryCallInfo → Option HandlerTerms
handler_terms_of None = None
handler_terms_of (Some t) = Some (record { continuation = t.continuation; handlers = t.exception_handlers.items })

abbrev pub terms_of : CallInfo → CallTerms
terms_of info = record { clobbers = info.clobbers; callee_pop_size = info.callee_pop_size; caller_conv = info.caller_conv; callee_conv = info.callee_conv; handler_terms = handler_terms_of info.try_call_info; patchable = info.patchable; stack_map = info.stack_map }

-- what is known of a tail call
abbrev pub tail_call_portion : ReturnCallInfo CallInstDest → Portion
tail_call_portion info = tail_calling info.dest info.uses.items info.callee_pop_size

-- an instruction as one portion, of a loop its opening
abbrev pub first_portion : Inst → Portion
first_portion (Loop' mask body all) = opening mask
first_portion (IndirectBr rn targets) = indirect_branch rn targets.items
first_portion (JTSequence ridx default mask targets) = jump_table ridx default mask targets.items
first_portion (Call link info) = calling link info.dest info.uses.items info.defs.items (terms_of info)
first_portion (ReturnCall info) = tail_call_portion info
first_portion (Args args) = arguments args.items
first_portion (Rets rets) = results rets.items
first_portion i = plain i

abbrev mutual
  -- an instruction in portions. A `Loop` has its members twice: `all` is read, and `body` is ignored
  pub portions : Inst → List Portion
  portions (Loop' mask body all) = opening mask ∷ (row_portions all ++ closing ∷ [])
  portions i = first_portion i ∷ []

  -- the members of a loop, in portions
  pub row_portions : {m : _} → Row_of-Inst m → List Portion
  row_portions end_of-Inst = []
  row_portions (more_of-Inst i rest) = portions i ++ row_portions rest

-- instructions in a list, in portions
abbrev pub members_portions : List Inst → List Portion
members_portions [] = []
members_portions (i ∷ is) = portions i ++ members_portions is

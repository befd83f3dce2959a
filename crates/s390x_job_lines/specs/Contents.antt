-- What an instruction holds, apart from the vectors in which it keeps its lists.
use Rattle.std.specs.Prelude.{ℕ, Bool, Option, List}
use Rattle.s390x_base.specs.Registers.{RealRegister}
use Rattle.s390x_base.specs.Sets.{has}
use Rattle.s390x_base.specs.declared.regs.Reg.{Reg}
use Rattle.s390x_base.specs.declared.ir.MachLabel.{MachLabel}
use Rattle.s390x_inst.specs.declared.calls.ArgPair.{ArgPair}
use Rattle.s390x_inst.specs.declared.calls.RetPair.{RetPair}
use Rattle.s390x_inst.specs.declared.calls.CallArgPair.{CallArgPair}
use Rattle.s390x_inst.specs.declared.calls.CallConv.{CallConv}
use Rattle.s390x_inst.specs.declared.calls.CallInstDest.{CallInstDest}
use Rattle.s390x_inst.specs.declared.calls.CallRetPair.{CallRetPair}
use Rattle.s390x_inst.specs.declared.inst.Inst.{Inst}
use Rattle.s390x_inst.specs.declared.inst.Inst.TheVariants as I
use Rattle.s390x_job_fields.specs.Calls.{TryPart, try_part}
use Rattle.s390x_job_fields.specs.Sets.{members_of}

-- a call, with the items of its lists and the members of its set
pub record CallContents : Type 0 where
  pub link : Reg
  pub dest : CallInstDest
  pub uses : List CallArgPair
  pub defs : List CallRetPair
  pub clobbers : List RealRegister
  pub callee_pop_size : ℕ
  pub caller_conv : CallConv
  pub callee_conv : CallConv
  pub try_call_info : TryPart
  pub patchable : Bool
  pub stack_map : Option ℕ

-- what an instruction holds: all of one without lists; of one with lists, their items; of a loop its condition, since its
-- members have lines of their own
pub data Contents : Type 0 where
  Whole : Inst → Contents
  Branches : Reg → List MachLabel → Contents
  Table : (index : Reg) → (default : MachLabel) → (condition : ℕ) → List MachLabel → Contents
  LoopOf : (condition : ℕ) → Contents
  Calls : CallContents → Contents
  TailCalls : CallInstDest → List CallArgPair → (callee_pop_size : ℕ) → Contents
  Arguments : List ArgPair → Contents
  Results : List RetPair → Contents

-- what an instruction holds
abbrev pub contents : Inst → Contents
contents (I.IndirectBr rn targets) = Branches rn targets.items
contents (I.JTSequence ridx default default_cond targets) = Table ridx default default_cond targets.items
contents (I.Loop' cond body members) = LoopOf cond
contents (I.Call link info) = Calls (record {
  link = link;
  dest = info.dest;
  uses = info.uses.items;
  defs = info.defs.items;
  clobbers = members_of (has info.clobbers);
  callee_pop_size = info.callee_pop_size;
  caller_conv = info.caller_conv;
  callee_conv = info.callee_conv;
  try_call_info = try_part info.try_call_info;
  patchable = info.patchable;
  stack_map = info.stack_map;
})
contents (I.ReturnCall info) = TailCalls info.dest info.uses.items info.callee_pop_size
contents (I.Args args) = Arguments args.items
contents (I.Rets rets) = Results rets.items
contents i = Whole i

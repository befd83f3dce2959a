-- The state of emission at the beginning of a function, and what stands where nothing is said.
use Rattle.std.specs.Prelude.{ℕ, None, false}
use Rattle.s390x_inst.specs.Emission.{Emission}
use Rattle.s390x_inst.specs.declared.state.FrameLayout.{FrameLayout}
use Rattle.s390x_inst.specs.declared.state.IsaFlags.{IsaFlags}
use Rattle.s390x_inst.specs.declared.calls.CallConv.{CallConv}
use Rattle.s390x_inst.specs.declared.calls.CallConv.TheVariants.{Fast, Tail, SystemV}

-- under the convention `Tail` the callee has taken the incoming arguments
abbrev pub incoming_size : FrameLayout → CallConv → ℕ
incoming_size layout Fast = layout.incoming_args_size
incoming_size layout Tail = 0
incoming_size layout SystemV = layout.incoming_args_size

-- no sizes but the incoming arguments', and no stack map
abbrev pub fresh_emission : FrameLayout → CallConv → Emission
fresh_emission layout conv = record { nominal = 0; outgoing = 0; incoming = incoming_size layout conv; stack_map = None; layout = layout }

-- a frame of no bytes, and no saved register
abbrev pub empty_layout : FrameLayout
empty_layout = record { incoming_args_size = 0; tail_args_size = 0; clobber_size = 0; fixed_frame_storage_size = 0; stackslots_size = 0; outgoing_args_size = 0; first_saved_gpr = None; saved_fprs = 0 }

-- no facility beyond the base, and the whole base
abbrev pub base_facilities : IsaFlags
base_facilities = record { has_mie3 = false; has_mie4 = false; has_vxrs_ext2 = false; has_vxrs_ext3 = false; no_relative_memory = false }

-- no sizes, no stack map, and the frame of no bytes
abbrev pub empty_emission : Emission
empty_emission = record { nominal = 0; outgoing = 0; incoming = 0; stack_map = None; layout = empty_layout }

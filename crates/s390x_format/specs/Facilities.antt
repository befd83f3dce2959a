-- The facility that an instruction needs, by its row's rule and its first mask: the mode of POPULATION COUNT, else the element-size code.
use Rattle.std.specs.Prelude.{◌==◌, nat_le, if◌then◌else◌, slice_index}
use Rattle.s390x_lanes.specs.Size.{element_bits, size_of_code}
use Rattle.s390x_format.specs.declared.fields.Fields.{Fields}
use Rattle.s390x_format.specs.declared.facility.Facility.{Facility}
use Rattle.s390x_format.specs.declared.facility.Facility.TheVariants.{Base, Mie3, VxrsExt3}
use Rattle.s390x_format.specs.declared.facility.FacilityRule.{FacilityRule}
use Rattle.s390x_format.specs.declared.facility.FacilityRule.TheVariants.{Always, WholeCount, UpTo}

abbrev pub facility_of : FacilityRule → Fields → Facility
facility_of (Always facility) f = facility
facility_of WholeCount f = if slice_index f.masks 0 == 8 then Mie3 else Base
facility_of (UpTo size) f = if nat_le (element_bits (size_of_code (slice_index f.masks 0))) (element_bits size) then Base else VxrsExt3

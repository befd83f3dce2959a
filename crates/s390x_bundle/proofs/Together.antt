-- The theorem about members in one image, and the causes that have names.
use Rattle.std.proofs.Common.{◌≡◌, ℕ, zero, suc, ◌+◌, ◌<◌, List, [], ◌∷◌, length, get_or, map, Option, Some, None, refl, sym, ap, ◌∙◌, subst, arith, slice_get}
use Rattle.std.specs.List.{All}
use Rattle.s390x_base.specs.declared.ir.ExternalName.{ExternalName}
use Rattle.s390x_buffer.specs.declared.entries.MachBufferFinalized.{MachBufferFinalized}
use Rattle.s390x_image.proofs.Filled.{length-filled}
use Rattle.s390x_image.specs.Causes.{link_cause}
use Rattle.s390x_image.specs.Fields.{with_fields_filled}
use Rattle.s390x_image.specs.declared.error.LinkError.{LinkError}
use Rattle.s390x_operations.specs.State.{CodeImage}
use Rattle.s390x_typed_steps.proofs.Causes.{first_right}
use Rattle.s390x_schedule.proofs.JointInduction.{joint_block_runs, joint_return_runs}
use Rattle.s390x_schedule.specs.Joint.{AreMembers, IsMember}
use Rattle.s390x_emit_int.specs.Function.{checked_cause, start_cause}
use Rattle.s390x_emit_int.proofs.Filling.{relocs_lie}
use Rattle.s390x_emit_int.proofs.Linked.{is_placed}
use Rattle.s390x_bundle.specs.declared.error.BundleError.{BundleError}
use Rattle.s390x_bundle.specs.declared.error.BundleError.TheVariants.{Link as LinkRefused, NoMemory}
use Rattle.s390x_bundle.specs.declared.joining.Bundle.{Bundle}
use Rattle.s390x_bundle.specs.declared.joining.JoinError.{JoinError}
use Rattle.s390x_bundle.specs.declared.joining.JoinError.TheVariants.{Misplaced as MisplacedMember, Unlinked as UnlinkedMember, NoMemory as JoinNoMemory}
use Rattle.s390x_bundle.specs.declared.member.Member.{Member}
use Rattle.s390x_bundle.specs.declared.places.Extent.{Extent}
use Rattle.s390x_bundle.specs.declared.places.PlaceCause.{PlaceCause}
use Rattle.s390x_bundle.specs.declared.places.PlaceCause.TheVariants.{EmptyMember, TooLong, AddressTooHigh}
use Rattle.s390x_bundle.specs.Bundled.{HasNoImage, IsImageOfMembers, duplicate_of, layouts_of, member_layout, member_layouts}
use Rattle.s390x_bundle.specs.Bytes.{Part, PartStands}
use Rattle.s390x_bundle.specs.Emitted.{AreEmitted, IsEmitted, constants_of_member, folded_trees_of_member, trees_of_member}
use Rattle.s390x_bundle.specs.Joined.{HasNoBundle, IsBundleOf, extent_of, member_parts, misplaced_member, starts_of_codes}
use Rattle.s390x_bundle.specs.Linking.{Unlinked, first_unlinked, linked_parts, unlinked_or}
use Rattle.s390x_bundle.specs.Named.{member_in_error, named_error, place_error}
use Rattle.s390x_bundle.specs.Names.{names_of}
use Rattle.s390x_bundle.specs.Table.{symbols_of}
use Rattle.s390x_bundle.proofs.Emitting.{emitted_finished}
use Rattle.s390x_bundle.proofs.Standing.{part_stands, zero_between}
use Rattle.s390x_bundle.proofs.Starting.{each_has_bytes, parts_rise}

none_of_both : (n : ℕ) (o : Option LinkError) (later : Option Unlinked) → unlinked_or n o later ≡ None → (o ≡ None) × (later ≡ None)
none_of_both n None later h = (refl, h)
none_of_both n (Some error) later h = absurd (cc)

-- ---- each member's code lies in the image

module _ (base : ℕ) (all : List Member) (all_starts : List ℕ) (whole : CodeImage) (at_base : whole.base ≡ base) where
  -- a member's linked code at its start
  abbrev part_of : Member → ℕ → MachBufferFinalized → Part
  part_of m start f = record { start = start; bytes = with_fields_filled (base + start) (symbols_of base all all_starts m.symbols.items) f.relocs.items f.bytes.items }

  lies : (m : Member) (start : ℕ) (f : MachBufferFinalized) → IsEmitted m f → link_cause f (base + start) (symbols_of base all all_starts m.symbols.items) ≡ None → 0 < length f.bytes.items → PartStands whole.bytes (part_of m start f) →
      IsMember whole (member_layout base all all_starts m start f)
  lies m start f e links some stands =
      let symbols = symbols_of base all all_starts m.symbols.items in
      let ts = trees_of_member m in
      let cs = constants_of_member m in
      record {
        part = record { earlier = stands.earlier; later = stands.later; bytes = stands.bytes; base = omega (arith, at_base, stands.at) };
        some = omega (arith, some, length-filled (base + start) symbols f.relocs.items f.bytes.items (relocs_lie (folded_trees_of_member m) cs f e.finished));
        placed = is_placed m.info.isa_flags ts cs f (base + start) symbols (first_right (start_cause m.state) (checked_cause m.info.isa_flags ts cs) e.valid) e.ranges e.finished links;
      }

  members_lie : (n : ℕ) (ms : List Member) (starts : List ℕ) (fs : List MachBufferFinalized) → AreEmitted ms fs → first_unlinked base all all_starts n ms starts fs ≡ None → All (λ (x : Extent). 0 < x.size) (map extent_of fs) →
      ((i : ℕ) (p : Part) → slice_get (linked_parts base all all_starts ms starts fs) i ≡ Some p → PartStands whole.bytes p) → AreMembers whole (member_layouts base all all_starts ms starts fs)
  members_lie n (m ∷ ms) (start ∷ starts) (f ∷ fs) are links some stand zero L e =
      let same : member_layout base all all_starts m start f ≡ L = cc in
      subst (λ l. IsMember whole l) same (lies m start f are.0 (none_of_both n _ _ links).0 (some 0 (extent_of f) (omega arith)) (stand 0 (part_of m start f) refl))
  members_lie n (m ∷ ms) (start ∷ starts) (f ∷ fs) are links some stand (suc i) L e =
      members_lie (n + 1) ms starts fs are.1 (none_of_both n _ _ links).1 (λ k d lt. some (suc k) d (omega (arith, lt))) (λ k p h. stand (suc k) p h) i L e
  members_lie n ms starts fs are links some stand i L e = absurd (cc)

-- ---- the theorem

pub image_of_members : (base : ℕ) (members : List Member) (codes : List MachBufferFinalized) (b : Bundle) → duplicate_of members ≡ None → AreEmitted members codes → IsBundleOf base members codes b → IsImageOfMembers base members b
image_of_members base members codes b names emitted joined =
    let parts = member_parts base members codes in
    let rise = parts_rise base members codes (emitted_finished members codes emitted) in
    let each : (i : ℕ) (p : Part) → slice_get parts i ≡ Some p → PartStands b.image.bytes.items p = λ i p e. subst (λ bs. PartStands bs p) (sym joined.bytes) (part_stands parts rise i p e) in
    let whole : CodeImage = record { base = b.image.base; bytes = b.image.bytes.items } in
    let starts = starts_of_codes codes in
    let are : AreMembers whole (layouts_of base members codes) = members_lie base members starts whole joined.base_is 0 members starts codes emitted joined.linked (each_has_bytes base (map extent_of codes) joined.placed) each in
    record {
      codes = codes;
      names = names;
      emitted = emitted;
      joined = joined;
      stand = record { each = each; between = λ o h. ap (λ bs. get_or bs o 0) joined.bytes ∙ zero_between parts rise o h };
      runs = record { are = are; from_blocks = joint_block_runs whole (layouts_of base members codes) are; from_returns = joint_return_runs whole (layouts_of base members codes) are };
    }

-- ---- the causes

module _ (base : ℕ) (members : List Member) (codes : List MachBufferFinalized) (names : duplicate_of members ≡ None) (emitted : AreEmitted members codes) where
  misplaced : (n : ℕ) (name : ExternalName) (cause : PlaceCause) → slice_get (names_of members) n ≡ Some name → misplaced_member base codes ≡ Some (record { member = n; cause = cause }) → HasNoImage base members (place_error cause name)
  misplaced n name EmptyMember named first = record { codes = codes; names = names; emitted = emitted; member = n; named = named; first = first }
  misplaced n name TooLong named first = record { codes = codes; names = names; emitted = emitted; member = n; named = named; first = first }
  misplaced n name AddressTooHigh named first = record { codes = codes; names = names; emitted = emitted; member = n; named = named; first = first }

  -- the causes by a member's name, where one has it
  caused : (o : Option ExternalName) (error : JoinError) (e : BundleError) → member_in_error members error ≡ o → named_error o error ≡ Some e → HasNoBundle base members codes error → HasNoImage base members e
  caused (Some name) (MisplacedMember n cause) e named is has = let same : place_error cause name ≡ e = cc in subst (λ x. HasNoImage base members x) same (misplaced n name cause named has)
  caused (Some name) (UnlinkedMember n error) e named is has =
      let same : LinkRefused name error ≡ e = cc in
      subst (λ x. HasNoImage base members x) same (record { codes = codes; names = names; emitted = emitted; placed = has.0; member = n; named = named; first = has.1 })
  caused None (MisplacedMember n cause) e named is has = absurd (cc)
  caused None (UnlinkedMember n error) e named is has = absurd (cc)
  caused (Some name) JoinNoMemory e named is has = let same : NoMemory ≡ e = cc in subst (λ x. HasNoImage base members x) same tt
  caused None JoinNoMemory e named is has = let same : NoMemory ≡ e = cc in subst (λ x. HasNoImage base members x) same tt

  pub image_refused : (error : JoinError) (e : BundleError) → named_error (member_in_error members error) error ≡ Some e → HasNoBundle base members codes error → HasNoImage base members e
  image_refused error e is has = caused (member_in_error members error) error e refl is has

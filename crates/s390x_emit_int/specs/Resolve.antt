-- The bytes of fragments, once each label has its offset.
use Rattle.std.specs.Prelude.{ℕ, ◌+◌, ◌≤◌, List, [], ◌∷◌, ◌++◌, length}
use Rattle.s390x_buffer.specs.Patch.{patch, patch_size}
use Rattle.s390x_buffer.specs.declared.entries.LabelFixup.{LabelFixup}
use Rattle.s390x_buffer.specs.declared.label_use.LabelUse.TheVariants.{BranchRIL}
use Rattle.s390x_emit_int.specs.Fragments.{Fragment, Put, PutTrapping, PutReloc, Link, LinkConstant}

-- the bytes that fragments put from an offset on, each use patched to where its label stands; so many blocks have labels before the constants
abbrev pub resolve : (blocks : ℕ) → (ℕ → ℕ) → ℕ → List Fragment → List ℕ
resolve blocks off p [] = []
resolve blocks off p (Put bs ∷ ps) = bs ++ resolve blocks off (p + length bs) ps
resolve blocks off p (PutReloc bs byte kind name addend ∷ ps) = bs ++ resolve blocks off (p + length bs) ps
resolve blocks off p (PutTrapping bs byte code ∷ ps) = bs ++ resolve blocks off (p + length bs) ps
resolve blocks off p (Link kind l bs ∷ ps) = patch kind 0 p (off l) bs ++ resolve blocks off (p + length bs) ps
resolve blocks off p (LinkConstant c bs ∷ ps) = patch BranchRIL 0 p (off (blocks + c)) bs ++ resolve blocks off (p + length bs) ps
resolve blocks off p (_ ∷ ps) = resolve blocks off p ps

-- how many bytes they put
abbrev pub put_length : List Fragment → ℕ
put_length [] = 0
put_length (Put bs ∷ ps) = length bs + put_length ps
put_length (PutReloc bs byte kind name addend ∷ ps) = length bs + put_length ps
put_length (PutTrapping bs byte code ∷ ps) = length bs + put_length ps
put_length (Link kind l bs ∷ ps) = length bs + put_length ps
put_length (LinkConstant c bs ∷ ps) = length bs + put_length ps
put_length (_ ∷ ps) = put_length ps

-- each use has its bytes
abbrev pub Wide : List Fragment → Type 0
Wide [] = Unit {0}
Wide (Link kind l bs ∷ ps) = (patch_size kind ≤ length bs) × Wide ps
Wide (LinkConstant c bs ∷ ps) = (patch_size BranchRIL ≤ length bs) × Wide ps
Wide (_ ∷ ps) = Wide ps

-- the uses lie in so many bytes
abbrev pub UsesWithin : ℕ → List LabelFixup → Type 0
UsesWithin n [] = Unit {0}
UsesWithin n (u ∷ us) = (u.offset + patch_size u.kind ≤ n) × UsesWithin n us

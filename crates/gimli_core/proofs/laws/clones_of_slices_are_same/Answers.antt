use Rattle.std.proofs.Common.{◌≡◌, refl}
use Rattle.gimli_core.specs.declared.endian_slice.EndianSlice.{EndianSlice}
use Rattle.gimli_core.proofs.laws.clones_of_slices_are_same.Goals as goal

module _ {E : Type 0} where
  -- a reader of these parts
  abbrev rebuilt : EndianSlice E → EndianSlice E
  rebuilt s = record { slice = s.slice; endian = s.endian }

  joined : (x y : EndianSlice E) → (y.slice ≡ x.slice) × (y.endian ≡ x.endian) → y ≡ x
  joined x y p = let same : rebuilt y ≡ rebuilt x = rw (p.0, p.1) refl in same

pub returns : goal.returns
returns g c orders x =
    ((tt, (orders x.endian).0), λ y parts. joined x y (parts.0, (orders x.endian).1 y.endian parts.1))

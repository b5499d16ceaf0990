use Rattle.std.specs.Prelude.{◌≡◌}
use Rattle.gimli_line.proofs
use proofs.Common.{refl, unsigned_Decides, FileEntry}
use proofs.Equality.{both, whole}
use proofs.laws.equal_files_are_same.Goals as goal

module _ {R Offset Endian : Type 0} where
  -- a file of these parts
  abbrev rebuilt : FileEntry R Offset Endian → FileEntry R Offset Endian
  rebuilt f = record {
    path_name = f.path_name;
    directory_index = f.directory_index;
    timestamp = f.timestamp;
    size = f.size;
    md5 = f.md5;
    source = f.source;
  }

  joined : (x y : FileEntry R Offset Endian)
      → (x.path_name ≡ y.path_name)
      × ((x.directory_index ≡ y.directory_index)
      × ((x.timestamp ≡ y.timestamp) × ((x.size ≡ y.size) × ((x.md5 ≡ y.md5) × (x.source ≡ y.source)))))
      → x ≡ y
  joined x y p = let same : rebuilt x ≡ rebuilt y = cc in same

  parted : (x y : FileEntry R Offset Endian) → x ≡ y
      → (x.path_name ≡ y.path_name)
      × ((x.directory_index ≡ y.directory_index)
      × ((x.timestamp ≡ y.timestamp) × ((x.size ≡ y.size) × ((x.md5 ≡ y.md5) × (x.source ≡ y.source)))))
  parted x y e = rw e (refl, (refl, (refl, (refl, (refl, refl)))))

pub returns : goal.returns
returns g c readers offsets x y =
    let path = c.equal_values_are_same.ensures readers offsets x.path_name y.path_name in
    let source = c.equal_sources_are_same.ensures readers offsets x.source y.source in
    let md5 = c.equal_digests_are_same.ensures x.md5 y.md5 in
    whole
    (both path (both (unsigned_Decides _ _)
    (both (unsigned_Decides _ _) (both (unsigned_Decides _ _) (both md5 source)))))
    (joined x y) (parted x y)

use Rattle.std.specs.Prelude.{◌≡◌}
use Rattle.gimli_line.proofs
use proofs.Common
use Common.{Bool, List, Seen, Option, Some, None, ℕ, refl, ap, option_map, unsigned_Decides, Value, value_by}
use Common.{AttributeValue}
use Common.{File, FileOrders, file_by, FileEntry}
use proofs.Equality.{both, whole, zipped}
use proofs.laws.equal_files_look_same.Goals as goal

-- a file as it is seen, of its parts as they are seen
abbrev seen_of : Value × Option Bool → ℕ → ℕ → ℕ → List ℕ → Option (Value × Option Bool) → File × FileOrders
seen_of path directory time size md5 source = (
  record {
    path_name = path.0;
    directory_index = directory;
    timestamp = time;
    size = size;
    md5 = md5;
    source = option_map (λ v. v.0) source;
  },
  (path.1, option_map (λ v. v.1) source),
)

same : (p q : Value × Option Bool) → p ≡ q → (a b : ℕ) → a ≡ b → (c d : ℕ) → c ≡ d → (e f : ℕ) → e ≡ f
    → (m n : List ℕ) → m ≡ n → (s t : Option (Value × Option Bool)) → s ≡ t → seen_of p a c e m s ≡ seen_of q b d f n t
same p q e1 a b e2 c d e3 e f e4 m n e5 s t e6 = rw (e1, e2, e3, e4, e5, e6) refl

module _ {R Offset Endian : Type 0} (seen : R → Seen) (number : Offset → ℕ) where
  abbrev by : AttributeValue R Offset Endian → Value × Option Bool
  by = value_by seen number

  abbrev SameParts : (x y : FileEntry R Offset Endian) → Type 0
  SameParts x y = (by x.path_name ≡ by y.path_name)
      × ((x.directory_index ≡ y.directory_index)
      × ((x.timestamp ≡ y.timestamp)
      × ((x.size ≡ y.size) × ((x.md5 ≡ y.md5) × (option_map by x.source ≡ option_map by y.source)))))

  rebuilt : (f : FileEntry R Offset Endian) (s : Option (AttributeValue R Offset Endian)) → f.source ≡ s
      → seen_of (by f.path_name) f.directory_index f.timestamp f.size f.md5 (option_map by s)
      ≡ file_by seen number f
  rebuilt f (Some v) e = rw e refl
  rebuilt f None e = rw e refl

  joined : (x y : FileEntry R Offset Endian) → SameParts x y
      → file_by seen number x ≡ file_by seen number y
  joined x y p = rw (← rebuilt x x.source refl, ← rebuilt y y.source refl)
      (same _ _ p.0 _ _ p.1.0 _ _
      p.1.1.0 _ _ p.1.1.1.0 _ _
      p.1.1.1.1.0 _ _ p.1.1.1.1.1)

  sources : (s : Option (AttributeValue R Offset Endian))
      → zipped (option_map (λ v. (by v).0) s) (option_map (λ v. (by v).1) s) ≡ option_map by s
  sources (Some v) = refl
  sources None = refl

  parted : (x y : FileEntry R Offset Endian) → file_by seen number x ≡ file_by seen number y
      → SameParts x y
  parted x y e =
      let source : zipped (file_by seen number x).0.source (file_by seen number x).1.1
      ≡ zipped (file_by seen number y).0.source (file_by seen number y).1.1 = ap
      (λ z. zipped z.0.source z.1.1) e in (
        ap (λ z. (z.0.path_name, z.1.0)) e,
        (
          ap (λ z. z.0.directory_index) e,
          (
            ap (λ z. z.0.timestamp) e,
            (
              ap (λ z. z.0.size) e,
              (ap (λ z. z.0.md5) e, rw (← sources x.source, ← sources y.source) source),
            ),
          ),
        ),
      )

pub returns : goal.returns
returns g c readers offsets x y =
    let path = c.equal_values_look_same.ensures readers offsets x.path_name y.path_name in
    let source = c.equal_sources_look_same.ensures readers offsets x.source y.source in
    let md5 = c.equal_digests_are_same.ensures x.md5 y.md5 in
    whole
    (both path (both (unsigned_Decides x.directory_index y.directory_index)
    (both (unsigned_Decides x.timestamp y.timestamp) (both (unsigned_Decides x.size y.size) (both md5 source)))))
    (joined _ _ x y) (parted _ _ x y)

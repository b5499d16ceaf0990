-- A file that is read by its parts has the sections that it has as a whole.
use Rattle.std.proofs.Common.{◌≡◌, refl, ◌∙◌, ap, ℕ, zero, suc, ◌+◌, ◌-◌, ◌*◌, ◌≤◌, min, List, [], ◌∷◌, map, length}
use Rattle.std.proofs.Common.{take, drop, Bool, not, if◌then◌else◌}
use Rattle.std.proofs.Common.{nat_eq, nat_lt, Result, Ok, Err, length-take, arith}
use Rattle.std.proofs.lemmas.Bool.Decides.{nat_tests}
use Rattle.std.proofs.lemmas.List.{get_or-take, drop-take, take-take}
use Rattle.std.specs.List.{range_with_len, starts_with}
use Rattle.gimli_core.specs.Numbers.{value_of}
use Rattle.gimli_core.specs.Order.{is_big_endian}
use Rattle.elf_sections.specs.Steps.{◌>>=◌}
use Rattle.elf_sections.specs.Layout.{address_size, number_at, magic, class_of, order_of, layout_at}
use Rattle.elf_sections.specs.Header.{header_size, header_fields, header_at}
use Rattle.elf_sections.specs.SectionHeader.{section_header_size, section_header}
use Rattle.elf_sections.specs.Table.{section_headers}
use Rattle.elf_sections.specs.declared.error.ElfError.{ElfError}
use Rattle.elf_sections.specs.declared.error.ElfError.TheVariants.{NotElf, HeaderCut, Version}
use Rattle.elf_sections.specs.declared.layout.Layout.{Layout}
use Rattle.elf_sections.specs.declared.layout.Class.{Class}
use Rattle.elf_sections.specs.declared.layout.Class.TheVariants.{Elf32, Elf64}

-- ---- numbers in the part that is read

same_part : (offset size n : ℕ) (bytes : List ℕ) → offset + size ≤ n
    → take size (drop offset (take n bytes)) ≡ take size (drop offset bytes)
same_part offset size n bytes h =
    let split : n ≡ offset + (n - offset) = omega arith in
    ap (λ m. take size (drop offset (take m bytes))) split
    ∙ ap (take size) (drop-take offset (n - offset) bytes)
    ∙ take-take size (n - offset) (drop offset bytes) (omega arith)

pub number_in : (layout : Layout) (size offset n : ℕ) (bytes : List ℕ) → offset + size ≤ n
    → number_at layout size offset (take n bytes) ≡ number_at layout size offset bytes
number_in layout size offset n bytes h = ap (value_of (is_big_endian layout.order)) (same_part offset size n bytes h)

-- ---- the header

fields_in : (layout : Layout) (n : ℕ) (bytes : List ℕ) → header_size layout.class ≤ n
    → header_fields layout (take n bytes) ≡ header_fields layout bytes
fields_in layout n bytes h =
    let a : ℕ = address_size layout.class in
    let p = number_in layout 2 16 n bytes (omega arith) in
    let m = number_in layout 2 18 n bytes (omega arith) in
    let q = number_in layout a (24 + 2 * a) n bytes (omega arith) in
    let r = number_in layout 2 (34 + 3 * a) n bytes (omega arith) in
    let s = number_in layout 2 (36 + 3 * a) n bytes (omega arith) in
    let t = number_in layout 2 (38 + 3 * a) n bytes (omega arith) in
    λ i. record { kind = p i; machine = m i; table_offset = q i; entry_size = r i; count = s i; names_index = t i }

shorter : (n k : ℕ) (bytes : List ℕ) → k ≤ n → nat_lt (length (take n bytes)) k ≡ nat_lt (length bytes) k
shorter n k bytes h =
    let size = length-take n bytes in
    let same : nat_lt (min n (length bytes)) k ≡ nat_lt (length bytes) k = grind (arith, nat_tests) in
    ap (λ m. nat_lt m k) size ∙ same

starts_in : (bytes : List ℕ) → starts_with nat_eq (take 64 bytes) magic ≡ starts_with nat_eq bytes magic
starts_in [] = refl
starts_in (a ∷ []) = refl
starts_in (a ∷ b ∷ []) = refl
starts_in (a ∷ b ∷ c ∷ []) = refl
starts_in (a ∷ b ∷ c ∷ d ∷ bytes) = refl

-- `layout_at`, by what it asks
abbrev layout_by : Bool → Bool → ℕ → ℕ → ℕ → Result Layout ElfError
layout_by is_magic is_short class order version =
    if not is_magic then Err NotElf
    else (if is_short then Err HeaderCut
    else (class_of class >>= λ c.
    order_of order >>= λ o.
    if nat_eq version 1 then Ok (record { class = c; order = o })
    else Err (Version version)))

pub layout_in : (bytes : List ℕ) → layout_at (take 64 bytes) ≡ layout_at bytes
layout_in bytes =
    let p = starts_in bytes in
    let q = shorter 64 16 bytes (omega arith) in
    let r = get_or-take 64 bytes 4 0 (omega arith) in
    let s = get_or-take 64 bytes 5 0 (omega arith) in
    let t = get_or-take 64 bytes 6 0 (omega arith) in
    λ i. layout_by (p i) (q i) (r i) (s i) (t i)

size_fits : (class : Class) → header_size class ≤ 64
size_fits Elf32 = omega arith
size_fits Elf64 = omega arith

pub header_in : (layout : Layout) (bytes : List ℕ) → header_at layout (take 64 bytes) ≡ header_at layout bytes
header_in layout bytes =
    let fits = size_fits layout.class in
    let p = shorter 64 (header_size layout.class) bytes fits in
    let q = fields_in layout 64 bytes fits in
    λ i. if p i then Err HeaderCut else Ok (q i)

-- ---- section headers

pub entry_in : (layout : Layout) (n : ℕ) (bytes : List ℕ) → section_header_size layout.class ≤ n
    → section_header layout (take n bytes) ≡ section_header layout bytes
entry_in layout n bytes h =
    let a : ℕ = address_size layout.class in
    let p = number_in layout 4 0 n bytes (omega arith) in
    let q = number_in layout 4 4 n bytes (omega arith) in
    let r = number_in layout a 8 n bytes (omega arith) in
    let s = number_in layout a (8 + a) n bytes (omega arith) in
    let t = number_in layout a (8 + 2 * a) n bytes (omega arith) in
    let u = number_in layout a (8 + 3 * a) n bytes (omega arith) in
    let v = number_in layout 4 (8 + 4 * a) n bytes (omega arith) in
    let w = number_in layout 4 (12 + 4 * a) n bytes (omega arith) in
    let x = number_in layout a (16 + 5 * a) n bytes (omega arith) in
    λ i.
    record {
      name = p i;
      kind = q i;
      flags = r i;
      address = s i;
      offset = t i;
      size = u i;
      link = v i;
      info = w i;
      entry_size = x i;
    }

-- each of so many headers, by the part that holds them
headers_from : (layout : Layout) (entry_size count index most : ℕ) (bytes : List ℕ)
    → section_header_size layout.class ≤ entry_size
    → index + count ≤ most
    → map (λ k. section_header layout (drop (k * entry_size) (take (most * entry_size) bytes)))
    (range_with_len index count)
    ≡ map (λ k. section_header layout (drop (k * entry_size) bytes)) (range_with_len index count)
headers_from layout entry_size zero index most bytes wide h = refl
headers_from layout entry_size (suc count) index most bytes wide h =
    let rest : ℕ = (most - index) * entry_size in
    let split : most * entry_size ≡ index * entry_size + rest = split_product most index entry_size (omega arith) in
    let enough : entry_size ≤ rest = at_least (most - index) entry_size (omega arith) in
    let here = ap (λ m. section_header layout (drop (index * entry_size) (take m bytes))) split
    ∙ ap (section_header layout) (drop-take (index * entry_size) rest bytes)
    ∙ entry_in layout rest (drop (index * entry_size) bytes) (omega arith) in
    let later = headers_from layout entry_size count (index + 1) most bytes wide (omega arith) in
    λ i. here i ∷ later i
  where
    split_product : (n k m : ℕ) → k ≤ n → n * m ≡ k * m + (n - k) * m
    split_product n k m h =
        let e : n ≡ k + (n - k) = omega arith in
        ap (λ x. x * m) e ∙ (let f : (k + (n - k)) * m ≡ k * m + (n - k) * m = omega arith in f)

    at_least : (n m : ℕ) → 1 ≤ n → m ≤ n * m
    at_least zero m h = absurd (omega arith)
    at_least (suc n) m h = omega arith

pub headers_in : (layout : Layout) (entry_size count : ℕ) (bytes : List ℕ)
    → section_header_size layout.class ≤ entry_size
    → section_headers layout entry_size count (take (count * entry_size) bytes)
    ≡ section_headers layout entry_size count bytes
headers_in layout entry_size count bytes wide = headers_from layout entry_size count 0 count bytes wide (omega arith)

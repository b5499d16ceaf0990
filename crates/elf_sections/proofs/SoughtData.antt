-- The data of a section of a file that is read by its parts are those that it has as a whole.
use Rattle.std.proofs.Common.{◌≡◌, ◌≢◌, refl, sym, ◌∙◌, ap, ℕ, ◌+◌, List, [], length, true, false, Bool, if◌then◌else◌}
use Rattle.std.proofs.Common.{nat_eq, nat_lt, Option, Some, None}
use Rattle.std.proofs.Common.{Result, Ok, Err}
use Rattle.std.specs.Prelude.{IfOk, IfErr}
use Rattle.std.specs.List.{slice_range}
use Rattle.elf_sections.specs.Steps.{◌>>=◌}
use Rattle.elf_sections.specs.Gives.{Gives}
use Rattle.elf_sections.specs.Layout.{layout_at}
use Rattle.elf_sections.specs.SectionHeader.{has_flag, stored_bytes, section_bytes}
use Rattle.elf_sections.specs.Compression.{uncompressed, uncompressed_old, data_of, has_old_name, old_name}
use Rattle.elf_sections.specs.File.{File, file_at, some_of, section_named, old_data_in, data_or_old, section_data_at}
use Rattle.elf_sections.specs.FileRange.{bytes_at, nowhere, range_in, or_refused, stored_range, header_range}
use Rattle.elf_sections.specs.Seeking.{Listed, listed, listed_of}
use Rattle.elf_sections.specs.Stored.{stored_at, stored_form, old_stored, stored_or_old, stored_named, data_by}
use Rattle.elf_sections.specs.Stored.{data_there, data_at, data_in}
use Rattle.elf_sections.specs.declared.error.ElfError.{ElfError}
use Rattle.elf_sections.specs.declared.error.ElfError.TheVariants.{SectionCut, OutOfMemory}
use Rattle.elf_sections.specs.declared.file_range.FileRange.{FileRange}
use Rattle.elf_sections.specs.declared.layout.Layout.{Layout}
use Rattle.elf_sections.specs.declared.section_header.SectionHeader.{SectionHeader}
use Rattle.elf_sections.specs.declared.stored.StoredForm.{StoredForm}
use Rattle.elf_sections.specs.declared.stored.StoredForm.TheVariants.{Plain, Compressed, Old}
use Rattle.elf_sections.specs.declared.stored.StoredSection.{StoredSection}
use Rattle.elf_sections.proofs.SoughtFiles.{Keeps, kept_layout, header_found, sought_is_whole}

-- ---- one section

-- the bytes of a section, as they are stored
stored_found : (bytes : List ℕ) (header : SectionHeader)
    → (stored_range (length bytes) header >>= λ range. Ok (bytes_at bytes range)) ≡ stored_bytes bytes header
stored_found bytes header =
    elim (nat_eq header.kind 8) as (λ b.
    ((if b then Ok nowhere
    else or_refused SectionCut (range_in header.offset header.size (length bytes))) >>= λ range.
    Ok (bytes_at bytes range))
    ≡ (if b then Ok []
    else (if nat_lt (length bytes) (header.offset + header.size) then Err SectionCut
    else Ok (slice_range bytes header.offset (header.offset + header.size))))) [
      | true ↦ refl
      | false ↦ elim (nat_lt (length bytes) (header.offset + header.size)) as (λ b.
          (or_refused SectionCut (if b then None else Some (record { offset = header.offset; size = header.size }))
          >>= λ range. Ok (bytes_at bytes range))
          ≡ (if b then Err SectionCut else Ok (slice_range bytes header.offset (header.offset + header.size))))
          [ true ↦ refl | false ↦ refl ]
    ]

-- what is found at a range, in a form
by_form : (bytes : List ℕ) (layout : Layout) (form : StoredForm) (limit : ℕ) (range : Result FileRange ElfError)
    → data_at limit bytes (stored_at layout form range)
    ≡ some_of ((range >>= λ r. Ok (bytes_at bytes r)) >>= data_by layout form limit)
by_form bytes layout form limit (Ok range) = refl
by_form bytes layout form limit (Err e) = refl

by_flag : (layout : Layout) (limit : ℕ) (b : Bool) (r : Result (List ℕ) ElfError)
    → (r >>= data_by layout (if b then Compressed else Plain) limit)
    ≡ (r >>= λ bytes. if b then uncompressed limit layout bytes else Ok bytes)
by_flag layout limit true (Ok bytes) = refl
by_flag layout limit true (Err e) = refl
by_flag layout limit false (Ok bytes) = refl
by_flag layout limit false (Err e) = refl

plain_found : (bytes : List ℕ) (layout : Layout) (limit : ℕ) (header : SectionHeader)
    → data_at limit bytes (stored_at layout (stored_form header) (stored_range (length bytes) header))
    ≡ some_of (data_of limit layout bytes header)
plain_found bytes layout limit header =
    by_form bytes layout (stored_form header) limit (stored_range (length bytes) header)
    ∙ ap (λ (r : Result (List ℕ) ElfError). some_of (r >>= data_by layout (stored_form header) limit))
    (stored_found bytes header)
    ∙ ap some_of (by_flag layout limit (has_flag header 0x800) (stored_bytes bytes header))

by_old : (layout : Layout) (limit : ℕ) (r : Result (List ℕ) ElfError)
    → (r >>= data_by layout Old limit) ≡ (r >>= uncompressed_old limit)
by_old layout limit (Ok bytes) = refl
by_old layout limit (Err e) = refl

old_found : (bytes : List ℕ) (list : Listed) (limit : ℕ) (found : Option SectionHeader) → list.length ≡ length bytes
    → data_at limit bytes (old_stored list found) ≡ old_data_in limit bytes found
old_found bytes list limit None size = refl
old_found bytes list limit (Some header) size =
    ap (λ n. data_at limit bytes (stored_at list.layout Old (header_range n header))) size
    ∙ by_form bytes list.layout Old limit (header_range (length bytes) header)
    ∙ ap (λ (r : Result (List ℕ) ElfError). some_of (r >>= data_by list.layout Old limit)) (header_found bytes header)
    ∙ ap some_of (by_old list.layout limit (section_bytes bytes header))

-- ---- a file

data_found : (file : File) (limit : ℕ) (name : List ℕ) (found : Option SectionHeader)
    → data_at limit file.bytes (stored_or_old (listed_of file) name found) ≡ data_or_old file limit name found
data_found file limit name (Some header) = plain_found file.bytes file.layout limit header
data_found file limit name None =
    elim (has_old_name name) as (λ b.
    data_at limit file.bytes (if b then old_stored (listed_of file) (section_named file (old_name name)) else Ok None)
    ≡ (if b then old_data_in limit file.bytes (section_named file (old_name name)) else Ok None)) [
      | true ↦ old_found file.bytes (listed_of file) limit (section_named file (old_name name)) refl
      | false ↦ refl
    ]

by_file : (bytes name : List ℕ) (limit : ℕ) (list : Listed) (r : Result File ElfError) → Keeps bytes r
    → (r >>= λ file. Ok (listed_of file)) ≡ Ok list
    → (r >>= λ file. section_data_at file limit name) ≡ data_at limit bytes (stored_named list name)
by_file bytes name limit list (Err e) kept is = absurd (cc)
by_file bytes name limit list (Ok file) kept is =
    let same : listed_of file ≡ list = cc in
    sym (data_found file limit name (section_named file name))
    ∙ ap (λ (l : Listed). data_at limit file.bytes (stored_named l name)) same
    ∙ ap (λ b. data_at limit b (stored_named list name)) kept

sought_data : (bytes name : List ℕ) (limit : ℕ) (list : Listed) → listed bytes ≡ Ok list
    → data_in bytes limit name ≡ data_at limit bytes (stored_named list name)
sought_data bytes name limit list is =
    by_file bytes name limit list (file_at bytes) (kept_layout bytes (layout_at bytes))
    (sym (sought_is_whole bytes) ∙ is)

-- ---- what the calls answer

pub found_data : (list : Listed) (name bytes : List ℕ) (limit : ℕ) (r : Result (Option StoredSection) ElfError)
    → Gives (λ found. found) r (stored_named list name) → listed bytes ≡ Ok list
    → IfOk r (λ found. data_in bytes limit name ≡ data_there limit bytes found)
found_data list name bytes limit (Ok found) gives is =
    sought_data bytes name limit list is ∙ ap (data_at limit bytes) gives
found_data list name bytes limit (Err e) gives is = tt

pub refused_data : (list : Listed) (name bytes : List ℕ) (limit : ℕ) (r : Result (Option StoredSection) ElfError)
    → Gives (λ found. found) r (stored_named list name) → listed bytes ≡ Ok list
    → IfErr r (λ e. e ≢ OutOfMemory → data_in bytes limit name ≡ Err e)
refused_data list name bytes limit (Ok found) gives is = tt
refused_data list name bytes limit (Err e) gives is =
    λ other. sought_data bytes name limit list is ∙ ap (data_at limit bytes) (gives other)

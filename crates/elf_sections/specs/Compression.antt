-- Compressed sections (System V ABI, chapter 4, "Section Compression"), and the form that GNU's
-- tools had before.
use Rattle.std.specs.Prelude.{ℕ, ◌+◌, ◌-◌, ◌*◌, ◌/◌, ◌^◌, min, List, ◌++◌, length, take, drop}
use Rattle.std.specs.Prelude.{codes, nat_eq, nat_lt, not, true, Bool, if◌then◌else◌, Result, Ok}
use Rattle.std.specs.Prelude.{Err}
use Rattle.std.specs.List.{starts_with}
use Rattle.inflate.specs.declared.error.Error.{Error}
use Rattle.inflate.specs.declared.error.Error.TheVariants.{OutputSmaller}
use Rattle.inflate.specs.Zlib.{decompressed}
use Rattle.gimli_core.specs.Numbers.{value_of}
use Rattle.elf_sections.specs.ElfNumbers.{SHF_COMPRESSED, ELFCOMPRESS_ZLIB, ELFCOMPRESS_ZSTD}
use Rattle.elf_sections.specs.Steps.{◌>>=◌}
use Rattle.elf_sections.specs.Fault.{fault_of}
use Rattle.elf_sections.specs.Layout.{address_size, number_at}
use Rattle.elf_sections.specs.SectionHeader.{has_flag, stored_bytes, section_bytes}
use Rattle.elf_sections.specs.declared.error.ElfError.{ElfError}
use Rattle.elf_sections.specs.declared.error.ElfError.TheVariants.{
  CompressionHeaderCut,
  UnknownCompression,
  Zstd,
  NotZlib,
  SectionTooLarge,
  Decompression,
}
use Rattle.elf_sections.specs.declared.layout.Layout.{Layout}
use Rattle.elf_sections.specs.declared.section_header.SectionHeader.{SectionHeader}

-- a limit for what a section of a file of so many bytes holds, in bytes: 256 times as many, and
-- 64 MiB more. No size is above the greatest number of 64 bits
abbrev pub usual_limit : ℕ → ℕ
usual_limit file_size = min (256 * file_size + 64 * 2 ^ 20) (2 ^ 64 - 1)

-- the bytes of a stream, or its fault as a file's
abbrev pub bytes_or_fault : Result (List ℕ) Error → Result (List ℕ) ElfError
bytes_or_fault (Ok bytes) = Ok bytes
bytes_or_fault (Err fault) = Err (fault_of fault)

-- what a stream in the zlib format holds, if that is so many bytes, and no more than the limit. A
-- byte of it makes at most 1032: two bits may copy 258 bytes (RFC 1951, section 3.2.5). So it is
-- shorter than a size that is greater than that
abbrev pub stream_bytes : ℕ → ℕ → List ℕ → Result (List ℕ) ElfError
stream_bytes limit size stream =
    if nat_lt limit size then Err (SectionTooLarge size)
    else (if nat_lt (length stream) (size / 1032) then Err (Decompression OutputSmaller)
    else bytes_or_fault (decompressed size stream))

-- a way of compression (ch_type) that is undone here
abbrev pub zlib_kind : ℕ → Result (Unit {0}) ElfError
zlib_kind kind =
    if nat_eq kind ELFCOMPRESS_ZLIB then Ok tt
    else (if nat_eq kind ELFCOMPRESS_ZSTD then Err Zstd else Err (UnknownCompression kind))

-- what a compressed section holds. Its header has three fields of an address's size: ch_type,
-- ch_size, which is the size of what it holds, and ch_addralign; of 64 bits, ch_reserved takes half
-- of the first
abbrev pub uncompressed : ℕ → Layout → List ℕ → Result (List ℕ) ElfError
uncompressed limit layout bytes =
    if nat_lt (length bytes) (3 * address_size layout.class) then Err CompressionHeaderCut
    else (zlib_kind (number_at layout 4 0 bytes) >>= λ _.
    stream_bytes limit
    (number_at layout (address_size layout.class) (address_size layout.class) bytes)
    (drop (3 * address_size layout.class) bytes))

-- the data of a section; the limit is for what is compressed
abbrev pub data_of : ℕ → Layout → List ℕ → SectionHeader → Result (List ℕ) ElfError
data_of limit layout file header =
    stored_bytes file header >>= λ bytes.
    if has_flag header SHF_COMPRESSED then uncompressed limit layout bytes else Ok bytes

-- what a section of the older form holds: after ZLIB stands the size of that, in 8 bytes of which
-- the most significant comes first, whatever the file's order is
abbrev pub uncompressed_old : ℕ → List ℕ → Result (List ℕ) ElfError
uncompressed_old limit bytes =
    if nat_lt (length bytes) 12 then Err CompressionHeaderCut
    else (if not (starts_with nat_eq bytes (codes "ZLIB")) then Err NotZlib
    else stream_bytes limit (value_of true (take 8 (drop 4 bytes))) (drop 12 bytes))

-- the data of a section of the older form
abbrev pub old_data_of : ℕ → List ℕ → SectionHeader → Result (List ℕ) ElfError
old_data_of limit file header = section_bytes file header >>= uncompressed_old limit

-- whether the sections of a name have an older form: .debug_line is .zdebug_line in it
abbrev pub has_old_name : List ℕ → Bool
has_old_name name = starts_with nat_eq name (codes ".debug_")

abbrev pub old_name : List ℕ → List ℕ
old_name name = codes ".z" ++ drop 1 name

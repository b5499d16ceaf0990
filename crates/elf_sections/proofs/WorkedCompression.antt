-- Worked compressed sections: what the definitions say that they hold.
use Rattle.std.proofs.Common.{◌≡◌, ℕ, List, [], ◌∷◌, ◌++◌, Option, Some, None, Result, Ok, Err, take, drop, length}
use Rattle.std.proofs.Common.{refl}
use Rattle.std.specs.Prelude.{codes, replicate, slice_set}
use Rattle.inflate.specs.Bits.{bits_of, bits, number_of}
use Rattle.inflate.specs.Blocks.{blocks_at, block_at, stored_at, bytes_at}
use Rattle.inflate.specs.Output.{put}
use Rattle.inflate.specs.Zlib.{decompressed, header_at, checked, sum_at, adler, sum_of_sums}
use Rattle.inflate.specs.declared.error.Error.TheVariants.{OutputSmaller, HeaderCheck}
use Rattle.elf_sections.specs.Steps.{◌>>=◌}
use Rattle.elf_sections.specs.File.{file_at, section_data_at}
use Rattle.elf_sections.specs.declared.error.ElfError.{ElfError}
use Rattle.elf_sections.specs.declared.error.ElfError.TheVariants.{Compressed, CompressionHeaderCut, UnknownCompression}
use Rattle.elf_sections.specs.declared.error.ElfError.TheVariants.{Zstd, NotZlib, SectionTooLarge}
use Rattle.elf_sections.specs.declared.error.ElfError.TheVariants.{Decompression}
use Rattle.elf_sections.proofs.Worked.{file_32}

-- the data of a section of a file, up to a limit
abbrev data_of : ℕ → List ℕ → List ℕ → Result (Option (List ℕ)) ElfError
data_of limit bytes name = file_at bytes >>= λ file. section_data_at file limit name

-- the file of 336 bytes, with these after it as its section .debug_line, under these flags (the second byte)
abbrev with_section : ℕ → List ℕ → List ℕ
with_section flags bytes =
    slice_set (slice_set (slice_set (slice_set file_32 0xe1 flags) 0xe8 0x50) 0xe9 1) 0xec (length bytes) ++ bytes

-- a header of compression: its type, and the size of what is compressed
abbrev header : ℕ → ℕ → List ℕ
header kind size = kind ∷ 0 ∷ 0 ∷ 0 ∷ size ∷ 0 ∷ 0 ∷ 0 ∷ 1 ∷ 0 ∷ 0 ∷ 0 ∷ []

-- aa bb cc in the zlib format, in one block that isn't compressed
abbrev stream : List ℕ
stream = 0x78 ∷ 1 ∷ 1 ∷ 3 ∷ 0 ∷ 0xfc ∷ 0xff ∷ 0xaa ∷ 0xbb ∷ 0xcc ∷ 4 ∷ 0x43 ∷ 2 ∷ 0x32 ∷ []

-- SHF_COMPRESSED
abbrev compressed : ℕ → List ℕ → Result (Option (List ℕ)) ElfError
compressed limit bytes = data_of limit (with_section 8 bytes) (codes ".debug_line")

-- what isn't compressed has no limit
pub not_compressed : data_of 0 file_32 (codes ".debug_line") ≡ Ok (Some (0xaa ∷ 0xbb ∷ 0xcc ∷ []))
not_compressed = refl

-- as much as the limit
pub whole : compressed 3 (header 1 3 ++ stream) ≡ Ok (Some (0xaa ∷ 0xbb ∷ 0xcc ∷ []))
unfolding decompressed header_at bits_of bits number_of blocks_at block_at stored_at bytes_at put checked sum_at adler
    sum_of_sums
whole = refl

-- one byte more than the limit
pub above_limit : compressed 2 (header 1 3 ++ stream) ≡ Err (SectionTooLarge 3)
above_limit = refl

-- the header says one byte more
pub larger : compressed 4 (header 1 4 ++ stream) ≡ Err (Decompression OutputSmaller)
unfolding decompressed header_at bits_of bits number_of blocks_at block_at stored_at bytes_at put checked sum_at adler
    sum_of_sums
larger = refl

-- the stream begins a byte later
pub no_stream : compressed 3 (header 1 3 ++ 0x78 ∷ stream) ≡ Err (Decompression HeaderCheck)
unfolding decompressed header_at bits_of bits number_of
no_stream = refl

pub header_cut : compressed 0 (take 11 (header 1 3)) ≡ Err CompressionHeaderCut
header_cut = refl

-- what isn't zlib's is refused first
pub zstd : compressed 0 (header 2 3 ++ stream) ≡ Err Zstd
zstd = refl

pub unknown : compressed 0 (header 3 3 ++ stream) ≡ Err (UnknownCompression 3)
unknown = refl

-- the same file, where .debug_line has the name .zdebug_lin
abbrev old : ℕ → ℕ → List ℕ → Result (Option (List ℕ)) ElfError
old limit flags bytes =
    let file = with_section flags bytes in
    data_of limit (take 0x48 file ++ codes ".zdebug_lin" ++ drop 0x53 file) (codes ".debug_lin")

-- its size of eight bytes, the most significant first, though the file's order is the other one
abbrev old_header : List ℕ
old_header = codes "ZLIB" ++ replicate 7 0 ++ 3 ∷ []

pub old_whole : old 3 0 (old_header ++ stream) ≡ Ok (Some (0xaa ∷ 0xbb ∷ 0xcc ∷ []))
unfolding decompressed header_at bits_of bits number_of blocks_at block_at stored_at bytes_at put checked sum_at adler
    sum_of_sums
old_whole = refl

pub old_above_limit : old 2 0 (old_header ++ stream) ≡ Err (SectionTooLarge 3)
old_above_limit = refl

pub old_header_cut : old 0 0 (take 11 old_header) ≡ Err CompressionHeaderCut
old_header_cut = refl

pub old_without_magic : old 0 0 (slice_set old_header 3 0x43 ++ stream) ≡ Err NotZlib
old_without_magic = refl

-- SHF_COMPRESSED has another header
pub old_compressed : old 3 8 (old_header ++ stream) ≡ Err Compressed
old_compressed = refl

-- only names that begin with .debug_ have an older form
pub no_older_form : data_of 0 file_32 (codes ".debug") ≡ Ok None
no_older_form = refl

-- Worked notes, links and checksums: what the definitions say, computed from the bytes.
use Rattle.std.proofs.Common.{◌≡◌, ℕ, List, [], ◌∷◌, ◌++◌, Some, None, take, refl}
use Rattle.std.specs.Prelude.{codes, replicate, slice_set}
use Rattle.gimli_core.specs.declared.endianity.RunTimeEndian.TheVariants.{Little, Big}
use Rattle.elf_sections.specs.Notes.{build_id_in}
use Rattle.elf_sections.specs.DebugFile.{link_in}
use Rattle.elf_sections.specs.Crc.{bit_step, bit_steps, byte_step, crc32}
use Rattle.elf_sections.specs.declared.layout.Layout.{Layout}
use Rattle.elf_sections.specs.declared.layout.Class.TheVariants.{Elf32, Elf64}

abbrev little : Layout
little = record { class = Elf64; order = Little }

abbrev big : Layout
big = record { class = Elf32; order = Big }

-- ---- notes

-- 20 bytes: a name of four bytes, a descriptor of three with one of padding, the type 3
abbrev note : List ℕ
note = 4 ∷ 0 ∷ 0 ∷ 0 ∷ 3 ∷ 0 ∷ 0 ∷ 0 ∷ 3 ∷ 0 ∷ 0 ∷ 0 ∷ codes "GNU" ++ 0 ∷ 0xaa ∷ 0xbb ∷ 0xcc ∷ 0 ∷ []

pub build_id : build_id_in little note ≡ Some (0xaa ∷ 0xbb ∷ 0xcc ∷ [])
build_id = refl

pub build_id_big : build_id_in big
    (0 ∷ 0 ∷ 0 ∷ 4 ∷ 0 ∷ 0 ∷ 0 ∷ 1 ∷ 0 ∷ 0 ∷ 0 ∷ 3 ∷ codes "GNU" ++ 0 ∷ 7 ∷ 0 ∷ 0 ∷ 0 ∷ [])
    ≡ Some (7 ∷ [])
build_id_big = refl

-- a note of another type (NT_GNU_ABI_TAG), and one with another name, come before it
pub third_note : build_id_in little (slice_set note 8 1 ++ slice_set note 13 0x4f ++ note)
    ≡ Some (0xaa ∷ 0xbb ∷ 0xcc ∷ [])
third_note = refl

pub other_type : build_id_in little (slice_set note 8 1) ≡ None
other_type = refl

pub other_name : build_id_in little (slice_set note 13 0x4f) ≡ None
other_name = refl

-- a name of three bytes, without the zero byte
pub shorter_name : build_id_in little (slice_set note 0 3) ≡ None
shorter_name = refl

-- of two, the first
pub first_of_two : build_id_in little (slice_set note 16 0x11 ++ note) ≡ Some (0x11 ∷ 0xbb ∷ 0xcc ∷ [])
first_of_two = refl

-- a note that the section ends within
pub note_cut : build_id_in little (take 19 note) ≡ None
note_cut = refl

pub header_cut : build_id_in little (take 11 note) ≡ None
header_cut = refl

-- what comes after a note that claims 0x100_0004 bytes isn't looked at
pub long_note : build_id_in little (slice_set note 3 1 ++ note) ≡ None
long_note = refl

-- ---- links

pub link : link_in little (codes "a.debug" ++ 0 ∷ 0x26 ∷ 0x39 ∷ 0xf4 ∷ 0xcb ∷ [])
    ≡ Some (record { name = codes "a.debug"; checksum = 0xcbf4_3926 })
link = refl

pub link_big : link_in big (codes "a.debug" ++ 0 ∷ 0xcb ∷ 0xf4 ∷ 0x39 ∷ 0x26 ∷ [])
    ≡ Some (record { name = codes "a.debug"; checksum = 0xcbf4_3926 })
link_big = refl

-- a name of eight bytes: four for the zero byte and the padding
pub link_padded : link_in little (codes "ab.debug" ++ replicate 4 0 ++ 1 ∷ 0 ∷ 0 ∷ 0 ∷ [])
    ≡ Some (record { name = codes "ab.debug"; checksum = 1 })
link_padded = refl

pub link_cut : link_in little (codes "a.debug" ++ 0 ∷ 1 ∷ 0 ∷ 0 ∷ []) ≡ None
link_cut = refl

pub no_end : link_in little (codes "a.debug!") ≡ None
no_end = refl

-- ---- checksums

-- the check value of CRC-32 (CRC-32/ISO-HDLC)
pub check_value : crc32 (codes "123456789") ≡ 0xcbf4_3926
unfolding bit_step bit_steps byte_step
check_value = refl

pub of_nothing : crc32 [] ≡ 0
of_nothing = refl

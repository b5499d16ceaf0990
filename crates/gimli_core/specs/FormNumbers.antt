-- The numbers of the forms that tables of version 5 have (DWARF 5, section 7.5.6, table 7.6), and
-- two that GNU's tools added.
use Rattle.std.specs.Prelude.{ℕ}

abbrev pub DW_FORM_block2 : ℕ
DW_FORM_block2 = 0x03

abbrev pub DW_FORM_block4 : ℕ
DW_FORM_block4 = 0x04

abbrev pub DW_FORM_data2 : ℕ
DW_FORM_data2 = 0x05

abbrev pub DW_FORM_data4 : ℕ
DW_FORM_data4 = 0x06

abbrev pub DW_FORM_data8 : ℕ
DW_FORM_data8 = 0x07

abbrev pub DW_FORM_string : ℕ
DW_FORM_string = 0x08

abbrev pub DW_FORM_block : ℕ
DW_FORM_block = 0x09

abbrev pub DW_FORM_block1 : ℕ
DW_FORM_block1 = 0x0a

abbrev pub DW_FORM_data1 : ℕ
DW_FORM_data1 = 0x0b

abbrev pub DW_FORM_flag : ℕ
DW_FORM_flag = 0x0c

abbrev pub DW_FORM_sdata : ℕ
DW_FORM_sdata = 0x0d

abbrev pub DW_FORM_strp : ℕ
DW_FORM_strp = 0x0e

abbrev pub DW_FORM_udata : ℕ
DW_FORM_udata = 0x0f

abbrev pub DW_FORM_sec_offset : ℕ
DW_FORM_sec_offset = 0x17

abbrev pub DW_FORM_strx : ℕ
DW_FORM_strx = 0x1a

abbrev pub DW_FORM_strp_sup : ℕ
DW_FORM_strp_sup = 0x1d

abbrev pub DW_FORM_data16 : ℕ
DW_FORM_data16 = 0x1e

abbrev pub DW_FORM_line_strp : ℕ
DW_FORM_line_strp = 0x1f

abbrev pub DW_FORM_strx1 : ℕ
DW_FORM_strx1 = 0x25

abbrev pub DW_FORM_strx2 : ℕ
DW_FORM_strx2 = 0x26

abbrev pub DW_FORM_strx3 : ℕ
DW_FORM_strx3 = 0x27

abbrev pub DW_FORM_strx4 : ℕ
DW_FORM_strx4 = 0x28

-- ---- GNU's

abbrev pub DW_FORM_GNU_str_index : ℕ
DW_FORM_GNU_str_index = 0x1f02

abbrev pub DW_FORM_GNU_strp_alt : ℕ
DW_FORM_GNU_strp_alt = 0x1f21

-- The numbers of what stands in the first entry of a unit: of forms that no table of files has
-- (DWARF 5, section 7.5.6, table 7.6), of attributes (section 7.5.4, table 7.5), and of unit types
-- (section 7.5.1, table 7.2).
use Rattle.std.specs.Prelude.{ℕ}

abbrev pub DW_FORM_addr : ℕ
DW_FORM_addr = 0x01

abbrev pub DW_FORM_ref_addr : ℕ
DW_FORM_ref_addr = 0x10

abbrev pub DW_FORM_ref1 : ℕ
DW_FORM_ref1 = 0x11

abbrev pub DW_FORM_ref2 : ℕ
DW_FORM_ref2 = 0x12

abbrev pub DW_FORM_ref4 : ℕ
DW_FORM_ref4 = 0x13

abbrev pub DW_FORM_ref8 : ℕ
DW_FORM_ref8 = 0x14

abbrev pub DW_FORM_ref_udata : ℕ
DW_FORM_ref_udata = 0x15

abbrev pub DW_FORM_indirect : ℕ
DW_FORM_indirect = 0x16

abbrev pub DW_FORM_exprloc : ℕ
DW_FORM_exprloc = 0x18

abbrev pub DW_FORM_flag_present : ℕ
DW_FORM_flag_present = 0x19

abbrev pub DW_FORM_addrx : ℕ
DW_FORM_addrx = 0x1b

abbrev pub DW_FORM_ref_sup4 : ℕ
DW_FORM_ref_sup4 = 0x1c

abbrev pub DW_FORM_ref_sig8 : ℕ
DW_FORM_ref_sig8 = 0x20

abbrev pub DW_FORM_implicit_const : ℕ
DW_FORM_implicit_const = 0x21

abbrev pub DW_FORM_loclistx : ℕ
DW_FORM_loclistx = 0x22

abbrev pub DW_FORM_rnglistx : ℕ
DW_FORM_rnglistx = 0x23

abbrev pub DW_FORM_ref_sup8 : ℕ
DW_FORM_ref_sup8 = 0x24

abbrev pub DW_FORM_addrx1 : ℕ
DW_FORM_addrx1 = 0x29

abbrev pub DW_FORM_addrx2 : ℕ
DW_FORM_addrx2 = 0x2a

abbrev pub DW_FORM_addrx3 : ℕ
DW_FORM_addrx3 = 0x2b

abbrev pub DW_FORM_addrx4 : ℕ
DW_FORM_addrx4 = 0x2c

-- ---- GNU's forms

abbrev pub DW_FORM_GNU_addr_index : ℕ
DW_FORM_GNU_addr_index = 0x1f01

abbrev pub DW_FORM_GNU_ref_alt : ℕ
DW_FORM_GNU_ref_alt = 0x1f20

-- ---- attributes

abbrev pub DW_AT_name : ℕ
DW_AT_name = 0x03

abbrev pub DW_AT_stmt_list : ℕ
DW_AT_stmt_list = 0x10

abbrev pub DW_AT_comp_dir : ℕ
DW_AT_comp_dir = 0x1b

abbrev pub DW_AT_str_offsets_base : ℕ
DW_AT_str_offsets_base = 0x72

-- ---- unit types

abbrev pub DW_UT_compile : ℕ
DW_UT_compile = 0x01

abbrev pub DW_UT_type : ℕ
DW_UT_type = 0x02

abbrev pub DW_UT_skeleton : ℕ
DW_UT_skeleton = 0x04

abbrev pub DW_UT_split_compile : ℕ
DW_UT_split_compile = 0x05

abbrev pub DW_UT_split_type : ℕ
DW_UT_split_type = 0x06

-- The numbers of opcodes and of content types, by the names that DWARF gives them.
use Rattle.gimli_line.specs.Prelude.{ℕ}

-- the standard opcodes (DWARF 5, section 7.22, table 7.25)
abbrev pub DW_LNS_copy : ℕ
DW_LNS_copy = 0x01

abbrev pub DW_LNS_advance_pc : ℕ
DW_LNS_advance_pc = 0x02

abbrev pub DW_LNS_advance_line : ℕ
DW_LNS_advance_line = 0x03

abbrev pub DW_LNS_set_file : ℕ
DW_LNS_set_file = 0x04

abbrev pub DW_LNS_set_column : ℕ
DW_LNS_set_column = 0x05

abbrev pub DW_LNS_negate_stmt : ℕ
DW_LNS_negate_stmt = 0x06

abbrev pub DW_LNS_set_basic_block : ℕ
DW_LNS_set_basic_block = 0x07

abbrev pub DW_LNS_const_add_pc : ℕ
DW_LNS_const_add_pc = 0x08

abbrev pub DW_LNS_fixed_advance_pc : ℕ
DW_LNS_fixed_advance_pc = 0x09

abbrev pub DW_LNS_set_prologue_end : ℕ
DW_LNS_set_prologue_end = 0x0a

abbrev pub DW_LNS_set_epilogue_begin : ℕ
DW_LNS_set_epilogue_begin = 0x0b

abbrev pub DW_LNS_set_isa : ℕ
DW_LNS_set_isa = 0x0c

-- the extended opcodes (table 7.26; DWARF 4, section 7.21, figure 38)
abbrev pub DW_LNE_end_sequence : ℕ
DW_LNE_end_sequence = 0x01

abbrev pub DW_LNE_set_address : ℕ
DW_LNE_set_address = 0x02

abbrev pub DW_LNE_define_file : ℕ
DW_LNE_define_file = 0x03

abbrev pub DW_LNE_set_discriminator : ℕ
DW_LNE_set_discriminator = 0x04

-- content types (table 7.27), and LLVM's of a source
abbrev pub DW_LNCT_path : ℕ
DW_LNCT_path = 0x0001

abbrev pub DW_LNCT_directory_index : ℕ
DW_LNCT_directory_index = 0x0002

abbrev pub DW_LNCT_timestamp : ℕ
DW_LNCT_timestamp = 0x0003

abbrev pub DW_LNCT_size : ℕ
DW_LNCT_size = 0x0004

abbrev pub DW_LNCT_MD5 : ℕ
DW_LNCT_MD5 = 0x0005

abbrev pub DW_LNCT_LLVM_source : ℕ
DW_LNCT_LLVM_source = 0x2001

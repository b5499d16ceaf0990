-- The numbers of the System V ABI, chapters 4 and 5, and of GNU's documentation, by their names.
use Rattle.std.specs.Prelude.{ℕ}

-- ---- types of sections (sh_type)

abbrev pub SHT_NULL : ℕ
SHT_NULL = 0

abbrev pub SHT_SYMTAB : ℕ
SHT_SYMTAB = 2

abbrev pub SHT_RELA : ℕ
SHT_RELA = 4

abbrev pub SHT_NOBITS : ℕ
SHT_NOBITS = 8

abbrev pub SHT_REL : ℕ
SHT_REL = 9

-- ---- flags of sections (sh_flags)

abbrev pub SHF_ALLOC : ℕ
SHF_ALLOC = 0x2

abbrev pub SHF_EXECINSTR : ℕ
SHF_EXECINSTR = 0x4

abbrev pub SHF_COMPRESSED : ℕ
SHF_COMPRESSED = 0x800

-- ---- indices of sections that aren't such

abbrev pub SHN_UNDEF : ℕ
SHN_UNDEF = 0

abbrev pub SHN_XINDEX : ℕ
SHN_XINDEX = 0xffff

-- ---- ways of compression (ch_type)

abbrev pub ELFCOMPRESS_ZLIB : ℕ
ELFCOMPRESS_ZLIB = 1

abbrev pub ELFCOMPRESS_ZSTD : ℕ
ELFCOMPRESS_ZSTD = 2

-- ---- the type of a note with a build id, in the name of GNU

abbrev pub NT_GNU_BUILD_ID : ℕ
NT_GNU_BUILD_ID = 3

-- ---- machines (e_machine)

abbrev pub EM_SPARC : ℕ
EM_SPARC = 2

abbrev pub EM_386 : ℕ
EM_386 = 3

abbrev pub EM_68K : ℕ
EM_68K = 4

abbrev pub EM_MIPS : ℕ
EM_MIPS = 8

abbrev pub EM_SPARC32PLUS : ℕ
EM_SPARC32PLUS = 18

abbrev pub EM_PPC : ℕ
EM_PPC = 20

abbrev pub EM_PPC64 : ℕ
EM_PPC64 = 21

abbrev pub EM_S390 : ℕ
EM_S390 = 22

abbrev pub EM_ARM : ℕ
EM_ARM = 40

abbrev pub EM_SPARCV9 : ℕ
EM_SPARCV9 = 43

abbrev pub EM_X86_64 : ℕ
EM_X86_64 = 62

abbrev pub EM_AARCH64 : ℕ
EM_AARCH64 = 183

abbrev pub EM_RISCV : ℕ
EM_RISCV = 243

abbrev pub EM_BPF : ℕ
EM_BPF = 247

abbrev pub EM_LOONGARCH : ℕ
EM_LOONGARCH = 258

-- What the kinds of relocations mean, by the machine (e_machine): those of the supplements to the
-- System V ABI that compilers write into debug sections.
use Rattle.std.specs.Prelude.{ℕ, ◌+◌, ◌-◌, ◌*◌, ◌/◌, ◌%◌, ◌^◌, List, [], ◌∷◌, nat_eq, if◌then◌else◌}
use Rattle.std.specs.Prelude.{Option, Some, None, Result, Ok, Err}
use Rattle.elf_sections.specs.ElfNumbers.{EM_X86_64, EM_386, EM_AARCH64, EM_ARM, EM_RISCV, EM_PPC64}
use Rattle.elf_sections.specs.ElfNumbers.{EM_S390, EM_PPC, EM_MIPS, EM_SPARC, EM_SPARC32PLUS}
use Rattle.elf_sections.specs.ElfNumbers.{EM_SPARCV9, EM_68K, EM_BPF, EM_LOONGARCH}
use Rattle.elf_sections.specs.declared.error.ElfError.{ElfError}
use Rattle.elf_sections.specs.declared.error.ElfError.TheVariants.{
  UnknownMachine,
  UnknownRelocation,
}
use Rattle.elf_sections.specs.declared.machine.Width.{Width}
use Rattle.elf_sections.specs.declared.machine.Width.TheVariants.{One, Two, Four, Eight}
use Rattle.elf_sections.specs.declared.machine.Change.{Change}
use Rattle.elf_sections.specs.declared.machine.Change.TheVariants.{Nothing, Number}
use Rattle.elf_sections.specs.declared.machine.Operation.{Operation}
use Rattle.elf_sections.specs.declared.machine.Operation.TheVariants.{Address, Set, Add, Subtract}
use Rattle.elf_sections.specs.declared.machine.Operation.TheVariants.{SetSix, SubtractSix}

-- the change of a kind in a table
abbrev pub change_in : List (ℕ × Change) → ℕ → Option Change
change_in [] kind = None
change_in (row ∷ rows) kind = if nat_eq kind row.0 then Some row.1 else change_in rows kind

-- x86-64: R_X86_64_NONE, 64, 32 and 32S
abbrev pub x86_64_kinds : List (ℕ × Change)
x86_64_kinds =
    (0, Nothing) ∷ (1, Number Address Eight) ∷ (10, Number Address Four) ∷ (11, Number Address Four)
    ∷ []

-- i386: R_386_NONE and 32
abbrev pub i386_kinds : List (ℕ × Change)
i386_kinds =
    (0, Nothing) ∷ (1, Number Address Four) ∷ []

-- AArch64: R_AARCH64_NONE, of both numbers, ABS64, ABS32 and ABS16
abbrev pub aarch64_kinds : List (ℕ × Change)
aarch64_kinds =
    (0, Nothing) ∷ (256, Nothing) ∷ (257, Number Address Eight) ∷ (258, Number Address Four)
    ∷ (259, Number Address Two) ∷ []

-- ARM: R_ARM_NONE and ABS32
abbrev pub arm_kinds : List (ℕ × Change)
arm_kinds =
    (0, Nothing) ∷ (2, Number Address Four) ∷ []

-- RISC-V: R_RISCV_NONE, 32 and 64; ADD8 to ADD64, SUB8 to SUB64, SUB6, SET6, and SET8 to SET32
abbrev pub riscv_kinds : List (ℕ × Change)
riscv_kinds =
    (0, Nothing) ∷ (1, Number Address Four) ∷ (2, Number Address Eight) ∷ (33, Number Add One)
    ∷ (34, Number Add Two) ∷ (35, Number Add Four) ∷ (36, Number Add Eight)
    ∷ (37, Number Subtract One)
    ∷ (38, Number Subtract Two) ∷ (39, Number Subtract Four) ∷ (40, Number Subtract Eight)
    ∷ (52, Number SubtractSix One) ∷ (53, Number SetSix One) ∷ (54, Number Set One)
    ∷ (55, Number Set Two)
    ∷ (56, Number Set Four) ∷ []

-- 64-bit PowerPC: R_PPC64_NONE, ADDR32 and ADDR64
abbrev pub powerpc64_kinds : List (ℕ × Change)
powerpc64_kinds =
    (0, Nothing) ∷ (1, Number Address Four) ∷ (38, Number Address Eight) ∷ []

-- s390x: R_390_NONE, 32 and 64
abbrev pub s390x_kinds : List (ℕ × Change)
s390x_kinds =
    (0, Nothing) ∷ (4, Number Address Four) ∷ (22, Number Address Eight) ∷ []

-- 32-bit PowerPC: R_PPC_NONE, ADDR32 and UADDR32
abbrev pub powerpc_kinds : List (ℕ × Change)
powerpc_kinds =
    (0, Nothing) ∷ (1, Number Address Four) ∷ (24, Number Address Four) ∷ []

-- MIPS: R_MIPS_NONE, 32 and 64
abbrev pub mips_kinds : List (ℕ × Change)
mips_kinds =
    (0, Nothing) ∷ (2, Number Address Four) ∷ (18, Number Address Eight) ∷ []

-- SPARC: R_SPARC_NONE, 32, UA32, 64 and UA64
abbrev pub sparc_kinds : List (ℕ × Change)
sparc_kinds =
    (0, Nothing) ∷ (3, Number Address Four) ∷ (23, Number Address Four) ∷ (32, Number Address Eight)
    ∷ (54, Number Address Eight) ∷ []

-- 68000: R_68K_NONE and 32
abbrev pub m68k_kinds : List (ℕ × Change)
m68k_kinds =
    (0, Nothing) ∷ (1, Number Address Four) ∷ []

-- BPF: R_BPF_NONE, 64_ABS64 and 64_ABS32
abbrev pub bpf_kinds : List (ℕ × Change)
bpf_kinds =
    (0, Nothing) ∷ (2, Number Address Eight) ∷ (3, Number Address Four) ∷ []

-- LoongArch: R_LARCH_NONE, 32 and 64; ADD8 to ADD64, and SUB8 to SUB64, without those of 24 bits
abbrev pub loongarch_kinds : List (ℕ × Change)
loongarch_kinds =
    (0, Nothing) ∷ (1, Number Address Four) ∷ (2, Number Address Eight) ∷ (47, Number Add One)
    ∷ (48, Number Add Two) ∷ (50, Number Add Four) ∷ (51, Number Add Eight)
    ∷ (52, Number Subtract One) ∷ (53, Number Subtract Two) ∷ (55, Number Subtract Four)
    ∷ (56, Number Subtract Eight) ∷ []

-- the kinds of each machine that is known
abbrev pub machines : List (ℕ × List (ℕ × Change))
machines =
    (EM_X86_64, x86_64_kinds) ∷ (EM_386, i386_kinds) ∷ (EM_AARCH64, aarch64_kinds)
    ∷ (EM_ARM, arm_kinds) ∷ (EM_RISCV, riscv_kinds) ∷ (EM_PPC64, powerpc64_kinds)
    ∷ (EM_S390, s390x_kinds) ∷ (EM_PPC, powerpc_kinds) ∷ (EM_MIPS, mips_kinds)
    ∷ (EM_SPARC, sparc_kinds) ∷ (EM_SPARC32PLUS, sparc_kinds) ∷ (EM_SPARCV9, sparc_kinds)
    ∷ (EM_68K, m68k_kinds) ∷ (EM_BPF, bpf_kinds) ∷ (EM_LOONGARCH, loongarch_kinds) ∷ []

-- what a kind is on a machine
abbrev pub known : ℕ → Option Change → Result Change ElfError
known kind (Some change) = Ok change
known kind None = Err (UnknownRelocation kind)

abbrev pub change_among : ℕ → ℕ → List (ℕ × List (ℕ × Change)) → Result Change ElfError
change_among machine kind [] = Err (UnknownMachine machine)
change_among machine kind (row ∷ rows) =
    if nat_eq machine row.0 then known kind (change_in row.1 kind)
    else change_among machine kind rows

abbrev pub change_of : ℕ → ℕ → Result Change ElfError
change_of machine kind = change_among machine kind machines

-- the bytes of a number
abbrev pub size_of : Width → ℕ
size_of One = 1
size_of Two = 2
size_of Four = 4
size_of Eight = 8

-- the difference of numbers of 64 bits
abbrev pub minus : ℕ → ℕ → ℕ
minus a b = (a + (2 ^ 64 - b)) % 2 ^ 64

-- a number with the six lowest bits of another one
abbrev pub with_six : ℕ → ℕ → ℕ
with_six number six = number / 64 * 64 + six % 64

-- the number at the place afterwards, modulo 2 ^ 64
abbrev pub number_after : Operation → ℕ → ℕ → ℕ
number_after Address old value = value
number_after Set old value = value
number_after Add old value = (old + value) % 2 ^ 64
number_after Subtract old value = minus old value
number_after SetSix old value = with_six old value
number_after SubtractSix old value = with_six old (minus old value)

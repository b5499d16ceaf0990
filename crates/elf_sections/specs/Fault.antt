-- Why a section isn't made whole.
use Rattle.std.specs.Prelude.{Bool, true, false}
use Rattle.inflate.specs.declared.error.Error.{Error}
use Rattle.inflate.specs.declared.error.Error.TheVariants.{OutOfMemory as NoMemory}
use Rattle.elf_sections.specs.declared.error.ElfError.{ElfError}
use Rattle.elf_sections.specs.declared.error.ElfError.TheVariants.{
  SectionTooLarge,
  Decompression,
  OutOfMemory,
}

-- the fault of a stream, or that there was no memory
abbrev pub fault_of : Error → ElfError
fault_of NoMemory = OutOfMemory
fault_of fault = Decompression fault

-- memory is missing, or the limit forbids taking it
abbrev pub is_for_memory : ElfError → Bool
is_for_memory OutOfMemory = true
is_for_memory (SectionTooLarge _) = true
is_for_memory _ = false

-- What a call that takes memory returns.
use Rattle.std.specs.Prelude.{◌≡◌, ◌≢◌, ℕ, Result, Ok, Err}
use Rattle.elf_sections.specs.declared.error.ElfError.{ElfError}
use Rattle.elf_sections.specs.declared.error.ElfError.TheVariants.{OutOfMemory, SectionTooLarge}

-- seen by a view, it is this answer; only OutOfMemory says nothing of it
abbrev pub Gives : {X Y : Type 0} → (X → Y) → Result X ElfError → Result Y ElfError → Type 0
Gives view (Ok x) answer = answer ≡ Ok (view x)
Gives view (Err e) answer = e ≢ OutOfMemory → answer ≡ Err e

-- where this answer is that a section is too large, the call says so, and never OutOfMemory
abbrev pub RefusesLarge : {X Y : Type 0} → Result X ElfError → Result Y ElfError → Type 0
RefusesLarge result answer =
    (size : ℕ) → answer ≡ Err (SectionTooLarge size) → result ≡ Err (SectionTooLarge size)

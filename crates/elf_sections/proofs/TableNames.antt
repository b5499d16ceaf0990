-- The names of sections, by the header of the section that holds them.
use Rattle.std.proofs.Common.{◌≡◌, refl, ◌∙◌, ap, ℕ, zero, suc, List, [], false, nat_eq, Option, Ok, slice_get}
use Rattle.std.proofs.Common.{if◌then◌else◌}
use lib.Dec.{eqb-suc-zero}
use Rattle.elf_sections.specs.FileRange.{nowhere}
use Rattle.elf_sections.specs.Seeking.{names_in_table, names_of_header}
use Rattle.elf_sections.specs.Table.{Table, names_at, names_in}
use Rattle.elf_sections.specs.declared.section_header.SectionHeader.{SectionHeader}

not_zero : (n : ℕ) → (n ≡ 0 → ⊥) → nat_eq n 0 ≡ false
not_zero zero h = absurd (h refl)
not_zero (suc n) h = eqb-suc-zero n

-- by what the table has at the index
pub names_of : (file : List ℕ) (table : Table) (found : Option SectionHeader) → (table.names_index ≡ 0 → ⊥)
    → slice_get table.headers table.names_index ≡ found → names_at file table ≡ names_in file found
names_of file table found h is =
    ap (λ b. if b then Ok [] else names_in file (slice_get table.headers table.names_index))
    (not_zero table.names_index h)
    ∙ ap (names_in file) is

-- and where they are
pub names_range_of : (length : ℕ) (table : Table) (found : Option SectionHeader) → (table.names_index ≡ 0 → ⊥)
    → slice_get table.headers table.names_index ≡ found → names_in_table length table ≡ names_of_header length found
names_range_of length table found h is =
    ap (λ b. if b then Ok nowhere else names_of_header length (slice_get table.headers table.names_index))
    (not_zero table.names_index h)
    ∙ ap (names_of_header length) is

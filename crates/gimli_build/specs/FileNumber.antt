-- How the rows of a program number the files (DWARF 5, section 6.2.2).
use Rattle.std.specs.Prelude.{◌+◌, if◌then◌else◌}
use Rattle.gimli_build.specs.Prelude.{ℕ, nat_eq, nat_le}

-- the number of the file with this index: they count from 1 on up to version 4, and from 0 on in
-- the later ones
abbrev pub file_number : ℕ → ℕ → ℕ
file_number version index = if nat_le version 4 then index + 1 else index

-- the index of the file that a sequence starts with, whose number is 1; version 6 is never written
abbrev pub initial_file : ℕ → ℕ
initial_file version = if nat_eq version 5 then 1 else 0

-- Places of a section in their order.
use Rattle.std.specs.Prelude.{◌+◌, ◌≤◌, List, AllPairs}
use Rattle.gimli_bytes.specs.declared.relocation.Relocation.{Relocation}

-- each place ends before the later ones begin
abbrev pub AreAscending : List Relocation → Type 0
AreAscending places = AllPairs (λ r s. r.offset + r.size ≤ s.offset) places

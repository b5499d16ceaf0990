-- A place before an offset.
use Rattle.std.specs.Prelude.{◌+◌, Bool, not, nat_lt, ℕ}
use Rattle.gimli_bytes.specs.declared.relocation.Relocation.{Relocation}

-- a place ends at an offset, or before it
abbrev pub is_past : ℕ → Relocation → Bool
is_past offset r = not (nat_lt offset (r.offset + r.size))

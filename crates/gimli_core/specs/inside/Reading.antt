-- What readers take from the front of a list of bytes, and what they leave.
use Rattle.std.specs.Prelude.{ℕ, ◌^◌, Result, Ok, Err, nat_eq, if◌then◌else◌, ℤ, pos}
use Rattle.std.specs.Prelude.{◌-ℤ◌}
use Rattle.gimli_core.specs
use specs.declared.error.Error.{Error}
use specs.declared.error.Error.TheVariants.{BadSignedLeb128}

-- nine groups that are n as an unsigned number, and the tenth byte, which only repeats the sign
abbrev pub tenth_at : ℕ → ℕ → Result ℤ Error
tenth_at n b =
    if nat_eq b 0 then Ok (pos n)
    else (if nat_eq b 127 then Ok (pos n -ℤ pos (2 ^ 63)) else Err BadSignedLeb128)

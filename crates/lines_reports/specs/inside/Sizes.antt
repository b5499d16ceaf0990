-- What is passed over of the bytes of an instruction.
use Rattle.std.specs.Prelude.{◌-◌, ℕ, Bool, List, length, Ok, nat_eq, if◌then◌else◌}
use Rattle.gimli_core.specs.Production.{byte, times, unsigned}
use Rattle.gimli_core.specs.Reading.{Read, ◌>>=◌}
use Rattle.lines_reports.specs.declared.sizes.InstructionBytes.{InstructionBytes}

-- a value is passed over
abbrev pub passed : {A : Type 0} → Read A → Read (Unit {0})
passed r = r >>= λ x rest. (Ok tt, rest)

-- what stands after the first byte: of an extended instruction a length, and the opcode
abbrev pub opened_at : Bool → List ℕ → Read (Unit {0})
opened_at is_extended bytes =
    if is_extended then (unsigned.read bytes >>= λ size rest. passed (byte.read rest))
    else (Ok tt, bytes)

-- the bytes that say which instruction it is
abbrev pub opcode_at : List ℕ → Read (Unit {0})
opcode_at bytes = byte.read bytes >>= λ b rest. opened_at (nat_eq b 0) rest

-- so many bytes, one by one
abbrev pub bytes_after : ℕ → List ℕ → Read (Unit {0})
bytes_after n bytes = passed ((times n byte).read bytes)

-- the sizes of an instruction after which so many bytes are left
abbrev pub size_at : ℕ → List ℕ → Read InstructionBytes
size_at left bytes =
    opcode_at bytes >>= λ _ middle. bytes_after (length middle - left) middle >>= λ _ rest. (
      Ok (record { opcode = length bytes - length middle; operands = length middle - left }),
      rest,
    )

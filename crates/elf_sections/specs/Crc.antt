-- The checksum of `.gnu_debuglink`: CRC-32 (ISO 3309; RFC 1952, section 8), bit by bit.
use Rattle.std.specs.Prelude.{ℕ, ◌/◌, ◌%◌, zero, suc, List, fold, bit_xor, nat_eq, if◌then◌else◌}

-- one bit further: the lowest bit leaves, and where it is 1 the polynomial is added. The lowest bit
-- stands for the highest power
unfoldable pub bit_step : ℕ → ℕ
bit_step crc = if nat_eq (crc % 2) 1 then bit_xor (crc / 2) 0xedb88320 else crc / 2

unfoldable pub bit_steps : ℕ → ℕ → ℕ
bit_steps zero crc = crc
bit_steps (suc n) crc = bit_steps n (bit_step crc)

-- one byte further
unfoldable pub byte_step : ℕ → ℕ → ℕ
byte_step crc byte = bit_steps 8 (bit_xor crc byte)

-- the bytes, one after the other, from the complement of 0 on, and of what they make the complement
abbrev pub crc32 : List ℕ → ℕ
crc32 bytes = bit_xor (fold byte_step 0xffffffff bytes) 0xffffffff

-- What readers take from the front of a list of bytes, and what they leave.
use Rattle.std.specs.Prelude.{ℕ, zero, suc, ◌+◌, ◌*◌, ◌%◌, ◌^◌, Bool, List, [], ◌∷◌, length, take}
use Rattle.std.specs.Prelude.{drop, position, Result, Ok, Err, Some, None, nat_lt, nat_le, nat_eq}
use Rattle.std.specs.Prelude.{◌||◌, if◌then◌else◌, ℤ, pos, ◌-ℤ◌, false}
use Rattle.gimli_core.specs
use specs.Numbers.{value_of}
use specs.declared.common.Format.{Format}
use specs.declared.common.Format.TheVariants.{Dwarf32, Dwarf64}
use specs.declared.error.Error.{Error}
use specs.declared.error.Error.TheVariants.{
  UnexpectedEof,
  BadUnsignedLeb128,
  BadSignedLeb128,
  UnknownReservedLength,
  UnsupportedOffset,
  AddressOverflow,
}

-- what a call returns, and the bytes that it leaves
abbrev pub Read : Type 0 → Type 0
Read A = Result A Error × List ℕ

-- bytes are missing
abbrev pub eof : List ℕ → Error
eof bytes = UnexpectedEof (record { 0 = length bytes })

-- a zero byte comes next
abbrev pub is_closed : List ℕ → Bool
is_closed [] = false
is_closed (b ∷ bytes) = nat_eq b 0

-- the bytes after the first
abbrev pub after_first : List ℕ → List ℕ
after_first [] = []
after_first (b ∷ bytes) = bytes

-- one call after another
infixl 10 ◌>>=◌
abbrev pub ◌>>=◌ : {A B : Type 0} → Read A → (A → List ℕ → Read B) → Read B
(Ok x, rest) >>= f = f x rest
(Err e, rest) >>= f = (Err e, rest)

-- fewer than so many values, up to a zero byte, which goes too
unfoldable pub closed_below : {A : Type 0} → ℕ → (List ℕ → Read A) → List ℕ → Read (List A)
closed_below zero read bytes = (Err (eof bytes), bytes)
closed_below (suc more) read bytes =
    if is_closed bytes then (Ok [], after_first bytes)
    else (read bytes >>= λ x rest. closed_below more read rest >>= λ xs left. (Ok (x ∷ xs), left))

-- the values up to a zero byte; they aren't more than the bytes
abbrev pub closed_at : {A : Type 0} → (List ℕ → Read A) → List ℕ → Read (List A)
closed_at read bytes = closed_below (suc (length bytes)) read bytes

-- a call on bytes that were taken before: what it returns and what it leaves of them
abbrev pub with_rest : {A : Type 0} → Read A → Result (A × List ℕ) Error
with_rest (Ok x, rest) = Ok (x, rest)
with_rest (Err e, rest) = Err e

-- a result, its value seen by view
abbrev pub result_map : {A B E : Type 0} → (A → B) → Result A E → Result B E
result_map view (Ok x) = Ok (view x)
result_map view (Err e) = Err e

-- ---- bytes

-- the first n bytes, and those after them
abbrev pub split_at : ℕ → List ℕ → Read (List ℕ)
split_at n bytes =
    if nat_lt (length bytes) n then (Err (eof bytes), bytes) else (Ok (take n bytes), drop n bytes)

-- the first n bytes go
abbrev pub skip_at : ℕ → List ℕ → Read (Unit {0})
skip_at n bytes =
    if nat_lt (length bytes) n then (Err (eof bytes), bytes) else (Ok tt, drop n bytes)

-- the first n bytes stay
abbrev pub truncate_at : ℕ → List ℕ → Read (Unit {0})
truncate_at n bytes =
    if nat_lt (length bytes) n then (Err (eof bytes), bytes) else (Ok tt, take n bytes)

-- how many bytes come before the first such byte
abbrev pub find_at : ℕ → List ℕ → Result ℕ Error
find_at byte bytes =
    elim (position (λ b. nat_eq b byte) bytes) [ Some n ↦ Ok n | None ↦ Err (eof bytes) ]

-- the bytes before the first zero byte, which goes too
abbrev pub text_at : List ℕ → Read (List ℕ)
text_at bytes =
    elim (position (λ b. nat_eq b 0) bytes)
    [ Some n ↦ (Ok (take n bytes), drop (n + 1) bytes) | None ↦ (Err (eof bytes), bytes) ]

-- ---- numbers

-- one byte
abbrev pub byte_at : List ℕ → Read ℕ
byte_at [] = (Err (eof []), [])
byte_at (b ∷ bytes) = (Ok b, bytes)

-- a number of so many bytes, in this order
abbrev pub number_at : Bool → ℕ → List ℕ → Read ℕ
number_at is_big size bytes =
    if nat_lt (length bytes) size then (Err (eof bytes), bytes)
    else (Ok (value_of is_big (take size bytes)), drop size bytes)

-- a number as an offset, below the limit of the offsets
abbrev pub offset_of : ℕ → ℕ → Result ℕ Error
offset_of limit n = if nat_lt n limit then Ok n else Err UnsupportedOffset

-- the groups of seven bits of an unsigned number: at most so many bytes before the last, and then
-- one of at most top
unfoldable pub uleb_at : ℕ → ℕ → List ℕ → Read ℕ
uleb_at zero top bytes =
    byte_at bytes >>= λ b rest. if nat_lt top b then (Err BadUnsignedLeb128, rest) else (Ok b, rest)
uleb_at (suc more) top bytes =
    byte_at bytes >>= λ b rest.
    if nat_lt b 128 then (Ok b, rest)
    else (uleb_at more top rest >>= λ high rest. (Ok (b % 128 + 128 * high), rest))

-- an unsigned LEB128 number of 64 bits
abbrev pub unsigned_at : List ℕ → Read ℕ
unsigned_at bytes = uleb_at 9 1 bytes

-- a signed number as a difference: its groups as an unsigned number, and what the sign takes from
-- it
abbrev pub Difference : Type 0
Difference = ℕ × ℕ

-- the last group, whose bit 6 is the sign
abbrev pub last_group : ℕ → Difference
last_group b = (b, if nat_le 64 b then 128 else 0)

-- the groups of a signed number: at most so many bytes before the last, and then 00 or 7f
unfoldable pub sleb_at : ℕ → List ℕ → Read Difference
sleb_at zero bytes =
    byte_at bytes >>= λ b rest.
    if nat_eq b 0 || nat_eq b 127 then (Ok (last_group b), rest) else (Err BadSignedLeb128, rest)
sleb_at (suc more) bytes =
    byte_at bytes >>= λ b rest.
    if nat_lt b 128 then (Ok (last_group b), rest)
    else (sleb_at more rest >>= λ high rest. (Ok (b % 128 + 128 * high.0, 128 * high.1), rest))

-- a signed LEB128 number of 64 bits
abbrev pub signed_at : List ℕ → Read ℤ
signed_at bytes = sleb_at 9 bytes >>= λ z rest. (Ok (pos z.0 -ℤ pos z.1), rest)

-- ---- lengths and addresses

-- what comes after the first word of the length of a unit
abbrev pub long_or_short_at : Bool → ℕ → List ℕ → Read (ℕ × Format)
long_or_short_at is_big n rest =
    if nat_lt n 0xffff_fff0 then (Ok (n, Dwarf32), rest)
    else (if nat_eq n 0xffff_ffff
    then (number_at is_big 8 rest >>= λ m left. (Ok (m, Dwarf64), left))
    else (Err UnknownReservedLength, rest))

-- the sum of an address and a length, where it is an address of the size
abbrev pub sized_sum : ℕ → ℕ → ℕ → Result ℕ Error
sized_sum address len size =
    if nat_lt (address + len) (2 ^ (8 * size)) then Ok (address + len) else Err AddressOverflow

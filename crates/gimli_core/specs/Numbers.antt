-- Numbers as bytes: what spells a number. "is_big" says that the most significant byte comes first.
use Rattle.std.specs.Prelude.{◌≡◌, ℕ, ◌+◌, ◌*◌, ◌%◌, ◌<◌, ◌≤◌, ◌^◌, Bool, false, List, [], ◌∷◌}
use Rattle.std.specs.Prelude.{◌++◌, length, reverse, ℤ, pos, ◌-ℤ◌, nat_le, nat_eq, ◌||◌}
use Rattle.std.specs.Prelude.{if◌then◌else◌, FitsSigned}
use Rattle.std.specs.Int.{w64, bytes_low_first, bytes_high_first}
use Rattle.gimli_core.specs.declared.common.Format.{Format}
use Rattle.gimli_core.specs.declared.common.Format.TheVariants.{Dwarf32, Dwarf64}

-- ---- numbers of a fixed size (DWARF 5, sections 7.4 and 7.5)

-- the number of these bytes, the least significant first
abbrev pub le_value : List ℕ → ℕ
le_value [] = 0
le_value (b ∷ bytes) = b + 256 * le_value bytes

-- the number of these bytes, in an order
abbrev pub value_of : Bool → List ℕ → ℕ
value_of is_big bytes = if is_big then le_value (reverse bytes) else le_value bytes

-- the bytes are n, and there are so many of them
pub record SpellsNumber (is_big : Bool) (size : ℕ) (bytes : List ℕ) (n : ℕ) : Type 0 where
  pub size_is : length bytes ≡ size
  pub value_is : value_of is_big bytes ≡ n

-- the one spelling of n in so many bytes
abbrev pub number_bytes : Bool → ℕ → ℕ → List ℕ
number_bytes is_big size n = if is_big then bytes_high_first size n else bytes_low_first 0 size n

-- ---- LEB128 (DWARF 5, section 7.6)

-- groups of seven bits, the least significant first; all bytes but the last have the high bit set
abbrev pub IsLeb128 : List ℕ → ℕ → Type 0
IsLeb128 [] n = ⊥
IsLeb128 (b ∷ []) n = (b < 128) × (n ≡ b)
IsLeb128 (b ∷ c ∷ bytes) n =
    (128 ≤ b) × (high : ℕ) × (n ≡ b % 128 + 128 * high) × IsLeb128 (c ∷ bytes) high

-- an unsigned number of so many bits, in no more bytes than hold them: ten for 64 bits, three for
-- 16
pub record SpellsUleb128 (bits : ℕ) (bytes : List ℕ) (n : ℕ) : Type 0 where
  pub groups : IsLeb128 bytes n
  pub short : 7 * length bytes < bits + 7
  pub fits : n < 2 ^ bits

-- bit 6 of the last byte, which is the sign
abbrev pub is_negative : List ℕ → Bool
is_negative [] = false
is_negative (b ∷ []) = nat_le 64 b
is_negative (b ∷ c ∷ bytes) = is_negative (c ∷ bytes)

-- the signed number whose groups are n as an unsigned one: n, less 2 ^ (7 * bytes) where the sign
-- is set
abbrev pub signed_value : List ℕ → ℕ → ℤ
signed_value bytes n = pos n -ℤ pos (if is_negative bytes then 2 ^ (7 * length bytes) else 0)

-- a signed number of 64 bits, in at most ten bytes
pub record SpellsSleb128 (bytes : List ℕ) (z : ℤ) : Type 0 where
  pub unsigned : ℕ
  pub groups : IsLeb128 bytes unsigned
  pub value_is : signed_value bytes unsigned ≡ z
  pub short : length bytes ≤ 10
  pub fits : FitsSigned w64 z

-- a spelling of x, and no other is shorter
pub record IsShortest {X : Type 0} (Spells : List ℕ → X → Type 0) (bytes : List ℕ) (x : X)
    : Type 0 where
  pub spells : Spells bytes x
  pub least : (other : List ℕ) → Spells other x → length bytes ≤ length other

-- ---- words, lengths and addresses

-- the bytes of a word of the format
abbrev pub word_size : Format → ℕ
word_size Dwarf32 = 4
word_size Dwarf64 = 8

-- the bytes that the length of a unit takes (DWARF 5, section 7.4)
abbrev pub initial_length_size : Format → ℕ
initial_length_size Dwarf32 = 4
initial_length_size Dwarf64 = 12

-- the length of a unit, by which its format is known: four bytes below 0xffff_fff0, or the four
-- bytes 0xffff_ffff and eight further ones (DWARF 5, section 7.4)
abbrev pub SpellsInitialLength : Bool → List ℕ → Format → ℕ → Type 0
SpellsInitialLength is_big bytes Dwarf32 n = SpellsNumber is_big 4 bytes n × (n < 0xffff_fff0)
SpellsInitialLength is_big bytes Dwarf64 n =
    (first : List ℕ) × (tail : List ℕ) × (bytes ≡ first ++ tail)
    × SpellsNumber is_big 4 first 0xffff_ffff × SpellsNumber is_big 8 tail n

-- the sizes of addresses, in bytes
abbrev pub is_address_size : ℕ → Bool
is_address_size n = nat_eq n 1 || nat_eq n 2 || nat_eq n 4 || nat_eq n 8

-- Productions of a format. A production says what spells a value, and which refusal it is where
-- nothing does. Productions are put together by concatenation: after the bytes of one come those of
-- the next.
use Rattle.std.specs.Prelude.{◌≡◌, ◌≢◌, ◌⊎◌, ℕ, zero, suc, ◌+◌, ◌<◌, ◌≤◌, List, [], ◌∷◌, ◌++◌}
use Rattle.std.specs.Prelude.{length, Bool, true, false, IsTrue, IsFalse, Ok, Err, ℤ, nat_lt}
use Rattle.std.specs.Prelude.{if◌then◌else◌}
use Rattle.std.specs.Int.{w8, cast_signed}
use Rattle.std.specs.List.{AllByRecursion}
use Rattle.gimli_core.specs
use specs.Numbers.{SpellsNumber, SpellsUleb128, SpellsSleb128}
use specs.Numbers.{SpellsInitialLength, word_size, is_address_size}
use specs.Layout.{OrderAndLimit}
use specs.Reading.{Read, ◌>>=◌ as ◌>=>◌, eof, with_rest, byte_at, number_at, split_at, text_at}
use specs.Reading.{uleb_at, unsigned_at, signed_at, closed_at, long_or_short_at}
use specs.declared.common.Format.{Format}
use specs.declared.common.Format.TheVariants.{Dwarf32, Dwarf64}
use specs.declared.error.Error.{Error}
use specs.declared.error.Error.TheVariants.{
  BadUnsignedLeb128,
  BadSignedLeb128,
  UnknownReservedLength,
  UnsupportedAddressSize,
  UnsupportedOffset,
}

-- a production of values of a type
pub record Production (A : Type 0) : Type 1 where
  -- the bytes are a spelling of x
  pub Spells : List ℕ → A → Type 0
  -- the bytes begin with no spelling, and this is the refusal
  pub Fault : List ℕ → Error → Type 0
  -- what is taken of the front of the bytes, or why nothing is, and what is left
  pub read : List ℕ → Read A

-- ---- put together

-- nothing is spelled, and x is known
abbrev pub done : {A : Type 0} → A → Production A
done x = record {
  Spells = λ bytes y. (bytes ≡ []) × (y ≡ x);
  Fault = λ bytes e. ⊥;
  read = λ bytes. (Ok x, bytes);
}

-- a production, and after it the production that its value asks for
infixl 10 ◌>>=◌
abbrev pub ◌>>=◌ : {A B : Type 0} → Production A → (A → Production B) → Production B
l >>= next = record {
  Spells = λ bytes y.
      (x : _) × (front : List ℕ) × (rest : List ℕ) × (bytes ≡ front ++ rest) × l.Spells front x
      × (next x).Spells rest y;
  Fault = λ bytes e.
      l.Fault bytes e
      ⊎ ((x : _) × (front : List ℕ) × (rest : List ℕ) × (bytes ≡ front ++ rest) × l.Spells front x
      × (next x).Fault rest e);
  read = λ bytes. l.read bytes >=> λ x. (next x).read;
}

-- the same, where the value doesn't matter
infixl 10 ◌>>◌
abbrev pub ◌>>◌ : {A B : Type 0} → Production A → Production B → Production B
l >> next = l >>= λ _. next

-- a refusal, whatever comes
abbrev pub refuse : {A : Type 0} → Error → Production A
refuse d = record {
  Spells = λ bytes x. ⊥;
  Fault = λ bytes e. e ≡ d;
  read = λ bytes. (Err d, bytes);
}

-- nothing where the test holds, else a refusal
abbrev pub check : Bool → Error → Production (Unit {0})
check b d = record {
  Spells = λ bytes x. (bytes ≡ []) × IsTrue b;
  Fault = λ bytes e. IsFalse b × (e ≡ d);
  read = λ bytes. (if b then Ok tt else Err d, bytes);
}

-- one production where the test holds, else the other
abbrev pub choose : {A : Type 0} → Bool → Production A → Production A → Production A
choose true l m = l
choose false l m = m

-- values one after the other
abbrev pub Each : {A : Type 0} → (List ℕ → A → Type 0) → List ℕ → List A → Type 0
Each Spells bytes [] = bytes ≡ []
Each Spells bytes (x ∷ xs) =
    (front : List ℕ) × (rest : List ℕ) × (bytes ≡ front ++ rest) × Spells front x
    × Each Spells rest xs

-- so many of a production
abbrev pub times : {A : Type 0} → ℕ → Production A → Production (List A)
times zero l = done []
times (suc n) l = do
  x ← l
  xs ← times n l
  done (x ∷ xs)

-- no zero byte comes next
abbrev pub IsOpen : List ℕ → Type 0
IsOpen [] = Unit {0}
IsOpen (b ∷ bytes) = b ≢ 0

-- values one after the other, none of which begins with a zero byte, and a zero byte that closes
-- them
abbrev pub list_to_zero : {A : Type 0} → Production A → Production (List A)
list_to_zero l = record {
  Spells = λ bytes xs. (front : List ℕ) × (bytes ≡ front ++ 0 ∷ []) × Each l.Spells front xs;
  Fault = λ bytes e.
      (xs : List _) × (front : List ℕ) × (rest : List ℕ) × (bytes ≡ front ++ rest)
      × Each l.Spells front xs × IsOpen rest × l.Fault rest e;
  read = closed_at l.read;
}

-- a production at the front of bytes that were taken before, and what is left over of these
abbrev pub within : {A : Type 0} → List ℕ → Production A → Production (A × List ℕ)
within inside l = record {
  Spells =
      λ bytes x. (bytes ≡ []) × ((front : List ℕ) × (inside ≡ front ++ x.1) × l.Spells front x.0);
  Fault = λ bytes e. l.Fault inside e;
  read = λ bytes. (with_rest (l.read inside), bytes);
}

-- ---- bytes and numbers

-- bytes are missing: fewer than so many are there
abbrev pub IsWanting : ℕ → List ℕ → Error → Type 0
IsWanting n bytes e = (length bytes < n) × (e ≡ eof bytes)

-- so many bytes, whatever they are
abbrev pub some_bytes : ℕ → Production (List ℕ)
some_bytes n = record {
  Spells = λ bytes xs. (length bytes ≡ n) × (xs ≡ bytes);
  Fault = IsWanting n;
  read = split_at n;
}

-- bytes that aren't zero, and a zero byte
abbrev pub text : Production (List ℕ)
text = record {
  Spells = λ bytes name. AllByRecursion (λ b. b ≢ 0) name × (bytes ≡ name ++ 0 ∷ []);
  Fault = λ bytes e. AllByRecursion (λ b. b ≢ 0) bytes × (e ≡ eof bytes);
  read = text_at;
}

-- a number of so many bytes
abbrev pub number : Bool → ℕ → Production ℕ
number is_big size = record {
  Spells = SpellsNumber is_big size;
  Fault = IsWanting size;
  read = number_at is_big size;
}

-- a byte, whatever the order
abbrev pub byte : Production ℕ
byte = record { Spells = λ bytes b. bytes ≡ b ∷ []; Fault = IsWanting 1; read = byte_at }

-- a byte, as a signed number
abbrev pub signed_byte : Production ℤ
signed_byte = do
  b ← byte
  done (cast_signed w8 b)

-- each byte has the high bit set
abbrev pub AllHigh : List ℕ → Type 0
AllHigh bytes = AllByRecursion (λ b. 128 ≤ b) bytes

-- no LEB128 number of at most so many bytes: the bytes end before its last one, or the last of so
-- many bytes isn't allowed, and those before it have the high bit set
abbrev pub IsLebFault : ℕ → (ℕ → Type 0) → Error → List ℕ → Error → Type 0
IsLebFault most IsRefused bad bytes e =
    ((length bytes < most) × AllHigh bytes × (e ≡ eof []))
    ⊎ ((front : List ℕ) × (last : ℕ) × (rest : List ℕ) × (bytes ≡ front ++ last ∷ rest)
    × (length front + 1 ≡ most) × AllHigh front × IsRefused last × (e ≡ bad))

-- an unsigned LEB128 number of 64 bits
abbrev pub unsigned : Production ℕ
unsigned = record {
  Spells = SpellsUleb128 64;
  Fault = IsLebFault 10 (λ b. 1 < b) BadUnsignedLeb128;
  read = unsigned_at;
}

-- one of 16 bits
abbrev pub unsigned_16 : Production ℕ
unsigned_16 = record {
  Spells = SpellsUleb128 16;
  Fault = IsLebFault 3 (λ b. 3 < b) BadUnsignedLeb128;
  read = uleb_at 2 3;
}

-- a signed LEB128 number of 64 bits
abbrev pub signed : Production ℤ
signed = record {
  Spells = SpellsSleb128;
  Fault = IsLebFault 10 (λ b. (b ≢ 0) × (b ≢ 127)) BadSignedLeb128;
  read = signed_at;
}

-- ---- words, lengths and offsets

-- the size of an address
unfoldable pub address_size : Production ℕ
address_size = do
  size ← byte
  check (is_address_size size) (UnsupportedAddressSize size)
  done size

-- a word of the format
abbrev pub word : Bool → Format → Production ℕ
word is_big format = number is_big (word_size format)

-- an initial length, and its format
abbrev pub initial_length : Bool → Production (ℕ × Format)
initial_length is_big = record {
  Spells = λ bytes u. SpellsInitialLength is_big bytes u.1 u.0;
  Fault = λ bytes e. IsWanting 4 bytes e
      ⊎ ((first : List ℕ) × (rest : List ℕ) × (n : ℕ) × (bytes ≡ first ++ rest)
      × SpellsNumber is_big 4 first n
      × (((0xffff_fff0 ≤ n) × (n ≢ 0xffff_ffff) × (e ≡ UnknownReservedLength))
      ⊎ ((n ≡ 0xffff_ffff) × IsWanting 8 rest e)));
  read = λ bytes. number_at is_big 4 bytes >=> long_or_short_at is_big;
}

-- a number that an offset of the reader has to hold
abbrev pub below_limit : OrderAndLimit → Production ℕ → Production ℕ
below_limit layout l = do
  n ← l
  check (nat_lt n layout.limit) UnsupportedOffset
  done n

-- an offset of the reader holds a word: one of four bytes always fits
abbrev pub fits_offset : OrderAndLimit → Format → ℕ → Bool
fits_offset layout Dwarf32 n = true
fits_offset layout Dwarf64 n = nat_lt n layout.limit

-- a word of the format that is an offset or a length
unfoldable pub offset_word : OrderAndLimit → Format → Production ℕ
offset_word layout format = do
  n ← word layout.is_big format
  check (fits_offset layout format n) UnsupportedOffset
  done n

-- the length of a unit, and its format
unfoldable pub unit_length : OrderAndLimit → Production (ℕ × Format)
unit_length layout = do
  unit ← initial_length layout.is_big
  check (fits_offset layout unit.1 unit.0) UnsupportedOffset
  done unit

-- ---- reading a production

-- what is taken is spelled so; what is spelled so is taken, whatever follows; a refusal is a fault
-- of the production; and each fault of it is refused
pub record Reads {A : Type 0} (l : Production A) : Type 0 where
  pub found : (bytes : List ℕ) (x : A) (rest : List ℕ) → l.read bytes ≡ (Ok x, rest)
      → (front : List ℕ) × (bytes ≡ front ++ rest) × l.Spells front x
  pub only : (front : List ℕ) (x : A) (rest : List ℕ) → l.Spells front x
      → l.read (front ++ rest) ≡ (Ok x, rest)
  pub fault : (bytes : List ℕ) (e : Error) → (l.read bytes).0 ≡ Err e → l.Fault bytes e
  pub refused : (bytes : List ℕ) (e : Error) → l.Fault bytes e → (l.read bytes).0 ≡ Err e

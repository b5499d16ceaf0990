-- The bytes of the fixed fields of a unit spell them.
use Rattle.std.specs.Prelude.{◌≡◌, ◌<◌, ◌≤◌, ◌^◌, ◌∷◌, ◌++◌, ◌&&◌, if◌then◌else◌}
use Rattle.gimli_build.proofs
use proofs.Common
use Common.{ℕ, Bool, true, false, List, [], length, Ok, Err, refl, sym, arith, not, nat_eq, nat_le, ℤ, FitsSigned}
use Common.{IsTrue, rules, ints, to_z-of_z, append-nil, OrderAndLimit, SpellsNumber, SpellsInitialLength, number_bytes}
use Common.{word_size, is_address_size, Production, ◌>>=◌, done, choose, byte, offset_word, fits_offset, LineEncoding}
use Common.{Format, Dwarf64, number_spelled, length_word, UnsupportedVersion, positive, CanEncode, format_word}
use Common.{version_bytes, operations_bytes, flag_byte, line_encoding_bytes, escape_bytes}
use Rattle.std.specs.Int.{w8, cast_signed}
use Rattle.gimli_core.specs.Production.{address_size, unit_length}
use Rattle.gimli_core.specs.declared.error.Error.{Error as ReadError}
use Rattle.gimli_core.specs.declared.error.Error.TheVariants.{
  MinimumInstructionLengthZero,
  MaximumOperationsPerInstructionZero,
  LineRangeZero,
}
use Rattle.gimli_line.specs.header.HeaderGrammar.{version_production, address_size_production, line_encoding_production}
use Rattle.gimli_build.specs.Unit.{base_byte}
use proofs.writing.WrittenParts.{after_written, before_written}

-- ---- lines

pub positive-spelled : (n : ℕ) (d : ReadError) → 0 < n → (positive d).Spells (n ∷ []) n
unfolding positive
positive-spelled n d some = grind arith

pub first-chosen : {A : Type 0} (b : Bool) (l m : Production A) (bytes : List ℕ) (x : A) → b ≡ true → l.Spells bytes x
    → (choose b l m).Spells bytes x
first-chosen b l m bytes x is s = grind arith

pub second-chosen : {A : Type 0} (b : Bool) (l m : Production A) (bytes : List ℕ) (x : A) → b ≡ false → m.Spells bytes x
    → (choose b l m).Spells bytes x
second-chosen b l m bytes x is s = grind arith

-- ---- how lines and operations are encoded

flag_read : (b : Bool) → not (nat_eq (flag_byte b) 0) ≡ b
flag_read b = grind arith

base_read : (base : ℤ) → FitsSigned w8 base → cast_signed w8 (base_byte base) ≡ base
unfolding base_byte
base_read base fits = to_z-of_z w8 base fits

-- after the operations
abbrev rest_line : ℕ → ℕ → Production LineEncoding
rest_line minimum maximum = do
  statement ← byte
  base ← byte
  range ← positive LineRangeZero
  done (record {
    minimum_instruction_length = minimum;
    maximum_operations_per_instruction = maximum;
    default_is_stmt = not (nat_eq statement 0);
    line_base = cast_signed w8 base;
    line_range = range;
  })

rest_spelled : (e : LineEncoding) → CanEncode e
    → (rest_line e.minimum_instruction_length e.maximum_operations_per_instruction).Spells
    (flag_byte e.default_is_stmt ∷ base_byte e.line_base ∷ e.line_range ∷ []) e
rest_spelled e can =
    let some : 0 < e.line_range = omega (arith, ints, can.base, can.above) in
    let fits : FitsSigned w8 e.line_base = search (rules, ints) in
    let flag = flag_byte e.default_is_stmt in
    let base = base_byte e.line_base in (
      flag,
      flag ∷ [],
      base ∷ e.line_range ∷ [],
      refl,
      refl,
      (
        base,
        base ∷ [],
        e.line_range ∷ [],
        refl,
        refl,
        (
          e.line_range,
          e.line_range ∷ [],
          [],
          refl,
          positive-spelled _ LineRangeZero some,
          (
            refl,
            sym (λ i. record e { default_is_stmt = flag_read e.default_is_stmt i; line_base = base_read _ fits i }),
          ),
        ),
      ),
    )

abbrev operations_line : ℕ → Production ℕ
operations_line version = choose (nat_le version 3) (done 1) (positive MaximumOperationsPerInstructionZero)

operations_spelled : (version n : ℕ) (bytes : List ℕ) → 0 < n → operations_bytes version n ≡ Ok bytes
    → (operations_line version).Spells bytes n
operations_spelled version n bytes some is = grind (arith, positive-spelled)

pub encoding-spelled : (version : ℕ) (e : LineEncoding) (bytes : List ℕ) → CanEncode e
    → line_encoding_bytes version e ≡ Ok bytes
    → (line_encoding_production version).Spells bytes e
unfolding line_encoding_production
encoding-spelled version e bytes can is =
    let last = flag_byte e.default_is_stmt ∷ base_byte e.line_base ∷ e.line_range ∷ [] in
    let a = after_written (e.minimum_instruction_length ∷ []) _ _ is in
    let b = before_written _ _ _ a.rest_is in
    let minimum = positive-spelled _ MinimumInstructionLengthZero can.instruction_length in
    let operations = operations_spelled _ _ _ can.operations b.front_is in (
      e.minimum_instruction_length,
      e.minimum_instruction_length ∷ [],
      a.rest,
      a.whole,
      minimum,
      (e.maximum_operations_per_instruction, b.front, last, b.whole, operations, rest_spelled e can),
    )

-- ---- the version

-- a version that is written is one, and its bytes spell it
pub record VersionWritten (is_big : Bool) (version : ℕ) (bytes : List ℕ) : Type 0 where
  pub bytes_are : bytes ≡ number_bytes is_big 2 version
  pub known : (nat_le 2 version && nat_le version 5) ≡ true

version_written : (is_big : Bool) (version : ℕ) (bytes : List ℕ) → version_bytes is_big version ≡ Ok bytes
    → VersionWritten is_big version bytes
version_written is_big version bytes is = grind arith
  where
    by : (b : Bool) → (nat_le 2 version && nat_le version 5) ≡ b
        → (let r = if b then Ok (number_bytes is_big 2 version)
        else Err (UnsupportedVersion version) in
        r)
        ≡ Ok bytes
        → VersionWritten is_big version bytes
    by true t is = grind arith
    by false t is = absurd cc

pub version-known : (is_big : Bool) (version : ℕ) (bytes : List ℕ) → version_bytes is_big version ≡ Ok bytes
    → version ≤ 5
version-known is_big version bytes is = grind arith

pub version-spelled : (is_big : Bool) (version : ℕ) (bytes : List ℕ) → version_bytes is_big version ≡ Ok bytes
    → (version_production is_big).Spells bytes version
unfolding version_production
version-spelled is_big version bytes is =
    let w = version_written _ _ _ is in
    let known = version-known is_big version bytes is in
    let number : SpellsNumber is_big 2 bytes version = rw w.bytes_are (number_spelled _ _ _ (omega arith)) in
    (version, bytes, [], sym (append-nil _), number, (tt, [], [], refl, (refl, w.known), (refl, refl)))

-- ---- the size of an address

-- up to version 4 no byte says it, and it is the one that is handed; in version 5 a byte does, and a 0 stands after it
own_spelled : (size : ℕ) → IsTrue (is_address_size size) → address_size.Spells (size ∷ []) size
unfolding address_size
own_spelled size known = (size, size ∷ [], [], refl, refl, (tt, [], [], refl, (refl, known), (refl, refl)))

pub address-spelled : (version handed size : ℕ) → handed ≡ size → IsTrue (is_address_size size)
    → (address_size_production version handed).Spells (if nat_le version 4 then [] else size ∷ 0 ∷ []) size
unfolding address_size_production
address-spelled version handed size same known = by (nat_le version 4) refl
  where
    by : (old : Bool) → nat_le version 4 ≡ old
        → (address_size_production version handed).Spells (if old then [] else size ∷ 0 ∷ []) size
    by true is = first-chosen _ _ _ _ _ is (refl, sym same)
    by false is = second-chosen _ _ _ _ _ is (
      size,
      size ∷ [],
      0 ∷ [],
      refl,
      own_spelled _ known,
      (0, 0 ∷ [], [], refl, refl, (tt, [], [], refl, (refl, refl), (refl, refl))),
    )

-- ---- lengths

-- an offset of a reader holds any word of the 32-bit format, and one of the 64-bit format that is below its limit
held : (layout : OrderAndLimit) (format : Format) (n : ℕ) → (format ≡ Dwarf64 → n < layout.limit)
    → fits_offset layout format n ≡ true
held layout format n lt = grind arith

-- eight bytes hold any number of the 64-bit format, which is told by no test
word_spelled : (is_big : Bool) (format : Format) (n : ℕ) (bytes : List ℕ) → n < 2 ^ 64
    → format_word is_big format n ≡ Ok bytes
    → SpellsNumber is_big (word_size format) bytes n
word_spelled is_big format n bytes small is = grind arith

-- a word has bytes
pub word-long : (is_big : Bool) (format : Format) (n : ℕ) (bytes : List ℕ) → format_word is_big format n ≡ Ok bytes
    → 0 < length bytes
word-long is_big format n bytes is = grind arith

pub offset-spelled : (layout : OrderAndLimit) (format : Format) (n : ℕ) (bytes : List ℕ)
    → (format ≡ Dwarf64 → n < layout.limit) → n < 2 ^ 64
    → format_word layout.is_big format n ≡ Ok bytes
    → (offset_word layout format).Spells bytes n
unfolding offset_word
offset-spelled layout format n bytes lt small is = (
  n,
  bytes,
  [],
  sym (append-nil _),
  word_spelled _ _ n _ small is,
  (tt, [], [], refl, (refl, held layout _ n lt), (refl, refl)),
)

-- eight bytes hold any length of the 64-bit format, which is told by no test
initial_spelled : (is_big : Bool) (format : Format) (n : ℕ) (word : List ℕ) → n < 2 ^ 64
    → length_word is_big format n ≡ Ok word
    → SpellsInitialLength is_big (escape_bytes is_big format ++ word) format n
initial_spelled is_big format n word small is = grind arith

pub length-spelled : (layout : OrderAndLimit) (format : Format) (n : ℕ) (word : List ℕ)
    → (format ≡ Dwarf64 → n < layout.limit) → n < 2 ^ 64
    → length_word layout.is_big format n ≡ Ok word
    → (unit_length layout).Spells (escape_bytes layout.is_big format ++ word) (n, format)
unfolding unit_length
length-spelled layout format n word lt small is =
    let bytes = escape_bytes layout.is_big format ++ word in (
      (n, format),
      bytes,
      [],
      sym (append-nil _),
      initial_spelled _ _ n _ small is,
      (tt, [], [], refl, (refl, held layout _ n lt), (refl, refl)),
    )

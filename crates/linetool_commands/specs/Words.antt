-- What the words after the program's name ask for.
use Rattle.std.specs.Prelude.{◌≡◌, ◌<◌, ◌≤◌, ◌^◌, ◌∷◌, ℕ, Bool, false, ◌&&◌, nat_le, List, []}
use Rattle.std.specs.Prelude.{length, codes}
use Rattle.std.specs.List.{list_any}
use Rattle.std.specs.Str.Parse.{IsNumeral, digits_value}
use Rattle.gimli_core.specs.declared.endianity.RunTimeEndian.{RunTimeEndian}
use Rattle.gimli_core.specs.declared.endianity.RunTimeEndian.TheVariants.{Little, Big}
use Rattle.line_text.specs.declared.order_and_size.AddressSize.{AddressSize}
use Rattle.line_text.specs.declared.order_and_size.AddressSize.TheVariants.{One, Two, Four}
use Rattle.line_text.specs.declared.order_and_size.AddressSize.TheVariants.{Eight}
use Rattle.line_text.specs.declared.unit_location.UnitLocation.{UnitLocation}
use Rattle.linetool_commands.specs.declared.words.Numbers.{Numbers}
use Rattle.linetool_commands.specs.declared.words.Query.{Query}
use Rattle.linetool_commands.specs.declared.words.Command.{Command}
use Rattle.linetool_commands.specs.declared.words.Command.TheVariants.{Demo, DemoPieces, Rows}
use Rattle.linetool_commands.specs.declared.words.Command.TheVariants.{Sequences, Units, Find}

-- the word of an order
abbrev pub order_word : RunTimeEndian → List ℕ
order_word Little = codes "little"
order_word Big = codes "big"

-- the word of a size
abbrev pub size_word : AddressSize → List ℕ
size_word One = codes "1"
size_word Two = codes "2"
size_word Four = codes "4"
size_word Eight = codes "8"

-- these three words name a location: an order, a size and decimal digits
pub record NamesLocation (order size offset : List ℕ) (location : UnitLocation) : Type 0 where
  pub order_named : order ≡ order_word location.order
  pub size_named : size ≡ size_word location.address_size
  pub is_numeral : IsNumeral 10 offset
  pub offset_named : location.offset ≡ digits_value 10 offset
  pub offset_fits : location.offset < 2 ^ 64

-- these two words say how numbers are read: an order and a size
pub record NamesNumbers (order size : List ℕ) (numbers : Numbers) : Type 0 where
  pub order_named : order ≡ order_word numbers.order
  pub size_named : size ≡ size_word numbers.address_size

-- a capital letter
abbrev pub is_capital : ℕ → Bool
is_capital letter = nat_le 65 letter && nat_le letter 90

-- the word names an address: one to sixteen hexadecimal digits, of which none is a capital letter
pub record NamesAddress (word : List ℕ) (address : ℕ) : Type 0 where
  pub is_numeral : IsNumeral 16 word
  pub is_lower : list_any is_capital word ≡ false
  pub is_short : length word ≤ 16
  pub address_named : address ≡ digits_value 16 word
  pub address_fits : address < 2 ^ 64

-- these four words name a location and an address
pub record NamesQuery (order size offset address : List ℕ) (query : Query) : Type 0 where
  pub location_named : NamesLocation order size offset query.location
  pub address_named : NamesAddress address query.address

-- these words are a command
abbrev pub IsCommand : List (List ℕ) → Command → Type 0
IsCommand words Demo = words ≡ codes "demo" ∷ []
IsCommand words DemoPieces = words ≡ codes "demo" ∷ codes "pieces" ∷ []
IsCommand words (Rows location) = (file order size offset : List ℕ)
    × (words ≡ codes "rows" ∷ file ∷ order ∷ size ∷ offset ∷ [])
    × NamesLocation order size offset location
IsCommand words (Sequences location) = (file order size offset : List ℕ)
    × (words ≡ codes "sequences" ∷ file ∷ order ∷ size ∷ offset ∷ [])
    × NamesLocation order size offset location
IsCommand words (Find query) = (file order size offset address : List ℕ)
    × (words ≡ codes "find" ∷ file ∷ order ∷ size ∷ offset ∷ address ∷ [])
    × NamesQuery order size offset address query
IsCommand words (Units numbers) = (file order size : List ℕ)
    × (words ≡ codes "units" ∷ file ∷ order ∷ size ∷ []) × NamesNumbers order size numbers

-- a command that prints what stands in a file
abbrev pub ReadsFile : Command → Type 0
ReadsFile Demo = ⊥
ReadsFile DemoPieces = ⊥
ReadsFile command = Unit {0}

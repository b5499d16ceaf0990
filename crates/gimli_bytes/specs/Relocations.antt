-- What is written where addresses aren't known yet: bytes, and the places that a linker fills in
-- (System V ABI, chapter 4, "Relocation").
use Rattle.std.specs.Prelude.{◌≡◌, ◌⊎◌, ◌+◌, ◌%◌, ◌<◌, ◌^◌, ◌+ℤ◌, ◌&&◌, if◌then◌else◌, ◌∷◌, ◌++◌, ℕ}
use Rattle.std.specs.Prelude.{ℤ, pos, negsuc, FitsSigned, unsigned_abs, Bool, nat_le, nat_lt, List}
use Rattle.std.specs.Prelude.{[], length, take, drop, All, Result, Ok, Err}
use Rattle.gimli_bytes.specs
use specs.Prelude.{number_bytes, value_of, result_map, SectionId}
use Rattle.std.specs.List.{list_all, list_any}
use Rattle.std.specs.Int.{w64, cast_signed, cast_unsigned}
use specs.Number.{udata, address_bytes}
use specs.Hand.{Hand, Placement, section_word, plain_reference}
use specs.Written.{overwrite_of, patch}
use specs.declared.address.Address.{Address}
use specs.declared.address.Address.TheVariants.{Constant, Symbol}
use specs.declared.error.Error.{Error}
use specs.declared.error.Error.TheVariants.{
  InvalidRange,
  LengthOutOfBounds,
  OffsetOutOfBounds,
  OutOfMemory,
  UnsupportedWordSize,
  ValueTooLarge,
}
use specs.declared.relocation.Addends.{Addends}
use specs.declared.relocation.Addends.TheVariants.{Listed, InPlace}
use specs.declared.relocation.RelocationTarget.{RelocationTarget}
use specs.declared.relocation.RelocationTarget.TheVariants.{OfSymbol, OfSection}
use specs.declared.relocation.Relocation.{Relocation}
use specs.Relocatable.{Relocatable}

-- ---- what a linker does

-- what a target and an addend become
abbrev pub place_of : Placement → RelocationTarget → ℕ → ℕ
place_of placement (OfSymbol symbol) addend = placement.symbol symbol + addend
place_of placement (OfSection section) addend = placement.section section addend

-- bytes put over others from a place on
abbrev pub bytes_over : List ℕ → ℕ → List ℕ → List ℕ
bytes_over old at bytes = take at old ++ bytes ++ drop (at + length bytes) old

-- what a linker puts at a place, in as many bytes as the place has. The addend is the sum of that
-- of the list and the number at the place, one of them 0, in as many of its lowest bytes
abbrev pub relocated : Placement → Bool → List ℕ → Relocation → List ℕ
relocated placement is_big bytes r =
    let there = value_of is_big (take r.size (drop r.offset bytes)) in
    bytes_over bytes r.offset
    (number_bytes is_big r.size
    (place_of placement r.target ((cast_unsigned w64 r.addend + there) % 256 ^ r.size)))

-- the bytes once the relocations are applied, one after the other
abbrev pub all_relocated : Placement → Bool → List ℕ → List Relocation → List ℕ
all_relocated placement is_big bytes [] = bytes
all_relocated placement is_big bytes (r ∷ others) =
    all_relocated placement is_big (relocated placement is_big bytes r) others

-- the bytes of a vector once all of its relocations are applied
abbrev pub applied : Placement → Relocatable → List ℕ
applied placement v = all_relocated placement v.is_big v.bytes v.relocations

-- ---- what is written

-- what a call of a writer asks for; the last number is the size
pub data Call : Type 0 where
  Bytes : List ℕ → Call
  AddressOf : Address → ℕ → Call
  OffsetInto : SectionId → ℕ → ℕ → Call
  ReferenceTo : ℕ → ℕ → Call
  BytesAt : ℕ → List ℕ → Call
  OffsetAt : ℕ → SectionId → ℕ → ℕ → Call

-- the number that stands at the place of a relocation with this addend, until it is applied
abbrev pub number_in_place : Addends → ℤ → ℕ → ℕ
number_in_place Listed addend size = 0
number_in_place InPlace addend size = cast_unsigned w64 addend % 256 ^ size

-- the addend that stands in the relocation itself
abbrev pub addend_in_list : Addends → ℤ → ℤ
addend_in_list Listed addend = addend
addend_in_list InPlace addend = pos 0

-- a relocation at an offset
abbrev pub relocation_at : Relocatable → ℕ → RelocationTarget → ℤ → ℕ → Relocation
relocation_at v offset target addend size =
    record {
      offset = offset;
      size = size;
      target = target;
      addend = addend_in_list v.addends addend;
    }

-- these bytes, and one relocation more
abbrev pub with_relocation : Relocatable → Relocation → List ℕ → Relocatable
with_relocation v r bytes = record v { bytes = bytes; relocations = v.relocations ++ r ∷ [] }

-- a place after the bytes, which a linker fills in
abbrev pub with_place : Relocatable → RelocationTarget → ℤ → ℕ → Result Relocatable Error
with_place v target addend size =
    result_map (λ word. with_relocation v (relocation_at v (length v.bytes) target addend size)
    (v.bytes ++ word))
    (udata v.is_big (number_in_place v.addends addend size) size)

-- a place has one of so many bytes from an offset on
abbrev pub touches : ℕ → ℕ → Relocation → Bool
touches offset size r = nat_lt r.offset (offset + size) && nat_lt offset (r.offset + r.size)

-- bytes aren't written over a place that a linker fills in
abbrev pub unless_touched : List Relocation → ℕ → ℕ → Result (List ℕ) Error
    → Result (List ℕ) Error
unless_touched relocations offset size written =
    if list_any (touches offset size) relocations then Err InvalidRange else written

-- a place over the bytes from an offset on, which a linker fills in
abbrev pub with_place_at : Relocatable → ℕ → RelocationTarget → ℤ → ℕ → Result Relocatable Error
with_place_at v offset target addend size =
    result_map (with_relocation v (relocation_at v offset target addend size))
    (unless_touched v.relocations offset size
    (patch (udata v.is_big (number_in_place v.addends addend size) size) v.bytes offset))

-- one step after another, to the first refusal
abbrev pub result_then : {A B : Type 0} → Result A Error → (A → Result B Error) → Result B Error
result_then (Ok x) f = f x
result_then (Err e) f = Err e

-- what a call leaves of a list of relocations and its bytes, or its refusal
abbrev pub after_call : Relocatable → Call → Result Relocatable Error
after_call v (Bytes bytes) = Ok (record v { bytes = v.bytes ++ bytes })
after_call v (AddressOf (Constant n) size) =
    result_map (λ word. record v { bytes = v.bytes ++ word }) (udata v.is_big n size)
after_call v (AddressOf (Symbol symbol addend) size) = with_place v (OfSymbol symbol) addend size
after_call v (OffsetInto section n size) = with_place v (OfSection section) (cast_signed w64 n) size
after_call v (ReferenceTo symbol size) = with_place v (OfSymbol symbol) (pos 0) size
after_call v (BytesAt offset bytes) =
    result_map (λ new. record v { bytes = new })
    (unless_touched v.relocations offset (length bytes) (overwrite_of v.bytes offset bytes))
after_call v (OffsetAt offset section n size) =
    with_place_at v offset (OfSection section) (cast_signed w64 n) size

-- why a call is refused: memory, or what it asks for
abbrev pub IsRefusal : Relocatable → Call → Error → Type 0
IsRefusal v call e = (e ≡ OutOfMemory) ⊎ (after_call v call ≡ Err e)

-- what any call of such a section may refuse with, but for a constant address: memory, bytes over a
-- place that a linker fills in, a size that no number has, and a place that is past the end
abbrev pub IsRelocatableRefusal : Error → Type 0
IsRelocatableRefusal OutOfMemory = Unit {0}
IsRelocatableRefusal InvalidRange = Unit {0}
IsRelocatableRefusal (UnsupportedWordSize size) = Unit {0}
IsRelocatableRefusal OffsetOutOfBounds = Unit {0}
IsRelocatableRefusal LengthOutOfBounds = Unit {0}
IsRelocatableRefusal e = ⊥

-- what calls leave, up to the first that is refused
abbrev pub after_calls : Relocatable → List Call → Result Relocatable Error
after_calls v [] = Ok v
after_calls v (call ∷ calls) = result_then (after_call v call) (λ w. after_calls w calls)

-- ---- the same calls with the symbols replaced

-- a sum of so many bytes: a negative one is none
abbrev pub sum_bytes : Bool → ℤ → ℕ → Result (List ℕ) Error
sum_bytes is_big (pos n) size = udata is_big n size
sum_bytes is_big (negsuc n) size = Err ValueTooLarge

-- what a vector of bytes alone holds after a call in which each symbol is a number, and an offset
-- into a section is what it becomes
abbrev pub plainly_after : Placement → Bool → List ℕ → Call → Result (List ℕ) Error
plainly_after placement is_big old (Bytes bytes) = Ok (old ++ bytes)
plainly_after placement is_big old (AddressOf (Constant n) size) =
    result_map (λ word. old ++ word) (udata is_big n size)
plainly_after placement is_big old (AddressOf (Symbol symbol addend) size) =
    result_map (λ word. old ++ word)
    (sum_bytes is_big (pos (placement.symbol symbol) +ℤ addend) size)
plainly_after placement is_big old (OffsetInto section n size) =
    result_map (λ word. old ++ word) (udata is_big (placement.section section n) size)
plainly_after placement is_big old (ReferenceTo symbol size) =
    result_map (λ word. old ++ word) (udata is_big (placement.symbol symbol) size)
plainly_after placement is_big old (BytesAt offset bytes) = overwrite_of old offset bytes
plainly_after placement is_big old (OffsetAt offset section n size) =
    patch (udata is_big (placement.section section n) size) old offset

-- the same of calls, one after the other, up to the first that is refused
abbrev pub plainly_after_calls : Placement → Bool → List ℕ → List Call → Result (List ℕ) Error
plainly_after_calls placement is_big old [] = Ok old
plainly_after_calls placement is_big old (call ∷ calls) =
    result_then (plainly_after placement is_big old call)
    (λ new. plainly_after_calls placement is_big new calls)

-- ---- what each call asks for

-- a sum that so many bytes hold
abbrev pub SumFits : ℤ → ℕ → Type 0
SumFits sum size = (n : ℕ) × (sum ≡ pos n) × (n < 256 ^ size)

-- the sum that a call asks for fits its size, and its numbers are of 64 bits
abbrev pub CallFits : Placement → Call → Type 0
CallFits placement (AddressOf (Symbol symbol addend) size) =
    SumFits (pos (placement.symbol symbol) +ℤ addend) size × FitsSigned w64 addend
CallFits placement (OffsetInto section n size) =
    (placement.section section n < 256 ^ size) × (n < 256 ^ size) × (n < 2 ^ 64)
CallFits placement (ReferenceTo symbol size) = placement.symbol symbol < 256 ^ size
CallFits placement (OffsetAt offset section n size) =
    (placement.section section n < 256 ^ size) × (n < 256 ^ size) × (n < 2 ^ 64)
CallFits placement _ = Unit {0}

-- each call's does
abbrev pub CallsFit : Placement → List Call → Type 0
CallsFit placement calls = All (CallFits placement) calls

-- each place is within so many bytes
abbrev pub are_within : ℕ → List Relocation → Bool
are_within size relocations = list_all (λ r. nat_le (r.offset + r.size) size) relocations

-- each place is within the bytes
abbrev pub are_inside : Relocatable → Bool
are_inside v = are_within (length v.bytes) v.relocations

-- ---- what stands at the places once a linker has filled them in: the lowest bytes of each sum

-- as many of the lowest bytes of a sum
abbrev pub lowest_bytes : Bool → ℕ → ℕ → Result (List ℕ) Error
lowest_bytes is_big sum size = udata is_big (sum % 256 ^ size) size

-- an address: a constant as it is, a symbol as the sum of its address and the addend
abbrev pub placed_address : Placement → Bool → Address → ℕ → Result (List ℕ) Error
placed_address placement is_big (Constant n) size = udata is_big n size
placed_address placement is_big (Symbol symbol addend) size =
    lowest_bytes is_big (placement.symbol symbol + cast_unsigned w64 addend) size

-- an offset into a section, as what it becomes
abbrev pub placed_offset : Placement → Bool → SectionId → ℕ → ℕ → Result (List ℕ) Error
placed_offset placement is_big section n size =
    lowest_bytes is_big (placement.section section (n % 256 ^ size)) size

-- a reference to a symbol, as the symbol's address
abbrev pub placed_reference : Placement → Bool → ℕ → ℕ → Result (List ℕ) Error
placed_reference placement is_big symbol size = lowest_bytes is_big (placement.symbol symbol) size

-- what stands there of each
abbrev pub placed : Placement → Hand
placed placement = record {
  address = placed_address placement;
  offset = placed_offset placement;
  reference = placed_reference placement;
}

-- ---- the same as numbers

-- an address once its symbol is placed
abbrev pub address_placed : Placement → Address → Address
address_placed placement (Constant n) = Constant n
address_placed placement (Symbol symbol addend) =
    Constant (unsigned_abs (pos (placement.symbol symbol) +ℤ addend))

-- an offset into a section, as what it becomes; eight bytes hold each
abbrev pub counted_offset : Placement → Bool → SectionId → ℕ → ℕ → Result (List ℕ) Error
counted_offset placement is_big section n size =
    section_word is_big (placement.section section n) size

-- as `plain` has them, but for such offsets
abbrev pub counted : Placement → Hand
counted placement = record {
  address = address_bytes;
  offset = counted_offset placement;
  reference = plain_reference;
}

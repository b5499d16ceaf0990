-- Offsets of one number are the same.
use Rattle.std.proofs.Common.{◌≡◌, refl}
use Rattle.gimli_core.specs
use specs.declared.common.DebugLineOffset.{DebugLineOffset}
use specs.declared.common.DebugStrOffset.{DebugStrOffset}
use specs.declared.common.DebugLineStrOffset.{DebugLineStrOffset}
use specs.declared.common.DebugStrOffsetsIndex.{DebugStrOffsetsIndex}

module _ {T : Type 0} where
  -- each of its number
  abbrev line_of : T → DebugLineOffset T
  line_of n = record { 0 = n }

  abbrev string_of : T → DebugStrOffset T
  string_of n = record { 0 = n }

  abbrev line_string_of : T → DebugLineStrOffset T
  line_string_of n = record { 0 = n }

  abbrev index_of : T → DebugStrOffsetsIndex T
  index_of n = record { 0 = n }

  pub line : (a b : DebugLineOffset T) → b.0 ≡ a.0 → b ≡ a
  line a b is = let same : line_of b.0 ≡ line_of a.0 = rw is refl in same

  pub string : (a b : DebugStrOffset T) → b.0 ≡ a.0 → b ≡ a
  string a b is = let same : string_of b.0 ≡ string_of a.0 = rw is refl in same

  pub line_string : (a b : DebugLineStrOffset T) → b.0 ≡ a.0 → b ≡ a
  line_string a b is = let same : line_string_of b.0 ≡ line_string_of a.0 = rw is refl in same

  pub index : (a b : DebugStrOffsetsIndex T) → b.0 ≡ a.0 → b ≡ a
  index a b is = let same : index_of b.0 ≡ index_of a.0 = rw is refl in same

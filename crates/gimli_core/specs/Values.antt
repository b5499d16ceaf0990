-- The values of forms, with lists of bytes in place of readers and numbers in place of offsets.
use Rattle.std.specs.Prelude.{◌≡◌, ℕ, Bool, List, Option, Some, None, IfSome, pos, negsuc}
use Rattle.gimli_core.specs.Layout.{Seen}
use Rattle.gimli_core.specs.declared.attribute_value.AttributeValue.{AttributeValue}
use Rattle.gimli_core.specs.declared.attribute_value.AttributeValue.TheVariants.{
  Block,
  Data1,
  Data2,
  Data4,
  Data8,
  Udata,
  Sdata,
  Flag,
  SecOffset,
  String,
  DebugStrRef,
  DebugStrRefSup,
  DebugLineStrRef,
  DebugStrOffsetsIndex,
}

-- a value of a form, as it stands in a section
abbrev pub Value : Type 0
Value = AttributeValue (List ℕ) ℕ (Unit {0})

module _ {R Offset Endian : Type 0} (seen : R → Seen) (number : Offset → ℕ) where
  -- a value, its readers seen by bytes and its offsets by number
  abbrev pub value_seen : AttributeValue R Offset Endian → Value
  value_seen (Block r) = Block (seen r).bytes
  value_seen (Data1 n) = Data1 n
  value_seen (Data2 n) = Data2 n
  value_seen (Data4 n) = Data4 n
  value_seen (Data8 n) = Data8 n
  value_seen (Udata n) = Udata n
  value_seen (Sdata n) = Sdata n
  value_seen (Flag b) = Flag b
  value_seen (SecOffset o) = SecOffset (number o)
  value_seen (String r) = String (seen r).bytes
  value_seen (DebugStrRef o) = DebugStrRef (record { 0 = number o.0 })
  value_seen (DebugStrRefSup o) = DebugStrRefSup (record { 0 = number o.0 })
  value_seen (DebugLineStrRef o) = DebugLineStrRef (record { 0 = number o.0 })
  value_seen (DebugStrOffsetsIndex i) = DebugStrOffsetsIndex (record { 0 = number i.0 })

module _ {R Offset Endian : Type 0} (seen : R → Seen) where
  -- the order of bytes of the reader of a value, where it is a text or a block
  abbrev pub value_order : AttributeValue R Offset Endian → Option Bool
  value_order (Block r) = Some (seen r).is_big
  value_order (String r) = Some (seen r).is_big
  value_order v = None

-- a reader, where there is one, has this order
abbrev pub IsOrder : Bool → Option Bool → Type 0
IsOrder order o = IfSome o (λ is_big. is_big ≡ order)

module _ {R Offset Endian : Type 0} (seen : R → Seen) (order : Bool) where
  -- the reader of a value, where there is one, has this order
  abbrev pub ValueHasOrder : AttributeValue R Offset Endian → Type 0
  ValueHasOrder v = IsOrder order (value_order seen v)

module _ {R Offset Endian : Type 0} (seen : R → Seen) (number : Offset → ℕ) where
  -- a value, its readers seen by bytes and order, and its offsets by number
  abbrev pub value_by : AttributeValue R Offset Endian → Value × Option Bool
  value_by v = (value_seen seen number v, value_order seen v)

-- the number of a value that is an unsigned number, or a signed one that isn't negative
abbrev pub udata_value : {R Offset Endian : Type 0} → AttributeValue R Offset Endian → Option ℕ
udata_value (Data1 n) = Some n
udata_value (Data2 n) = Some n
udata_value (Data4 n) = Some n
udata_value (Data8 n) = Some n
udata_value (Udata n) = Some n
udata_value (Sdata (pos n)) = Some n
udata_value (Sdata (negsuc n)) = None
udata_value v = None

-- What readers drop or misread of a program that `write` takes.
use Rattle.std.specs.Prelude.{◌≡◌, ◌+◌, ◌-◌, ◌*◌, ◌^◌, ◌<◌, ◌≤◌, ◌&&◌, ◌||◌, if◌then◌else◌, ◌∷◌}
use Rattle.gimli_build.specs
use specs.Prelude
use Prelude.{ℕ, nat_eq, nat_le, nat_lt, Bool, true, false, not, List, [], length, take, drop}
use Prelude.{reverse, Option, Some, None}
use Rattle.std.specs.List.{flat_map, list_all, range_with_len}
use Rattle.std.specs.Option.{option_map, option_to_list}
use specs.Built.{Built, base_of}
use specs.declared.built.row.LineRow.{LineRow}
use specs.declared.built.items.BuiltItem.{BuiltItem}
use specs.declared.built.items.BuiltItem.TheVariants.{SetAddress, Row, End}
use specs.declared.built.trap.Trap.{Trap}
use specs.declared.built.trap.Trap.TheVariants.{
  OpenSequence,
  AddressOverflow,
  MissingFile,
  LaterOpcode,
  UnsetAddress,
}

-- whether an item sets an address
abbrev pub is_set_address : BuiltItem → Bool
is_set_address (SetAddress a) = true
is_set_address (Row r) = false
is_set_address (End offset op_index) = false

-- a row after these items, the nearest first, begins a sequence whose address wasn't set
abbrev pub begins_unset : List BuiltItem → Bool
begins_unset [] = true
begins_unset (SetAddress a ∷ past) = false
begins_unset (Row r ∷ past) = false
begins_unset (End offset op_index ∷ past) = true

-- past the greatest address of the size
abbrev pub is_past_greatest : Built → ℕ → Bool
is_past_greatest p address = nat_le (2 ^ (8 * p.encoding.address_size)) address

-- what no opcode of the version says: prologue_end, epilogue_begin and isa came with version 3,
-- discriminators with version 4 (DWARF 3 and 4, sections 6.2.5.2 and 6.2.5.3)
abbrev pub has_later_opcode : ℕ → LineRow → Bool
has_later_opcode version r =
    (nat_lt version 3 && (r.prologue_end || r.epilogue_begin || not (nat_eq r.isa 0)))
    || (nat_lt version 4 && not (nat_eq r.discriminator 0))

-- the first trap of an item whose offset counts from `base`, before the others; `begins` says that
-- a row there begins a sequence whose address wasn't set
abbrev pub item_trap : Built → ℕ → Bool → BuiltItem → List BuiltItem → Option Trap
item_trap p base begins (SetAddress a) others = None
item_trap p base begins (Row r) others =
    if list_all is_set_address others then Some OpenSequence
    else if is_past_greatest p (base + r.address_offset) then Some AddressOverflow
    else if not (nat_lt r.file (length p.files)) then Some MissingFile
    else if has_later_opcode p.encoding.version r then Some LaterOpcode
    else if begins then Some UnsetAddress
    else None
item_trap p base begins (End offset op_index) others =
    if is_past_greatest p (base + offset) then Some AddressOverflow else None

-- that of the first of these items, after others, the nearest first
abbrev pub first_trap : Built → List BuiltItem → List BuiltItem → Option Trap
first_trap p past [] = None
first_trap p past (item ∷ others) = item_trap p (base_of past) (begins_unset past) item others

-- that of the item at an index
abbrev pub trap_at : Built → ℕ → Option Trap
trap_at p i = first_trap p (reverse (take i p.items)) (drop i p.items)

-- ---- several traps

-- before the item at an index: the address that offsets count from there, and whether a row there
-- begins a sequence whose address wasn't set
pub record IsTrapPlace (p : Built) (next base : ℕ) (begins : Bool) : Type 0 where
  pub program : p.is_none ≡ false
  pub base_is : base ≡ base_of (reverse (take next p.items))
  pub begins_is : begins ≡ begins_unset (reverse (take next p.items))

-- the items from one index up to another have none
abbrev pub HaveNoTrap : Built → ℕ → ℕ → Type 0
HaveNoTrap p from to = (i : ℕ) → from ≤ i → i < to → trap_at p i ≡ None

-- the trap of the item at an index, with this index
abbrev pub indexed_trap : Built → ℕ → List (ℕ × Trap)
indexed_trap p i = option_to_list (option_map (λ trap. (i, trap)) (trap_at p i))

-- those of the items from an index on
abbrev pub traps_from : Built → ℕ → List (ℕ × Trap)
traps_from p from = flat_map (indexed_trap p) (range_with_len from (length p.items - from))

-- those of all items
abbrev pub traps_of : Built → List (ℕ × Trap)
traps_of p = traps_from p 0

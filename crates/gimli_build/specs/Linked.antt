-- A unit whose addresses, and offsets of texts, a linker fills in: the program that it is then.
use Rattle.std.specs.Prelude.{◌≡◌, ◌+◌, ◌≤◌, ◌^◌, ◌++◌}
use Rattle.gimli_build.specs
use specs.Prelude
use Prelude.{ℕ, List, length, map, All, word_size, Format, DebugStr, DebugLineStr, Placement}
use Prelude.{unplaced, table_bytes, StringTables, IsTrue, OnOk, Result, Error, Ghosts}
use Rattle.gimli_bytes.specs.Relocations.{AddressOf, CallFits, address_placed, placed}
use Rattle.gimli_bytes.specs.Written.{AppendsThat}
use specs.LineText.{LineText}
use specs.ReadsBack.{IsOffsetHeld, ReadsBackAs, ReadsBackAt}
use specs.Built.{Built}
use specs.Cause.{emitted_texts}
use specs.declared.built.items.BuiltItem.{BuiltItem}
use specs.declared.built.items.BuiltItem.TheVariants.{SetAddress}

-- a set address with its symbol replaced
abbrev pub placed_item : Placement → BuiltItem → BuiltItem
placed_item at (SetAddress a) = SetAddress (address_placed at a)
placed_item at item = item

-- the same program with its symbols replaced
abbrev pub placed_program : Placement → Built → Built
placed_program at p = record p { items = map (placed_item at) p.items }

-- ---- each sum fits its size

-- a symbol's address and the addend
abbrev pub AddressFits : Placement → ℕ → BuiltItem → Type 0
AddressFits at size (SetAddress a) = CallFits at (AddressOf a size)
AddressFits at size item = Unit {0}

-- the offset of a text in the section of its table, and what it becomes
abbrev pub OffsetFits : Placement → Format → StringTables → LineText → Type 0
OffsetFits at format texts t =
    IsOffsetHeld (256 ^ word_size format) unplaced texts t
    × IsOffsetHeld (256 ^ word_size format) at texts t

-- each sum that a linker makes for the unit of a program, with these tables; up to version 4 it
-- has no offset of a text
pub record SumsFit (at : Placement) (p : Built) (texts : StringTables) : Type 0 where
  pub addresses : All (AddressFits at p.encoding.address_size) p.items
  pub offsets : 5 ≤ p.encoding.version
      → All (λ t. OffsetFits at p.encoding.format texts t.1) (emitted_texts p texts)

-- both sections of texts begin at 0, so that an offset there is a number as it is
pub record TextsBeginAtZero (at : Placement) : Type 0 where
  pub strings : (n : ℕ) → at.section DebugStr n ≡ n
  pub line_strings : (n : ℕ) → at.section DebugLineStr n ≡ n

-- a section has the bytes of a table after others, from where offsets are counted then
pub record HasTable (section : List ℕ) (placed : ℕ → ℕ) (texts : List (List ℕ)) : Type 0 where
  pub before : List ℕ
  pub after : List ℕ
  pub whole : section ≡ before ++ (table_bytes texts ++ after)
  pub counted : (n : ℕ) → placed n ≡ length before + n

-- ---- what was appended is read back

-- a call that returned Ok appended a unit that whoever reads it well reads back, with these tables
pub record IsReadBack {W X : Type 0} (sink : Ghosts W) (p : Built) (texts : StringTables)
    (old new : W) (result : Result X Error) : Type 0 where
  -- in a writer that keeps its bytes, as they are
  pub written : IsTrue sink.keeps_bytes → OnOk result (AppendsThat
      (ReadsBackAs (sink.is_big old) p texts) (sink.contents old) (sink.contents new))
  -- and once a linker has placed symbols and sections, where each sum fits its size
  pub linked : (at : Placement) → IsTrue (sink.completes old) → sink.hand at ≡ placed at
      → SumsFit at p texts → OnOk result (AppendsThat
      (ReadsBackAt at (sink.is_big old) (placed_program at p) texts)
      (sink.completed at old) (sink.completed at new))

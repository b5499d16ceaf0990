-- What the items and texts are that a program takes in.
use Rattle.std.specs.Prelude.{◌≡◌, ◌≢◌, List, ◌++◌, All}
use Rattle.gimli_build.specs.Built.{Built}
use Rattle.gimli_build.specs.LineText.{LineText, Inline, InStrings, InLineStrings}
use Rattle.gimli_build.specs.declared.built.items.BuiltItem.{BuiltItem}

-- a text in the program itself, without a zero byte
abbrev pub IsInline : LineText → Type 0
IsInline (Inline bytes) = All (λ b. b ≢ 0) bytes
IsInline (InStrings i) = ⊥
IsInline (InLineStrings i) = ⊥

-- a program has these items more, and is else what it was but for the row that is built next
pub record AddsItems (old new : Built) (items : List BuiltItem) : Type 0 where
  pub items_are : new.items ≡ old.items ++ items
  pub others : new ≡ record old { items = new.items; row = new.row; in_sequence = new.in_sequence }

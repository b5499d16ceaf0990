-- What is seen of a section that a linker is to complete.
use Rattle.std.specs.Prelude.{ℕ, Bool, List}
use Rattle.gimli_bytes.specs.declared.relocation.Addends.{Addends}
use Rattle.gimli_bytes.specs.declared.relocation.Relocation.{Relocation}

-- its bytes and whether the most significant byte of a number comes first, its relocations in
-- order, and where their
-- addends stand
pub record Relocatable : Type 0 where
  pub bytes : List ℕ
  pub is_big : Bool
  pub relocations : List Relocation
  pub addends : Addends

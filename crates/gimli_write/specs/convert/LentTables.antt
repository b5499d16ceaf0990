-- The two tables of strings that a conversion is lent.
use Rattle.std.specs.Prelude.{◌≡◌}
use Rattle.gimli_write.specs.Prelude.{ℕ, List, KeepsTexts, StringTables}
use Rattle.std.specs.Borrow.{MutBor}

-- both, as they are lent
pub record LentTables : Type 0 where
  pub line_strings : MutBor (List (List ℕ))
  pub strings : MutBor (List (List ℕ))

-- these two
abbrev pub lent : MutBor (List (List ℕ)) → MutBor (List (List ℕ)) → LentTables
lent line_strings strings = record { line_strings = line_strings; strings = strings }

-- texts may have been added to the line strings, after those that they had; the strings are as they
-- were
pub record AddsLineStrings (old new : StringTables) : Type 0 where
  pub line_strings : KeepsTexts old.line_strings new.line_strings
  pub strings : new.strings ≡ old.strings

-- both are still the tables that were lent, with the texts that they had
pub record SameStringTables (old new : LentTables) : Type 0 where
  pub line_strings : new.line_strings.now ≡ old.line_strings.now
  pub strings : new.strings.now ≡ old.strings.now
  pub lent_line_strings : new.line_strings.ghost_name ≡ old.line_strings.ghost_name
  pub lent_strings : new.strings.ghost_name ≡ old.strings.ghost_name

-- the same, but that texts may have been added to the line strings, after those that they had
pub record KeepsStringTables (old new : LentTables) : Type 0 where
  pub line_strings : KeepsTexts old.line_strings.now new.line_strings.now
  pub strings : new.strings.now ≡ old.strings.now
  pub lent_line_strings : new.line_strings.ghost_name ≡ old.line_strings.ghost_name
  pub lent_strings : new.strings.ghost_name ≡ old.strings.ghost_name

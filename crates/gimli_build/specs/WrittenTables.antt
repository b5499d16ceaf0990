-- What `write` leaves of the two tables of texts that it is handed.
use Rattle.std.specs.Prelude.{◌≡◌, ◌⊎◌, ◌≤◌}
use Rattle.gimli_build.specs
use specs.Prelude.{IsTrue, OnOk, Result, Encoding, Error, StringTables}
use specs.Built.{Built}
use specs.Unit.{is_incompatible}
use specs.Version5Tables.{texts_after}

-- both tables have what the program's unit needs: the empty text more in the one of the form of its
-- sources, where a source is missing and sources are written
pub record HaveEmptySource (p : Built) (old new : StringTables) : Type 0 where
  pub strings : new.strings ≡ (texts_after p old).strings
  pub line_strings : new.line_strings ≡ (texts_after p old).line_strings

-- each table is as it was, or has the empty text more where the program's unit needs it; up to
-- version 4, and where the unit's encoding can't have the program's, both are as they were
pub record KeepTables (p : Built) (unit : Encoding) (old new : StringTables) : Type 0 where
  pub strings : (new.strings ≡ old.strings) ⊎ (new.strings ≡ (texts_after p old).strings)
  pub line_strings : (new.line_strings ≡ old.line_strings)
      ⊎ (new.line_strings ≡ (texts_after p old).line_strings)
  pub up_to_version_4 : p.encoding.version ≤ 4 → new.strings ≡ old.strings
  pub line_up_to_version_4 : p.encoding.version ≤ 4 → new.line_strings ≡ old.line_strings
  pub incompatible : IsTrue (is_incompatible unit p.encoding) → new.strings ≡ old.strings
  pub line_incompatible : IsTrue (is_incompatible unit p.encoding)
      → new.line_strings ≡ old.line_strings

-- a call that returned Ok leaves both tables as its unit needs them, and each call keeps them
pub record LeavesTables {X : Type 0} (p : Built) (unit : Encoding) (old new : StringTables)
    (result : Result X Error) : Type 0 where
  pub ok : OnOk result (HaveEmptySource p old new)
  pub kept : KeepTables p unit old new

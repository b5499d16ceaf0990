-- What each read of a conversion keeps, and where it leaves the files of its source.
use Rattle.std.specs.Prelude.{◌≡◌, ◌≢◌}
use Rattle.gimli_write.specs
use specs.Prelude
use Prelude.{Option, Some, None, Result, Err, IfErr, IfOk, OnOk, KeepsTexts}
use Prelude.{ConvertError, OutOfMemory}
use specs.convert.Conversion.{Progress, AddsFiles, built_so_far}
use specs.convert.KeptTables.{
  KeepsFiles,
  StaysWritable,
  HasFinalTables,
  KeepsFinalTables,
}

-- however a read ends, it adds files to the program and changes nothing else in it; the files that
-- were there keep their ids and their numbers, and the line strings their texts; and a program that
-- could be written still can be
pub record ReadsOn (old new : Progress) : Type 0 where
  pub adds : AddsFiles (built_so_far old) (built_so_far new)
  pub keeps : KeepsFiles old.conversion.tables new.conversion.tables
  pub texts : KeepsTexts old.line_strings new.line_strings
  pub writable : StaysWritable old.conversion.tables old.line_strings new.conversion.tables
      new.line_strings

module _ {A : Type 0} (old : Progress) (result : Result (Option A) ConvertError)
    (new : Progress) where
  -- a read leaves the tables that the conversion was to be left with still to come; they are there
  -- at the end, and after a refusal for another cause than `OutOfMemory`
  pub record LeavesTables : Type 0 where
    pub still : OnOk result (KeepsFinalTables old new)
    pub ended : IfOk result (λ found. found ≡ None → HasFinalTables old new)
    pub stopped : IfErr result (λ e. e ≢ OutOfMemory → HasFinalTables old new)

  -- a refusal is that of the read before it, where that was refused, and of every read after it
  pub record RepeatsRefusal : Type 0 where
    pub repeats : (e : ConvertError) → old.conversion.failed ≡ Some e → result ≡ Err e
    pub failed : IfErr result (λ e. new.conversion.failed ≡ Some e)
    pub well : OnOk result (new.conversion.failed ≡ None)

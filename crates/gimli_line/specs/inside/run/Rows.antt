-- What one step of a row iterator does.
use Rattle.std.specs.Prelude.{◌≡◌, ◌<◌, ◌∷◌, ◌^◌, ◌-◌}
use Rattle.gimli_line.specs.Prelude.{List, [], length, IfErr, IfOk, Result, Error, filter, take}
use Rattle.gimli_line.specs.declared.run.rows.RowStep.{RowStep}
use Rattle.gimli_line.specs.declared.run.rows.RowStep.TheVariants.{Done, Made, More}
use Rattle.gimli_line.specs.run.Events.{Event, row, is_given}
use Rattle.gimli_line.specs.declared.run.row.LineRow.{LineRow}
use Rattle.gimli_line.specs.run.Passing.{RunState}
use Rattle.gimli_line.specs.run.Passing.{with_reset_row, PassesOver}
use Rattle.gimli_line.specs.run.Rows.{event_of, live_made, made_left, FaultIs, KeepsRun}
use Rattle.gimli_line.specs.run.Unread.{Unread}

-- instructions were executed, and nothing came of them
pub record ReadsOn (old new : RunState) : Type 0 where
  pub made : live_made old ≡ live_made new
  pub passed : PassesOver old new []
  pub keeps : KeepsRun old new

-- what a row that is made gives
abbrev pub given_row : LineRow → List Event
given_row r = filter is_given (row r ∷ [])

-- what instructions did up to a row, which may be under a tombstone, or to the end
abbrev pub StepIs : RunState → RunState → RowStep → Type 0
StepIs old new Done = (live_made old ≡ []) × (new.unread.bytes ≡ []) × PassesOver old new []
StepIs old new Made =
    (live_made old ≡ event_of (row new.row) new ∷ made_left new)
    × PassesOver old (with_reset_row new) (given_row new.row)
StepIs old new More =
    (live_made old ≡ live_made new) × (length new.unread.bytes < length old.unread.bytes)
    × PassesOver old new []

-- an answer says what was done, or is a refusal; and the run is kept
pub record StepsTo (old new : RunState) (answer : Result RowStep Error) : Type 0 where
  pub ok : IfOk answer (StepIs old new)
  pub err : IfErr answer (FaultIs live_made old new)
  pub keeps : KeepsRun old new

-- each number of the row, but for the address, fits the narrow one
pub record IsNarrow (row : LineRow) : Type 0 where
  pub op_index : row.op_index < 2 ^ 8
  pub file : row.file < 2 ^ 32
  pub line : row.line < 2 ^ 32
  pub column : row.column < 2 ^ 32
  pub isa : row.isa < 2 ^ 32
  pub discriminator : row.discriminator < 2 ^ 32

-- what stands in front of a rest
abbrev pub front_of : Unread → Unread → Unread
front_of whole rest = record whole {
  bytes = take (length whole.bytes - length rest.bytes) whole.bytes;
}

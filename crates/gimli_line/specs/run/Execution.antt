-- What is done where an instruction is refused, and instructions that are executed from their
-- bytes, without a value of their own between.
use Rattle.std.specs.Prelude.{◌≡◌, ◌⊎◌, if◌then◌else◌}
use Rattle.gimli_line.specs
use specs.Prelude.{ℕ, List, Bool, true, false, Result, Ok, Err, Error, AddressOverflow, OutOfMemory}
use specs.Prelude.{Read}
use specs.declared.run.from_bytes.Executed.{Executed}
use specs.declared.run.from_bytes.Executed.TheVariants.{No, Quiet, Address, Row}
use specs.declared.run.instruction.LineInstruction.TheVariants.{
  Special,
  Copy,
  EndSequence,
  SetAddress,
}
use specs.declared.run.row.LineRow.{LineRow}
use specs.header.Header.{Header}
use specs.header.Parameters.{Parameters}
use specs.run.Instruction.{Ins, defines_file, makes_row, header_after}
use specs.run.InstructionGrammar.{instruction_production}
use specs.run.Machine.{step_of, is_refused}
use specs.run.Unread.{Unread}

-- what executing an instruction returns, and the registers and the header after it: it is refused
-- where the address would pass the greatest one of its size, and the registers go on then, but for
-- the address
abbrev pub execution : Bool → Ins → LineRow → Header → Result Bool Error × LineRow × Header
execution appends i row h = (
  (if is_refused h.parameters i row then Err AddressOverflow else Ok (makes_row i)),
  step_of h.parameters i row,
  header_after appends i h,
)

-- an instruction was executed; or memory was missing to add the file that it defines, and nothing
-- changed
abbrev pub IsExecution : Bool → Ins → LineRow → Header → Result Bool Error × LineRow × Header
    → Type 0
IsExecution appends i row h after =
    (after ≡ execution appends i row h)
    ⊎ ((appends ≡ true) × (defines_file i ≡ true) × (after ≡ (Err OutOfMemory, row, h)))

-- ---- instructions that are executed from their bytes, without a value of their own between

-- what reading gives is an instruction that defines no file, with this rest after it; it was
-- executed on the registers, and refused or not
pub record IsExecuted (parameters : Parameters) (read : Read Ins) (rest : List ℕ)
    (old new : LineRow) (refused : Bool) : Type 0 where
  pub instruction : Ins
  pub reading : read ≡ (Ok instruction, rest)
  pub defines : defines_file instruction ≡ false
  pub refusal : is_refused parameters instruction old ≡ refused
  pub registers : new ≡ step_of parameters instruction old

-- what is reported of an instruction that was executed
abbrev pub told_of : Ins → Executed
told_of (Special o) = Row
told_of Copy = Row
told_of EndSequence = Row
told_of (SetAddress a) = Address a
told_of i = Quiet

-- an instruction was executed
abbrev pub is_executed : Executed → Bool
is_executed No = false
is_executed told = true

-- it wasn't refused, and this is reported of it
abbrev pub IsExecutedAs : Parameters → Read Ins → List ℕ → LineRow → LineRow → Executed → Type 0
IsExecutedAs parameters read rest old new told =
    (executed : IsExecuted parameters read rest old new false)
    × (told ≡ told_of executed.instruction)

-- the next instruction was executed on the registers, and this is reported of it; or none was, and
-- nothing changed
abbrev pub ExecutesNext : Header → Unread → Unread → LineRow → LineRow → Executed → Type 0
ExecutesNext h old new row after No = (new ≡ old) × (after ≡ row)
ExecutesNext h old new row after told =
    IsExecutedAs h.parameters ((instruction_production old.layout h).read old.bytes) new.bytes row
    after told

-- the next instruction was refused: the address would pass the greatest one of its size; the
-- registers go on, but for the address
abbrev pub RefusesNext : Header → Unread → Unread → LineRow → LineRow → Error → Type 0
RefusesNext h old new row after e =
    (e ≡ AddressOverflow)
    × IsExecuted h.parameters ((instruction_production old.layout h).read old.bytes) new.bytes row
    after true

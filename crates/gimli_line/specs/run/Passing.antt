-- What a run passes over on its way.
use Rattle.std.specs.Prelude.{◌≡◌, ◌∷◌, ◌++◌}
use Rattle.gimli_line.specs.Prelude.{Bool, List, [], ℕ}
use Rattle.gimli_core.specs.Production.{Each}
use Rattle.gimli_line.specs.declared.run.row.LineRow.{LineRow}
use Rattle.gimli_line.specs.header.Parameters.{Parameters}
use Rattle.gimli_line.specs.run.Instruction.{Ins, files_after}
use Rattle.gimli_line.specs.header.File.{File}
use Rattle.gimli_line.specs.run.InstructionGrammar.{SpellsInstruction}
use Rattle.gimli_line.specs.run.Events.{Event}
use Rattle.gimli_line.specs.run.Machine.{reset_row, next_registers, run}
use Rattle.gimli_line.specs.header.Header.{Header}
use Rattle.gimli_line.specs.header.Orders.{HeaderSource}
use Rattle.gimli_line.specs.run.Unread.{Unread}

-- a row iterator, as its callers see it
pub record RunState : Type 0 where
  -- the header without its files, and these
  pub fixed : Header
  pub files : List File
  -- whether files are added
  pub appends : Bool
  -- where the header comes from
  pub source : HeaderSource
  -- the registers
  pub row : LineRow
  -- the instructions to come
  pub unread : Unread

-- the registers after these instructions, from these on
abbrev pub registers_from : Parameters → LineRow → List Ins → LineRow
registers_from parameters r [] = r
registers_from parameters r (i ∷ list) =
    registers_from parameters (next_registers parameters i r) list

-- the files after them
abbrev pub files_from : Bool → List File → List Ins → List File
files_from appends files [] = files
files_from appends files (i ∷ list) = files_from appends (files_after appends i files) list

-- an iterator whose registers are reset, as they are before the next instruction
abbrev pub with_reset_row : RunState → RunState
with_reset_row a = record a { row = reset_row a.fixed.parameters a.row }

-- from one state to another an iterator passes over instructions that give these events
pub record PassesOver (old new : RunState) (events : List Event) : Type 0 where
  pub list : List Ins
  pub front : List ℕ
  pub parts : old.unread.bytes ≡ front ++ new.unread.bytes
  pub spelled : Each (SpellsInstruction old.unread.layout old.fixed) front list
  pub layout : new.unread.layout ≡ old.unread.layout
  pub fixed : new.fixed ≡ old.fixed
  pub appends : new.appends ≡ old.appends
  pub given : run old.fixed.parameters old.row list ≡ events
  pub registers : new.row ≡ registers_from old.fixed.parameters old.row list
  pub files : new.files ≡ files_from old.appends old.files list

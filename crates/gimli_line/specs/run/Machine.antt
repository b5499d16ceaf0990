-- The line machine: one register record, and what an instruction does to it (DWARF 5, sections
-- 6.2.2 and 6.2.5).
use Rattle.std.specs.Prelude.{◌≤◌, ◌&&◌, ◌||◌, if◌then◌else◌, ◌∷◌, ◌++◌}
use Rattle.gimli_line.specs
use specs.Prelude.{Bool, true, false, not, List, [], Option, Some, None, Error, AddressOverflow}
use specs.declared.run.instruction.LineInstruction.TheVariants.{
  Special,
  AdvancePc,
  AdvanceLine,
  SetFile,
  SetColumn,
  NegateStatement,
  SetBasicBlock,
  ConstAddPc,
  FixedAddPc,
  SetPrologueEnd,
  SetEpilogueBegin,
  SetIsa,
  EndSequence,
  SetAddress,
  SetDiscriminator,
}
use specs.declared.run.row.LineRow.{LineRow}
use specs.header.Parameters.{Parameters}
use specs.header.File.{File}
use specs.run.Instruction.{Ins, makes_row, files_after}
use specs.run.Registers.{line_advance, advanced_line}
use specs.run.OperationPointer.{
  OperationPointer,
  next_pointer,
  target_pointer,
  is_too_large,
  is_tombstone,
}
use specs.run.Events.{
  Event,
  row,
  fault,
  end_events,
  EventWithFiles,
  with_files,
  given_of,
  events_of,
}

-- the registers at the start of a sequence
abbrev pub initial : Parameters → LineRow
initial parameters = record {
  tombstone = false;
  address = 0;
  op_index = 0;
  file = 1;
  line = 1;
  column = 0;
  is_stmt = parameters.line_encoding.default_is_stmt;
  basic_block = false;
  end_sequence = false;
  prologue_end = false;
  epilogue_begin = false;
  isa = 0;
  discriminator = 0;
}

-- the registers after a row: an end starts all of them anew
abbrev pub reset_row : Parameters → LineRow → LineRow
reset_row parameters r =
    if r.end_sequence then initial parameters
    else record r {
      discriminator = 0;
      basic_block = false;
      prologue_end = false;
      epilogue_begin = false;
    }

-- the registers where addresses count from a set address
abbrev pub rebase_of : LineRow → LineRow
rebase_of r = record r { tombstone = false; address = 0; op_index = 0 }

-- the caller's condition: a special opcode is at least the opcode base
abbrev pub IsAllowed : Parameters → Ins → Type 0
IsAllowed parameters (Special o) = parameters.opcode_base ≤ o
IsAllowed parameters i = Unit {0}

-- address and op_index of the registers
abbrev pub pointer_of : LineRow → OperationPointer
pointer_of r = record { address = r.address; op_index = r.op_index }

-- the registers with another address and op_index
abbrev pub at_pointer : OperationPointer → LineRow → LineRow
at_pointer p r = record r { address = p.address; op_index = p.op_index }

-- the pointer goes on
abbrev pub move_of : Parameters → Ins → LineRow → LineRow
move_of parameters i r = at_pointer (next_pointer parameters r.tombstone i (pointer_of r)) r

-- a register that an instruction sets, whatever the parameters are
abbrev pub with_register : Ins → LineRow → LineRow
with_register (AdvanceLine v) r = record r { line = advanced_line v r.line }
with_register (SetFile n) r = record r { file = n }
with_register (SetColumn n) r = record r { column = n }
with_register NegateStatement r = record r { is_stmt = not r.is_stmt }
with_register SetBasicBlock r = record r { basic_block = true }
with_register SetPrologueEnd r = record r { prologue_end = true }
with_register SetEpilogueBegin r = record r { epilogue_begin = true }
with_register (SetIsa n) r = record r { isa = n }
with_register (SetDiscriminator n) r = record r { discriminator = n }
with_register EndSequence r = record r { end_sequence = true }
with_register i r = r

-- the registers after an instruction; at an end the pointer stays until the reset
abbrev pub step_of : Parameters → Ins → LineRow → LineRow
step_of parameters (Special o) r =
    record (move_of parameters (Special o) r) {
      line = elim (line_advance parameters (Special o))
          [ Some v ↦ advanced_line v r.line | None ↦ r.line ];
    }
step_of parameters (AdvancePc n) r = move_of parameters (AdvancePc n) r
step_of parameters ConstAddPc r = move_of parameters ConstAddPc r
step_of parameters (FixedAddPc n) r = move_of parameters (FixedAddPc n) r
step_of parameters (SetAddress a) r =
    record (move_of parameters (SetAddress a) r) {
      tombstone = is_tombstone parameters a
          (pointer_of r);
    }
step_of parameters i r = with_register i r

-- whether an instruction is refused by `AddressOverflow`
abbrev pub is_refused : Parameters → Ins → LineRow → Bool
is_refused parameters i r =
    (elim (target_pointer parameters i (pointer_of r))
    [ Some to ↦ is_too_large parameters to | None ↦ false ])
    && not r.tombstone

-- ---- a run

-- what an instruction makes at these registers
abbrev pub made_step : Parameters → Ins → LineRow → List Event
made_step parameters i r =
    if is_refused parameters i r then fault AddressOverflow ∷ []
    else (if makes_row i then row (step_of parameters i r) ∷ [] else [])

-- the registers after an instruction: they are reset after a row and after a refusal
abbrev pub next_registers : Parameters → Ins → LineRow → LineRow
next_registers parameters i r =
    if is_refused parameters i r || makes_row i then reset_row parameters (step_of parameters i r)
    else step_of parameters i r

-- the registers after a past, run from the start of a program
abbrev pub registers_after : Parameters → List Ins → LineRow
registers_after parameters [] = initial parameters
registers_after parameters (i ∷ past) =
    next_registers parameters i (registers_after parameters past)

-- the registers that the machine has at a point with this instruction
abbrev pub registers_at : Parameters → List Ins → Ins → LineRow
registers_at parameters past i = step_of parameters i (registers_after parameters past)

-- what these instructions and this end make from these registers and files on
abbrev pub made_from : Bool → Parameters → LineRow → List File → List Ins → Option Error
    → List EventWithFiles
made_from appends parameters r files [] end = with_files files (end_events end)
made_from appends parameters r files (i ∷ list) end =
    with_files files (made_step parameters i r)
    ++ made_from appends parameters (next_registers parameters i r) (files_after appends i files)
    list end

-- what these instructions give from these registers on
abbrev pub run : Parameters → LineRow → List Ins → List Event
run parameters r list = events_of (given_of (made_from false parameters r [] list None))

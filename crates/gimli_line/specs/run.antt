-- Runs of line programs: instructions, registers, rows and sequences.
pub mod Instruction
pub mod InstructionGrammar
pub mod Unread
pub mod Registers
pub mod OperationPointer
pub mod Events
pub mod Machine
pub mod Execution
pub mod Row
pub mod EventsWithFiles
pub mod Passing
pub mod Rows
pub mod Sequences

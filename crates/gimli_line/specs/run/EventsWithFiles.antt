-- What a program makes and gives, with the files of the header at each point.
use Rattle.std.specs.Prelude.{◌≡◌}
use Rattle.gimli_line.specs
use specs.Prelude.{ℕ, Bool, List, [], Option, Error, OrderAndLimit}
use specs.run.Instruction.{Ins}
use specs.header.File.{File}
use specs.header.Header.{Header}
use specs.run.InstructionGrammar.{Decodes}
use specs.run.Events.{made_after, given_of, past_at_end}
pub use Rattle.gimli_line.specs.run.Events.{EventWithFiles, with_files, files_at}

-- what a program makes that is decoded into these instructions and this end
abbrev pub program_made : Bool → Header → List Ins → Option Error → List EventWithFiles
program_made appends h list end = made_after h.parameters (files_at appends h.files) [] list end

-- what the bytes of a program make from its start
pub record Makes (layout : OrderAndLimit) (appends : Bool) (h : Header) (bytes : List ℕ)
    (events : List EventWithFiles) : Type 0 where
  pub list : List Ins
  pub end : Option Error
  pub decoding : Decodes layout h bytes list end
  pub made : events ≡ program_made appends h list end

-- what they give
pub record EventsWithFiles (layout : OrderAndLimit) (appends : Bool) (h : Header) (bytes : List ℕ)
    (events : List EventWithFiles) : Type 0 where
  pub list : List Ins
  pub end : Option Error
  pub decoding : Decodes layout h bytes list end
  pub given : events ≡ given_of (program_made appends h list end)

-- the files after the last instruction of the bytes of a program
pub record FilesAtEnd (layout : OrderAndLimit) (appends : Bool) (h : Header) (bytes : List ℕ)
    (files : List File) : Type 0 where
  pub list : List Ins
  pub end : Option Error
  pub decoding : Decodes layout h bytes list end
  pub given : files ≡ files_at appends h.files (past_at_end [] list)

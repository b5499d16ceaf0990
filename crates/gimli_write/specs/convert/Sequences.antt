-- The sequences of what a conversion reads.
use Rattle.std.specs.Prelude.{◌≡◌, ◌∷◌, ◌++◌}
use Rattle.gimli_write.specs
use specs.Prelude
use Prelude.{ℕ, List, [], Option, Some, None, option_map, Result, Ok, Err, LineRow}
use Prelude.{ConvertError, MissingLineEndSequence, SetAddress, EndSequence}
use specs.declared.convert.rows.ConvertLineRow.TheVariants.{Row}
use specs.declared.convert.rows.ConvertLineSequence.{ConvertLineSequence}
use specs.declared.convert.rows.ConvertLineSequenceEnd.{ConvertLineSequenceEnd}
use specs.declared.convert.rows.ConvertLineSequenceEnd.TheVariants.{
  Length,
  Address,
}
use specs.convert.SourceTables.{TablesAndTexts}
use specs.convert.Items.{Reading, ends, stops, defines, offers}
use specs.convert.Texts.{IsRefusedBy}
use specs.convert.Conversion.{Progress, reading_of}

-- rows whose offsets count from one address
pub record SequenceRead : Type 0 where
  pub start : Option ℕ
  pub rows : List LineRow
  pub end : ConvertLineSequenceEnd

-- such rows, with their start and their end
abbrev pub sequence_with : Option ℕ → List LineRow → ConvertLineSequenceEnd → SequenceRead
sequence_with start rows end = record { start = start; rows = rows; end = end }

-- those that a value of the code holds
abbrev pub sequence_read : ConvertLineSequence → SequenceRead
sequence_read s = sequence_with s.start s.rows.items s.end

-- where nothing more is read no rows may be left without an end
abbrev pub no_sequence : List LineRow → TablesAndTexts
    → Result (Option SequenceRead × Reading) ConvertError
no_sequence [] tables = Ok (None, ends tables)
no_sequence (row ∷ rows) tables = Err MissingLineEndSequence

-- the sequence that a reading begins with, after this start and these rows, and what is read after
-- it: it goes up to its end, or to an address that is set after a row, which is read again
abbrev pub sequence_from : Option ℕ → List LineRow → Reading
    → Result (Option SequenceRead × Reading) ConvertError
sequence_from start rows (ends tables) = no_sequence rows tables
sequence_from start rows (stops e) = Err e
sequence_from start rows (defines rest) = sequence_from start rows rest
sequence_from start rows (offers (Row row) tables rest) =
    sequence_from start (rows ++ row ∷ []) rest
sequence_from start rows (offers (EndSequence length) tables rest) =
    Ok (Some (sequence_with start rows (Length length)), rest)
sequence_from start [] (offers (SetAddress a) tables rest) = sequence_from (Some a) [] rest
sequence_from start (row ∷ rows) (offers (SetAddress a) tables rest) =
    Ok (Some (sequence_with start (row ∷ rows) (Address a)), offers (SetAddress a) tables rest)

-- a read gathers this sequence, and leaves what is still to be read after it
abbrev pub GathersNext : Progress → Option ConvertLineSequence → Progress → Type 0
GathersNext old sequence new =
    sequence_from None [] (reading_of old) ≡ Ok (option_map sequence_read sequence, reading_of new)

-- why a read gathers none: what refuses it, or `OutOfMemory`
abbrev pub IsGatherRefusal : Progress → ConvertError → Type 0
IsGatherRefusal old = IsRefusedBy (sequence_from None [] (reading_of old))

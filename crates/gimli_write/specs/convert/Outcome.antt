-- What `convert` does with what is read of a source: addresses, rows and ends are handed to the
-- builder in order, each before the next is read. It is a function, so what comes of a reading is
-- told exactly.
use Rattle.std.specs.Prelude.{◌+◌, ◌-◌, ◌*◌, ◌/◌, ◌%◌, ◌^◌, ◌&&◌, ◌||◌, if◌then◌else◌, ◌≡◌}
use Rattle.gimli_write.specs
use specs.Prelude
use Prelude.{ℕ, Bool, true, false, not, nat_eq, nat_lt, nat_le, List, [], Option, None, ok_or}
use Prelude.{Result, Ok, Err, MatchResult, LineEncoding, Address, Built, previous_position}
use Prelude.{BuiltItem, Row, End, ConvertError, InvalidAddress, MissingLineEndSequence}
use Prelude.{UnsupportedLineInstruction, ConvertLineRow}
use Rattle.gimli_build.specs.Calls.{after_address, after_row, after_end}
use Rattle.gimli_build.specs.Rows.{initial_row}
use Rattle.gimli_build.specs.declared.built.items.BuiltItem.TheVariants.{SetAddress}
use specs.convert.Texts.{◌>>=◌}
use specs.convert.SourceTables.{TablesAndTexts}
use specs.convert.Items.{Reading, ends, stops, defines, offers}
use specs.declared.convert.rows.ConvertLineRow.TheVariants as offer

-- ---- the builder's conditions, as tests

-- whether a row or an end at the offset o and the operation i can follow a row at p and j; this
-- tests `CanFollow`
abbrev pub can_follow : LineEncoding → ℕ × ℕ → ℕ → ℕ → Bool
can_follow e position offset op_index =
    nat_eq (offset % e.minimum_instruction_length) 0
    && nat_lt op_index e.maximum_operations_per_instruction
    && nat_le position.0 offset && (not (nat_eq offset position.0) || nat_le position.1 op_index)
    && nat_lt
    ((offset - position.0) / e.minimum_instruction_length * e.maximum_operations_per_instruction
    + op_index) (2 ^ 64)

-- whether an item can be built where the previous row is at this position; this tests `CanBuild`
abbrev pub can_build : LineEncoding → ℕ × ℕ → BuiltItem → Bool
can_build e position (SetAddress a) = true
can_build e position (Row r) =
    can_follow e position r.address_offset r.op_index && nat_lt r.line (2 ^ 63)
can_build e position (End offset op_index) = can_follow e position offset op_index

-- ---- one item

-- an item that is built only within the builder's conditions
abbrev pub if_built : Built → BuiltItem → Built → Result Built ConvertError
if_built p item next =
    if can_build p.line_encoding (previous_position p.items) item then Ok next
    else Err UnsupportedLineInstruction

-- the program after what is read, where this maps the addresses of the source
abbrev pub after_item : (ℕ → Option Address) → ConvertLineRow → Built → Result Built ConvertError
after_item convert_address (offer.SetAddress a) p =
    ok_or (convert_address a) InvalidAddress >>= λ mapped. Ok (after_address mapped p)
after_item convert_address (offer.Row r) p = if_built p (Row r) (after_row r p)
after_item convert_address (offer.EndSequence offset) p =
    if_built p (End offset p.row.op_index) (after_end offset p)

-- ---- all of them

-- what comes of a conversion: the program, the id of each file number of the source, and the table
-- of line strings
pub record Outcome : Type 0 where
  pub program : Built
  pub file_ids : List ℕ
  pub line_strings : List (List ℕ)

-- a program with the directories and files of these tables; what was built in it stays
abbrev pub with_tables : TablesAndTexts → Built → Built
with_tables tables p = record p {
  directories = tables.program.directories;
  files = tables.program.files;
}

-- at the end no sequence may be open
abbrev pub outcome_at_end : TablesAndTexts → Built → Result Outcome ConvertError
outcome_at_end tables p =
    if p.in_sequence then Err MissingLineEndSequence
    else Ok (record {
      program = with_tables tables p;
      file_ids = tables.file_ids;
      line_strings = tables.line_strings;
    })

-- what comes of a program and a reading, to its end or to the first refusal: of the map, of the
-- builder's conditions, of the reading, or of a sequence that is left open
abbrev pub outcome_of : (ℕ → Option Address) → Reading → Built → Result Outcome ConvertError
outcome_of convert_address (ends tables) p = outcome_at_end tables p
outcome_of convert_address (stops e) p = Err e
outcome_of convert_address (defines rest) p = outcome_of convert_address rest p
outcome_of convert_address (offers item tables rest) p =
    after_item convert_address item (with_tables tables p) >>= λ next.
    outcome_of convert_address rest next

-- ---- by a map of which only a contract is known

-- what can come of an item, where a map may answer so: an address is asked for, and answered by one
-- of these; a row and an end ask for none
abbrev pub ItemComesTo : (ℕ → Option Address → Type 0) → ConvertLineRow → Built
    → Result Built ConvertError → Type 0
ItemComesTo map (offer.SetAddress a) p step =
    (answer : Option Address) × map a answer
    × (step ≡ after_item (λ _. answer) (offer.SetAddress a) p)
ItemComesTo map item p step = step ≡ after_item (λ _. None) item p

-- what can come of a program and a reading: each address that is handed out is asked for when its
-- turn comes, so that one that is set twice may have two answers
abbrev pub ComesTo : (ℕ → Option Address → Type 0) → Reading → Built → Result Outcome ConvertError
    → Type 0
ComesTo map (ends tables) p outcome = outcome ≡ outcome_at_end tables p
ComesTo map (stops e) p outcome = outcome ≡ Err e
ComesTo map (defines rest) p outcome = ComesTo map rest p outcome
ComesTo map (offers item tables rest) p outcome =
    (step : Result Built ConvertError) × ItemComesTo map item (with_tables tables p) step
    × MatchResult step (λ next. ComesTo map rest next outcome) (λ e. outcome ≡ Err e)

-- ---- how contracts start it

-- a program as it was made, with nothing built in it: so the tables of a reading have it, since
-- what is read doesn't depend on what is built
abbrev pub without_items : Built → Built
without_items p = record p {
  items = [];
  row = initial_row p.encoding.version p.line_encoding.default_is_stmt;
  in_sequence = false;
}

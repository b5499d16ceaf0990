-- What the values of the crate stand for.
use Rattle.std.specs.Prelude.{option_map}
use Rattle.gimli_core.specs.Reading.{result_map}
use Rattle.gimli_index.specs.Parts.{Index}
use Rattle.gimli_index.specs.Meaning.{Place as PlaceMeaning, Start as StartMeaning}
use Rattle.gimli_index.specs.declared.place.Place.{Place}
use Rattle.gimli_index.specs.declared.place.Start.{Start}
use Rattle.gimli_index.specs.declared.line_index.LineIndex.{LineIndex}

-- the index that is open
abbrev pub index_of : LineIndex → Index
index_of a = record {
  address_size = a.address_size;
  start_size = a.start_size;
  base = a.base;
  starts = a.starts;
  sources = a.sources;
  statements = a.statements;
  source_bytes = a.source_bytes.now;
  start_bytes = a.start_bytes.now;
  entry_bytes = a.entry_bytes.now;
  statement_bytes = a.statement_bytes.now;
  path_bytes = a.path_bytes.now;
  identity = a.identity.now;
}

-- a place, whose path is lent from the index
abbrev pub place_of : Place → PlaceMeaning
place_of p = record {
  path = result_map (λ path. path.now) p.path;
  line = p.line;
  column = p.column;
  is_stmt = p.is_stmt;
  prologue_end = p.prologue_end;
  unit = p.unit;
}

-- a start, and its place
abbrev pub start_of : Start → StartMeaning
start_of s = record { address = s.address; place = option_map place_of s.place }

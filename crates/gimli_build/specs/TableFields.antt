-- The fields of the tables of a line program, as lists.
use Rattle.gimli_build.specs
use specs.Prelude.{ℕ, option_map, Bor}
use specs.LineText.{LineText, line_text}
use specs.Tables.{Details}
use specs.declared.built.line_string.LineString.{LineString}
use specs.declared.built.files.FileInfo.{FileInfo}

-- what a value of the code says of a file
abbrev pub details : FileInfo → Details
details i = record {
  timestamp = i.timestamp;
  size = i.size;
  md5 = i.md5;
  source = option_map line_text i.source;
}

-- what an iterator of files gives
abbrev pub file_seen : ℕ × Bor LineString × ℕ → ℕ × LineText × ℕ
file_seen f = (f.0, line_text f.1.now, f.2)

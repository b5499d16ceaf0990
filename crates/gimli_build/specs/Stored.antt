-- What a file keeps of what is known of it, once it is written (DWARF 5, section 6.2.4.1; DWARF 4,
-- section 6.2.4).
use Rattle.std.specs.Prelude.{if◌then◌else◌}
use Rattle.gimli_build.specs
use specs.Prelude.{ℕ, List, [], nat_le, Option, Some, None, replicate, option_map_or, StringTables}
use specs.LineText.{bytes_in}
use specs.Tables.{Details}
use specs.Built.{Built}

-- what is kept of a file
pub record Stored : Type 0 where
  pub timestamp : ℕ
  pub size : ℕ
  pub md5 : List ℕ
  pub source : Option (List ℕ)

-- up to version 4 the timestamp and the size; in version 5 what the program's flags say, where the
-- empty text stands for no source
abbrev pub stored_details : Built → StringTables → Details → Stored
stored_details p texts details =
    if nat_le p.encoding.version 4
    then record {
      timestamp = details.timestamp;
      size = details.size;
      md5 = replicate 16 0;
      source = None;
    }
    else record {
      timestamp = if p.file_has_timestamp then details.timestamp else 0;
      size = if p.file_has_size then details.size else 0;
      md5 = if p.file_has_md5 then details.md5 else replicate 16 0;
      source =
          if p.file_has_source then Some (option_map_or (bytes_in texts) details.source [])
          else None;
    }

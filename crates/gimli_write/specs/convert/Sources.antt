-- A source that is converted, with what is handed for it.
use Rattle.gimli_write.specs
use specs.Prelude.{
  ℕ,
  List,
  Option,
  option_map,
  OrderAndLimit,
  Encoding,
  LineEncoding,
  Header,
  SeenHeader,
  Sections,
}
use specs.convert.Preparation.{Handed, handed_of}
use Rattle.gimli_core.specs.Layout.{Seen}

-- a source: its layout and its header, the sections that hold its texts, and what is handed for
-- the conversion
pub record ToConvert : Type 0 where
  pub layout : OrderAndLimit
  pub sections : Sections
  pub header : Header
  pub given : Handed

-- the source that a call is handed, where these are the bytes of a reader
abbrev pub to_convert : {R Offset Endian : Type 0} → (R → Seen) → R → R
    → SeenHeader R Offset Endian → Option R → Option Encoding → Option LineEncoding → ToConvert
to_convert seen debug_str debug_line_str from_program from_comp_name encoding line_encoding =
    record {
      layout = from_program.layout;
      sections = record {
        strings = (seen debug_str).bytes;
        line_strings = (seen debug_line_str).bytes;
      };
      header = from_program.meaning;
      given = handed_of encoding line_encoding (option_map (λ r. (seen r).bytes) from_comp_name);
    }

-- A program after a call of the builder.
use Rattle.std.specs.Prelude.{◌≡◌, ◌⊎◌, ◌∷◌, ◌++◌}
use Rattle.gimli_build.specs
use specs.Prelude
use Prelude.{ℕ, true, false, [], Option, option_map, option_to_list, Encoding, LineEncoding}
use Prelude.{Address, Result, OnOk, IfErr, Error, OutOfMemory}
use Rattle.std.specs.Prelude.{OnErr, IsOkUnless}
use Rattle.gimli_bytes.specs.declared.error.Error.TheVariants.{InvalidRange}
use specs.LineText.{LineText}
use specs.Tables.{FileKey, Details, Tables, with_directory, with_file}
use specs.Rows.{initial_row, without_marks, row_after_address}
use specs.Built.{Built, empty_built}
use specs.declared.built.row.LineRow.{LineRow}
use specs.declared.built.items.BuiltItem.TheVariants.{SetAddress, Row, End}

-- a call that returned Ok makes this program of the old one; one that fails, which is for memory,
-- changes nothing
pub record Builds {A : Type 0} (wanted old : Built) (result : Result A Error) (new : Built)
    : Type 0 where
  pub ok : OnOk result (new ≡ wanted)
  pub kept : OnErr result (new ≡ old)
  pub memory : IsOkUnless result OutOfMemory

-- a call tests what is asked of one that builds: where that holds it builds, or lacks memory, and
-- else it fails by `InvalidRange`; a call that fails changes nothing
pub record Tries {A : Type 0} (asked : Type 0) (wanted old : Built) (result : Result A Error)
    (new : Built) : Type 0 where
  pub holds : OnOk result asked
  pub ok : OnOk result (new ≡ wanted)
  pub kept : OnErr result (new ≡ old)
  pub why : IfErr result (λ e. ((e ≡ OutOfMemory) × asked) ⊎ ((e ≡ InvalidRange) × ¬ asked))

-- ---- what each call makes

-- after `new`: these tables, and nothing else is built yet
abbrev pub new_program : Encoding → LineEncoding → Tables → Built
new_program encoding line_encoding tables =
    empty_built false encoding line_encoding tables.directories tables.files

-- ---- tables

-- after `add_directory`
abbrev pub after_directory : LineText → Built → Built
after_directory t p = record p { directories = with_directory p.directories t }

-- after `add_file`, with details or without
abbrev pub after_file : FileKey → Option Details → Built → Built
after_file key given p = record p { files = with_file p.files key given }

-- ---- items

-- after `begin_sequence`, with an address or without
abbrev pub after_begin : Option Address → Built → Built
after_begin address p = record p {
  items = p.items ++ option_to_list (option_map SetAddress address);
  in_sequence = true;
}

-- after `set_address`
abbrev pub after_address : Address → Built → Built
after_address address p = record p {
  items = p.items ++ SetAddress address ∷ [];
  row = row_after_address p.in_sequence p.row;
  in_sequence = true;
}

-- after `generate_row`, where this was the current row
abbrev pub after_row : LineRow → Built → Built
after_row row p = record p {
  items = p.items ++ Row row ∷ [];
  row = without_marks row;
  in_sequence = true;
}

-- after `end_sequence` at this offset
abbrev pub after_end : ℕ → Built → Built
after_end offset p = record p {
  items = p.items ++ End offset p.row.op_index ∷ [];
  row = initial_row p.encoding.version p.line_encoding.default_is_stmt;
  in_sequence = false;
}

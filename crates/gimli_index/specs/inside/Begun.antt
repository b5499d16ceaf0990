-- The statements of a lookup, one row after the other.
use Rattle.std.specs.Prelude.{◌≡◌, ◌<◌, ℕ, Bool, false, not, ◌&&◌, nat_eq, nat_lt, List, [], ◌∷◌}
use Rattle.std.specs.Prelude.{◌++◌, map, IfSome}
use Rattle.std.specs.Prelude.{flat_map, length, slice_get}
use Rattle.std.specs.Prelude.{if◌then◌else◌, Option, None, Some, Result}
use Rattle.std.specs.Option.{option_map, option_map_or}
use Rattle.gimli_index.specs.Contents.{path_at, statement_in}
use Rattle.gimli_index.specs.Found.{file_path, is_one_path}
use Rattle.gimli_lookup.specs.ProgramPaths.{Texts}
use Rattle.gimli_index.specs.Meaning.{Statement}
use Rattle.gimli_index.specs.declared.contents.Statement.{Statement as Made}
use Rattle.gimli_index.specs.declared.place.NoPath.{NoPath}
use Rattle.gimli_index.specs.declared.statements.Given.{Given}
use Rattle.gimli_index.specs.inside.Table.{Table, with_table}
use Rattle.gimli_line.specs.declared.run.row.LineRow.{LineRow}
use Rattle.gimli_lookup.specs.Section.{KeptUnit, ListedUnit}

-- a path and a line
pub record PathLine : Type 0 where
  pub path : Result (List ℕ) NoPath
  pub line : ℕ

-- whether a run of a line of a path, whose statement was given, goes on at a row
abbrev pub goes_on : Option PathLine → Result (List ℕ) NoPath → ℕ → Bool
goes_on given path line =
    option_map_or (λ (g : PathLine). nat_eq g.line line && is_one_path g.path path) given false

-- the statements at which code of lines begins in rows of a sequence, where that of a run was given
abbrev pub begun : Texts → ListedUnit → Option PathLine → List LineRow → List Statement
begun t u given [] = []
begun t u given (r ∷ rows) =
    if r.end_sequence then begun t u None rows
    else (if not (nat_lt 0 r.line) then begun t u None rows
    else (if goes_on given (file_path t u r.file) r.line then begun t u given rows
    else (if not r.is_stmt then begun t u None rows
    else (record { path = file_path t u r.file; line = r.line; address = r.address })
    ∷ begun t u (Some (record { path = file_path t u r.file; line = r.line })) rows)))

-- those of all sequences of units
abbrev pub begun_in_unit : Texts → KeptUnit → List Statement
begun_in_unit t u = flat_map (begun t u.unit None) u.sequences

-- those of all units
abbrev pub begun_in_units : Texts → List KeptUnit → List Statement
begun_in_units t units = flat_map (begun_in_unit t) units

-- ---- by a table of sources

-- what statements say, by the sources of a table
abbrev pub statements_in : Table → List Made → List Statement
statements_in table statements = map (statement_in (with_table table)) statements

-- what was given, by the source of its number
abbrev pub given_in : Table → Option Given → Option PathLine
given_in table given = option_map (λ (g : Given). record {
  path = path_at (with_table table) g.source;
  line = g.line;
}) given

-- each statement is of a source of a table
abbrev pub AreInside : Table → List Made → Type 0
AreInside table statements = (k : ℕ) (s : Made) → slice_get statements k ≡ Some s
    → s.source < length table.sources

-- what was given is of a source of a table
abbrev pub IsGiven : Table → Option Given → Type 0
IsGiven table given = IfSome given (λ (g : Given). g.source < length table.sources)

-- statements and those that are still to come of rows are, after a step, the same
abbrev pub GoesOnTo : Texts → ListedUnit → Table → List Made → Option Given → List LineRow → Table
    → List Made → Option Given → List LineRow → Type 0
GoesOnTo t u old statements given rows new more next rest =
    statements_in old statements ++ begun t u (given_in old given) rows
    ≡ statements_in new more ++ begun t u (given_in new next) rest

-- What a program ends as, once a `&mut` to a part of it has ended.
use Rattle.gimli_build.specs
use specs.Prelude.{ℕ, Lends, MutBor, Fml}
use specs.Built.{Built}
use specs.Tables.{with_details}
use specs.TableFields.{details}
use specs.declared.built.row.LineRow.{LineRow}
use specs.declared.built.files.FileInfo.{FileInfo}
use specs.contracts.built.line_program.LineProgram.{the_row}
use specs.contracts.built.row.LineRow.{the_row as row_row}
use specs.contracts.built.files.FileInfo.{the_row as info_row}

-- the program ends with the row that was last written through r
abbrev pub lends_row : MutBor Built → MutBor LineRow → Fml
lends_row p r = Lends the_row row_row p r (λ row. record p.now { row = row })

-- the program ends with the details that were last written through r
abbrev pub lends_info : MutBor Built → ℕ → MutBor FileInfo → Fml
lends_info p i r =
    Lends the_row info_row p r (λ info.
    record p.now { files = with_details p.now.files i (details info) })

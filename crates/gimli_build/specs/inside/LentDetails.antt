-- What the tables end as, once a `&mut` to the details of a file has ended.
use Rattle.gimli_build.specs
use specs.Prelude.{ℕ, Lends, MutBor, Fml}
use specs.Tables.{Tables, with_details}
use specs.TableFields.{details}
use specs.declared.built.files.FileInfo.{FileInfo}
use specs.contracts.built.files.FileTable.{the_row}
use specs.contracts.built.files.FileInfo.{the_row as info_row}

-- the tables end with the details that were last written through r
abbrev pub lends_details : MutBor Tables → ℕ → MutBor FileInfo → Fml
lends_details t i r =
    Lends the_row info_row t r (λ info.
    record t.now { files = with_details t.now.files i (details info) })

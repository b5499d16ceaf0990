use Rattle.gimli_build.proofs
use proofs.Common.{◌∙◌, ap, directories_of, files_of}
use proofs.building.TableLemmas.{directories_insert, index_of_equal_directory, with_directory-AreTables}
use proofs.built.files.FileTable.add_directory.Goals as goal

pub invariant_of-self-2 : goal.invariant_of-self-2
invariant_of-self-2 c =
    let added = ap directories_of c.in_ok-index.ensures.keys
    ∙ directories_insert c.self.inside.directories.keys c.args.directory in
    rw added (with_directory-AreTables _ _
    _ c.self.invariant c.requires)

pub returns-clause-ok : goal.returns-clause-ok
returns-clause-ok c =
    rw (← c.self.view_is) (ap (λ ds. record { directories = ds; files = files_of c.self.inside.files.entries })
    (ap directories_of c.in_ok-index.ensures.keys ∙ directories_insert c.self.inside.directories.keys c.args.directory))

pub returns-clause-id : goal.returns-clause-id
returns-clause-id c = rw (← c.self.view_is)
    (c.in_ok-index.ensures.index ∙ index_of_equal_directory c.self.inside.directories.keys c.args.directory)

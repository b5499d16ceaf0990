use Rattle.std.specs.Prelude.{◌<◌}
use Rattle.gimli_build.proofs
use proofs.Common.{◌∙◌, ap, length, sym, subst, details, directories_of, files_of}
use proofs.building.TableLemmas.{files_insert, index_of_equal_file, with_file-AreTables}
use proofs.built.files.FileTable.set_file.Goals as goal

pub invariant_of-self-2 : goal.invariant_of-self-2
invariant_of-self-2 c =
    let added = ap files_of c.in_ok-index.ensures.entries
    ∙ files_insert c.self.inside.files.entries (c.args.path, c.args.directory) c.args.info in
    let within = subst (λ t. c.args.directory < length t.directories) (sym c.self.view_is) c.requires.within in
    rw added (with_file-AreTables _ _ _
    (details c.args.info) c.self.invariant c.requires.text within)

pub returns-clause-ok : goal.returns-clause-ok
returns-clause-ok c =
    rw (← c.self.view_is) (ap (λ fs. record { directories = directories_of c.self.inside.directories.keys; files = fs })
    (ap files_of c.in_ok-index.ensures.entries
    ∙ files_insert c.self.inside.files.entries (c.args.path, c.args.directory) c.args.info))

pub returns-clause-id : goal.returns-clause-id
returns-clause-id c = rw (← c.self.view_is)
    (c.in_ok-index.ensures.index ∙ index_of_equal_file c.self.inside.files.entries (c.args.path, c.args.directory))

use Rattle.std.specs.Prelude.{◌<◌}
use Rattle.gimli_build.proofs
use proofs.Common
use Common.{◌∙◌, ap, Some, sym, length, subst, with_file, details, key, directories_of, files_of}
use Rattle.gimli_bytes.proofs.TextLemmas.{index_found}
use proofs.building.TableLemmas.{
  files_insert,
  index_of_equal_file,
  pair_eq,
  file_found,
  with_file-AreTables,
  with_file-kept,
  with_file-new,
}
use proofs.built.files.FileTable.keep_file.Goals as goal

pub returns-in-Some-clause-ok : goal.returns-in-Some-clause-ok
returns-in-Some-clause-ok c =
    let found = file_found c.self.inside.files.entries (c.args.path, c.args.directory) _ c.in-Some.ensures.found in
    rw (← c.self.view_is)
    (ap (λ fs. record { directories = directories_of c.self.inside.directories.keys; files = fs }) (sym
    (with_file-kept _ _ found)))

pub returns-in-Some-clause-id : goal.returns-in-Some-clause-id
returns-in-Some-clause-id c = rw (← c.self.view_is)
    (index_found (pair_eq (c.args.path, c.args.directory)) _ _ c.in-Some.ensures.index
    ∙ index_of_equal_file c.self.inside.files.entries (c.args.path, c.args.directory))

pub invariant_of-self-2 : goal.invariant_of-self-2
invariant_of-self-2 c =
    let added = ap files_of c.in_ok-index.ensures.entries
    ∙ files_insert c.self.inside.files.entries (c.args.path, c.args.directory) _ in
    let within = subst (λ t. c.args.directory < length t.directories) (sym c.self.view_is) c.requires.within in
    rw added (with_file-AreTables _ _ _ _
    c.self.invariant c.requires.text within)

pub returns-clause-ok : goal.returns-clause-ok
returns-clause-ok c =
    let files = files_of c.self.inside.files.entries in
    let k = key (c.args.path, c.args.directory) in
    let absent = file_found c.self.inside.files.entries (c.args.path, c.args.directory) _ c.in_default.ensures.found in
    let added = ap files_of c.in_ok-index.ensures.entries
    ∙ files_insert c.self.inside.files.entries (c.args.path, c.args.directory) c.default.result
    ∙ ap (λ i. with_file files k (Some (details i))) c.default.ensures ∙ with_file-new _ k absent in
    rw (← c.self.view_is)
    (ap (λ fs. record { directories = directories_of c.self.inside.directories.keys; files = fs }) added)

pub returns-clause-id : goal.returns-clause-id
returns-clause-id c = rw (← c.self.view_is)
    (c.in_ok-index.ensures.index ∙ index_of_equal_file c.self.inside.files.entries (c.args.path, c.args.directory))

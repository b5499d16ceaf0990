use Rattle.std.proofs.Common.{◌∙◌, sym, ap}
use Rattle.gimli_core.specs.Values.{value_seen}
use Rattle.gimli_line.specs.header.File.{file_seen}
use Rattle.gimli_lookup.specs.Paths.{directory_path}
use Rattle.gimli_lookup.specs.Strings.{string_of, strings}
use Rattle.gimli_lookup.specs.inside.Paths.{paths_in}
use Rattle.gimli_lookup.proofs.EndedStrings.{directory_of_file, fault_of_directory, told, value_whole}
use Rattle.gimli_lookup.proofs.ended_strings.Sections.file_fault.Goals as goal

pub path_fault-requires-clause-fault : goal.path_fault-requires-clause-fault
path_fault-requires-clause-fault g c =
    let seen = g.R.Reader.seen in
    let number = g.R.Offset.ReaderOffset.number in
    let ended = strings seen c.args.self.now.ended in
    let f = file_seen seen number c.args.file.now in
    let said =
    told seen c.attr_line_string.result (string_of ended f.path_name)
    (sym c.is_err.ensures.value ∙ c.if-is_err.false)
    (c.attr_line_string.ensures ∙ ap (λ v. string_of ended (value_seen seen number v)) c.path_name-name.ensures) in
    let p = paths_in ended c.args.header.now.meaning c.requires.fault.0 in (
      c.requires.fault.0,
      ap (directory_path p) c.directory_index.ensures
          ∙ (directory_of_file p f said.0 c.args.fault said.1 c.requires.fault.1).1,
    )

pub returns : goal.returns
returns g c =
    let seen = g.R.Reader.seen in
    let number = g.R.Offset.ReaderOffset.number in
    let h = c.args.header.now.meaning in
    let ended = strings seen c.args.self.now.ended in
    let whole = strings seen c.args.self.now.whole in
    let f = file_seen seen number c.args.file.now in
    let said =
    told seen c.attr_line_string.result (string_of ended f.path_name)
    (sym c.is_err.ensures.value ∙ c.if-is_err.false)
    (c.attr_line_string.ensures ∙ ap (λ v. string_of ended (value_seen seen number v)) c.path_name-name.ensures) in
    let p = paths_in ended h c.requires.fault.0 in
    let why = directory_of_file p f said.0 c.args.fault said.1 c.requires.fault.1 in
    let same = value_whole c.strings_end_alike.ensures.found whole ended c.requires.ended f.path_name said.0 said.1 in
    λ known.
    let w = paths_in whole h known in
    fault_of_directory w f said.0 c.path_fault.result same why.0
    (ap (directory_path w) (sym c.directory_index.ensures) ∙ c.path_fault.ensures known)

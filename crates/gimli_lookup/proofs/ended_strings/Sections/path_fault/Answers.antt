use Rattle.std.proofs.Common.{◌∙◌, sym, ap}
use Rattle.gimli_core.specs.Values.{value_seen}
use Rattle.gimli_lookup.specs.Strings.{string_of, strings}
use Rattle.std.specs.Option.{option_map}
use Rattle.gimli_lookup.proofs.EndedStrings.{base_fault, fault_of_base, told, value_whole}
use Rattle.gimli_lookup.proofs.ended_strings.Sections.path_fault.Goals as goal

pub directory_fault-requires-clause-fault : goal.directory_fault-requires-clause-fault
directory_fault-requires-clause-fault g c =
    let seen = g.R.Reader.seen in
    let number = g.R.Offset.ReaderOffset.number in
    let ended = strings seen c.args.self.now.ended in
    let v = value_seen seen number c.in-Some.value in
    let some = ap (option_map (value_seen seen number)) (sym c.in-Some.is) ∙ c.directory.ensures.directory in
    let said =
    told seen c.attr_line_string.result (string_of ended v) (sym c.is_err.ensures.value ∙ c.if-is_err.false)
    c.attr_line_string.ensures in
    (base_fault ended c.args.header.now.meaning c.requires.fault.0 c.args.index v said.0 c.args.fault some said.1
    c.requires.fault.1).2

pub returns-in-Some-2 : goal.returns-in-Some-2
returns-in-Some-2 g c =
    let seen = g.R.Reader.seen in
    let number = g.R.Offset.ReaderOffset.number in
    let h = c.args.header.now.meaning in
    let ended = strings seen c.args.self.now.ended in
    let whole = strings seen c.args.self.now.whole in
    let v = value_seen seen number c.in-Some.value in
    let some = ap (option_map (value_seen seen number)) (sym c.in-Some.is) ∙ c.directory.ensures.directory in
    let said =
    told seen c.attr_line_string.result (string_of ended v) (sym c.is_err.ensures.value ∙ c.if-is_err.false)
    c.attr_line_string.ensures in
    let why = base_fault ended h c.requires.fault.0 c.args.index v said.0 c.args.fault some said.1 c.requires.fault.1 in
    let same = value_whole c.strings_end_alike.ensures.found whole ended c.requires.ended v said.0 said.1 in
    λ known.
    fault_of_base whole h known c.args.index v said.0 c.directory_fault.result some same why.0 why.1
    c.directory_fault.ensures

use Rattle.std.proofs.Common.{◌∙◌, sym, ap}
use Rattle.gimli_core.specs.Values.{value_seen}
use Rattle.gimli_lookup.specs.Strings.{string_of, strings}
use Rattle.gimli_lookup.proofs.EndedStrings.{fault_whole}
use Rattle.gimli_lookup.proofs.ended_strings.Sections.value_fault.Goals as goal

pub returns-in-DebugLineStrRef : goal.returns-in-DebugLineStrRef
returns-in-DebugLineStrRef g c =
    let seen = g.R.Reader.seen in
    let number = g.R.Offset.ReaderOffset.number in
    let offset = number c.in-DebugLineStrRef.offset.0 in
    let whole = (seen c.args.self.now.whole.debug_line_str).bytes in
    let ended = (seen c.args.self.now.ended.debug_line_str).bytes in
    let at_whole =
    ap (λ v. string_of (strings seen c.args.self.now.whole) (value_seen seen number v)) c.in-DebugLineStrRef.is in
    let fault =
    sym
    (ap (λ v. string_of (strings seen c.args.self.now.ended) (value_seen seen number v)) c.in-DebugLineStrRef.is)
    ∙ c.requires.fault in
    at_whole
    ∙ fault_whole whole offset c.fault_at.result (c.strings_end_alike.ensures.out whole offset)
    (c.strings_end_alike.ensures.unended whole ended offset c.args.fault c.requires.ended.line fault)
    c.fault_at.ensures.out c.fault_at.ensures.within

pub returns-in-DebugStrRef : goal.returns-in-DebugStrRef
returns-in-DebugStrRef g c =
    let seen = g.R.Reader.seen in
    let number = g.R.Offset.ReaderOffset.number in
    let offset = number c.in-DebugStrRef.offset.0 in
    let whole = (seen c.args.self.now.whole.debug_str).bytes in
    let ended = (seen c.args.self.now.ended.debug_str).bytes in
    let at_whole =
    ap (λ v. string_of (strings seen c.args.self.now.whole) (value_seen seen number v)) c.in-DebugStrRef.is in
    let fault =
    sym (ap (λ v. string_of (strings seen c.args.self.now.ended) (value_seen seen number v)) c.in-DebugStrRef.is)
    ∙ c.requires.fault in
    at_whole
    ∙ fault_whole whole offset c.fault_at-in-DebugStrRef.result (c.strings_end_alike.ensures.out whole offset)
    (c.strings_end_alike.ensures.unended whole ended offset c.args.fault c.requires.ended.str fault)
    c.fault_at-in-DebugStrRef.ensures.out c.fault_at-in-DebugStrRef.ensures.within

use Rattle.gimli_write.proofs
use proofs.Common
use Common.{drop, refl, subst, IfErr, texts_in, RefusesUnit, slice_layout, unit_entry_of}
use Rattle.gimli_build.specs.Version5Tables.{texts_after}
use Rattle.gimli_build.proofs.refusals.Causes.{cause-is, no-cause, refused-for}
use proofs.RoundTrips.{write_refused, unit_not_answered, round_trip_answered}
use Rattle.gimli_build.proofs.building.SourceLemmas.{can-write-after}
use proofs.read_back.round_trip.Goals as goal

pub returns-in-Ok-clause-refusal : goal.returns-in-Ok-clause-refusal
returns-in-Ok-clause-refusal g c =
    let is_big = g.E.Endianity.is_big c.args.w.now.0.endian in
    let other = g.E.Endianity.is_big c.write.new.w.0.endian in
    let program = c.args.program.now in
    let texts = texts_after program (texts_in c.args.strings.now c.args.line_strings.now) in
    let later = drop c.in-Ok.offset.0 c.write.new.w.0.bytes in
    let known = (c.encoding-encoding.ensures.accepted c.requires.program).address_size in
    let cause = cause-is is_big c.args.encoding program (texts_in c.args.strings.now c.args.line_strings.now) known in
    let read =
    subst (λ strings. IfErr c.read_unit.result
    (RefusesUnit (slice_layout other) (unit_entry_of program (texts_in strings texts.line_strings)) later))
    c.in-Ok.ensures.tables.ok.strings (subst (λ line_strings. IfErr c.read_unit.result
    (RefusesUnit (slice_layout other) (unit_entry_of program (texts_in c.write.new.strings line_strings)) later))
    c.in-Ok.ensures.tables.ok.line_strings c.read_unit.ensures.err) in
    unit_not_answered _ program _ _ _ _ _ _ c.in-Ok.ensures.writes.ordered (no-cause _ _ _ _ cause
    (c.in-Ok.ensures.writes.ok refl)) (c.in-Ok.ensures.writes.ok refl) c.in-Ok.ensures.offset read
    c.read_unit.ensures.never_read

pub returns-in-Ok-clause-ok : goal.returns-in-Ok-clause-ok
returns-in-Ok-clause-ok g c =
    let done = c.in-Ok.ensures in
    let is_big = g.E.Endianity.is_big c.args.w.now.0.endian in
    let program = c.args.program.now in
    let texts = texts_in c.args.strings.now c.args.line_strings.now in
    let known = (c.encoding-encoding.ensures.accepted c.requires.program).address_size in
    let cause = cause-is is_big c.args.encoding program texts known in
    round_trip_answered (g.E.Endianity.is_big c.write.new.w.0.endian) c.args.encoding program texts
    (texts_in c.write.new.strings c.write.new.line_strings) _ _
    c.in-Ok.offset _ done.writes.ordered (no-cause _ _ _ _ cause (done.writes.ok refl)) (done.writes.ok refl)
    done.offset done.tables.ok c.read_unit.ensures.offset c.read_unit.ensures.ok c.read_unit.ensures.built

pub returns-in-Err-clause-refusal : goal.returns-in-Err-clause-refusal
returns-in-Err-clause-refusal g c =
    let is_big = g.E.Endianity.is_big c.args.w.now.0.endian in
    let program = c.args.program.now in
    let texts = texts_in c.args.strings.now c.args.line_strings.now in
    let known = (c.encoding-encoding.ensures.accepted c.requires.program).address_size in
    let cause = cause-is is_big c.args.encoding program texts known in
    let why = refused-for _ _ _ cause (c.in-Err.ensures.writes.err refl refl) in
    write_refused _ program _ _ _ _ _ _ why c.from_write.ensures.memory c.from_write.ensures.other

pub read_unit-requires-clause-within : goal.read_unit-requires-clause-within
read_unit-requires-clause-within g c =
    let can = can-write-after _ _ c.requires in
    rw (c.in-Ok.ensures.tables.ok.strings, c.in-Ok.ensures.tables.ok.line_strings) can.directories

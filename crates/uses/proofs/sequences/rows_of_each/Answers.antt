use Rattle.std.proofs.Common.{◌<◌, ◌+◌, length, arith, map, drop}
use Rattle.gimli_line.specs.run.Sequences.{sequence_of, ResumesToRows}
use Rattle.uses.proofs.ResumedRows.{none_added, one_added, all_added, next_seen, none_left, at_place}
use Rattle.uses.proofs.sequences.rows_of_each.Goals as goal

pub loop-sequence-init : goal.loop-sequence-init
loop-sequence-init g c runs each = rw c.new-rows.ensures.items (none_added c.args.program.now.meaning _ runs each)

pub add_rows-requires : goal.add_rows-requires
add_rows-requires g c =
    c.resume_from.ensures.unrefused
    (at_place (ResumesToRows c.args.program.now.meaning) sequence_of c.args.sequences.now c.loop-sequence.sequence-index
    c.sequence-item.result c.requires (omega arith) c.sequence-item.is)

pub loop-sequence-preserved : goal.loop-sequence-preserved
loop-sequence-preserved g c runs each =
    let i = c.loop-sequence.sequence-index in
    let lt : i < length c.args.sequences.now = omega arith in
    one_added c.args.program.now.meaning (sequence_of c.sequence-item.result)
    (map sequence_of (drop (i + 1) c.args.sequences.now)) _ _ _ c.resume_from.ensures.run c.in_ok-add_rows.ensures.ok
    runs (rw (next_seen sequence_of c.args.sequences.now i _ lt c.sequence-item.is) at
    (c.loop-sequence.invariant runs each))

pub returns-clause-ok : goal.returns-clause-ok
returns-clause-ok g c runs each =
    let none = none_left sequence_of c.args.sequences.now c.loop-sequence.sequence-index (omega arith) in
    all_added c.args.program.now.meaning _ runs (rw none at (c.loop-sequence.invariant runs each))

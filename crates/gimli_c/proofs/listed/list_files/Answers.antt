use Rattle.std.proofs.Common.{arith}
use Rattle.gimli_lookup.specs.Strings.{strings}
use Rattle.gimli_c.specs.Listed.{IsFileAnswer}
use Rattle.gimli_c.proofs.Indexes.{all_answered, answered_on, none_answered, one_more_answered}
use Rattle.gimli_c.proofs.Listings.{answer_on}
use Rattle.gimli_c.specs.Location.{slice_seen}
use Rattle.gimli_c.proofs.listed.list_files.Goals as goal

pub loop-slot-init : goal.loop-slot-init
loop-slot-init c = none_answered _ c.args.files.now

pub loop-slot-preserved : goal.loop-slot-preserved
loop-slot-preserved c =
    let h = c.args.header.now.meaning in
    let texts = strings slice_seen c.args.sections in
    let old = c.loop-slot.texts.items in
    let now = c.file_listed.new.texts.items in
    let more = c.in_ok-files.ensures.more in
    one_more_answered (IsFileAnswer h texts c.args.comp_dir.now now) c.args.files.now c.loop-slot.files c.loop-slot.slot
    (answered_on (IsFileAnswer h texts c.args.comp_dir.now old) (IsFileAnswer h texts c.args.comp_dir.now now)
    (answer_on old more.0 now more.1 h texts c.args.comp_dir.now) c.loop-slot.slot c.args.files.now c.loop-slot.files
    c.loop-slot.invariant)
    _ _ (omega arith) c.in_ok-files.ensures.ok

pub returns-clause-ok : goal.returns-clause-ok
returns-clause-ok c =
    all_answered
    (IsFileAnswer c.args.header.now.meaning (strings slice_seen c.args.sections) c.args.comp_dir.now
    c.loop-slot.texts.items)
    c.args.files.now c.loop-slot.files c.loop-slot.slot c.loop-slot.invariant (omega arith)

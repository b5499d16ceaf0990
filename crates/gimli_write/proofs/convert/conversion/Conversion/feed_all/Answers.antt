use Rattle.gimli_write.proofs
use proofs.Common.{sym, ◌∙◌, inr, Err, err_from_is_err_and}
use proofs.ConvertSteps.{kept_then}
use proofs.Outcomes
use Outcomes.{fed_next, fed_fewer, feed_refused, read_refused, left_open, converted_all, refused_then}
use proofs.Writable.{writable_then, writable_with_items}
use proofs.convert.conversion.Conversion.feed_all.Goals as goal

pub returns-in_err-row-clause-err : goal.returns-in_err-row-clause-err
returns-in_err-row-clause-err g c =
    let map = goal.F-post g c.args.convert_address.now in
    let e = c.in_err-row.field-0.0 in
    let p = err_from_is_err_and c.from_residual.result c.from_residual.ensures.1 in
    rw (p.1, p.2) (refused_then e (c.rows.invariant.same (Err e))
    (read_refused map c.rows.self c.read_row.new.self c.rows.line_strings c.read_row.new.line_strings e
    c.in_err-row.ensures.err))

pub returns-in_err-row-clause-stays : goal.returns-in_err-row-clause-stays
returns-in_err-row-clause-stays g c = kept_then c.rows.invariant.stays c.in_err-row.ensures.reads_on.texts

pub rows-smaller : goal.rows-smaller
rows-smaller g c =
    let hands = rw c.in-Some.is at c.in_ok-row.ensures.ok in
    fed_fewer (goal.F-post g c.args.convert_address.now) c.rows.self c.read_row.new.self c.rows.line_strings
    c.read_row.new.line_strings c.in-Some.row hands
    c.in_ok-row.ensures.reads_on.adds _ c.in_ok-feed-in-Some.ensures.kept c.in_ok-feed-in-Some.ensures.items

pub rows-preserved : goal.rows-preserved
rows-preserved g c =
    let hands = rw c.in-Some.is at c.in_ok-row.ensures.ok in
    record {
      same = λ outcome comes. c.rows.invariant.same outcome
          (fed_next (goal.F-post g c.args.convert_address.now) c.rows.self c.read_row.new.self c.rows.line_strings
          c.read_row.new.line_strings c.in-Some.row hands c.in_ok-row.ensures.reads_on.adds _ _
          c.in_ok-feed-in-Some.ensures.ok c.in_ok-feed-in-Some.ensures.kept c.in_ok-feed-in-Some.ensures.items comes);
      stays = kept_then c.rows.invariant.stays c.in_ok-row.ensures.reads_on.texts;
      writable =
          writable_then (writable_then c.rows.invariant.writable c.in_ok-row.ensures.reads_on.writable)
          (writable_with_items _ c.in_ok-feed-in-Some.ensures.items);
    }

pub returns-in_err-feed-in-Some-clause-err : goal.returns-in_err-feed-in-Some-clause-err
returns-in_err-feed-in-Some-clause-err g c =
    let map = goal.F-post g c.args.convert_address.now in
    let hands = rw c.in-Some.is at c.in_ok-row.ensures.ok in
    let e = c.in_err-feed-in-Some.field-0.0 in
    let p =
    err_from_is_err_and c.from_residual-in_err-feed-in-Some.result c.from_residual-in_err-feed-in-Some.ensures.1 in
    rw (p.1, p.2) (refused_then e (c.rows.invariant.same (Err e))
    (feed_refused map c.rows.self c.read_row.new.self c.rows.line_strings c.read_row.new.line_strings c.in-Some.row
    hands c.in_ok-row.ensures.reads_on.adds e c.in_err-feed-in-Some.ensures.err))

pub returns-in_err-feed-in-Some-clause-stays : goal.returns-in_err-feed-in-Some-clause-stays
returns-in_err-feed-in-Some-clause-stays g c = kept_then c.rows.invariant.stays c.in_ok-row.ensures.reads_on.texts

pub returns-in-None-clause-err : goal.returns-in-None-clause-err
returns-in-None-clause-err g c =
    let end = rw c.in-None.is at c.in_ok-row.ensures.ok in
    inr (c.rows.invariant.same _
    (left_open (goal.F-post g c.args.convert_address.now) c.rows.self c.read_row.new.self c.rows.line_strings
    c.read_row.new.line_strings end.0 c.in_ok-row.ensures.reads_on.adds
    (sym c.in_sequence.ensures ∙ c.if-in_sequence.true)))

pub returns-in-None-clause-stays : goal.returns-in-None-clause-stays
returns-in-None-clause-stays g c = kept_then c.rows.invariant.stays c.in_ok-row.ensures.reads_on.texts

pub returns-in-None-2-clause-ok : goal.returns-in-None-2-clause-ok
returns-in-None-2-clause-ok g c =
    let end = rw c.in-None.is at c.in_ok-row.ensures.ok in
    c.rows.invariant.same _
    (converted_all (goal.F-post g c.args.convert_address.now) c.rows.self c.read_row.new.self c.rows.line_strings
    c.read_row.new.line_strings end.0 c.in_ok-row.ensures.reads_on.adds
    (sym c.in_sequence.ensures ∙ c.if-in_sequence.false))

pub returns-in-None-2-clause-stays : goal.returns-in-None-2-clause-stays
returns-in-None-2-clause-stays g c = kept_then c.rows.invariant.stays c.in_ok-row.ensures.reads_on.texts

pub returns-in-None-2-clause-writable : goal.returns-in-None-2-clause-writable
returns-in-None-2-clause-writable g c = writable_then c.rows.invariant.writable c.in_ok-row.ensures.reads_on.writable

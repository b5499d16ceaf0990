use Rattle.std.proofs.Common.{inl, arith}
use Rattle.gimli_line.specs.run.Rows.{events_left}
use Rattle.gimli_line.specs.run.Sequences.{events_of}
use Rattle.gimli_c.specs.Location.{location}
use Rattle.gimli_c.proofs.Runs.{has_events, rows_at_most}
use Rattle.gimli_c.proofs.rows.gimli_line_proved_read_rows.Goals as goal

pub returns-clause-rows : goal.returns-clause-rows
returns-clause-rows c = λ not_memory. inl (record {
  header = c.in-Ok.program.meaning;
  events = events_of (events_left c.rows.result);
  unit = has_events _ _ _ _ c.in-Ok.ensures.unit c.in-Ok.ensures.layout c.rows.ensures.events;
  end = _;
  copied = c.in-Ok-copy_rows.ensures.ok;
  status_is = c.fault_status.ensures;
})

pub returns-in-Err-copy_rows-clause-first_rows : goal.returns-in-Err-copy_rows-clause-first_rows
returns-in-Err-copy_rows-clause-first_rows c = λ memory. inl (record {
  header = c.in-Ok.program.meaning;
  events = events_of (events_left c.rows.result);
  unit = has_events _ _ _ _ c.in-Ok.ensures.unit c.in-Ok.ensures.layout c.rows.ensures.events;
  begun = c.in-Err-copy_rows.ensures.begun;
})

pub returns-clause-at_most : goal.returns-clause-at_most
returns-clause-at_most c = λ h unit.
    let p = location c.args.section.now c.args.is_big c.args.address_size c.args.offset in
    let own = c.in-Ok.program.meaning in
    let given = events_left c.rows.result in
    let has = has_events p _ own given c.in-Ok.ensures.unit c.in-Ok.ensures.layout c.rows.ensures.events in
    omega (arith, c.in-Ok-copy_rows.ensures.ok.count_is, rows_at_most p own h (events_of given) has unit)

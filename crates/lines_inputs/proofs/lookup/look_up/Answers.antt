use Rattle.lines_inputs.proofs.lookup.look_up.Goals as goal

pub returns-in-Ok : goal.returns-in-Ok
returns-in-Ok g c = record {
  offsets = c.in-Ok.ensures.offsets;
  each = rw c.bytes-size.ensures.number at c.in-Ok.ensures.units;
}

use Rattle.lines_answers.proofs.made_index.index_of_input.Goals as goal

pub returns-in-Ok : goal.returns-in-Ok
returns-in-Ok g c = record {
  kept = c.in_ok-program.program.lookup;
  are = c.in_ok-program.ensures.units;
  directories = c.in_ok-program.program.paths.1;
  tell = c.in_ok-program.ensures.directories;
  is_index =
      rw c.new-bytes.ensures.items at
      (rw c.bytes.ensures.number at
      (rw c.from-size.ensures at
      (rw c.in_ok-program.ensures.strings at c.in-Ok.ensures.index)));
}

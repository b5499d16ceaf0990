use Rattle.std.specs.Prelude.{◌≡◌}
use Rattle.gimli_write.proofs
use proofs.Common.{[], None, KeepsFinalTables, beside, still_to_read, ReadsOn, sequence_from}
use proofs.Outcomes.{offer_count}
use proofs.convert.conversion.Conversion.gather.Given as goal

abbrev pub invariant-rows : goal.invariant-rows
invariant-rows g l = record {
  same : sequence_from l.start l.rows.items (still_to_read l.self l.line_strings)
      ≡ sequence_from None [] (still_to_read l.fn.self l.fn.line_strings);
  reads_on : ReadsOn (beside l.fn.line_strings l.fn.self) (beside l.line_strings l.self);
  last : KeepsFinalTables (beside l.fn.line_strings l.fn.self) (beside l.line_strings l.self);
}

abbrev pub decreases-rows : goal.decreases-rows
decreases-rows g l = offer_count (still_to_read l.self l.line_strings)

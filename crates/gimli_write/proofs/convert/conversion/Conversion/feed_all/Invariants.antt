use Rattle.gimli_write.proofs
use proofs.Common.{Result, KeepsTexts, ConvertError, Outcome, ComesTo, still_to_read, StaysWritable}
use proofs.Outcomes.{offer_count}
use proofs.convert.conversion.Conversion.feed_all.Given as goal

abbrev pub invariant-rows : goal.invariant-rows
invariant-rows g l = record {
  same : (outcome : Result Outcome ConvertError)
      → ComesTo (goal.F-post g l.convert_address) (still_to_read l.self l.line_strings) l.self.tables.program outcome
      → ComesTo (goal.F-post g l.convert_address) (still_to_read l.fn.self l.fn.line_strings) l.fn.self.tables.program
      outcome;
  stays : KeepsTexts l.fn.line_strings l.line_strings;
  writable : StaysWritable l.fn.self.tables l.fn.line_strings l.self.tables l.line_strings;
}

abbrev pub decreases-rows : goal.decreases-rows
decreases-rows g l = offer_count (still_to_read l.self l.line_strings)

use Rattle.std.specs.Prelude.{◌≡◌}
use Rattle.gimli_write.proofs
use proofs.Common.{
  true,
  length,
  final_tables_of_source,
  defines_first,
  after_definitions,
  beside,
  version_of_source,
  source_left,
  ReadsOn,
}
use proofs.Conversions.{conversion}
use proofs.convert.conversion.Conversion.next_source_row.Given as goal

abbrev pub invariant-steps : goal.invariant-steps
invariant-steps g l =
    let a = l.self-inside in
    let now = conversion a.sections a.source a.tables a.address a.held a.failed in
    record {
      left : after_definitions (source_left now l.line_strings)
          ≡ after_definitions (source_left l.fn.self l.fn.line_strings);
      first : defines_first (source_left now l.line_strings) ≡ true
          → defines_first (source_left l.fn.self l.fn.line_strings) ≡ true;
      version : version_of_source now ≡ version_of_source l.fn.self;
      sections : a.sections ≡ l.fn.self.sections;
      address : a.address ≡ l.fn.self.address;
      held : a.held ≡ l.fn.self.held;
      failed : a.failed ≡ l.fn.self.failed;
      reads_on : ReadsOn (beside l.fn.line_strings l.fn.self) (beside l.line_strings now);
      last : final_tables_of_source now l.line_strings ≡ final_tables_of_source l.fn.self l.fn.line_strings;
    }

abbrev pub decreases-steps : goal.decreases-steps
decreases-steps g l = length l.self-inside.source.unread.bytes

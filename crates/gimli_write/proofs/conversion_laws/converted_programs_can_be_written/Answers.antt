use Rattle.gimli_write.proofs.MappedLaws.{conversion_written}
use Rattle.gimli_write.proofs.conversion_laws.converted_programs_can_be_written.Goals as goal

pub returns : goal.returns
returns c = λ d strings. conversion_written d.convert_address d.source d.line_strings d.outcome d.is strings

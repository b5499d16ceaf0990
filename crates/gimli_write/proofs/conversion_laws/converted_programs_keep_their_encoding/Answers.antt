use Rattle.gimli_write.proofs.MappedLaws.{conversion_encoded}
use Rattle.gimli_write.proofs.conversion_laws.converted_programs_keep_their_encoding.Goals as goal

pub returns : goal.returns
returns c = λ d. conversion_encoded d.convert_address d.source d.line_strings d.outcome d.is

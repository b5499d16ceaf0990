use Rattle.gimli_write.proofs.MappedLaws.{files_back}
use Rattle.gimli_write.proofs.conversion_laws.converted_files_are_read_back.Goals as goal

pub returns : goal.returns
returns c = λ d strings files at_end. files_back d.convert_address d.source d.line_strings d.outcome d.is strings at_end

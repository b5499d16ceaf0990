use Rattle.gimli_write.proofs.MappedLaws.{conversion_faithful}
use Rattle.gimli_write.proofs.conversion_laws.conversions_are_faithful.Goals as goal

pub returns : goal.returns
returns c = λ d strings can. conversion_faithful d.convert_address d.source d.line_strings d.outcome d.is can strings

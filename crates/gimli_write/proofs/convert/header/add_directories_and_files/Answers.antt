use Rattle.gimli_write.proofs.ConvertSteps.{kept_then}
use Rattle.gimli_write.proofs.convert.header.add_directories_and_files.Goals as goal

pub returns-clause-stays : goal.returns-clause-stays
returns-clause-stays g c = kept_then c.in_ok-add_directories.ensures.stays c.add_files.ensures.stays

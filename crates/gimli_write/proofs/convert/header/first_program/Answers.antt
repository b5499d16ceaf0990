use Rattle.gimli_write.proofs.ConvertSteps.{kept_then}
use Rattle.gimli_write.proofs.convert.header.first_program.Goals as goal

pub returns-in_err-source_file-clause-stays : goal.returns-in_err-source_file-clause-stays
returns-in_err-source_file-clause-stays g c =
    kept_then (kept_then c.in_ok-working_dir.ensures.stays c.in_ok-source_dir.ensures.stays)
    c.in_err-source_file.ensures.stays

pub returns-in-Ok-clause-stays : goal.returns-in-Ok-clause-stays
returns-in-Ok-clause-stays g c =
    kept_then (kept_then c.in_ok-working_dir.ensures.stays c.in_ok-source_dir.ensures.stays)
    c.in_ok-source_file.ensures.stays

pub returns-in-Err-clause-stays : goal.returns-in-Err-clause-stays
returns-in-Err-clause-stays g c =
    kept_then (kept_then c.in_ok-working_dir.ensures.stays c.in_ok-source_dir.ensures.stays)
    c.in_ok-source_file.ensures.stays

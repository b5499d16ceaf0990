use Rattle.gimli_c.proofs.Files.{file_stays}
use Rattle.gimli_c.proofs.run.run_to_file.Goals as goal

pub returns-in-Some-clause-file : goal.returns-in-Some-clause-file
returns-in-Some-clause-file g c =
    file_stays c.args.rows.now c.header.result.now.meaning c.args.index _ c.header.ensures.header.fixed
    c.header.ensures.files c.in-Some.ensures.file

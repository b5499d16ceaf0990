use Rattle.std.proofs.Common.{◌≡◌}
use Rattle.gimli_lookup.specs.Strings.{strings}
use Rattle.gimli_c.specs.Path.{paths_handed}
use Rattle.gimli_c.specs.Location.{slice_seen}
use Rattle.gimli_c.proofs.path.path_in_header.Goals as goal

pub returns-in-Ok-clause-ok : goal.returns-in-Ok-clause-ok
returns-in-Ok-clause-ok c =
    let same : c.new.result
    ≡ paths_handed (strings slice_seen c.args.texts) c.args.header.now.meaning
    c.args.comp_dir.now = c.new.ensures in
    rw same at c.in-Ok.ensures.ok

pub returns-in-Err-clause-err : goal.returns-in-Err-clause-err
returns-in-Err-clause-err c = λ other.
    let same : c.new.result
    ≡ paths_handed (strings slice_seen c.args.texts) c.args.header.now.meaning
    c.args.comp_dir.now = c.new.ensures in
    let status = c.path_status.ensures.number other in
    (status.0, (c.in-Err.e, rw same at (c.in-Err.ensures.err status.1)))

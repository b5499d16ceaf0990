use Rattle.std.proofs.Common.{◌∙◌, sym, ap}
use Rattle.gimli_lookup.specs.Paths.{row_path}
use Rattle.gimli_index.specs.Found.{path_by, path_said}
use Rattle.gimli_lookup.specs.ProgramPaths.{texts_seen, unit_paths}
use Rattle.gimli_index.specs.declared.place.NoPath.TheVariants.{Reason}
use Rattle.std.specs.Prelude.{Err}
use Rattle.gimli_index.proofs.origin.Origin.path_of.Goals as goal

pub returns-in-Ok-clause-path : goal.returns-in-Ok-clause-path
returns-in-Ok-clause-path g c =
    let t = texts_seen g.R.Reader.seen c.args.self.now.paths.now in
    let header = c.in-Some.header.now.meaning in
    sym (
    ap (λ h. path_by t c.args.unit.now.offset h c.args.row.now) c.in-Some.ensures.header
    ∙ ap (λ o. path_said (row_path (unit_paths t o header) c.args.row.now)) (sym c.in-Some.ensures.offset)
    ∙ ap path_said c.in-Ok.ensures.ok
    )

pub returns-in-Some-reason_of-clause-path : goal.returns-in-Some-reason_of-clause-path
returns-in-Some-reason_of-clause-path g c =
    let t = texts_seen g.R.Reader.seen c.args.self.now.paths.now in
    let header = c.in-Some.header.now.meaning in
    let said = c.in-Some-reason_of.ensures in
    sym (
    ap (λ h. path_by t c.args.unit.now.offset h c.args.row.now) c.in-Some.ensures.header
    ∙ ap (λ o. path_said (row_path (unit_paths t o header) c.args.row.now)) (sym c.in-Some.ensures.offset)
    ∙ ap path_said (c.in-Err.ensures.err said.0)
    ∙ ap (λ n. Err (Reason n)) (sym said.2)
    )

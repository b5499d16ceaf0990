use Rattle.std.proofs.Common.{◌∙◌, ◌&&◌, Bool, Option, ap, sym}
use Rattle.std.proofs.lemmas.Bool.{eq-eqb}
use Rattle.gimli_index.specs.Contents.{path_at}
use Rattle.gimli_index.specs.Found.{is_one_path}
use Rattle.gimli_index.specs.declared.statements.Given.{Given}
use Rattle.gimli_index.specs.inside.Begun.{given_in, goes_on}
use Rattle.gimli_index.specs.inside.Table.{with_table}
use Rattle.gimli_index.proofs.statements.goes_on.Goals as goal

pub returns-then-given-line : goal.returns-then-given-line
returns-then-given-line c =
    λ t units limit are.
    let table = c.args.table.now in
    let g = c.in-Some.given in
    c.have_one_path.ensures t units limit are
    ∙ sym (ap (λ (b : Bool). b && is_one_path (path_at (with_table table) g.source)
    (path_at (with_table table) c.args.source)) (eq-eqb g.line c.args.line c.if-given-line.true))
    ∙ sym (ap (λ (o : Option Given). goes_on (given_in table o) (path_at (with_table table) c.args.source) c.args.line)
    c.in-Some.is)

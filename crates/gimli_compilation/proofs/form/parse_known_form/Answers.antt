use Rattle.std.proofs.Common.{sym}
use Rattle.gimli_compilation.proofs.Shapes.{form_readable}
use Rattle.gimli_compilation.proofs.form.parse_known_form.Goals as goal

pub parse_shape-requires : goal.parse_shape-requires
parse_shape-requires g c =
    form_readable c.args.encoding c.requires c.args.form.0 c.in-Some.shape (sym c.in-Some.ensures)

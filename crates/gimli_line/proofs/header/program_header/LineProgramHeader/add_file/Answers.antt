use Rattle.gimli_line.proofs
use proofs.Common.{refl}
use proofs.Order.{files_after}
use proofs.header.program_header.LineProgramHeader.add_file.Goals as goal

pub returns-clause-source : goal.returns-clause-source
returns-clause-source g c = rw (← c.self.view_is) (record {
  layout = refl;
  offset = refl;
  handed = refl;
  order = λ order has are. record {
    operand_counts = are.operand_counts;
    directories = are.directories;
    files = files_after g.R.Reader.seen order c.push.result c.self.inside.file_names.items _ c.args.file
        c.push.ensures.ok c.push.ensures.kept has are.files;
  };
})

use Rattle.lines_reports.proofs.Counting.{all_are_counted}
use Rattle.lines_reports.proofs.laws.pieces_have_all_bytes.Goals as goal

pub returns : goal.returns
returns c layout h bytes pieces are = all_are_counted layout h bytes pieces are

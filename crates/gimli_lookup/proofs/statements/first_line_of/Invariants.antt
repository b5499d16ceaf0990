use Rattle.std.proofs.Common.{take}
use Rattle.gimli_lookup.specs.inside.Statements.{have_statement, IsFirstWith}
use Rattle.gimli_lookup.specs.inside.Statements.{is_among}
use Rattle.gimli_lookup.proofs.statements.first_line_of.Given as goal

abbrev pub invariant-loop-rows : goal.invariant-loop-rows
invariant-loop-rows l =
    IsFirstWith (λ line. have_statement (is_among l.files) line (take l.rows-index l.sequences)) l.asked l.first

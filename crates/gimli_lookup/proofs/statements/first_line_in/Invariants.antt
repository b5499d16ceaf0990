use Rattle.std.proofs.Common.{take}
use Rattle.gimli_lookup.specs.inside.Statements.{has_statement, IsFirstWith}
use Rattle.gimli_lookup.specs.inside.Statements.{is_among}
use Rattle.gimli_lookup.proofs.statements.first_line_in.Given as goal

abbrev pub invariant-loop-index : goal.invariant-loop-index
invariant-loop-index l =
    IsFirstWith (λ line. has_statement (is_among l.files) line (take l.index l.rows)) l.asked l.first

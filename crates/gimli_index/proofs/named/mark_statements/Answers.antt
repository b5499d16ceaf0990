use Rattle.std.proofs.Common.{◌<◌, ◌+◌, get_or, length, take, sym, arith}
use Rattle.std.specs.Prelude.{◌==◌}
use Rattle.std.proofs.lemmas.List.Folds.{list_any_more}
use Rattle.gimli_lookup.proofs.FileMarks.{none_marked, marked_too}
use Rattle.gimli_index.specs.declared.contents.Statement.{Statement}
use Rattle.gimli_index.specs.inside.Kept.{statements_name}
use Rattle.gimli_index.proofs.named.mark_statements.Goals as goal

abbrev nothing : Statement
nothing = record { source = 0; line = 0; address = 0 }

pub loop-statement-init : goal.loop-statement-init
loop-statement-init c = none_marked c.args.named.now

pub loop-statement-preserved : goal.loop-statement-preserved
loop-statement-preserved c =
    let all = c.args.statements.now in
    let i = c.loop-statement.statement-index in
    let inside : i < length all = omega arith in
    let before = statements_name (take i all) in
    marked_too before (λ n. (get_or all i nothing).source == n) (statements_name (take (i + 1) all)) c.args.named.now
    c.loop-statement.named c.mark.new.named
    (λ n. sym (list_any_more (λ (s : Statement). s.source == n) all i nothing inside))
    c.loop-statement.invariant c.mark.ensures

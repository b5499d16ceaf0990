use Rattle.std.proofs.Common.{refl}
use Rattle.gimli_lookup.proofs.FileMarks.{marked_too}
use Rattle.gimli_index.specs.inside.Kept.{are_named, entries_name, statements_name}
use Rattle.gimli_index.proofs.named.mark_all.Goals as goal

pub returns : goal.returns
returns c =
    let entries = c.args.entries.now in
    let statements = c.args.statements.now in
    marked_too (entries_name entries) (statements_name statements) (are_named entries statements) c.args.named.now
    c.mark_entries.new.named c.mark_statements.new.named (λ n. refl) c.mark_entries.ensures c.mark_statements.ensures

use Rattle.std.proofs.Common.{sym, subst}
use Rattle.gimli_index.specs.Found.{Given, IsAppended, IsIndexAppended}
use Rattle.gimli_lookup.specs.ProgramPaths.{texts_seen}
use Rattle.gimli_index.specs.inside.Table.{AreSources}
use Rattle.gimli_index.proofs.Sources.{none_are_sources}
use Rattle.gimli_index.proofs.WrittenIndex.{index_appended, with_ok}
use Rattle.gimli_index.proofs.made.write_index.Goals as goal

pub write_entries-requires-clause-sources : goal.write_entries-requires-clause-sources
write_entries-requires-clause-sources g c =
    let t = texts_seen g.R.Reader.seen c.paths.result.now in
    subst (AreSources t c.lookup.result.now c.args.limit) (sym c.in_ok-table.ensures)
    (none_are_sources t c.lookup.result.now)

pub returns-clause-index : goal.returns-clause-index
returns-clause-index g c =
    let given : Given = record {
      texts = texts_seen g.R.Reader.seen c.args.program.now.paths;
      units = c.args.program.now.lookup;
      size = c.args.address_size;
      name = c.args.identity.now;
    } in
    let old = c.args.out.now.items in
    let new = c.write_entries.new.out.items in
    with_ok c.write_entries.result (IsAppended given c.args.limit old new) (IsIndexAppended given old new)
    (rw c.paths.ensures at (rw c.lookup.ensures at c.write_entries.ensures.bytes))
    (index_appended given old new)

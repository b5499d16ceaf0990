use Rattle.std.proofs.Common.{◌∙◌, ◌<◌, List, None, refl, sym, subst, ap, length}
use Rattle.std.specs.Prelude.{IfSome, slice_get}
use Rattle.gimli_index.specs.Found.{Given, IsAppended}
use Rattle.gimli_lookup.specs.ProgramPaths.{texts_seen}
use Rattle.gimli_index.specs.Made.{IsMakeFault, contents_of}
use Rattle.gimli_index.specs.Refused.{IsIndexFault}
use Rattle.gimli_index.specs.declared.contents.Contents.{Contents as Parts}
use Rattle.gimli_index.specs.declared.contents.Entry.{Entry}
use Rattle.gimli_index.specs.declared.contents.Source.{Source}
use Rattle.gimli_index.specs.declared.contents.Statement.{Statement}
use Rattle.gimli_index.specs.inside.Kept.{IsNamedWritten}
use Rattle.gimli_index.proofs.Entered.{still_entered}
use Rattle.gimli_index.proofs.WrittenIndex.{contents_fault, named_contents, on_fault, with_ok}
use Rattle.gimli_index.proofs.made.write_entries.Goals as goal

pub write_named-requires-clause-entries : goal.write_named-requires-clause-entries
write_named-requires-clause-entries g c =
    let units = c.args.origin.now.lookup.now in
    let t = texts_seen g.R.Reader.seen c.args.origin.now.paths.now in
    let table = c.statements_of.new.table in
    let said = c.in_ok-statements.ensures in
    let entered =
    still_entered t units c.entries_of.new.table table c.in_ok-entries.entries.items None
    c.in_ok-entries.ensures.entered said.keeps said.are in
    λ i e there.
    subst (λ (ss : List Source). IfSome e.place (λ l. l.source < length ss)) (sym c.sources.ensures)
    (entered.inside i e (ap (λ (es : List Entry). slice_get es i) (sym c.as_slice.ensures.value) ∙ there))

pub write_named-requires-clause-statements : goal.write_named-requires-clause-statements
write_named-requires-clause-statements g c =
    let said = c.in_ok-statements.ensures in
    λ i s there.
    subst (λ (ss : List Source). s.source < length ss) (sym c.sources.ensures)
    (said.inside i s (ap (λ (xs : List Statement). slice_get xs i) (sym c.as_slice-2.ensures.value) ∙ there))

pub returns-clause-bytes : goal.returns-clause-bytes
returns-clause-bytes g c =
    let units = c.args.origin.now.lookup.now in
    let t = texts_seen g.R.Reader.seen c.args.origin.now.paths.now in
    let given : Given = record { texts = t; units = units; size = c.args.address_size; name = c.args.identity.now } in
    let parts : Parts = record {
      address_size = c.args.address_size;
      sources = c.sources.result;
      entries = c.as_slice.result;
      statements = c.as_slice-2.result;
      paths = c.paths.result;
      identity = c.args.identity;
    } in
    let old = c.args.out.now.items in
    let new = c.write_named.new.out.items in
    let table = c.statements_of.new.table in
    let said = c.in_ok-statements.ensures in
    let entered =
    still_entered t units c.entries_of.new.table table c.in_ok-entries.entries.items None
    c.in_ok-entries.ensures.entered said.keeps said.are in
    with_ok c.write_named.result (IsNamedWritten parts old new) (IsAppended given c.args.origin.now.limit old new)
    c.write_named.ensures.written
    (λ written.
    named_contents given table c.in_ok-entries.entries.items c.in_ok-statements.statements.items parts old new entered
    said.said c.sources.ensures c.as_slice.ensures.value c.as_slice-2.ensures.value c.paths.ensures refl refl written)

pub returns-clause-err : goal.returns-clause-err
returns-clause-err g c =
    let units = c.args.origin.now.lookup.now in
    let t = texts_seen g.R.Reader.seen c.args.origin.now.paths.now in
    let given : Given = record { texts = t; units = units; size = c.args.address_size; name = c.args.identity.now } in
    let parts : Parts = record {
      address_size = c.args.address_size;
      sources = c.sources.result;
      entries = c.as_slice.result;
      statements = c.as_slice-2.result;
      paths = c.paths.result;
      identity = c.args.identity;
    } in
    let contents = contents_of parts parts.statements.now in
    let table = c.statements_of.new.table in
    let statements = c.in_ok-statements.statements.items in
    let said = c.in_ok-statements.ensures in
    let entered =
    still_entered t units c.entries_of.new.table table c.in_ok-entries.entries.items None
    c.in_ok-entries.ensures.entered said.keeps said.are in
    on_fault c.write_named.result (IsMakeFault contents) (IsIndexFault given c.args.origin.now.limit) (λ e fault.
    contents_fault given table c.in_ok-entries.entries.items statements contents entered said.said
    c.sources.ensures
    c.as_slice.ensures.value c.paths.ensures e c.as_slice-2.ensures.value refl fault) c.write_named.ensures.err

use Rattle.std.proofs.Common.{◌≡◌, ◌++◌, length}
use Rattle.std.specs.List.{Contains}
use Rattle.gimli_index.specs.Contents.{Fits, index_bytes}
use Rattle.gimli_index.specs.Made.{contents_of}
use Rattle.gimli_index.specs.declared.contents.Statement.{Statement}
use Rattle.gimli_index.specs.inside.Kept.{IsKeptWritten, IsNamedWritten}
use Rattle.gimli_index.proofs.KeptSources.{all_written, both_ok, kept_ok, marks_are, place_in_list, some_written}
use Rattle.gimli_index.proofs.Lists.{at_index}
use Rattle.gimli_index.proofs.contents.Contents.write_by.Goals as goal

pub write_kept-requires-clause-marks : goal.write_kept-requires-clause-marks
write_kept-requires-clause-marks c =
    let self = c.args.self.now in
    marks_are self.entries.now c.args.statements.now (length self.sources.now) c.args.named.now c.requires.marked

pub returns-then-are_all : goal.returns-then-are_all
returns-then-are_all c =
    let self = c.args.self.now in
    let statements = c.args.statements.now in
    let made = contents_of self statements in
    let old = c.args.out.now.items in
    let new = c.write_parts.new.out.items in
    both_ok c.write_parts.result (new ≡ old ++ index_bytes made) (Fits made) (IsNamedWritten self old new)
    c.write_parts.ensures.bytes c.write_parts.ensures.fits
    (λ bytes fits.
    all_written self statements c.args.named.now old new c.requires.counts.sources c.requires.marked
    c.requires.ascending c.requires.ordered c.requires.same bytes fits (c.are_all.ensures c.if-are_all.true))

pub returns : goal.returns
returns c =
    let self = c.args.self.now in
    let statements = c.args.statements.now in
    let named = c.args.named.now in
    let old = c.args.out.now.items in
    let new = c.write_kept.new.out.items in
    kept_ok c.write_kept.result (IsKeptWritten self statements named old new) (IsNamedWritten self old new)
    c.write_kept.ensures
    (λ w.
    some_written self statements named old new c.requires.counts.sources c.requires.marked
    c.requires.ascending c.requires.ordered c.requires.same c.requires.entries
    (λ i s there.
    let at =
    place_in_list self.statements.now s
    (at_index (λ (x : Statement). Contains self.statements.now x) statements i s there c.requires.within) in
    c.requires.statements at.0 s at.1)
    w)

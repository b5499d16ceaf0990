use Rattle.std.proofs.Common.{◌≡◌, [], drop, refl, ◌∙◌, rules}
use Rattle.gimli_compilation.specs.Sections.{Sections, sections_of}
use Rattle.gimli_compilation.proofs.DirectoryRuns.{gives_of, told, kept_none, kept_more, kept_all}
use Rattle.gimli_compilation.proofs.compilations.Compilations.new.Goals as goal

pub loop-units-init : goal.loop-units-init
loop-units-init g c = record {
  walks = c.units-units.ensures.sections;
  kept = rw c.units-units.ensures.offset (kept_none _ _ (λ line. rw c.new-directories.ensures.empty refl));
}

pub loop-units-preserved : goal.loop-units-preserved
loop-units-preserved g c =
    let sections : Sections =
    sections_of g.R.Reader.seen g.R.Offset.ReaderOffset.limit c.args.sections.now in
    let next = rw c.in-Some.is at c.in_ok-unit.ensures in
    let says = rw (next.offset, c.loop-units.invariant.walks) at next.compilation in
    let refused = rw (next.offset, c.loop-units.invariant.walks) at next.refusal in
    let follows = rw c.loop-units.invariant.walks at next.next in
    let inside = rw c.loop-units.invariant.walks at next.within in
    record {
      walks = c.next.ensures.sections ∙ c.loop-units.invariant.walks;
      kept = kept_more sections c.loop-units.units.offset c.next.new.self.offset _ _ _
          (gives_of g.R.Reader.seen sections c.loop-units.units.offset c.in-Some.unit.compilation says refused) follows
          next.onward inside
          (λ line. told g.R.Reader.seen line _ _ _ (rw c.line_directory.ensures at (c.in_ok-keep.ensures.ok line)))
          c.loop-units.invariant.kept;
    }

pub returns-clause-ok : goal.returns-clause-ok
returns-clause-ok g c =
    let end : drop c.loop-units.units.offset c.loop-units.units.sections.info ≡ [] = search rules in
    kept_all _ _ _ (rw c.loop-units.invariant.walks at end) c.loop-units.invariant.kept

use Rattle.std.proofs.Common.{◌≡◌, ◌-◌, length}
use Rattle.std.specs.Prelude.{option_map}
use Rattle.std.specs.BTreeMap.{get}
use Rattle.std.specs.Ordering.{nat_cmp}
use Rattle.gimli_compilation.specs.Sections.{Sections, sections_of}
use Rattle.gimli_compilation.proofs.DirectoryRuns.{Kept}
use Rattle.gimli_compilation.proofs.compilations.Compilations.new.Given as goal

abbrev pub invariant-loop-units : goal.invariant-loop-units
invariant-loop-units g l =
    let sections : Sections = sections_of g.R.Reader.seen g.R.Offset.ReaderOffset.limit l.sections in
    record {
      walks : l.units.sections ≡ sections;
      kept : Kept sections l.units.offset (λ line.
          option_map (λ r. (g.R.Reader.seen r).bytes) (get nat_cmp l.directories line));
    }

abbrev pub decreases-loop-units : goal.decreases-loop-units
decreases-loop-units g l = length l.units.sections.info - l.units.offset

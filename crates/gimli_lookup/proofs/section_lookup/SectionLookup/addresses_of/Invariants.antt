use Rattle.std.proofs.Common.{take}
use Rattle.gimli_lookup.specs.SectionAddresses.{addresses_of_path}
use Rattle.gimli_lookup.specs.inside.Statements.{AreCollectedFrom}
use Rattle.gimli_lookup.specs.ProgramPaths.{texts_seen}
use Rattle.gimli_lookup.proofs.section_lookup.SectionLookup.addresses_of.Given as goal

abbrev pub invariant-loop-unit : goal.invariant-loop-unit
invariant-loop-unit g l =
    AreCollectedFrom (addresses_of_path (texts_seen g.R.Reader.seen l.paths) l.path (take l.unit l.self)) l.line
    l.found

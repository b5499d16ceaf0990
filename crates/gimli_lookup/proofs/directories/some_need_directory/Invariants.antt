use Rattle.std.proofs.Common.{length}
use Rattle.gimli_lookup.specs.Strings.{strings}
use Rattle.gimli_lookup.proofs.DirectoryNeeds.{IsUnneededYet}
use Rattle.gimli_lookup.proofs.directories.some_need_directory.Given as goal

abbrev pub invariant-units : goal.invariant-units
invariant-units g l = IsUnneededYet (strings g.R.Reader.seen l.sections) l.initial.units l.units

abbrev pub decreases-units : goal.decreases-units
decreases-units g l = length l.units.offsets

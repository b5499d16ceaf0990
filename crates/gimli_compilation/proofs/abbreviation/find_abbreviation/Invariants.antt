use Rattle.std.proofs.Common.{◌≡◌, length}
use Rattle.gimli_compilation.specs.Abbreviation.{abbreviation_production}
use Rattle.gimli_compilation.proofs.abbreviation.find_abbreviation.Given as goal

abbrev pub invariant-loop-found : goal.invariant-loop-found
invariant-loop-found g l =
    (abbreviation_production l.code).read (g.R.Reader.seen l.input).bytes
    ≡ (abbreviation_production l.code).read (g.R.Reader.seen l.initial.input).bytes

abbrev pub decreases-loop-found : goal.decreases-loop-found
decreases-loop-found g l = length (g.R.Reader.seen l.input).bytes

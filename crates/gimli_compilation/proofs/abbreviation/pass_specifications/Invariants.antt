use Rattle.std.proofs.Common.{◌≡◌, length}
use Rattle.gimli_compilation.specs.inside.AbbreviationReading.{specifications_passed}
use Rattle.gimli_compilation.proofs.abbreviation.pass_specifications.Given as goal

abbrev pub invariant-loop-specification : goal.invariant-loop-specification
invariant-loop-specification g l =
    specifications_passed (g.R.Reader.seen l.input).bytes
    ≡ specifications_passed (g.R.Reader.seen l.initial.input).bytes

abbrev pub decreases-loop-specification : goal.decreases-loop-specification
decreases-loop-specification g l = length (g.R.Reader.seen l.input).bytes

use Rattle.std.proofs.Common.{◌≡◌, ℕ, List}
use Rattle.gimli_compilation.specs.inside.AbbreviationTable.{IsTable, size_left}
use Rattle.gimli_compilation.proofs.abbreviation.Abbreviations.read_up_to.Given as goal

abbrev pub invariant-loop-self : goal.invariant-loop-self
invariant-loop-self g l = record {
  table : (section : List ℕ) → IsTable g.R.Reader.seen section l.initial.self
      → IsTable g.R.Reader.seen section l.self;
  offset : l.self.offset ≡ l.initial.self.offset;
}

abbrev pub decreases-loop-self : goal.decreases-loop-self
decreases-loop-self g l = size_left g.R.Reader.seen l.self.next

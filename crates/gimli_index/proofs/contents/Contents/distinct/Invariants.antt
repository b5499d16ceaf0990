use Rattle.gimli_index.specs.Made.{contents_of}
use Rattle.gimli_index.proofs.KeptStatements.{AreKept}
use Rattle.gimli_index.proofs.contents.Contents.distinct.Given as goal
use Rattle.std.proofs.Common.{[]}

abbrev pub invariant-loop-index : goal.invariant-loop-index
invariant-loop-index l = AreKept (contents_of l.self []) l.ranked l.index l.distinct.items

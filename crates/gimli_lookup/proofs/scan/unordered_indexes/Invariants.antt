use Rattle.std.proofs.Common.{◌≡◌, ◌++◌, drop}
use Rattle.gimli_lookup.specs.Scan.{indexes_out_of_order}
use Rattle.gimli_lookup.proofs.scan.unordered_indexes.Given as goal

abbrev pub invariant-loop-index : goal.invariant-loop-index
invariant-loop-index l =
    l.indexes.items ++ indexes_out_of_order l.index (drop l.index l.sequences) ≡ indexes_out_of_order 0 l.sequences

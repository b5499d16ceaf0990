use Rattle.std.proofs.Common.{◌≡◌, drop}
use Rattle.gimli_lookup.specs.Probes.{never_go_below, never_go_down}
use Rattle.gimli_lookup.proofs.kept_rows.addresses_never_go_down.Given as goal

abbrev pub invariant-loop-index : goal.invariant-loop-index
invariant-loop-index l = never_go_down l.rows ≡ never_go_below l.lowest (drop l.index l.rows)

use Rattle.std.proofs.Common.{◌≡◌, drop}
use Rattle.gimli_lookup.specs.Program.{some_found_need}
use Rattle.gimli_lookup.specs.Strings.{strings}
use Rattle.gimli_lookup.proofs.section_search.some_need_compilation.Given as goal

abbrev pub invariant-loop-found : goal.invariant-loop-found
invariant-loop-found g l =
    some_found_need (strings g.R.Reader.seen l.paths.0) l.units l.rows
    ≡ some_found_need (strings g.R.Reader.seen l.paths.0) l.units (drop l.found-index l.rows)

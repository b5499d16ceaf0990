use Rattle.std.proofs.Common.{take, refl, sym, subst}
use Rattle.gimli_line.specs.header.Orders.{source_of}
use Rattle.gimli_line.specs.run.Passing.{RunState}
use Rattle.gimli_line.specs.run.Rows.{KeepsRun}
use Rattle.gimli_lookup.specs.inside.SequenceCut.{no_rows}
use Rattle.gimli_lookup.specs.inside.UnitSearch.{UnitSearch, Sees}
use Rattle.gimli_lookup.proofs.UnitRuns.{is_kept}
use Rattle.gimli_lookup.proofs.UnitSearches.{starts_searching, unit_searched}
use Rattle.gimli_lookup.proofs.unit_search.search_unit.Goals as goal

pub returns-clause-found : goal.returns-clause-found
returns-clause-found g c =
    let old = c.rows-run.result in
    let addresses = c.args.addresses.now in
    let start =
    subst (λ (s : UnitSearch). Sees c.args.unit addresses (no_rows c.args.lowest) s) (sym c.new-search.ensures)
    (starts_searching c.args.unit c.args.lowest addresses) in
    let end = c.in_ok-fault.ensures.ok c.args.unit (no_rows c.args.lowest) start in
    let kept =
    is_kept c.args.lowest c.args.program.meaning
    (source_of g.R.Reader.seen g.R.Offset.ReaderOffset.number c.args.program)
    old c.search_rows.new.run c.in_ok-fault.fault end.0 c.rows-run.ensures.start c.rows-run.ensures.made
    c.rows-run.ensures.files end.1 in (
      take end.0.ended end.0.parts,
      kept,
      unit_searched c.args.unit addresses end.0 c.search_rows.new.search (take end.0.ended end.0.parts)
          c.into_pairs.result.items end.2 refl
          c.into_pairs.ensures,
    )

pub returns-clause-run : goal.returns-clause-run
returns-clause-run g c =
    let start =
    subst (λ (s : UnitSearch). Sees c.args.unit c.args.addresses.now (no_rows c.args.lowest) s)
    (sym c.new-search.ensures)
    (starts_searching c.args.unit c.args.lowest c.args.addresses.now) in
    let end = c.in_ok-fault.ensures.ok c.args.unit (no_rows c.args.lowest) start in
    subst (λ (a : RunState). KeepsRun a c.search_rows.new.run) c.rows-run.ensures.start end.1.keeps.run

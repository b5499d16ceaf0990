use Rattle.std.proofs.Common.{◌≡◌, ℕ, Bool, List, IfOk, ap, ◌∙◌, subst}
use Rattle.std.specs.Prelude.{slice_index_or}
use Rattle.std.proofs.Math.Path.{fun_ext}
use Rattle.gimli_line.specs.declared.run.row.LineRow.{LineRow}
use Rattle.gimli_lookup.specs.SectionAddresses.{unit_has_path}
use Rattle.gimli_lookup.specs.Statements.{addresses_of}
use Rattle.gimli_lookup.specs.inside.Statements.{is_among, AreCollectedFrom}
use Rattle.gimli_lookup.specs.ProgramPaths.{texts_seen}
use Rattle.gimli_lookup.proofs.section_lookup.SectionLookup.unit_addresses.Goals as goal

pub returns-clause-ok : goal.returns-clause-ok
returns-clause-ok g c =
    λ d.
    let texts = texts_seen g.R.Reader.seen c.args.paths.now in
    let path = c.args.path.now in
    let unit = slice_index_or c.args.self.now c.args.unit d in
    let same : is_among c.deref.result.now ≡ unit_has_path texts path unit.unit =
    fun_ext (λ i.
    ap (λ xs.
    is_among xs
    i) c.deref.ensures.value ∙ c.in_ok-files.ensures.ok i ∙ ap (λ u.
    unit_has_path texts path u i) (c.unit_at.ensures d)) in
    subst (λ (sequences : List (List LineRow)).
    IfOk c.collect_from.result
    (AreCollectedFrom (addresses_of (unit_has_path texts path unit.unit) sequences) c.args.line))
    (c.sequences_of.ensures d)
    (subst
    (λ (is_file : ℕ → Bool). IfOk c.collect_from.result
    (AreCollectedFrom (addresses_of is_file c.sequences_of.result.now) c.args.line))
    same
    c.collect_from.ensures.ok)

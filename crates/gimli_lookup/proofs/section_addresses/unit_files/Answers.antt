use Rattle.std.proofs.Common.{◌≡◌, ℕ, Bool, false, Option, IfOk, sym, ap, subst, ◌∙◌}
use Rattle.std.proofs.Math.Path.{fun_ext}
use Rattle.std.specs.Option.{option_map_or}
use Rattle.gimli_lookup.specs.PathFiles.{has_path}
use Rattle.gimli_lookup.specs.ProgramPaths.{texts_seen, unit_paths}
use Rattle.gimli_lookup.specs.Section.{KeptHeader}
use Rattle.gimli_lookup.specs.SectionAddresses.{unit_has_path}
use Rattle.gimli_lookup.specs.inside.Statements.{is_among}
use Rattle.gimli_lookup.proofs.section_addresses.unit_files.Goals as goal

pub returns-in-Some-clause-ok : goal.returns-in-Some-clause-ok
returns-in-Some-clause-ok g c =
    let t = texts_seen g.R.Reader.seen c.args.paths.now in
    let path = c.args.path.now in
    let u = c.args.unit.now in
    let h = c.in-Some.header.now in
    let offset = g.R.Offset.ReaderOffset.number h.offset.0 in
    let same : has_path (unit_paths t offset h.meaning) path ≡ unit_has_path t path u =
    fun_ext (λ i. ap (λ (o : ℕ). has_path (unit_paths t o h.meaning) path i) c.in-Some.ensures.offset
    ∙ sym (ap (λ (o : Option KeptHeader).
    option_map_or (λ (k : KeptHeader). has_path (unit_paths t u.offset k.meaning) path i) o false)
    c.in-Some.ensures.header)) in
    subst (λ (test : ℕ → Bool). IfOk c.files_with_path.result (λ files. (i : ℕ) → is_among files.items i ≡ test i)) same
    c.files_with_path.ensures.ok

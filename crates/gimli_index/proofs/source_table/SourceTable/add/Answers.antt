use Rattle.std.proofs.Common.{◌≡◌, ◌≢◌, ◌<◌, ◌∙◌, ◌++◌, ◌∷◌, [], List, length, ap, sym, subst, arith}
use Rattle.std.specs.Prelude.{All, slice_get, slice_index_or}
use Rattle.std.proofs.lemmas.List.{length-map}
use Rattle.std.proofs.lemmas.Result.{err_from_is_err_and}
use Rattle.gimli_lookup.specs.Section.{KeptUnit, ListedUnit}
use Rattle.gimli_lookup.specs.ProgramPaths.{texts_seen}
use Rattle.gimli_index.specs.declared.source_keys.SourceKey.{SourceKey}
use Rattle.gimli_index.specs.inside.Paths.{made_path}
use Rattle.gimli_index.specs.inside.Table.{AreSources, Table, key_of}
use Rattle.gimli_index.proofs.Sources.{added_are, added_keeps, added_number, many_files, not_added}
use Rattle.gimli_index.proofs.source_table.SourceTable.add.Goals as goal

pub returns-then-number-ge-MOST-clause-err : goal.returns-then-number-ge-MOST-clause-err
returns-then-number-ge-MOST-clause-err g c =
    let t = texts_seen g.R.Reader.seen c.args.origin.now.paths.now in
    let units = c.args.origin.now.lookup.now in
    let limit = c.args.origin.now.limit in
    let f = c.args.rows in
    let inside : Table = record {
      keys = c.self.inside.keys;
      sources = c.self.inside.sources.items;
      paths = c.self.inside.paths;
    } in
    many_files t units inside f c.requires.found (subst (AreSources t units limit) (sym c.self.view_is) c.requires.are)
    (subst (λ (o : Table). All (λ k. k ≢ key_of f) o.keys) (sym c.self.view_is) c.requires.absent)
    (omega (arith, c.if-number-ge-MOST.true, c.len-number.ensures, c.self.inside.sources.ok.0))

pub offset_bounds-units-rows : goal.offset_bounds-units-rows
offset_bounds-units-rows g c =
    omega (
      arith,
      c.requires.unit,
      ap (λ (us : List ListedUnit). length us) c.units.ensures,
      length-map c.args.origin.now.lookup.now (λ (u : KeptUnit). u.unit),
    )

pub bounds-units-rows : goal.bounds-units-rows
bounds-units-rows g c =
    omega (
      arith,
      c.requires.unit,
      ap (λ (us : List ListedUnit). length us) c.units.ensures,
      length-map c.args.origin.now.lookup.now (λ (u : KeptUnit). u.unit),
    )

pub returns-in_err-source-clause-err : goal.returns-in_err-source-clause-err
returns-in_err-source-clause-err g c =
    let t = texts_seen g.R.Reader.seen c.args.origin.now.paths.now in
    let units = c.args.origin.now.lookup.now in
    let f = c.args.rows in
    let inside : Table = record {
      keys = c.self.inside.keys;
      sources = c.self.inside.sources.items;
      paths = c.self.inside.paths;
    } in
    let listed = c.index-units-rows.result in
    let listed_is =
    c.index-units-rows.is ∙ ap (λ (us : List ListedUnit). slice_index_or us f.unit listed) c.units.ensures in
    let fault =
    not_added t units c.args.self.now inside f listed c.source.new.self
    (record { unit = 0; first = 0; size = 0; reason = 0 }) (made_path c.in_ok-path.path)
    inside.keys inside.sources c.self.view_is c.requires.found c.requires.are c.requires.absent c.requires.unit
    listed_is c.in_ok-path.ensures.path in
    let p = err_from_is_err_and c.from_residual-in_err-source.result c.from_residual-in_err-source.ensures.1 in
    rw (p.1, p.2) (fault c.in_err-source.field-0.0 c.in_err-source.ensures.err)

pub add-requires : goal.add-requires
add-requires g c =
    let f = c.args.rows in
    let absent = subst (λ (o : Table). All (λ k. k ≢ key_of f) o.keys) (sym c.self.view_is) c.requires.absent in
    λ k d within same. absent k d within (same ∙ c.key_of-key.ensures)

pub returns-clause-are : goal.returns-clause-are
returns-clause-are g c =
    let t = texts_seen g.R.Reader.seen c.args.origin.now.paths.now in
    let units = c.args.origin.now.lookup.now in
    let f = c.args.rows in
    let inside : Table = record {
      keys = c.self.inside.keys;
      sources = c.self.inside.sources.items;
      paths = c.self.inside.paths;
    } in
    let listed = c.index-units-rows.result in
    let listed_is =
    c.index-units-rows.is ∙ ap (λ (us : List ListedUnit). slice_index_or us f.unit listed) c.units.ensures in
    let offset = c.in_ok-source.ensures.unit ∙ c.into_u64-offset.ensures ∙ c.offset.ensures in
    let few : length inside.sources
    < 0xffff_ffff = omega (arith, c.if-number-ge-MOST.false, c.len-number.ensures, c.self.inside.sources.ok.0) in
    added_are t units c.args.self.now inside f listed c.source.new.self c.in_ok-source.source
    (made_path c.in_ok-path.path) c.add.new.self c.push.new.self.items
    c.self.view_is c.requires.found c.requires.are c.requires.absent c.requires.unit listed_is c.in_ok-path.ensures.path
    offset c.in_ok-source.ensures.kept few
    (c.in_ok-add.ensures ∙ ap (λ (k : SourceKey). inside.keys ++ k ∷ []) c.key_of-key.ensures)
    c.in_ok-push.ensures.items

pub returns-clause-keeps : goal.returns-clause-keeps
returns-clause-keeps g c =
    let t = texts_seen g.R.Reader.seen c.args.origin.now.paths.now in
    let units = c.args.origin.now.lookup.now in
    let f = c.args.rows in
    let inside : Table = record {
      keys = c.self.inside.keys;
      sources = c.self.inside.sources.items;
      paths = c.self.inside.paths;
    } in
    let listed = c.index-units-rows.result in
    let listed_is =
    c.index-units-rows.is ∙ ap (λ (us : List ListedUnit). slice_index_or us f.unit listed) c.units.ensures in
    let offset = c.in_ok-source.ensures.unit ∙ c.into_u64-offset.ensures ∙ c.offset.ensures in
    let few : length inside.sources
    < 0xffff_ffff = omega (arith, c.if-number-ge-MOST.false, c.len-number.ensures, c.self.inside.sources.ok.0) in
    added_keeps t units c.args.self.now inside f listed c.source.new.self c.in_ok-source.source
    (made_path c.in_ok-path.path) c.add.new.self
    c.push.new.self.items
    c.self.view_is c.requires.found c.requires.are c.requires.absent c.requires.unit listed_is c.in_ok-path.ensures.path
    offset c.in_ok-source.ensures.kept few
    (c.in_ok-add.ensures ∙ ap (λ (k : SourceKey). inside.keys ++ k ∷ []) c.key_of-key.ensures)
    c.in_ok-push.ensures.items

pub returns-clause-number : goal.returns-clause-number
returns-clause-number g c =
    let t = texts_seen g.R.Reader.seen c.args.origin.now.paths.now in
    let units = c.args.origin.now.lookup.now in
    let f = c.args.rows in
    let inside : Table = record {
      keys = c.self.inside.keys;
      sources = c.self.inside.sources.items;
      paths = c.self.inside.paths;
    } in
    let listed = c.index-units-rows.result in
    let listed_is =
    c.index-units-rows.is ∙ ap (λ (us : List ListedUnit). slice_index_or us f.unit listed) c.units.ensures in
    let offset = c.in_ok-source.ensures.unit ∙ c.into_u64-offset.ensures ∙ c.offset.ensures in
    let few : length inside.sources
    < 0xffff_ffff = omega (arith, c.if-number-ge-MOST.false, c.len-number.ensures, c.self.inside.sources.ok.0) in
    let counted : c.len-number.result
    ≡ length inside.sources = omega (arith, c.len-number.ensures, c.self.inside.sources.ok.0) in
    ap (slice_get c.add.new.self) counted
    ∙ added_number t units c.args.self.now inside f listed c.source.new.self c.in_ok-source.source
    (made_path c.in_ok-path.path) c.add.new.self
    c.push.new.self.items
    c.self.view_is c.requires.found c.requires.are c.requires.absent c.requires.unit listed_is c.in_ok-path.ensures.path
    offset c.in_ok-source.ensures.kept few
    (c.in_ok-add.ensures ∙ ap (λ (k : SourceKey). inside.keys ++ k ∷ []) c.key_of-key.ensures)
    c.in_ok-push.ensures.items

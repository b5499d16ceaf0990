use Rattle.std.proofs.Common.{◌≡◌, ◌∙◌, ◌<◌, arith, length, nat_lt, refl, subst, sym, true}
use Rattle.std.proofs.lemmas.Option.{slice_get_within}
use Rattle.gimli_lookup.specs.ProgramPaths.{texts_seen}
use Rattle.gimli_index.specs.declared.contents.Statement.{Statement}
use Rattle.gimli_index.specs.inside.Begun.{AreInside}
use Rattle.gimli_index.specs.inside.Table.{key_of}
use Rattle.gimli_index.proofs.BegunSteps.{as_read, at_other, at_run, at_statement, goes_as, pushed_inside, some_line}
use Rattle.gimli_index.proofs.BegunSteps.{still_inside}
use Rattle.gimli_index.proofs.Sources.{path_known}
use Rattle.gimli_index.proofs.statements.take_row.Goals as goal

pub returns-then-goes_on-clause-said : goal.returns-then-goes_on-clause-said
returns-then-goes_on-clause-said g c =
    λ u there rest.
    let t = texts_seen g.R.Reader.seen c.args.origin.now.paths.now in
    let units = c.args.origin.now.lookup.now in
    let old = c.args.table.now in
    let new = c.source_of.new.self in
    let r = c.args.rows.now.row in
    let said = c.in_ok-source.ensures in
    let source = c.in_ok-source.source in
    let path = path_known t units new source (key_of c.args.rows.now) u r said.are said.number there refl in
    let goes =
    goes_as t units old new c.args.given source c.in_ok-line.line u.unit r c.goes_on.result c.requires.are said.keeps
    c.requires.given path c.in_ok-line.ensures.ok (c.goes_on.ensures t units c.args.origin.now.limit said.are) in
    at_run t units u.unit old new c.args.statements.now.items c.args.given r rest c.requires.are said.keeps
    c.requires.inside c.requires.given
    (sym c.end_sequence.ensures ∙ c.if-end_sequence.false)
    (subst (λ n. nat_lt 0 n ≡ true) c.in_ok-line.ensures.ok (some_line c.in_ok-line.line c.if-line-eq0.false))
    (goes ∙ c.if-goes_on.true)

pub returns-then-not-is_stmt-clause-inside : goal.returns-then-not-is_stmt-clause-inside
returns-then-not-is_stmt-clause-inside g c =
    still_inside c.args.table.now c.source_of.new.self c.args.statements.now.items c.in_ok-source.ensures.keeps
    c.requires.inside

pub returns-then-not-is_stmt-clause-said : goal.returns-then-not-is_stmt-clause-said
returns-then-not-is_stmt-clause-said g c =
    λ u there rest.
    let t = texts_seen g.R.Reader.seen c.args.origin.now.paths.now in
    let units = c.args.origin.now.lookup.now in
    let old = c.args.table.now in
    let new = c.source_of.new.self in
    let r = c.args.rows.now.row in
    let said = c.in_ok-source.ensures in
    let source = c.in_ok-source.source in
    let path = path_known t units new source (key_of c.args.rows.now) u r said.are said.number there refl in
    let goes =
    goes_as t units old new c.args.given source c.in_ok-line.line u.unit r c.goes_on.result c.requires.are said.keeps
    c.requires.given path c.in_ok-line.ensures.ok (c.goes_on.ensures t units c.args.origin.now.limit said.are) in
    at_other t units u.unit old new c.args.statements.now.items c.args.given r rest c.requires.are said.keeps
    c.requires.inside c.requires.given
    (sym c.end_sequence.ensures ∙ c.if-end_sequence.false)
    (subst (λ n. nat_lt 0 n ≡ true) c.in_ok-line.ensures.ok (some_line c.in_ok-line.line c.if-line-eq0.false))
    (goes ∙ c.if-goes_on.false)
    (sym c.is_stmt.ensures ∙ c.if-not-is_stmt.true)

pub returns-clause-given : goal.returns-clause-given
returns-clause-given g c =
    let said = c.in_ok-source.ensures in
    omega (
      arith,
      slice_get_within c.source_of.new.self.keys c.in_ok-source.source (key_of c.args.rows.now) said.number,
      said.are.count,
    )

pub returns-clause-inside : goal.returns-clause-inside
returns-clause-inside g c =
    let said = c.in_ok-source.ensures in
    let new = c.source_of.new.self in
    let s : Statement = record {
      source = c.in_ok-source.source;
      line = c.in_ok-line.line;
      address = c.address.result;
    } in
    let inside : s.source < length new.sources =
    omega (
      arith,
      slice_get_within new.keys c.in_ok-source.source (key_of c.args.rows.now) said.number,
      said.are.count,
    ) in
    subst (AreInside new) (sym c.in_ok-push.ensures.items)
    (pushed_inside new c.args.statements.now.items s
    (still_inside c.args.table.now new c.args.statements.now.items said.keeps c.requires.inside) inside)

pub returns-clause-said : goal.returns-clause-said
returns-clause-said g c =
    λ u there rest.
    let t = texts_seen g.R.Reader.seen c.args.origin.now.paths.now in
    let units = c.args.origin.now.lookup.now in
    let old = c.args.table.now in
    let new = c.source_of.new.self in
    let r = c.args.rows.now.row in
    let said = c.in_ok-source.ensures in
    let source = c.in_ok-source.source in
    let path = path_known t units new source (key_of c.args.rows.now) u r said.are said.number there refl in
    let goes =
    goes_as t units old new c.args.given source c.in_ok-line.line u.unit r c.goes_on.result c.requires.are said.keeps
    c.requires.given path c.in_ok-line.ensures.ok (c.goes_on.ensures t units c.args.origin.now.limit said.are) in
    as_read t u.unit old new c.args.statements.now.items c.push.new.self.items c.args.given r rest source
    c.in_ok-line.line c.address.result c.in_ok-line.ensures.ok c.address.ensures c.in_ok-push.ensures.items
    (at_statement t units u.unit old new c.args.statements.now.items c.args.given r rest c.requires.are said.keeps
    c.requires.inside c.requires.given
    (sym c.end_sequence.ensures ∙ c.if-end_sequence.false)
    (subst (λ n. nat_lt 0 n ≡ true) c.in_ok-line.ensures.ok (some_line c.in_ok-line.line c.if-line-eq0.false))
    (goes ∙ c.if-goes_on.false)
    (sym c.is_stmt.ensures ∙ c.if-not-is_stmt.false) source path)

use Rattle.std.proofs.Common.{◌≡◌, ◌∙◌, ap, sym, ◌++◌, length}
use Rattle.std.proofs.lemmas.Bool.{eqb-true}
use Rattle.std.proofs.lemmas.List.{nil_from_length}
use Rattle.gimli_lookup.specs.Statements.{addresses_of}
use Rattle.gimli_lookup.specs.inside.Statements.{is_among}
use Rattle.gimli_lookup.proofs.StatementRuns.{no_line, first_line, no_files}
use Rattle.gimli_lookup.proofs.statements.collect_from.Goals as goal

pub returns-in_default-clause-ok : goal.returns-in_default-clause-ok
returns-in_default-clause-ok c =
    no_line (is_among c.args.files.now) c.args.sequences.now c.args.asked c.in_default.ensures

pub returns-clause-ok : goal.returns-clause-ok
returns-clause-ok c =
    let is_file = is_among c.args.files.now in
    let sequences = c.args.sequences.now in
    let line = c.in-Some.line in (
      first_line is_file sequences c.args.asked line c.in-Some.ensures,
      c.in_ok-append_of.ensures.ok ∙ ap (λ xs. xs ++ addresses_of is_file sequences line) c.new-addresses.ensures.items,
    )

pub returns-then-is_empty-clause-ok : goal.returns-then-is_empty-clause-ok
returns-then-is_empty-clause-ok c =
    let files = c.args.files.now in
    let none : length files ≡ 0 = eqb-true (length files) 0 (sym c.is_empty.ensures ∙ c.if-is_empty.true) in
    no_files files c.args.sequences.now c.args.asked (nil_from_length files none)

use Rattle.std.specs.Prelude.{◌≤◌}
use Rattle.gimli_build.proofs
use proofs.Common
use Common.{sym, subst, option_map, slice_get, arith, length-map, line_text, IsNotEmpty, File, keys_of, IsProgram}
use proofs.building.TableLemmas.{file_found_at, file_keeps, file_others, some_within, file_added}
use proofs.built.line_program.LineProgram.add_file.Goals as goal

pub invariant_of-self-2 : goal.invariant_of-self-2
invariant_of-self-2 c =
    let not_empty = subst (λ p. p.encoding.version ≤ 4 → IsNotEmpty (line_text c.args.file)) (sym c.self.view_is)
    c.requires.not_empty in
    subst (λ t.
    IsProgram c.self.inside.none c.self.inside.encoding c.self.inside.line_encoding t.directories (keys_of t.files)
    c.self.inside.items)
    (sym c.in_ok-id.ensures.ok)
    (file_added _ _ _ c.self.invariant not_empty)

pub returns-clause-found : goal.returns-clause-found
returns-clause-found c = grind (arith, option_map, slice_get, file_found_at)

pub returns-clause-within : goal.returns-clause-within
returns-clause-within c =
    let short = some_within (keys_of c.add_file.new.self.files) c.in_ok-id.id _ (returns-clause-found c) in
    omega (arith, short, length-map c.add_file.new.self.files (λ (f : File). f.0))

pub returns-clause-keeps : goal.returns-clause-keeps
returns-clause-keeps c = grind (arith, file_keeps)

pub returns-clause-others : goal.returns-clause-others
returns-clause-others c = grind (arith, slice_get, file_others)

use Rattle.std.specs.Prelude.{◌≡◌, ◌≤◌}
use Rattle.gimli_build.proofs
use proofs.Common
use Common.{false, sym, subst, ap, ◌∙◌, slice_get, line_text, IsNotEmpty, keys_of, Keeps, with_directory, IsProgram}
use proofs.building.TableLemmas.{directory_found, directory_keeps, some_within, directory_added}
use proofs.built.line_program.LineProgram.add_directory.Goals as goal

pub invariant_of-self-2 : goal.invariant_of-self-2
invariant_of-self-2 c =
    let is = subst (λ p. p.is_none ≡ false) (sym c.self.view_is) c.requires.program in
    let not_empty = subst (λ p. p.encoding.version ≤ 4 → IsNotEmpty (line_text c.args.directory)) (sym c.self.view_is)
    c.requires.not_empty in
    subst (λ t.
    IsProgram c.self.inside.none c.self.inside.encoding c.self.inside.line_encoding t.directories (keys_of t.files)
    c.self.inside.items)
    (sym c.in_ok-id.ensures.ok)
    (directory_added _ _ c.self.invariant is not_empty)

pub returns-clause-found : goal.returns-clause-found
returns-clause-found c = ap (λ t. slice_get t.directories c.in_ok-id.id) c.in_ok-id.ensures.ok
    ∙ ap (slice_get (with_directory c.self.inside.tables.directories (line_text c.args.directory)))
    c.in_ok-id.ensures.id ∙ directory_found _ _

pub returns-clause-within : goal.returns-clause-within
returns-clause-within c = some_within _ _ _ (returns-clause-found c)

pub returns-clause-keeps : goal.returns-clause-keeps
returns-clause-keeps c =
    rw (← c.self.view_is) (subst (λ t. Keeps c.self.inside.tables.directories t.directories) (sym c.in_ok-id.ensures.ok)
    (directory_keeps _ _))

use Rattle.std.proofs.Common.{◌≡◌, true, false, sym, ◌∙◌, refl, eq-eqb}
use Rattle.std.proofs.lemmas.Bool.{ne_eqb}
use Rattle.std.proofs.lemmas.Result.{err_from_is_err_and}
use Rattle.gimli_compilation.specs.Abbreviation.{ends_search}
use Rattle.gimli_compilation.specs.inside.AbbreviationReading.{listed}
use Rattle.gimli_compilation.proofs.Declarations.{declaration_smaller, search_refused, search_last, search_more}
use Rattle.gimli_compilation.proofs.abbreviation.find_abbreviation.Goals as goal

pub returns-in_err-next_declaration-clause-read : goal.returns-in_err-next_declaration-clause-read
returns-in_err-next_declaration-clause-read g c =
    let p = err_from_is_err_and c.from_residual.result c.from_residual.ensures.1 in
    rw (p.1, p.2) (sym (search_refused _ _ _ _ c.in_err-next_declaration.ensures.read) ∙ c.loop-found.invariant)

pub returns-in-None-clause-read : goal.returns-in-None-clause-read
returns-in-None-clause-read g c =
    let found =
    rw c.in-None.is at c.in_ok-next_declaration.ensures in sym (search_last _ _ _ _ found.read refl)
    ∙ c.loop-found.invariant

pub returns-then-found-code-clause-read : goal.returns-then-found-code-clause-read
returns-then-found-code-clause-read g c =
    let found = rw c.in-Some.is at c.in_ok-next_declaration.ensures in
    let some = ne_eqb c.in-Some.found.0 0 found.declared.0 in
    let last : ends_search c.args.code (c.in-Some.found.0, listed (g.R.Reader.seen c.in-Some.found.1).bytes) ≡ true =
    rw some (eq-eqb _ _ c.if-found-code.true) in
    sym (rw some at (search_last _ _ _ _ found.read last)) ∙ c.loop-found.invariant

pub loop-found-smaller : goal.loop-found-smaller
loop-found-smaller g c =
    let found = rw c.in-Some.is at c.in_ok-next_declaration.ensures in declaration_smaller _ _ _ found.read

pub loop-found-preserved : goal.loop-found-preserved
loop-found-preserved g c =
    let found = rw c.in-Some.is at c.in_ok-next_declaration.ensures in
    let more : ends_search c.args.code (c.in-Some.found.0, listed (g.R.Reader.seen c.in-Some.found.1).bytes) ≡ false =
    rw (ne_eqb c.in-Some.found.0 0 found.declared.0) (ne_eqb _ _ c.if-found-code.false) in
    sym (search_more _ _ _ _ found.read more) ∙ c.loop-found.invariant

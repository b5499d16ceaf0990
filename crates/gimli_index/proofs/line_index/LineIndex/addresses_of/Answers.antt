use Rattle.std.proofs.Common.{◌≡◌, ◌∙◌, ap, sym, subst, arith}
use Rattle.gimli_lookup.specs.Components.{components}
use Rattle.gimli_index.specs.Lines.{addresses_of, AreAddressesFrom}
use Rattle.gimli_index.specs.Meaning.{statements_of}
use Rattle.gimli_index.specs.Order.{key_of, last_number}
use Rattle.gimli_index.specs.Views.{index_of}
use Rattle.gimli_index.proofs.LineStatements.{first_line_in, no_line_in}
use Rattle.gimli_index.proofs.Ordered.{addresses_are}
use Rattle.gimli_index.proofs.line_index.LineIndex.addresses_of.Goals as goal

pub returns-in_err-first : goal.returns-in_err-first
returns-in_err-first c =
    let index = index_of c.args.self.now in
    let path = c.args.path.now in
    λ ordered.
    subst (AreAddressesFrom (addresses_of path (statements_of index)) c.args.line) (sym c.from_residual.ensures)
    (no_line_in path (statements_of index) c.args.line (c.in_err-first.ensures.line ordered))

pub returns : goal.returns
returns c =
    let index = index_of c.args.self.now in
    let path = c.args.path.now in
    let line = c.in_ok-first.first.line in
    let key_is : c.key_of.result ≡ key_of (last_number (components path)) line =
    c.key_of.ensures.key ∙ ap (λ n. key_of n line) c.path_number-name.ensures.number in
    λ ordered. (
      first_line_in path (statements_of index) c.args.line line (c.in_ok-first.ensures.line ordered),
      addresses_are path index ordered line c.in_ok-first.first.number c.first_at.result c.first_at.ensures.within
          (c.in_ok-first.ensures.place ordered)
          (λ k le lt. omega (arith, c.first_at.ensures.after ordered k le lt, key_is)),
    )

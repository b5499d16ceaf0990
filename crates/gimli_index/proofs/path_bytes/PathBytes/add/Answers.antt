use Rattle.std.proofs.Common.{◌≡◌, ◌≢◌, ◌∙◌, ◌++◌, ◌∷◌, [], ℕ, List, length, sym, ap, subst, append_assoc, arith}
use Rattle.std.specs.Prelude.{All}
use Rattle.gimli_index.specs.inside.Paths.{ArePaths, PathList}
use Rattle.gimli_index.proofs.PathLists.{placed_last}
use Rattle.gimli_index.proofs.path_bytes.PathBytes.add.Goals as goal

pub returns-clause-placed : goal.returns-clause-placed
returns-clause-placed c =
    let old : PathList = record {
      bytes = c.self.inside.bytes.items;
      known = c.self.inside.paths;
      firsts = c.self.inside.firsts.items;
    } in
    let are : ArePaths c.args.limit old = subst (ArePaths c.args.limit) (sym c.self.view_is) c.requires.are in
    let absent : All (λ x. x ≢ c.args.path.now) old.known =
    subst (λ (p : PathList). All (λ x. x ≢ c.args.path.now) p.known) (sym c.self.view_is) c.requires.absent in
    let counted : c.len-first.result
    ≡ length old.bytes = omega (arith, c.len-first.ensures, c.self.inside.bytes.ok.0) in
    let grown : c.push.new.self.items ≡ old.bytes ++ (c.args.path.now ++ 0 ∷ []) =
    c.in_ok-push.ensures.items ∙ ap (λ (xs : List ℕ). xs ++ 0 ∷ []) c.in_ok-extend_from_slice.ensures.items
    ∙ append_assoc old.bytes c.args.path.now (0 ∷ []) in
    rw (← c.self.view_is)
    (placed_last old
    (record { bytes = c.push.new.self.items; known = c.add.new.self; firsts = c.push-2.new.self.items })
    c.args.path.now c.len-first.result are absent counted
    (omega (arith, are.few, are.within, counted, c.min.ensures, c.if-min-first.false))
    grown c.in_ok-add.ensures c.in_ok-push-2.ensures.items)

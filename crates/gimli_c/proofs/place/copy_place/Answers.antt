use Rattle.std.proofs.Common.{◌≡◌, ◌∙◌, List, ℕ, refl, sym, subst, inl, inr}
use Rattle.std.specs.Prelude.{Ok, Err}
use Rattle.gimli_lookup.specs.Program.{listed}
use Rattle.gimli_lookup.specs.ProgramPaths.{found_path, texts_seen}
use Rattle.gimli_c.specs.declared.status.TheConstants.{NO_ROOM, OK, OUT_OF_MEMORY}
use Rattle.gimli_c.proofs.Copied.{apart, copied, not_copied, not_copied_at}
use Rattle.gimli_c.proofs.place.copy_place.Goals as goal

pub returns-in_default-clause-place : goal.returns-in_default-clause-place
returns-in_default-clause-place g c =
    not_copied_at _ _ _ _ _ refl refl (inl (refl, rw c.in_default.is at c.place.ensures.rows))

pub returns-in-Ok-clause-place : goal.returns-in-Ok-clause-place
returns-in-Ok-clause-place g c =
    let rows = c.in-Some.place.rows in
    let own = c.in-Some.place.program.now in
    copied _ _ _ _ _ _ _ _
    (record {
      rows = rows;
      found = rw c.in-Some.is at c.place.ensures.rows;
      row_is = c.new.ensures;
      path_is =
          subst
          (λ p. found_path (texts_seen g.R.Reader.seen p.paths) (listed p.lookup) rows ≡ Ok c.as_slice.result.now)
          c.in-Some.ensures.program
          (subst
          (λ (xs : List ℕ). found_path (texts_seen g.R.Reader.seen own.paths) (listed own.lookup) rows ≡ Ok xs)
          (sym c.as_slice.ensures.value) c.in-Ok.ensures.ok);
    })
    c.put_bytes.ensures

pub returns-then-status-eq-OUT_OF_MEMORY-clause-place : goal.returns-then-status-eq-OUT_OF_MEMORY-clause-place
returns-then-status-eq-OUT_OF_MEMORY-clause-place g c =
    let is = c.if-status-eq-OUT_OF_MEMORY.true in
    not_copied _ _ _ _ _ (λ ok. apart OUT_OF_MEMORY OK refl (sym is ∙ ok))
    (λ room. apart OUT_OF_MEMORY NO_ROOM refl (sym is ∙ room)) (inr (inr is))

pub returns-else-status-eq-OUT_OF_MEMORY-clause-place : goal.returns-else-status-eq-OUT_OF_MEMORY-clause-place
returns-else-status-eq-OUT_OF_MEMORY-clause-place g c =
    let rows = c.in-Some.place.rows in
    let other = c.path_status-status.ensures.other in
    let why = c.path_status-status.ensures.number c.if-status-eq-OUT_OF_MEMORY.false in
    not_copied _ _ _ _ _ other.0 other.1
    (inr (inl (
      why.0,
      c.in-Err.e,
      record {
        rows = rows;
        found = rw c.in-Some.is at c.place.ensures.rows;
        row_is = c.new-in-Err.ensures;
        path_is =
            subst
            (λ p. found_path (texts_seen g.R.Reader.seen p.paths) (listed p.lookup) rows ≡ Err c.in-Err.e)
            c.in-Some.ensures.program (c.in-Err.ensures.err why.1);
      },
    )))

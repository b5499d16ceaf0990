use Rattle.std.specs.Prelude.{◌≡◌}
use Rattle.gimli_write.proofs
use proofs.Common.{refl, sym, subst, None, err_from_is_err_and, Conversion}
use proofs.Conversions.{held_last, held_stops}
use proofs.convert.conversion.Conversion.next_row.Goals as goal

pub returns-in_err-row_or_end-clause-leaves : goal.returns-in_err-row_or_end-clause-leaves
returns-in_err-row_or_end-clause-leaves g c =
    let a = c.self.inside in
    let p = err_from_is_err_and c.from_residual.result c.from_residual.ensures.1 in
    rw (← c.self.view_is) (rw p.1 (record {
      still = tt;
      ended = tt;
      stopped = λ other.
          held_stops a.sections a.source a.tables a.address a.address a.held None a.failed c.args.line_strings.now
          c.in-Some-held.row
          c.in-Some-held.is (subst (λ (s : Conversion). s.failed ≡ None) (sym c.self.view_is) c.requires)
          (c.in_err-row_or_end.ensures.lacks c.args.line_strings.now);
    }))

pub returns-in-Some-held-clause-leaves : goal.returns-in-Some-held-clause-leaves
returns-in-Some-held-clause-leaves g c =
    let a = c.self.inside in
    rw (← c.self.view_is) (record {
      still =
          held_last a.sections a.source a.tables a.address a.address a.held None a.failed c.args.line_strings.now
          c.in-Some-held.row c.in-Some-held.is refl (c.in_ok-row_or_end.ensures.found c.args.line_strings.now);
      ended = λ none. absurd cc;
      stopped = tt;
    })

use Rattle.std.proofs.Common.{◌≡◌, ◌+◌, length, sym, ap, subst, arith, rules}
use Rattle.std.specs.Prelude.{slice_range}
use Rattle.gimli_index.specs.Spans.{identity_begin}
use Rattle.gimli_index.specs.Views.{index_of}
use Rattle.gimli_c.proofs.index.header.gimli_line_index_open.Goals as goal

pub returns-in-Ok-clause-found : goal.returns-in-Ok-clause-found
returns-in-Ok-clause-found c =
    let bytes = c.args.stored.now in
    let i = index_of c.in-Ok.index in
    let stands = c.in-Ok.ensures.stands in
    let size : length c.identity.result.now ≡ length i.identity = ap length c.identity.ensures in
    λ ok. record {
      index = i;
      is = c.in-Ok.ensures.stored;
      ranges = c.len.ensures;
      address_size = search rules;
      inside = omega (arith, stands.inside, c.identity_offset.ensures, size);
      identity =
          subst (λ n. slice_range bytes n (n + length c.identity.result.now) ≡ i.identity)
          (sym c.identity_offset.ensures)
          (subst (λ m. slice_range bytes (identity_begin i) (identity_begin i + m) ≡ i.identity) (sym size)
          stands.identity);
    }

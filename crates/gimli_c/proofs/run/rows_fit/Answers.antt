use Rattle.std.proofs.Common.{List, ℕ, length, ap, ◌∙◌, true, arith}
use Rattle.gimli_c.proofs.Runs.{few_rows}
use Rattle.gimli_c.proofs.run.rows_fit.Goals as goal

pub returns : goal.returns
returns g c = λ events given.
    let program = c.args.program.now in
    let bytes = c.raw_program_buf.ensures.bytes ∙ ap (λ h. h.meaning.program) c.header.ensures in
    omega (
      arith,
      few_rows events,
      c.rows_are_bounded.ensures.files program.layout true program.meaning program.meaning.program events given,
      ap (λ (xs : List ℕ). length xs) bytes,
      c.len.ensures,
      c.into_u64-bytes.ensures,
    )

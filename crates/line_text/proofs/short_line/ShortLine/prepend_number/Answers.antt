use Rattle.std.proofs.Common.{length, drop, ap, arith}
use Rattle.std.specs.Fmt.{decimal}
use Rattle.std.proofs.lemmas.Fmt.{length-decimal-le}
use Rattle.std.proofs.lemmas.List.{length-append, length-drop}
use Rattle.line_text.proofs.short_line.ShortLine.prepend_number.Goals as goal

-- A number below 2^64 has twenty digits at most, and the line leaves room for as many.
pub write_digits-self-inside-requires : goal.write_digits-self-inside-requires
write_digits-self-inside-requires c =
    let digits = length-decimal-le 20 c.args.number (omega arith) (omega arith) c.ranges.number.fits in
    let line = ap length c.self.view_is in
    omega (arith, digits, line, length-drop c.self.inside.start c.self.inside.bytes)

pub returns-clause-short : goal.returns-clause-short
returns-clause-short c =
    let digits = length-decimal-le 20 c.args.number (omega arith) (omega arith) c.ranges.number.fits in
    let line = ap length c.self.view_is in
    let longer = ap length c.write_digits-self-inside.ensures.written in
    omega (
      arith,
      digits,
      line,
      longer,
      length-append (decimal c.args.number) (drop c.self.inside.start c.self.inside.bytes),
    )

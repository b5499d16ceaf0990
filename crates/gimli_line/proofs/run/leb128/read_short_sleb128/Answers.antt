use Rattle.std.specs.Prelude.{◌<◌}
use Rattle.std.proofs.Common.{rules}
use Rattle.gimli_core.proofs.Taken.{read_of}
use Rattle.gimli_line.proofs.ShortLeb.{one_signed, two_signed}
use Rattle.gimli_line.proofs.run.leb128.read_short_sleb128.Goals as goal

pub returns-then-first-lt128-clause-read : goal.returns-then-first-lt128-clause-read
returns-then-first-lt128-clause-read g c =
    one_signed _ c.in-Ok.first _ _ c.if-first-lt128.true c.signed_7.ensures (read_of c.in-Ok.ensures)

pub returns-clause-read : goal.returns-clause-read
returns-clause-read g c =
    let below : c.in-Ok.first < 256 = search rules in
    two_signed _ _ c.in-Ok.first c.in-Ok-read_u8.second _ _ _ c.if-first-lt128.false below c.if-second-ge128.false
    c.from.ensures c.signed_7-2.ensures
    (read_of c.in-Ok.ensures) (read_of c.in-Ok-read_u8.ensures)

use Rattle.std.specs.Prelude.{◌≡◌, ◌++◌, ◌-◌}
use Rattle.gimli_bytes.proofs.Common.{take, length, uleb_within}
use Rattle.gimli_bytes.proofs.leb128.Leb128.unsigned.Given as goal

abbrev pub invariant-loop-len : goal.invariant-loop-len
invariant-loop-len l = record {
  ten : length l.bytes ≡ 10;
  so : take l.len l.bytes ++ uleb_within (9 - l.len) l.rest ≡ uleb_within 9 l.val;
}

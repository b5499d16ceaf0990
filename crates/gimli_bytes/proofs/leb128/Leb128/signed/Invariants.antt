use Rattle.std.specs.Prelude.{◌≡◌, ◌++◌, ◌-◌}
use Rattle.gimli_bytes.proofs.Common.{take, length, sleb_within}
use Rattle.gimli_bytes.proofs.leb128.Leb128.signed.Given as goal

abbrev pub invariant-loop-len : goal.invariant-loop-len
invariant-loop-len l = record {
  ten : length l.bytes ≡ 10;
  so : take l.len l.bytes ++ sleb_within (9 - l.len) l.rest ≡ sleb_within 9 l.initial.rest;
}

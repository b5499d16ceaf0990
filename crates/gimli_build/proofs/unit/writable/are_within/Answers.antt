use Rattle.std.specs.Prelude.{◌<◌}
use Rattle.gimli_build.proofs
use proofs.Common.{length, map, arith, texts_in, IsWithin}
use proofs.writing.Joined.{next_seen, all_seen, all_passed}
use proofs.unit.writable.are_within.Goals as goal

pub returns-then-not-is_within : goal.returns-then-not-is_within
returns-then-not-is_within c =
    let texts = c.args.texts.now in
    let i = c.loop-text.text-index in
    let lt : i < length texts = omega arith in (
      λ no. absurd cc,
      λ all. c.if-not-is_within.ensures.1
          (all_seen (IsWithin (texts_in c.args.strings.now c.args.line_strings.now)) _ _ i _ lt c.text-item.is all),
    )

pub loop-text-preserved : goal.loop-text-preserved
loop-text-preserved c = grind (arith, all_passed, map, next_seen)

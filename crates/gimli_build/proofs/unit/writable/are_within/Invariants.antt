use Rattle.gimli_build.proofs
use proofs.Common.{drop, map, All, texts_in, line_text, IsWithin}
use proofs.unit.writable.are_within.Given as goal

abbrev pub invariant-loop-text : goal.invariant-loop-text
invariant-loop-text l = record {
  left : All (IsWithin (texts_in l.strings l.line_strings)) (drop l.text-index (map line_text l.texts))
      → All (IsWithin (texts_in l.strings l.line_strings)) (map line_text l.texts);
}

use Rattle.std.specs.Prelude.{◌≡◌, ◌-◌, ◌^◌}
use Rattle.gimli_build.proofs
use proofs.Common.{take, map, min, sum_by, line_text, text_size}
use proofs.tables.sizes.texts_size.Given as goal

abbrev pub invariant-loop-text : goal.invariant-loop-text
invariant-loop-text l =
    l.size ≡ min (sum_by (text_size l.format) (take l.text-index (map line_text l.texts))) (2 ^ 64 - 1)

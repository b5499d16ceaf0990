use Rattle.std.specs.Prelude.{◌≡◌, ◌<◌}
use Rattle.gimli_write.proofs.Common.{ℕ, IfSome}
use Rattle.gimli_write.specs.convert.SourceTables.{written_number}
use Rattle.gimli_write.proofs.convert.numbers.keeps_numbers.Given as goal

abbrev pub invariant-loop-number : goal.invariant-loop-number
invariant-loop-number l =
    (n : ℕ) → n < l.number → IfSome (written_number l.source_version l.version l.files n) (λ m. m ≡ n)

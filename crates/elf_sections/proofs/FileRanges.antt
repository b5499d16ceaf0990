-- Parts of a file that it doesn't hold.
use Rattle.std.proofs.Common.{◌≡◌, true, ap, ℕ, ◌+◌, ◌<◌, nat_lt, if◌then◌else◌, Some, None, arith}
use Rattle.std.proofs.lemmas.Bool.Decides.{nat_tests}
use Rattle.elf_sections.specs.FileRange.{range_in}

pub range_past : (offset size length : ℕ) → length < offset + size → range_in offset size length ≡ None
range_past offset size length h =
    let past : nat_lt length (offset + size) ≡ true = grind (arith, nat_tests) in
    ap (λ b. if b then None else Some (record { offset = offset; size = size })) past

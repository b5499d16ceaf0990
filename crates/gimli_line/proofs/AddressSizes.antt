-- A sum of addresses of 8 bytes.
use Rattle.std.specs.Prelude.{◌≡◌, ◌+◌, ◌%◌, ◌^◌, ◌<◌, ◌≤◌}
use Rattle.gimli_line.proofs.Common.{ℕ, Ok, arith, IsTrue, is_address_size, sized_sum}

-- there each sum that doesn't wrap fits
pub sum_fits : (address length size sum : ℕ) → IsTrue (is_address_size size) → 4 < size → length < 2 ^ 64
    → sum ≡ (address + length) % 2 ^ 64 → address ≤ sum
    → address < 2 ^ 64 → Ok sum ≡ sized_sum address length size
sum_fits address length size sum known large short is not_wrapped below = grind (arith)

use Rattle.std.specs.Prelude.{◌≡◌}
use Rattle.gimli_line.proofs.Common.{ℕ, List, Ok, IsTrue, arith, is_address_size, address_size, read_of}
use Rattle.gimli_line.proofs.header.parse.parse_address_size.Goals as goal

-- an address size that is read is one of the four
known : (bytes : List ℕ) (n : ℕ) (rest : List ℕ) → (Ok n, rest) ≡ address_size.read bytes → IsTrue (is_address_size n)
unfolding address_size
known bytes n rest e = grind arith

pub returns-clause-size : goal.returns-clause-size
returns-clause-size g c = known _ _ _ (read_of c.in_ok-address_size.ensures)

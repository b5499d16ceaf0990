-- Addresses and ids are equal by `==` exactly where all their parts agree.
use Rattle.std.specs.Prelude.{◌≡◌}
use Rattle.gimli_bytes.proofs.Common.{ap, true≢false, sym, Address, Constant, Symbol}
use Rattle.std.specs.Bool.{Decides}
use Rattle.std.proofs.lemmas.Bool.Decides.{Decides-eqb, Decides-int_eq, Decides-like, Decides-and}
use Rattle.gimli_bytes.specs.contracts.address.AddressPartialEq.TheImpl.{ghosts as addresses}

pub address-Decides : (a b : Address) → Decides (addresses.eq a b) (a ≡ b)
address-Decides (Constant m) (Constant n) = Decides-like _ (λ same. ap Constant same) (λ same. cc) (Decides-eqb m n)
address-Decides (Constant m) (Symbol s d) = (λ h. absurd (true≢false (sym h)), λ same. absurd cc)
address-Decides (Symbol s d) (Constant m) = (λ h. absurd (true≢false (sym h)), λ same. absurd cc)
address-Decides (Symbol s d) (Symbol t e) =
    Decides-like _ (λ same. (let first = same.0 in let second = same.1 in cc)) (λ same. (cc, cc))
    (Decides-and _ _ (Decides-eqb s t) (Decides-int_eq d e))

-- The numbers of a section: the order of their bytes, and the size of an address.
use Rattle.std.specs.Prelude.{ℕ}
use Rattle.line_text.specs.declared.order_and_size.AddressSize.{AddressSize}
use Rattle.line_text.specs.declared.order_and_size.AddressSize.TheVariants.{One, Two, Four}
use Rattle.line_text.specs.declared.order_and_size.AddressSize.TheVariants.{Eight}

-- the number of bytes of a size
abbrev pub size_number : AddressSize → ℕ
size_number One = 1
size_number Two = 2
size_number Four = 4
size_number Eight = 8

-- The encodings that a conversion may be handed.
use Rattle.std.specs.Prelude.{IsTrue, IfSome}
use Rattle.gimli_core.specs.Numbers.{is_address_size}
use Rattle.gimli_build.specs.Advance.{CanEncode}
use Rattle.vectors.specs.declared.conversion.Target.{Target}

-- a program may have them, where they are handed in
pub record IsTaken (target : Target) : Type 0 where
  pub address_size : IfSome target.encoding (λ e. IsTrue (is_address_size e.address_size))
  pub lines : IfSome target.line_encoding CanEncode

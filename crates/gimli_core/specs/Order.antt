-- The order of bytes that is known when a program runs.
use Rattle.std.specs.Prelude.{Bool, true, false}
use Rattle.gimli_core.specs.declared.endianity.RunTimeEndian.{RunTimeEndian}
use Rattle.gimli_core.specs.declared.endianity.RunTimeEndian.TheVariants.{Little, Big}

-- whether the most significant byte comes first
abbrev pub is_big_endian : RunTimeEndian → Bool
is_big_endian Little = false
is_big_endian Big = true

-- The addresses of a path, unit by unit.
use Rattle.std.proofs.Common.{◌≡◌, ℕ, ◌+◌, ◌<◌, List, [], ◌∷◌, ◌++◌, length, take, get_or, sym, ap, ◌∙◌, arith}
use Rattle.std.proofs.Math.Path.{fun_ext}
use Rattle.std.proofs.lemmas.List.{take_more, flat_map_more}
use Rattle.gimli_lookup.specs.ProgramPaths.{Texts}
use Rattle.gimli_lookup.specs.Section.{KeptUnit}
use Rattle.gimli_lookup.specs.SectionAddresses.{unit_addresses, addresses_of_path}

-- a list that has an index has an element
pub some_unit : (units : List KeptUnit) (i : ℕ) → i < length units → KeptUnit
some_unit [] i inside = absurd (omega arith)
some_unit (u ∷ units) i inside = u

-- those of one more unit
pub one_more_unit : (texts : Texts) (path : List ℕ) (units : List KeptUnit) (i : ℕ) (d : KeptUnit)
    → i < length units
    → (λ (line : ℕ).
    addresses_of_path texts path (take i units) line ++ unit_addresses texts path (get_or units i d) line)
    ≡ addresses_of_path texts path (take (i + 1) units)
one_more_unit texts path units i d inside =
    fun_ext (λ line.
    flat_map_more (λ (u : KeptUnit). unit_addresses texts path u line) [] (take i units) (get_or units i d)
    ∙ ap (λ us. addresses_of_path texts path us line) (sym (take_more units i d inside)))

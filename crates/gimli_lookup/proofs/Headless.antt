-- Units without their headers.
use Rattle.std.proofs.Common.{◌≡◌, ℕ, List, [], ◌∷◌, map, refl, ap}
use Rattle.gimli_line.specs.declared.run.row.LineRow.{LineRow}
use Rattle.gimli_lookup.specs.Section.{ListedUnit, KeptUnit, without_header, unit_without_header, with_sequences}
use Rattle.gimli_lookup.specs.Section.{AreAdjacent}

-- they have the indices that they had
pub headless_adjacent : (from : ℕ) (units : List ListedUnit) (end : ℕ) → AreAdjacent from units end
    → AreAdjacent from (map without_header units) end
headless_adjacent from [] end p = p
headless_adjacent from (u ∷ units) end p = (p.0, p.1, headless_adjacent u.end units end p.2)

-- and the sequences
pub headless_kept : (sequences : List (List LineRow)) (units : List ListedUnit)
    → map (with_sequences sequences) (map without_header units)
    ≡ map unit_without_header (map (with_sequences sequences) units)
headless_kept sequences [] = refl
headless_kept sequences (u ∷ units) =
    ap (λ (ks : List KeptUnit). with_sequences sequences (without_header u) ∷ ks) (headless_kept sequences units)

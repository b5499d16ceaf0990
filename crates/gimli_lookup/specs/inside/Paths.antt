-- Strings and paths by the sections of strings without the bytes after their last zero bytes, where
-- no string ends; and components of a path, listed from the last one on.
use Rattle.std.specs.Prelude.{◌≡◌, ◌≢◌, ℕ, List, ◌++◌, Option, zero, suc}
use Rattle.std.specs.List.{AllByRecursion}
use Rattle.gimli_line.specs.header.Header.{Header}
use Rattle.gimli_lookup.specs.Paths.{Paths}
use Rattle.gimli_lookup.specs.Strings.{Strings}
use Rattle.gimli_lookup.specs.Components.{up}

-- the bytes of a section that come after these have no zero byte
pub record IsEnded (whole ended : List ℕ) : Type 0 where
  pub rest : List ℕ
  pub parts : whole ≡ ended ++ rest
  pub no_zero : AllByRecursion (λ byte. byte ≢ 0) rest

-- that is so of both sections
pub record AreEnded (whole ended : Strings) : Type 0 where
  pub line : IsEnded whole.debug_line_str ended.debug_line_str
  pub str : IsEnded whole.debug_str ended.debug_str

-- what whole paths are made of, by these sections
abbrev pub paths_in : Strings → Header → Option (List ℕ) → Paths
paths_in strings h directory =
    record { sections = strings; header = h; comp_dir = directory }

-- so many times `..`
abbrev pub up_by : ℕ → List (List ℕ) → List (List ℕ)
up_by zero before = before
up_by (suc n) before = up_by n (up before)

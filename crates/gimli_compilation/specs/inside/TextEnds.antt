-- Where texts end.
use Rattle.std.specs.Prelude.{◌≡◌, ℕ, ◌+◌, List, drop, Some, nat_eq}
use Rattle.std.specs.List.{position_or_len}
use Rattle.std.specs.BTreeMap.{BTreeMap, get}
use Rattle.std.specs.Ordering.{nat_cmp}

-- how many bytes stand before the first zero byte; all where there is none
abbrev pub text_size : List ℕ → ℕ
text_size bytes = position_or_len (λ b. nat_eq b 0) bytes

-- ends of texts of a section, each with a place from which on no zero byte stands before it
abbrev pub AreEnds : List ℕ → BTreeMap ℕ ℕ → Type 0
AreEnds section ends =
    (end start : ℕ) → get nat_cmp ends end ≡ Some start
    → end ≡ start + text_size (drop start section)

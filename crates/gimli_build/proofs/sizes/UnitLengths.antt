-- How many bytes the two lengths of a unit count.
use Rattle.std.specs.Prelude.{◌≡◌, ◌+◌, ◌-◌, ◌^◌, if◌then◌else◌}
use Rattle.gimli_build.proofs
use proofs.Common
use Common.{ℕ, Bool, None, IsTrue, length, min, sym, ap, ◌∙◌, arith, nat_le, word_size}
use Common.{StringTables, Built, cause_of_item, item_cause, header_length, unit_length}
use Common.{initial_row, is_address_size, opcode_bytes, tables_size}
use Rattle.gimli_build.specs.Refused.{FindsFirst, program_seen, items_seen}
use Rattle.gimli_build.specs.declared.unit.refusal.Symbols.{Symbols}
use Rattle.gimli_build.specs.inside.ItemSizes.{items_size}
use proofs.refusals.FoundCauses.{found_first}
use proofs.sizes.ItemSizes.{items-size, seen-size}
use proofs.sizes.Saturated.{saturated, both_saturated}

-- ---- the lengths

pub header-counted : (p : Built) (texts : StringTables) (tables fixed new : ℕ)
    → tables ≡ min (tables_size p texts) (2 ^ 64 - 1)
    → fixed ≡ (if nat_le 4 p.encoding.version then 5 else 4) + length opcode_bytes
    → new ≡ min (tables + fixed) (2 ^ 64 - 1) → new ≡ min (header_length p texts) (2 ^ 64 - 1)
header-counted p texts tables fixed new a b is =
    let own = tables_size p texts in
    let front = (if nat_le 4 p.encoding.version then 5 else 4) + length opcode_bytes in
    is ∙ (λ i. min (a i + b i) (2 ^ 64 - 1)) ∙ saturated own front (2 ^ 64 - 1)
    ∙ ap (λ n. min n (2 ^ 64 - 1)) (turned own front)
  where
    turned : (m n : ℕ) → m + n ≡ n + m
    turned m n = omega arith

pub unit-counted : (symbols : Symbols) (is_big : Bool) (p : Built) (texts : StringTables)
    → IsTrue (is_address_size p.encoding.address_size) → FindsFirst (cause_of_item (program_seen symbols p)) None
    → (header size opening mid new : ℕ) → header ≡ min (header_length p texts) (2 ^ 64 - 1)
    → size
    ≡ min (items_size p.encoding p.line_encoding
    (initial_row p.encoding.version p.line_encoding.default_is_stmt) p.items) (2 ^ 64 - 1)
    → opening ≡ (if nat_le p.encoding.version 4 then 2 else 4) + word_size p.encoding.format
    → mid ≡ min (header + size) (2 ^ 64 - 1) → new ≡ min (mid + opening) (2 ^ 64 - 1)
    → new ≡ min (unit_length is_big (program_seen symbols p) texts) (2 ^ 64 - 1)
unit-counted symbols is_big p texts known none header size opening mid new a b o first last =
    let m : ℕ = 2 ^ 64 - 1 in
    let items = items_seen symbols p.items in
    let start = initial_row p.encoding.version p.line_encoding.default_is_stmt in
    let own = items_size p.encoding p.line_encoding start p.items in
    let lengths = header_length p texts in
    let front = (if nat_le p.encoding.version 4 then 2 else 4) + word_size p.encoding.format in
    let free = sym (found_first (item_cause p.encoding.address_size) items None none) in
    let written = items-size is_big p.encoding p.line_encoding known start items free
    ∙ seen-size symbols p.encoding p.line_encoding start p.items in
    last ∙ (λ i. min (first i + o i) m) ∙ (λ i. min (min (a i + b i) m + front) m)
    ∙ ap (λ n. min (n + front) m) (both_saturated lengths own m) ∙ saturated (lengths + own) front m
    ∙ ap (λ n. min n m) (turned lengths own front)
    ∙ ap (λ n. min (front + lengths + n) m) (sym written)
  where
    turned : (h s f : ℕ) → h + s + f ≡ f + h + s
    turned h s f = omega arith

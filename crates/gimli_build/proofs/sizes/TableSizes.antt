-- How many bytes tables have.
use Rattle.std.specs.Prelude.{◌≡◌, ◌+◌, ◌-◌, ◌^◌, ◌<◌, ◌∷◌, ◌++◌, if◌then◌else◌}
use Rattle.gimli_build.proofs
use proofs.Common
use Common.{ℕ, Bool, true, false, List, [], length, refl, arith, lit<, uleb_one, flat_map, when, length-append}
use Common.{formats_bytes, file_formats, first_form, path_texts, sources, Built, min, ap, sym, ◌∙◌}
use Rattle.gimli_bytes.specs.Number.{uleb}
use proofs.spellings.Version5TableSpellings.{formats_of, formats-same, first_form_small}
use proofs.sizes.Saturated.{saturated}

-- ---- formats

abbrev one_format : ℕ × ℕ → List ℕ
one_format f = uleb f.0 ++ uleb f.1

-- a source's content type takes two bytes
long_content : uleb 0x2001 ≡ 0x81 ∷ 0x40 ∷ []
unfolding uleb
long_content = refl

two_bytes : (content form : ℕ) → content < 128 → form < 128 → length (one_format (content, form)) ≡ 2
two_bytes content form small own = rw (uleb_one content small, uleb_one form own) refl

three_bytes : (form : ℕ) → form < 128 → length (one_format (0x2001, form)) ≡ 3
three_bytes form own = rw (long_content, uleb_one form own) refl

-- so many bytes where it is due
when_due : (due : Bool) (f : ℕ × ℕ) (formats : List (ℕ × ℕ)) (n : ℕ) → length (one_format f) ≡ n
    → length (flat_map one_format (when due f ++ formats))
    ≡ (if due then n else 0) + length (flat_map one_format formats)
when_due true f formats n is = grind (arith, length-append)
when_due false f formats n is = omega arith

last_due : (due : Bool) (f : ℕ × ℕ) (n : ℕ) → length (one_format f) ≡ n
    → length (flat_map one_format (when due f)) ≡ (if due then n else 0)
last_due true f n is = grind (arith, length-append)
last_due false f n is = omega arith

pub formats-size : (time size digest source : Bool) (path_form source_form : ℕ) → path_form < 128 → source_form < 128
    → length (formats_bytes (formats_of time size digest source path_form source_form))
    ≡ 5 + (if time then 2 else 0) + (if size then 2 else 0) + (if digest then 2 else 0) + (if source then 3 else 0)
formats-size time size digest source path_form source_form path_small source_small =
    let last = when source (0x2001, source_form) in
    let third = when digest (0x0005, 0x1e) ++ last in
    let second = when size (0x0004, 0x0f) ++ third in
    let rest = when time (0x0003, 0x0f) ++ second in
    let a = when_due time (0x0003, 0x0f) second 2 (two_bytes _ _ (lit< tt) (lit< tt)) in
    let b = when_due size (0x0004, 0x0f) third 2 (two_bytes _ _ (lit< tt) (lit< tt)) in
    let c = when_due digest (0x0005, 0x1e) last 2 (two_bytes _ _ (lit< tt) (lit< tt)) in
    let d = last_due source (0x2001, source_form) 3 (three_bytes source_form source_small) in
    let e = two_bytes 0x0001 path_form (lit< tt) path_small in
    let f = two_bytes 0x0002 0x0f (lit< tt) (lit< tt) in
    let g = length-append (one_format (0x0001, path_form)) (one_format (0x0002, 0x0f) ++ flat_map one_format rest) in
    let h = length-append (one_format (0x0002, 0x0f)) (flat_map one_format rest) in
    omega (arith, a, b, c, d, e, f, g, h)

-- those of directories
pub directory-formats-size : (form : ℕ) → form < 128 → length (formats_bytes ((0x0001, form) ∷ [])) ≡ 3
directory-formats-size form small =
    let one = two_bytes 0x0001 form (lit< tt) small in
    let whole = length-append (one_format (0x0001, form)) [] in
    omega (arith, one, whole)

-- those of files
pub file-formats-size : (p : Built) (time size digest source : ℕ)
    → time ≡ (if p.file_has_timestamp then 2 else 0)
    → size ≡ (if p.file_has_size then 2 else 0)
    → digest ≡ (if p.file_has_md5 then 2 else 0)
    → source ≡ (if p.file_has_source then 3 else 0)
    → 5 + time + size + digest + source ≡ length (formats_bytes (file_formats p))
file-formats-size p time size digest source a b c d =
    (λ i. 5 + a i + b i + c i + d i)
    ∙ sym (ap (λ l. length (formats_bytes l)) (formats-same p)
    ∙ formats-size p.file_has_timestamp p.file_has_size p.file_has_md5 p.file_has_source
    (first_form (path_texts p.files)) (first_form (sources p.files)) (first_form_small _) (first_form_small _))

-- entries after their formats and their number
pub table-sum : (formats number entries : ℕ)
    → min (min entries (2 ^ 64 - 1) + (formats + number)) (2 ^ 64 - 1) ≡ min (formats + number + entries) (2 ^ 64 - 1)
table-sum formats number entries =
    saturated entries (formats + number) (2 ^ 64 - 1) ∙ ap (λ n. min n (2 ^ 64 - 1)) (omega arith)

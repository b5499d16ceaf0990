-- The string at an offset of a section, by the grammar of texts.
use Rattle.std.proofs.Common.{◌≡◌, ◌≢◌, ℕ, ◌≤◌, ◌<◌, List, [], ◌∷◌, ◌++◌, length, drop, Ok, Err, refl, ap, ◌∙◌, subst}
use Rattle.std.proofs.Common.{arith}
use Rattle.std.proofs.lemmas.List.{length-append, length-drop}
use Rattle.std.specs.Prelude.{Result}
use Rattle.std.specs.List.{AllByRecursion}
use Rattle.std.specs.Result.{result_map_both}
use Rattle.gimli_core.specs.Production.{Reads, text}
use Rattle.gimli_core.specs.Reading.{Read, eof, text_at}
use Rattle.gimli_lookup.specs.Strings.{front_string, string_at, HasNoStringEnd, IsStringAt}
use Rattle.gimli_lookup.specs.declared.path_error.PathError.{PathError}
use Rattle.gimli_lookup.specs.declared.path_error.PathError.TheVariants.{StringOffsetOutOfBounds, UnterminatedString}

-- what is answered where a text was read
abbrev answer : Read (List ℕ) → Result (List ℕ) PathError
answer r = result_map_both (λ string. string) (λ e. UnterminatedString) r.0

-- a string at the front of bytes is spelled there
read_found : Reads text → (bytes string : List ℕ) (r : Read (List ℕ)) → text_at bytes ≡ r → answer r ≡ Ok string
    → (spelling : List ℕ) × (rest : List ℕ) × (bytes ≡ spelling ++ rest) × text.Spells spelling string
read_found reads bytes string (Ok x, rest) read is =
    let found = reads.found bytes x rest read in
    let same : x ≡ string = cc in
    (found.0, rest, found.1, subst (λ (s : List ℕ). text.Spells found.0 s) same found.2)
read_found reads bytes string (Err e, rest) read is = absurd cc

front_found : Reads text → (bytes string : List ℕ) → front_string bytes ≡ Ok string
    → (spelling : List ℕ) × (rest : List ℕ) × (bytes ≡ spelling ++ rest) × text.Spells spelling string
front_found reads [] string is = absurd cc
front_found reads (byte ∷ bytes) string is = read_found reads (byte ∷ bytes) string (text_at (byte ∷ bytes)) refl is

pub string_found : Reads text → (section : List ℕ) (offset : ℕ) (string : List ℕ)
    → string_at section offset ≡ Ok string
    → IsStringAt section offset string
string_found reads section offset string is =
    let found = front_found reads (drop offset section) string is in
    record { spelling = found.0; rest = found.1; parts = found.2; spelled = found.3 }

front_only : Reads text → (spelling rest string : List ℕ) → text.Spells spelling string
    → front_string (spelling ++ rest) ≡ Ok string
front_only reads [] rest string spelled =
    absurd (omega (arith, ap (λ (xs : List ℕ). length xs) spelled.1, length-append string (0 ∷ [])))
front_only reads (byte ∷ bytes) rest string spelled = ap answer (reads.only (byte ∷ bytes) string rest spelled)

pub string_only : Reads text → (section : List ℕ) (offset : ℕ) (string : List ℕ)
    → IsStringAt section offset string
    → string_at section offset ≡ Ok string
string_only reads section offset string at =
    ap front_string at.parts ∙ front_only reads at.spelling at.rest string at.spelled

-- ---- refusals

answer_within : (r : Read (List ℕ)) → answer r ≡ Err StringOffsetOutOfBounds → ⊥
answer_within (Ok x, rest) is = cc
answer_within (Err e, rest) is = cc

front_out : (bytes : List ℕ) → front_string bytes ≡ Err StringOffsetOutOfBounds → length bytes ≡ 0
front_out [] is = refl
front_out (byte ∷ bytes) is = absurd (answer_within (text_at (byte ∷ bytes)) is)

front_empty : (bytes : List ℕ) → length bytes ≡ 0 → front_string bytes ≡ Err StringOffsetOutOfBounds
front_empty [] is = refl
front_empty (byte ∷ bytes) is = absurd (omega (arith, is))

pub out_of_bounds : (section : List ℕ) (offset : ℕ) → string_at section offset ≡ Err StringOffsetOutOfBounds
    → length section ≤ offset
out_of_bounds section offset is = omega (arith, length-drop offset section, front_out (drop offset section) is)

pub no_byte_there : (section : List ℕ) (offset : ℕ) → length section ≤ offset
    → string_at section offset ≡ Err StringOffsetOutOfBounds
no_byte_there section offset le = front_empty (drop offset section) (omega (arith, length-drop offset section, le))

read_open : Reads text → (bytes : List ℕ) (r : Read (List ℕ)) → text_at bytes ≡ r
    → answer r ≡ Err UnterminatedString
    → AllByRecursion (λ byte. byte ≢ 0) bytes
read_open reads bytes (Ok x, rest) read is = absurd cc
read_open reads bytes (Err e, rest) read is = (reads.fault bytes e (ap (λ (r : Read (List ℕ)). r.0) read)).0

front_open : Reads text → (bytes : List ℕ) → front_string bytes ≡ Err UnterminatedString
    → (0 < length bytes) × AllByRecursion (λ byte. byte ≢ 0) bytes
front_open reads [] is = absurd cc
front_open reads (byte ∷ bytes) is = (omega arith, read_open reads (byte ∷ bytes) (text_at (byte ∷ bytes)) refl is)

front_endless : Reads text → (bytes : List ℕ) → 0 < length bytes → AllByRecursion (λ byte. byte ≢ 0) bytes
    → front_string bytes ≡ Err UnterminatedString
front_endless reads [] some all = absurd (omega (arith, some))
front_endless reads (byte ∷ bytes) some all =
    ap (result_map_both (λ string. string) (λ e. UnterminatedString))
    (reads.refused (byte ∷ bytes) (eof (byte ∷ bytes)) (all, refl))

pub unterminated : Reads text → (section : List ℕ) (offset : ℕ)
    → string_at section offset ≡ Err UnterminatedString → HasNoStringEnd section offset
unterminated reads section offset is =
    let endless = front_open reads (drop offset section) is in
    record { within = omega (arith, length-drop offset section, endless.0); no_zero = endless.1 }

pub no_end_there : Reads text → (section : List ℕ) (offset : ℕ) → HasNoStringEnd section offset
    → string_at section offset ≡ Err UnterminatedString
no_end_there reads section offset has =
    front_endless reads (drop offset section) (omega (arith, length-drop offset section, has.within)) has.no_zero

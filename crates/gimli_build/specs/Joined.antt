-- Bytes that are written one part after the other, where each part may be refused: the first
-- refusal counts.
use Rattle.std.specs.Prelude.{if◌then◌else◌, ◌∷◌, ◌++◌}
use Rattle.gimli_build.specs.Prelude
use Prelude.{ℕ, Bool, List, [], length, Result, Ok, Err, Error, word_size, Format, section_word}

-- one after the other, or the first refusal
abbrev pub result_append : Result (List ℕ) Error → Result (List ℕ) Error → Result (List ℕ) Error
result_append (Ok first) (Ok rest) = Ok (first ++ rest)
result_append (Ok first) (Err e) = Err e
result_append (Err e) rest = Err e

-- the parts of a list
abbrev pub result_concat : {A : Type 0} → (A → Result (List ℕ) Error) → List A
    → Result (List ℕ) Error
result_concat part [] = Ok []
result_concat part (x ∷ xs) = result_append (part x) (result_concat part xs)

-- bytes after their length; the length is refused last, since it is known last
abbrev pub after_length : (ℕ → Result (List ℕ) Error) → Result (List ℕ) Error
    → Result (List ℕ) Error
after_length length_of (Ok bytes) = result_append (length_of (length bytes)) (Ok bytes)
after_length length_of (Err e) = Err e

-- an element where it is due, and else none
abbrev pub when : {A : Type 0} → Bool → A → List A
when due x = if due then x ∷ [] else []

-- the word of a length or an offset (DWARF 5, section 7.4): four bytes in the 32-bit format; eight
-- in the 64-bit format, which hold the length of any section
abbrev pub format_word : Bool → Format → ℕ → Result (List ℕ) Error
format_word is_big format n = section_word is_big n (word_size format)

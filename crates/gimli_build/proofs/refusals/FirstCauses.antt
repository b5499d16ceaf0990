-- The first part of a program that is refused.
use Rattle.std.specs.Prelude.{◌≡◌, ◌<◌, ◌&&◌}
use Rattle.gimli_build.proofs.Common
use Common.{ℕ, List, Some, map, length, get_or, arith, All, slice_get, option_map, false, nat_eq}
use Common.{nat_le, StringTables, LineText, Built, first_form, text_cause, cause_of_directory, wanted_form, length-map}
use Common.{slice_get-map, slice_get_read, slice_get_within, get_or_from_slice_get}

-- why a directory is refused, where it is there and isn't the handed one
pub directory_there : (p : Built) (texts : StringTables) (i : ℕ) (t : LineText) → slice_get p.directories i ≡ Some t
    → (nat_le p.encoding.version 4 && nat_eq i 0) ≡ false
    → cause_of_directory p texts i
    ≡ text_cause p.encoding.format texts (wanted_form p.encoding.version (first_form p.directories), t)
directory_there _ _ _ _ there not_handed = grind arith

-- an element of a list that is another list, seen
pub mapped_at : {A B : Type 0} (f : A → B) (xs : List A) (ys : List B) (i : ℕ) (x : A) → map f xs ≡ ys → i < length ys
    → x ≡ get_or xs i x → slice_get ys i ≡ Some (f x)
mapped_at {B = B} f xs ys i x same lt is =
    grind (arith, length-map, slice_get, slice_get-map, option_map, slice_get_read)

-- what is true of all elements is true of this one
pub all_at : {B : Type 0} (P : B → Type 0) (ys : List B) (i : ℕ) (y : B) → All P ys → slice_get ys i ≡ Some y → P y
all_at P ys i y all is = grind (arith, get_or_from_slice_get, slice_get_within)

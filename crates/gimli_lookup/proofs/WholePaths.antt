-- What can be said of whole paths.
use Rattle.std.proofs.Common.{◌≡◌, ℕ, Bool, true, false, ◌&&◌, ◌||◌, if◌then◌else◌, nat_eq, List, [], ◌∷◌, ◌++◌, length}
use Rattle.std.proofs.Common.{Ok, Err, refl, sym, ap, ◌∙◌, append_assoc, arith}
use Rattle.std.proofs.lemmas.Bool.{ne_eqb}
use Rattle.std.specs.Prelude.{Result, Option, unwrap_or}
use Rattle.std.specs.Char.{is_ascii_alphabetic}
use Rattle.gimli_core.specs.Reading.{result_map}
use Rattle.gimli_line.specs.header.File.{File}
use Rattle.gimli_lookup.specs.Strings.{Strings, has_no_bytes, string_of}
use Rattle.gimli_lookup.specs.Paths.{Paths, is_separator, is_absolute, separator_after, path_in, path_from, ◌>>=◌}
use Rattle.gimli_lookup.specs.Paths.{directory_string, written_or, compilation_directory, directory_path, file_path}
use Rattle.gimli_lookup.specs.Paths.{needs_directory, with_directory, EndsWithOwnPath, HasAbsoluteRoot}
use Rattle.gimli_lookup.specs.declared.path_error.PathError.{PathError}

-- ---- absolute paths

-- one byte alone, or two, begin with no drive
one_byte : (x : Bool) → (x || false) ≡ true → x ≡ true
one_byte true is = refl
one_byte false is = is

two_bytes : (x y z : Bool) → (x || ((y && z) && false)) ≡ true → x ≡ true
two_bytes true y z is = refl
two_bytes false true true is = is
two_bytes false true false is = is
two_bytes false false z is = is

either : (x y : Bool) → x ≡ true → (x || y) ≡ true
either true y is = refl
either false y is = absurd cc

-- what goes on from an absolute path is absolute
absolute_more : (path more : List ℕ) → is_absolute path ≡ true → is_absolute (path ++ more) ≡ true
absolute_more [] more is = absurd cc
absolute_more (a ∷ []) more is = either (is_separator a) _ (one_byte (is_separator a) is)
absolute_more (a ∷ b ∷ []) more is =
    either (is_separator a) _ (two_bytes (is_separator a) (is_ascii_alphabetic a) (nat_eq b 0x3a) is)
absolute_more (a ∷ b ∷ c ∷ path) more is = is

-- an answer, if there is one, is absolute
abbrev IsAbsolute : Result (List ℕ) PathError → Type 0
IsAbsolute r = (path : List ℕ) → r ≡ Ok path → is_absolute path ≡ true

-- so is a path from a directory, if the directory is
absolute_from : (directory : Result (List ℕ) PathError) (own : List ℕ) → IsAbsolute directory
    → IsAbsolute (path_from directory own)
absolute_from directory own absolute = at_test (is_absolute own) refl directory absolute
  where
    at_test : (b : Bool) → is_absolute own ≡ b → (d : Result (List ℕ) PathError) → IsAbsolute d
        → IsAbsolute (if b then Ok own else result_map (λ base. path_in base own) d)
    at_test true test d all path is = let same : own ≡ path = cc in ap is_absolute (sym same) ∙ test
    at_test false test (Ok base) all path is =
        let same : path_in base own ≡ path = cc in
        ap is_absolute (sym same ∙ append_assoc base (separator_after base) own)
        ∙ absolute_more base (separator_after base ++ own) (all base refl)
    at_test false test (Err e) all path is = absurd cc

absolute_next : (r : Result (List ℕ) PathError) (directory : Result (List ℕ) PathError) → IsAbsolute directory
    → IsAbsolute (r >>= path_from directory)
absolute_next (Ok own) directory absolute path is = absolute_from directory own absolute path is
absolute_next (Err e) directory absolute path is = absurd cc

absolute_directory : (p : Paths) (i : ℕ) → IsAbsolute (compilation_directory p) → IsAbsolute (directory_path p i)
absolute_directory p i absolute = at_test (nat_eq i 0)
  where
    at_test : (b : Bool)
        → IsAbsolute
        (if b then compilation_directory p else directory_string p i >>= path_from (compilation_directory p))
    at_test true = absolute
    at_test false = absolute_next (directory_string p i) (compilation_directory p) absolute

root_absolute : (r : Result (List ℕ) PathError) (root : List ℕ) → r ≡ Ok root → is_absolute root ≡ true → IsAbsolute r
root_absolute r root is absolute path also = let same : root ≡ path = cc in ap is_absolute (sym same) ∙ absolute

pub absolute_path : (p : Paths) (f : File) (path : List ℕ) → HasAbsoluteRoot p → file_path p f ≡ Ok path
    → is_absolute path ≡ true
absolute_path p f path root is =
    absolute_next (string_of p.sections f.path_name) (directory_path p f.directory_index)
    (absolute_directory p f.directory_index (root_absolute (compilation_directory p) root.0 root.1 root.2)) path is

-- an absolute directory has bytes
written : (comp_dir : Option (List ℕ)) (own : List ℕ) → is_absolute own ≡ true → written_or comp_dir own ≡ own
written comp_dir [] absolute = absurd cc
written comp_dir (a ∷ own) absolute =
    ap (λ b. if b then unwrap_or comp_dir [] else a ∷ own) (ne_eqb (length (a ∷ own)) 0 (λ same. omega (arith, same)))

-- so an absolute directory 0 is that of the compilation
absolute_zero : (zero : Result (List ℕ) PathError) (own : List ℕ) (comp_dir : Option (List ℕ)) → zero ≡ Ok own
    → is_absolute own ≡ true → result_map (written_or comp_dir) zero ≡ Ok own
absolute_zero zero own comp_dir is absolute =
    ap (result_map (written_or comp_dir)) is ∙ ap (λ d. Ok d) (written comp_dir own absolute)

pub absolute_root : (p : Paths) (zero : List ℕ) → directory_string p 0 ≡ Ok zero → is_absolute zero ≡ true
    → HasAbsoluteRoot p
absolute_root p zero is absolute = (zero, absolute_zero (directory_string p 0) zero p.comp_dir is absolute, absolute)

-- ---- the caller's directory

own_zero : (zero : Result (List ℕ) PathError) (comp_dir other : Option (List ℕ)) → has_no_bytes zero ≡ false
    → result_map (written_or other) zero ≡ result_map (written_or comp_dir) zero
own_zero (Ok own) comp_dir other has = ap (λ d. Ok d) (at_test (nat_eq (length own) 0) has)
  where
    at_test : (b : Bool) → b ≡ false
        → (if b then unwrap_or other [] else own) ≡ (if b then unwrap_or comp_dir [] else own)
    at_test true has = absurd cc
    at_test false has = refl
own_zero (Err e) comp_dir other has = refl

pub same_anyway : (p : Paths) (f : File) (other : Option (List ℕ)) → needs_directory p ≡ false
    → file_path (with_directory other p) f ≡ file_path p f
same_anyway p f other has =
    ap
    (λ (base : Result (List ℕ) PathError).
    string_of p.sections f.path_name
    >>= path_from
    (if nat_eq f.directory_index 0 then base else directory_string p f.directory_index >>= path_from base))
    (own_zero (directory_string p 0) p.comp_dir other has)

callers_zero : (zero : Result (List ℕ) PathError) (comp_dir : Option (List ℕ)) → has_no_bytes zero ≡ true
    → result_map (written_or comp_dir) zero ≡ Ok (unwrap_or comp_dir [])
callers_zero (Ok own) comp_dir has = ap (λ d. Ok d) (at_test (nat_eq (length own) 0) has)
  where
    at_test : (b : Bool) → b ≡ true → (if b then unwrap_or comp_dir [] else own) ≡ unwrap_or comp_dir []
    at_test true has = refl
    at_test false has = absurd cc
callers_zero (Err e) comp_dir has = absurd cc

pub callers_counts : (p : Paths) → needs_directory p ≡ true
    → compilation_directory p ≡ Ok (unwrap_or p.comp_dir [])
callers_counts p has = callers_zero (directory_string p 0) p.comp_dir has

-- ---- the end of a path

own_last : (directory : Result (List ℕ) PathError) (own path : List ℕ) → path_from directory own ≡ Ok path
    → (front : List ℕ) × (path ≡ front ++ own)
own_last directory own path is = at_test (is_absolute own) directory is
  where
    at_test : (b : Bool) (d : Result (List ℕ) PathError)
        → (if b then Ok own else result_map (λ base. path_in base own) d) ≡ Ok path
        → (front : List ℕ) × (path ≡ front ++ own)
    at_test true d is = ([], cc)
    at_test false (Ok base) is = (base ++ separator_after base, cc)
    at_test false (Err e) is = absurd cc

ends_with : (sections : Strings) (f : File) (r : Result (List ℕ) PathError) (directory : Result (List ℕ) PathError)
    (path : List ℕ)
    → string_of sections f.path_name ≡ r → (r >>= path_from directory) ≡ Ok path → EndsWithOwnPath sections f path
ends_with sections f (Ok own) directory path read is =
    let last = own_last directory own path is in
    record { own = own; front = last.0; is_own = read; parts = last.1 }
ends_with sections f (Err e) directory path read is = absurd cc

pub own_at_end : (p : Paths) (f : File) (path : List ℕ) → file_path p f ≡ Ok path → EndsWithOwnPath p.sections f path
own_at_end p f path is =
    ends_with p.sections f (string_of p.sections f.path_name) (directory_path p f.directory_index) path refl is

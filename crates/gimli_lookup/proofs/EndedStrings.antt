-- Strings and paths by sections without the bytes that come after their last zero bytes.
use Rattle.std.proofs.Common.{◌≡◌, ◌≢◌, ℕ, zero, suc, ◌≤◌, ◌<◌, Bool, true, false, List, [], ◌∷◌, ◌++◌, length, drop}
use Rattle.std.proofs.Common.{Option, Some, None, Result, Ok, Err, refl, sym, ap, ◌∙◌, subst, ◌⊎◌, inl, inr, arith}
use Rattle.std.proofs.Common.{if◌then◌else◌, nat_eq, nat_lt, take}
use Rattle.std.proofs.lemmas.List.{append_assoc, append-nil, take-append-drop}
use Rattle.std.specs.List.{AllByRecursion}
use Rattle.std.specs.Option.{option_map_or}
use Rattle.std.specs.Prelude.{is_err}
use Rattle.std.specs.Result.{result_map_both}
use Rattle.gimli_core.specs.Reading.{Read, eof, offset_of, result_map, text_at, truncate_at}
use Rattle.gimli_core.specs.Values.{Value}
use Rattle.gimli_core.specs.declared.error.Error.{Error}
use Rattle.gimli_core.specs.declared.error.Error.TheVariants.{UnsupportedOffset}
use Rattle.gimli_core.specs.declared.attribute_value.AttributeValue.TheVariants.{Block, Data1, Data2, Data4, Data8}
use Rattle.gimli_core.specs.declared.attribute_value.AttributeValue.TheVariants.{Udata}
use Rattle.gimli_core.specs.declared.attribute_value.AttributeValue.TheVariants.{Sdata, Flag, SecOffset, String}
use Rattle.gimli_core.specs.declared.attribute_value.AttributeValue.TheVariants.{DebugStrRef}
use Rattle.gimli_core.specs.declared.attribute_value.AttributeValue.TheVariants.{DebugStrRefSup, DebugLineStrRef}
use Rattle.gimli_core.specs.declared.attribute_value.AttributeValue.TheVariants.{DebugStrOffsetsIndex}
use Rattle.gimli_line.specs.header.File.{File}
use Rattle.gimli_line.specs.header.Header.{Header, directory_of}
use Rattle.gimli_lookup.specs.Paths.{Paths, compilation_directory, directory_path, directory_string, file_path}
use Rattle.gimli_lookup.specs.Paths.{path_from}
use Rattle.gimli_lookup.specs.Paths.{path_in, unwritten_directory, written_or, is_absolute, ◌>>=◌}
use Rattle.gimli_lookup.specs.Strings.{Strings, front_string, string_at, string_of, HasNoStringEnd, IsStringAt}
use Rattle.gimli_lookup.specs.declared.path_error.PathError.{PathError}
use Rattle.gimli_lookup.specs.declared.path_error.PathError.TheVariants.{StringOffsetOutOfBounds, UnterminatedString}
use Rattle.gimli_lookup.specs.inside.Paths.{paths_in, AreEnded, IsEnded}
use Rattle.gimli_core.specs.Layout.{Seen}

-- ---- strings of a section

abbrev HaveNoZero : List ℕ → Type 0
HaveNoZero bytes = AllByRecursion (λ byte. byte ≢ 0) bytes

none_dropped : (n : ℕ) (xs : List ℕ) → HaveNoZero xs → HaveNoZero (drop n xs)
none_dropped zero xs all = all
none_dropped (suc n) [] all = all
none_dropped (suc n) (x ∷ xs) all = none_dropped n xs all.1

none_joined : (xs ys : List ℕ) → HaveNoZero xs → HaveNoZero ys → HaveNoZero (xs ++ ys)
none_joined [] ys first second = second
none_joined (x ∷ xs) ys first second = (first.0, none_joined xs ys first.1 second)

none_in_nothing : (xs : List ℕ) → length xs ≡ 0 → HaveNoZero xs
none_in_nothing [] is = tt
none_in_nothing (x ∷ xs) is = absurd (omega (arith, is))

-- what an offset leaves of two lists, one after the other
left_of_both : (n : ℕ) (xs ys : List ℕ)
    → (more : List ℕ) × (drop n (xs ++ ys) ≡ drop n xs ++ more) × (HaveNoZero ys → HaveNoZero more)
left_of_both zero xs ys = (ys, refl, λ all. all)
left_of_both (suc n) [] ys = (drop (suc n) ys, refl, none_dropped (suc n) ys)
left_of_both (suc n) (x ∷ xs) ys = left_of_both n xs ys

-- what is known of strings: a string that is found is spelled, and one that is spelled is found
abbrev AreFound : Type 0
AreFound =
    (section : List ℕ) (offset : ℕ) (string : List ℕ) → string_at section offset ≡ Ok string
    → IsStringAt section offset string

abbrev AreOnly : Type 0
AreOnly =
    (section : List ℕ) (offset : ℕ) (string : List ℕ) → IsStringAt section offset string
    → string_at section offset ≡ Ok string

pub found_whole : AreFound → AreOnly → (whole ended : List ℕ) (offset : ℕ) (string : List ℕ) → IsEnded whole ended
    → string_at ended offset ≡ Ok string → string_at whole offset ≡ Ok string
found_whole found only whole ended offset string has is =
    let at = found ended offset string is in
    let left = left_of_both offset ended has.rest in
    only whole offset string (record {
      spelling = at.spelling;
      rest = at.rest ++ left.0;
      parts =
          ap (drop offset) has.parts ∙ left.1 ∙ ap (λ (xs : List ℕ). xs ++ left.0) at.parts
          ∙ append_assoc at.spelling at.rest left.0;
      spelled = at.spelled;
    })

answer_kind : (r : Result (List ℕ) PathError) → (read : Read (List ℕ)) → (e : PathError)
    → result_map_both (λ (string : List ℕ). string) (λ e. UnterminatedString) read.0 ≡ Err e → e ≡ UnterminatedString
answer_kind r (Ok x, rest) e is = absurd cc
answer_kind r (Err x, rest) e is = cc

front_kind : (bytes : List ℕ) (e : PathError) → front_string bytes ≡ Err e
    → (length bytes ≡ 0) ⊎ (e ≡ UnterminatedString)
front_kind [] e is = inl refl
front_kind (byte ∷ bytes) e is = inr (answer_kind (Err e) (text_at (byte ∷ bytes)) e is)

-- where no string is told there is none that ends
none_by : ((section : List ℕ) (offset : ℕ) → string_at section offset ≡ Err UnterminatedString
    → HasNoStringEnd section offset)
    → (ended : List ℕ) (offset : ℕ) (e : PathError) → string_at ended offset ≡ Err e
    → ((length (drop offset ended) ≡ 0) ⊎ (e ≡ UnterminatedString)) → HaveNoZero (drop offset ended)
none_by opened ended offset e is (inl empty) = none_in_nothing (drop offset ended) empty
none_by opened ended offset e is (inr kind) = (opened ended offset (is ∙ ap (λ x. Err x) kind)).no_zero

pub unended_whole : ((section : List ℕ) (offset : ℕ) → string_at section offset ≡ Err UnterminatedString
    → HasNoStringEnd section offset)
    → ((section : List ℕ) (offset : ℕ) → HasNoStringEnd section offset
    → string_at section offset ≡ Err UnterminatedString)
    → (whole ended : List ℕ) (offset : ℕ) (e : PathError) → IsEnded whole ended
    → string_at ended offset ≡ Err e → offset < length whole → string_at whole offset ≡ Err UnterminatedString
unended_whole opened closed whole ended offset e has is within =
    let left = left_of_both offset ended has.rest in
    let none = none_by opened ended offset e is (front_kind (drop offset ended) e is) in
    let parts : drop offset whole ≡ drop offset ended ++ left.0 = ap (drop offset) has.parts ∙ left.1 in
    closed whole offset (record {
      within = within;
      no_zero = subst HaveNoZero (sym parts) (none_joined (drop offset ended) left.0 none (left.2 has.no_zero));
    })

-- ---- a section that was cut

offset_by : {O : Type 0} (number : O → ℕ) (b : Bool) (x : O) (n : ℕ) (read : Result O Error) → read ≡ Ok x
    → result_map number read ≡ (if b then Ok n else Err UnsupportedOffset) → number x ≡ n
offset_by number false x n (Ok y) same is = absurd cc
offset_by number true x n (Ok y) same is = cc
offset_by number b x n (Err e) same is = absurd cc

pub offset_is : {O : Type 0} (number : O → ℕ) (limit n : ℕ) (x : O) (read : Result O Error) → read ≡ Ok x
    → result_map number read ≡ offset_of limit n → number x ≡ n
offset_is number limit n x read same is = offset_by number (nat_lt n limit) x n read same is

cut_by : (b : Bool) (n : ℕ) (bytes new : List ℕ) (answer : Result (Unit {0}) Error)
    → ◌≡◌ {A = Read (Unit {0})} (answer, new) (if b then (Err (eof bytes), bytes) else (Ok tt, take n bytes))
    → HaveNoZero (drop n bytes) → IsEnded bytes new
cut_by true n bytes new answer is none =
    let same : new ≡ bytes = ap (λ (r : Read (Unit {0})). r.1) is in
    record { rest = []; parts = sym (append-nil new ∙ same); no_zero = tt }
cut_by false n bytes new answer is none =
    let same : new ≡ take n bytes = ap (λ (r : Read (Unit {0})). r.1) is in
    record {
      rest = drop n bytes;
      parts = sym (ap (λ (xs : List ℕ). xs ++ drop n bytes) same ∙ take-append-drop n bytes);
      no_zero = none;
    }

pub cut_ended : (n : ℕ) (bytes new : List ℕ) (answer : Result (Unit {0}) Error)
    → ◌≡◌ {A = Read (Unit {0})} (answer, new) (truncate_at n bytes) → HaveNoZero (drop n bytes) → IsEnded bytes new
cut_ended n bytes new answer is none = cut_by (nat_lt (length bytes) n) n bytes new answer is none

-- ---- strings of values

abbrev AreFoundWhole : Type 0
AreFoundWhole = (whole ended : List ℕ) (offset : ℕ) (string : List ℕ) → IsEnded whole ended
    → string_at ended offset ≡ Ok string → string_at whole offset ≡ Ok string

pub value_whole : AreFoundWhole → (whole ended : Strings) → AreEnded whole ended → (v : Value) (string : List ℕ)
    → string_of ended v ≡ Ok string → string_of whole v ≡ Ok string
value_whole found whole ended are (Block x) string is = is
value_whole found whole ended are (Data1 x) string is = is
value_whole found whole ended are (Data2 x) string is = is
value_whole found whole ended are (Data4 x) string is = is
value_whole found whole ended are (Data8 x) string is = is
value_whole found whole ended are (Udata x) string is = is
value_whole found whole ended are (Sdata x) string is = is
value_whole found whole ended are (Flag x) string is = is
value_whole found whole ended are (SecOffset x) string is = is
value_whole found whole ended are (String x) string is = is
value_whole found whole ended are (DebugStrRef o) string is =
    found whole.debug_str ended.debug_str o.0 string are.str is
value_whole found whole ended are (DebugStrRefSup o) string is = is
value_whole found whole ended are (DebugLineStrRef o) string is =
    found whole.debug_line_str ended.debug_line_str o.0 string are.line is
value_whole found whole ended are (DebugStrOffsetsIndex o) string is = is

-- ---- paths that are told

abbrev Said : Type 0
Said = Result (List ℕ) PathError

-- what the one says, the other says too
abbrev SaysToo : Said → Said → Type 0
SaysToo ended whole = (x : List ℕ) → ended ≡ Ok x → whole ≡ Ok x

map_too : (f : List ℕ → List ℕ) (ended whole : Said) → SaysToo ended whole
    → SaysToo (result_map f ended) (result_map f whole)
map_too f (Ok y) whole too x is = ap (result_map f) (too y refl) ∙ is
map_too f (Err e) whole too x is = absurd cc

bind_too : (ended whole : Said) (next other : List ℕ → Said) → SaysToo ended whole
    → ((x : List ℕ) → SaysToo (next x) (other x)) → SaysToo (ended >>= next) (whole >>= other)
bind_too (Ok y) whole next other too nexts x is = ap (λ (r : Said). r >>= other) (too y refl) ∙ nexts y x is
bind_too (Err e) whole next other too nexts x is = absurd cc

if_too : (b : Bool) (path : List ℕ) (ended whole : Said) → SaysToo ended whole
    → SaysToo (if b then Ok path else result_map (λ base. path_in base path) ended)
    (if b then Ok path else result_map (λ base. path_in base path) whole)
if_too true path ended whole too x is = is
if_too false path ended whole too x is = map_too (λ base. path_in base path) ended whole too x is

from_too : (ended whole : Said) → SaysToo ended whole → (path : List ℕ)
    → SaysToo (path_from ended path) (path_from whole path)
from_too ended whole too path = if_too (is_absolute path) path ended whole too

-- values of the ended sections are those of the whole ones
abbrev ValuesToo : Strings → Strings → Type 0
ValuesToo whole ended = (v : Value) (string : List ℕ) → string_of ended v ≡ Ok string → string_of whole v ≡ Ok string

option_too : (whole ended : Strings) → ValuesToo whole ended → (v : Option Value) (none : Said)
    → SaysToo (option_map_or (string_of ended) v none) (option_map_or (string_of whole) v none)
option_too whole ended too (Some v) none x is = too v x is
option_too whole ended too None none x is = is

string_too : (whole ended : Strings) (h : Header) (known : Option (List ℕ)) → ValuesToo whole ended → (i : ℕ)
    → SaysToo (directory_string (paths_in ended h known) i) (directory_string (paths_in whole h known) i)
string_too whole ended h known too i = option_too whole ended too (directory_of h i) (unwritten_directory h i)

base_too : (whole ended : Strings) (h : Header) (known : Option (List ℕ)) → ValuesToo whole ended
    → SaysToo (compilation_directory (paths_in ended h known)) (compilation_directory (paths_in whole h known))
base_too whole ended h known too =
    map_too (written_or known) (directory_string (paths_in ended h known) 0)
    (directory_string (paths_in whole h known) 0)
    (string_too whole ended h known too 0)

directory_if : (b : Bool) (ended whole : Said) (named others : Said) → SaysToo ended whole → SaysToo named others
    → SaysToo (if b then ended else named) (if b then whole else others)
directory_if true ended whole named others base dir = base
directory_if false ended whole named others base dir = dir

directory_too : (whole ended : Strings) (h : Header) (known : Option (List ℕ)) → ValuesToo whole ended → (i : ℕ)
    → SaysToo (directory_path (paths_in ended h known) i) (directory_path (paths_in whole h known) i)
directory_too whole ended h known too i =
    let e = paths_in ended h known in
    let w = paths_in whole h known in
    let base = base_too whole ended h known too in
    directory_if (nat_eq i 0) (compilation_directory e) (compilation_directory w)
    (directory_string e i >>= path_from (compilation_directory e))
    (directory_string w i >>= path_from (compilation_directory w)) base
    (bind_too (directory_string e i) (directory_string w i) (path_from (compilation_directory e))
    (path_from (compilation_directory w)) (string_too whole ended h known too i)
    (from_too (compilation_directory e) (compilation_directory w) base))

pub file_too : (whole ended : Strings) (h : Header) (known : Option (List ℕ)) → ValuesToo whole ended → (f : File)
    → SaysToo (file_path (paths_in ended h known) f) (file_path (paths_in whole h known) f)
file_too whole ended h known too f =
    let e = directory_path (paths_in ended h known) f.directory_index in
    let w = directory_path (paths_in whole h known) f.directory_index in
    bind_too (string_of ended f.path_name) (string_of whole f.path_name) (path_from e) (path_from w) (too f.path_name)
    (from_too e w (directory_too whole ended h known too f.directory_index))

-- ---- why there is no path

map_fault : (f : List ℕ → List ℕ) (r : Said) (e : PathError) → result_map f r ≡ Err e → r ≡ Err e
map_fault f (Ok x) e is = absurd cc
map_fault f (Err x) e is = is

if_fault : (b : Bool) (path : List ℕ) (base : Said) (e : PathError)
    → (if b then Ok path else result_map (λ base. path_in base path) base) ≡ Err e → (b ≡ false) × (base ≡ Err e)
if_fault true path base e is = absurd cc
if_fault false path base e is = (refl, map_fault (λ base. path_in base path) base e is)

-- a path goes on from a directory that can't be told
pub from_fault : (base : Said) (path : List ℕ) (e : PathError) → path_from base path ≡ Err e
    → (is_absolute path ≡ false) × (base ≡ Err e)
from_fault base path e is = if_fault (is_absolute path) path base e is

fault_if : (b : Bool) (path : List ℕ) (base : Said) (e : PathError) → b ≡ false → base ≡ Err e
    → (if b then Ok path else result_map (λ base. path_in base path) base) ≡ Err e
fault_if true path base e relative is = absurd cc
fault_if false path base e relative is = ap (result_map (λ base. path_in base path)) is

pub fault_from : (base : Said) (path : List ℕ) (e : PathError) → is_absolute path ≡ false → base ≡ Err e
    → path_from base path ≡ Err e
fault_from base path e relative is = fault_if (is_absolute path) path base e relative is

-- a string of a value is known by what was read
pub told : {R E : Type 0} (seen : R → Seen) (read : Result R E) (answer : Result (List ℕ) E)
    → is_err read ≡ false → result_map (λ r. (seen r).bytes) read ≡ answer → (string : List ℕ) × (answer ≡ Ok string)
told seen (Ok x) answer is same = ((seen x).bytes, sym same)
told seen (Err e) answer is same = absurd cc

-- of a directory whose string can be told, directory 0 is why its path can't be
directory_by : (b : Bool) (p : Paths) (named : Said) (string : List ℕ) (e : PathError) → named ≡ Ok string
    → (if b then compilation_directory p else named >>= path_from (compilation_directory p)) ≡ Err e
    → (b ≡ true → directory_string p 0 ≡ named)
    → (b ≡ false) × (is_absolute string ≡ false) × (directory_string p 0 ≡ Err e)
directory_by true p named string e is fault same =
    let zero = map_fault (written_or p.comp_dir) (directory_string p 0) e fault in
    let found = same refl ∙ is in
    absurd cc
directory_by false p named string e is fault same =
    let by : path_from (compilation_directory p) string ≡ Err e =
    sym (ap (λ (r : Said). r >>= path_from (compilation_directory p)) is) ∙ fault in
    let base = from_fault (compilation_directory p) string e by in
    (refl, base.0, map_fault (written_or p.comp_dir) (directory_string p 0) e base.1)

zero_by : (n : ℕ) → nat_eq n 0 ≡ true → 0 ≡ n
zero_by n h = grind arith

directory_base : (i : ℕ) (p : Paths) (string : List ℕ) (e : PathError) → directory_string p i ≡ Ok string
    → directory_path p i ≡ Err e → (nat_eq i 0 ≡ false) × (is_absolute string ≡ false) × (directory_string p 0 ≡ Err e)
directory_base i p string e named is =
    directory_by (nat_eq i 0) p (directory_string p i) string e named is
    (λ h. ap (directory_string p) (zero_by i h))

named_directory : (p : Paths) (i : ℕ) (v : Value) (string : List ℕ) → Some v ≡ directory_of p.header i
    → string_of p.sections v ≡ Ok string → directory_string p i ≡ Ok string
named_directory p i v string some is =
    ap (λ (o : Option Value). option_map_or (string_of p.sections) o (unwritten_directory p.header i)) (sym some) ∙ is

pub base_fault : (ended : Strings) (h : Header) (known : Option (List ℕ)) (i : ℕ) (v : Value) (string : List ℕ)
    (e : PathError)
    → Some v ≡ directory_of h i → string_of ended v ≡ Ok string → directory_path (paths_in ended h known) i ≡ Err e
    → (nat_eq i 0 ≡ false) × (is_absolute string ≡ false) × (directory_string (paths_in ended h known) 0 ≡ Err e)
base_fault ended h known i v string e some is fault =
    directory_base i (paths_in ended h known) string e (named_directory (paths_in ended h known) i v string some is)
    fault

path_by : (b : Bool) (p : Paths) (named : Said) (string : List ℕ) (e : PathError) → b ≡ false → named ≡ Ok string
    → is_absolute string ≡ false
    → directory_string p 0 ≡ Err e
    → (if b then compilation_directory p else named >>= path_from (compilation_directory p)) ≡ Err e
path_by true p named string e other is relative fault = absurd cc
path_by false p named string e other is relative fault =
    ap (λ (r : Said). r >>= path_from (compilation_directory p)) is
    ∙ fault_from (compilation_directory p) string e relative (ap (result_map (written_or p.comp_dir)) fault)

pub fault_of_base : (whole : Strings) (h : Header) (known : Option (List ℕ)) (i : ℕ) (v : Value) (string : List ℕ)
    (e : PathError)
    → Some v ≡ directory_of h i → string_of whole v ≡ Ok string → nat_eq i 0 ≡ false → is_absolute string ≡ false
    → directory_string (paths_in whole h known) 0 ≡ Err e → directory_path (paths_in whole h known) i ≡ Err e
fault_of_base whole h known i v string e some is other relative fault =
    let p = paths_in whole h known in
    path_by (nat_eq i 0) p (directory_string p i) string e other (named_directory p i v string some is) relative fault

-- of a file whose name can be told, the directory is why its path can't be
pub directory_of_file : (p : Paths) (f : File) (string : List ℕ) (e : PathError)
    → string_of p.sections f.path_name ≡ Ok string
    → file_path p f ≡ Err e → (is_absolute string ≡ false) × (directory_path p f.directory_index ≡ Err e)
directory_of_file p f string e named is =
    from_fault (directory_path p f.directory_index) string e
    (sym (ap (λ (r : Said). r >>= path_from (directory_path p f.directory_index)) named) ∙ is)

pub fault_of_directory : (p : Paths) (f : File) (string : List ℕ) (e : PathError)
    → string_of p.sections f.path_name ≡ Ok string
    → is_absolute string ≡ false → directory_path p f.directory_index ≡ Err e → file_path p f ≡ Err e
fault_of_directory p f string e named relative is =
    ap (λ (r : Said). r >>= path_from (directory_path p f.directory_index)) named
    ∙ fault_from (directory_path p f.directory_index) string e relative is

-- ---- what an offset is past

less_or_not : (a b : ℕ) → (a < b) ⊎ (b ≤ a)
less_or_not a zero = inr (omega arith)
less_or_not zero (suc b) = inl (omega arith)
less_or_not (suc a) (suc b) = elim (less_or_not a b) [ inl h ↦ inl (omega (arith, h)) | inr h ↦ inr (omega (arith, h)) ]

pub fault_whole : (whole : List ℕ) (offset : ℕ) (result : PathError)
    → (length whole ≤ offset → string_at whole offset ≡ Err StringOffsetOutOfBounds)
    → (offset < length whole → string_at whole offset ≡ Err UnterminatedString)
    → (length whole ≤ offset → result ≡ StringOffsetOutOfBounds) → (offset < length whole → result ≡ UnterminatedString)
    → string_at whole offset ≡ Err result
fault_whole whole offset result out within is_out is_within = elim (less_or_not offset (length whole)) [
  | inl h ↦ within h ∙ ap (λ x. Err x) (sym (is_within h))
  | inr h ↦ out h ∙ ap (λ x. Err x) (sym (is_out h))
]

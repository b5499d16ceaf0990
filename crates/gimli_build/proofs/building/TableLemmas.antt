-- The tables of directories and files, seen as lists.
use Rattle.std.specs.Prelude.{◌≡◌, ◌≢◌, ◌+◌, ◌<◌, ◌||◌, ◌&&◌, ◌∷◌, ◌++◌, if◌then◌else◌, ◌-◌, ◌≤◌}
use Rattle.gimli_build.proofs
use proofs.Common
use Common.{ℕ, zero, suc, Bool, true, false, cond, not, List, [], map, length, refl, sym, ap, ◌∙◌, slice_get, drop}
use Common.{Option, Some, None, option_map, true≢false, arith, length-append, nat_eq, is_some, list_any}
use Common.{position_or_len, AllZip, eqb-true, and_parts, map-append, All-push, LineText, line_text, line_text_eq}
use Common.{HasNoZero, with_directory, index_of_directory, FileKey, Details, no_details, File, key_eq, has_file}
use Common.{index_of_file, with_details, with_file, keys_of, Keeps, AreTables, with_indexes, details, key}
use Common.{directories_of, files_of, All, option_map_or, Encoding, LineEncoding, IsNotEmpty, CanEncode, IsPosition}
use Common.{position_after, previous_position, CanBuild, AreBuilt, IsProgram, BuiltItem, SetAddress, Row, End}
use native.Mathlib.Nat.{suc-add as suc_add}
use Rattle.std.proofs.lemmas.List.Folds.{list_any_at}
use Rattle.std.proofs.lemmas.List.Quantifiers.{all_pairs_push}
use Rattle.std.proofs.lemmas.Map.Made.{is_some-lookup}
use Rattle.std.specs.Map.{lookup}
use Rattle.std.proofs.lemmas.Slice.Eq.{bytes_eq-Decides}
use Rattle.indexmap.specs.IndexSet.{insert_key}
use Rattle.indexmap.specs.IndexMap.{insert_entry, set_value_at}
use Rattle.gimli_bytes.proofs.TextLemmas.{any-map}
use Rattle.gimli_build.specs
use specs.declared.built.line_string.LineString.{LineString}
use specs.declared.built.files.FileInfo.{FileInfo}
use specs.contracts.built.line_string.LineStringPartialEq.TheImpl.{ghosts}
use proofs.reading.EventsBack.{start_position}

-- ---- texts

-- `==` compares texts
pub line_eq : (x y : LineString) → ghosts.eq x y ≡ line_text_eq (line_text x) (line_text y)
line_eq x y = grind arith

line_text_eq-self : (t : LineText) → line_text_eq t t ≡ true
line_text_eq-self t = grind (arith, bytes_eq-Decides)

line_text_eq-same : (s t : LineText) → s ≡ t → line_text_eq t s ≡ true
line_text_eq-same s t e = grind (arith, line_text_eq-self)

-- ---- directories

any-directories : (k : LineString) (ks : List LineString)
    → list_any (ghosts.eq k) ks ≡ list_any (line_text_eq (line_text k)) (directories_of ks)
any-directories k [] = refl
any-directories k (x ∷ xs) = λ i. line_eq k x i || any-directories k xs i

pub directories_insert : (ks : List LineString) (k : LineString)
    → directories_of (insert_key ghosts.eq ks k) ≡ with_directory (directories_of ks) (line_text k)
directories_insert ks k = grind (arith, any-directories, map-append)

pub index_of_equal_directory : (ks : List LineString) (k : LineString)
    → position_or_len (ghosts.eq k) ks ≡ index_of_directory (directories_of ks) (line_text k)
index_of_equal_directory [] k = refl
index_of_equal_directory (x ∷ xs) k = λ i. cond (not (line_eq k x i)) (1 + index_of_equal_directory xs k i) 0

pub with_directory-AreTables : (ds : List LineText) (ks : List FileKey) (t : LineText) → AreTables ds ks → HasNoZero t
    → AreTables (with_directory ds t) ks
with_directory-AreTables ds ks t so clean = by _ refl
  where
    by : (b : Bool) → list_any (line_text_eq t) ds ≡ b → AreTables (if b then ds else ds ++ t ∷ []) ks
    by true h = so
    by false h = record {
      distinct_directories = all_pairs_push (λ s u. s ≢ u) ds t so.distinct_directories (λ k d short same.
          true≢false (sym (list_any_at _ _ _ _ short (line_text_eq-same _ t same)) ∙ h));
      directories_end = All-push HasNoZero _ t so.directories_end clean;
      distinct_files = so.distinct_files;
      paths_end = so.paths_end;
      in_directories = grind (arith, length-append);
    }

-- ---- files

-- the derived test on a path and a directory
abbrev pub pair_eq : LineString × ℕ → LineString × ℕ → Bool
pair_eq x y = ghosts.eq x.0 y.0 && nat_eq x.1 y.1

pub pair_eq-is : (x y : LineString × ℕ) → pair_eq x y ≡ key_eq (key x) (key y)
pair_eq-is x y = grind arith

key_eq-same : (k l : FileKey) → k ≡ l → key_eq l k ≡ true
key_eq-same k l e = grind (arith, line_text_eq-self)

-- the files after an insertion
pub files_insert : (es : List ((LineString × ℕ) × FileInfo)) (k : LineString × ℕ) (v : FileInfo)
    → files_of (insert_entry pair_eq es k v) ≡ with_file (files_of es) (key k) (Some (details v))
files_insert [] k v = refl
files_insert (e ∷ es) k v = by _
    ∙ (λ i.
    if pair_eq-is k e.0 i then (key e.0, details v) ∷ files_of es else (key e.0, details e.1) ∷ files_insert es k v i)
    ∙ joined _ _
  where
    by : (b : Bool)
        → files_of (if b then (e.0, v) ∷ es else e ∷ insert_entry pair_eq es k v)
        ≡ (if b then (key e.0, details v) ∷ files_of es
        else (key e.0, details e.1) ∷ files_of (insert_entry pair_eq es k v))
    by true = refl
    by false = refl

    one : (n : ℕ)
        → with_details ((key e.0, details e.1) ∷ files_of es) (1 + n) (details v)
        ≡ (key e.0, details e.1) ∷ with_details (files_of es) n (details v)
    one n = grind arith

    joined : (b there : Bool)
        → (if b then (key e.0, details v) ∷ files_of es
        else (key e.0, details e.1)
        ∷ (if there then with_details (files_of es) (index_of_file (files_of es) (key k)) (details v)
        else files_of es ++ (key k, details v) ∷ []))
        ≡ (if b || there
        then with_details ((key e.0, details e.1) ∷ files_of es)
        (cond (not b) (1 + index_of_file (files_of es) (key k)) 0) (details v)
        else (key e.0, details e.1) ∷ files_of es ++ (key k, details v) ∷ [])
    joined true true = refl
    joined true false = refl
    joined false true = sym (one _)
    joined false false = refl

pub any-files : (k : LineString × ℕ) (es : List ((LineString × ℕ) × FileInfo))
    → list_any (pair_eq k) (map (λ e. e.0) es) ≡ has_file (files_of es) (key k)
any-files k [] = refl
any-files k (e ∷ es) = λ i. pair_eq-is k e.0 i || any-files k es i

pub index_of_equal_file : (es : List ((LineString × ℕ) × FileInfo)) (k : LineString × ℕ)
    → position_or_len (pair_eq k) (map (λ e. e.0) es) ≡ index_of_file (files_of es) (key k)
index_of_equal_file [] k = refl
index_of_equal_file (e ∷ es) k = λ i. cond (not (pair_eq-is k e.0 i)) (1 + index_of_equal_file es k i) 0

-- a search found a file, or none
pub file_found : (es : List ((LineString × ℕ) × FileInfo)) (k : LineString × ℕ) (b : Bool)
    → b ≡ is_some (lookup (pair_eq k) es)
    → has_file (files_of es) (key k) ≡ b
file_found es k b e = grind (arith, any-files, is_some-lookup)

-- a file that is there stays as it is, where nothing is handed of it
pub with_file-kept : (files : List File) (k : FileKey) → has_file files k ≡ true → with_file files k None ≡ files
with_file-kept files k h = grind arith

-- a new file has no details, where none are handed
pub with_file-new : (files : List File) (k : FileKey) → has_file files k ≡ false
    → with_file files k (Some no_details) ≡ with_file files k None
with_file-new files k h = grind arith

pub keys-with_details : (files : List File) (i : ℕ) (d : Details) → keys_of (with_details files i d) ≡ keys_of files
keys-with_details [] i d = refl
keys-with_details _ zero d = refl
keys-with_details (f ∷ files) (suc i) d = ap (λ ks. f.0 ∷ ks) (keys-with_details files i d)

pub with_file-AreTables : (ds : List LineText) (files : List File) (k : FileKey) (d : Details)
    → AreTables ds (keys_of files) → HasNoZero k.0 → k.1 < length ds
    → AreTables ds (keys_of (with_file files k (Some d)))
with_file-AreTables ds files k d so clean within = by _ refl
  where
    absent : has_file files k ≡ false → list_any (key_eq k) (keys_of files) ≡ false
    absent h = grind (arith, any-map)

    by : (b : Bool) → has_file files k ≡ b
        → AreTables ds (keys_of (if b then with_details files (index_of_file files k) d else files ++ (k, d) ∷ []))
    by true h = grind (arith, keys-with_details)
    by false h = rw (map-append _ _ _) (record {
      distinct_directories = so.distinct_directories;
      directories_end = so.directories_end;
      distinct_files = all_pairs_push (λ l m. l ≢ m) _ k so.distinct_files (λ i l short same.
          true≢false (sym (list_any_at _ _ _ _ short (key_eq-same _ k same)) ∙ absent h));
      paths_end = All-push (λ l. HasNoZero l.0) _ k so.paths_end clean;
      in_directories = All-push (λ l. l.1 < length ds) _ k so.in_directories within;
    })

-- ---- details that are written

pub files_with : (es : List ((LineString × ℕ) × FileInfo)) (n : ℕ) (v : FileInfo)
    → files_of (set_value_at es n v) ≡ with_details (files_of es) n (details v)
files_with [] n v = refl
files_with _ zero v = refl
files_with (e ∷ es) (suc n) v = ap (λ t. (key e.0, details e.1) ∷ t) (files_with es n v)

pub details_at : (es : List ((LineString × ℕ) × FileInfo)) (n : ℕ) (v : FileInfo)
    → Some v ≡ slice_get (map (λ e. e.1) es) n
    → option_map (λ f. f.1) (slice_get (files_of es) n) ≡ Some (details v)
details_at [] n v h = cc
details_at (e ∷ es) zero v h = grind arith
details_at (e ∷ es) (suc n) v h = details_at es n v h

pub written-AreTables : (ds : List LineText) (es : List ((LineString × ℕ) × FileInfo)) (n : ℕ) (v : FileInfo)
    → AreTables ds (keys_of (files_of es))
    → AreTables ds (keys_of (files_of (set_value_at es n v)))
written-AreTables ds es n v so = grind (arith, files_with, keys-with_details)

-- ---- a walk over the files

pub numbered_more : (es : List ((LineString × ℕ) × FileInfo)) (i j : ℕ) (e : (LineString × ℕ) × FileInfo)
    → slice_get es i ≡ Some e
    → with_indexes j (drop i (files_of es))
    ≡ (j, line_text e.0.0, e.0.1) ∷ with_indexes (j + 1) (drop (i + 1) (files_of es))
numbered_more [] i j e h = cc
numbered_more (x ∷ xs) zero j e h = grind arith
numbered_more (x ∷ xs) (suc n) j e h = rw suc_add (numbered_more xs n j e h)

-- ---- clones

-- clones of directories are the same directories
pub directories_cloned : (ks ls : List LineString) → AllZip (λ k l. line_text l ≡ line_text k) ks ls
    → directories_of ls ≡ directories_of ks
directories_cloned [] [] z = refl
directories_cloned [] _ z = absurd z
directories_cloned _ [] z = absurd z
directories_cloned (k ∷ ks) (l ∷ ls) z = λ i. z.0 i ∷ directories_cloned ks ls z.1 i

-- and clones of files the same files
pub files_cloned : (es fs : List ((LineString × ℕ) × FileInfo))
    → AllZip (λ e f. ((line_text f.0.0 ≡ line_text e.0.0) × (f.0.1 ≡ e.0.1)) × (details f.1 ≡ details e.1)) es fs
    → files_of fs ≡ files_of es
files_cloned [] [] z = refl
files_cloned [] _ z = absurd z
files_cloned _ [] z = absurd z
files_cloned (e ∷ es) (f ∷ fs) z = λ i. ((z.0.0.0 i, z.0.0.1 i), z.0.1 i) ∷ files_cloned es fs z.1 i

-- ---- the keys of files

pub keys-with_file : (files : List File) (k : FileKey) (given : Option Details)
    → keys_of (with_file files k given) ≡ (if has_file files k then keys_of files else keys_of files ++ k ∷ [])
keys-with_file files k given = grind (arith, keys-with_details, map-append)

-- ---- what was added is found

line_text_eq-tells : (s t : LineText) → line_text_eq s t ≡ true → s ≡ t
line_text_eq-tells s t h = grind (arith, bytes_eq-Decides, eqb-true)

key_eq-tells : (k l : FileKey) → key_eq k l ≡ true → k ≡ l
key_eq-tells k l h =
    let both = and_parts _ _ h in λ i. (line_text_eq-tells k.0 l.0 both.0 i, eqb-true k.1 l.1 both.1 i)

found_there : {A : Type 0} (eq : A → A → Bool) → ((x y : A) → eq x y ≡ true → x ≡ y) → (xs : List A) (x : A)
    → list_any (eq x) xs ≡ true
    → slice_get xs (position_or_len (eq x) xs) ≡ Some x
found_there eq tells [] x h = cc
found_there eq tells (y ∷ xs) x h = at (eq x y) refl (found_there eq tells xs x) h
  where
    at : (b : Bool) → eq x y ≡ b → (list_any (eq x) xs ≡ true → slice_get xs (position_or_len (eq x) xs) ≡ Some x)
        → (b || list_any (eq x) xs) ≡ true
        → slice_get (y ∷ xs) (cond (not b) (1 + position_or_len (eq x) xs) 0) ≡ Some x
    at true e rest h = grind arith
    at false e rest h = grind arith

found_new : {A : Type 0} (eq : A → A → Bool) (xs : List A) (x : A) → list_any (eq x) xs ≡ false
    → slice_get (xs ++ x ∷ []) (position_or_len (eq x) xs) ≡ Some x
found_new eq [] x h = refl
found_new eq (y ∷ xs) x h = at (eq x y) (found_new eq xs x) h
  where
    at : (b : Bool) → (list_any (eq x) xs ≡ false → slice_get (xs ++ x ∷ []) (position_or_len (eq x) xs) ≡ Some x)
        → (b || list_any (eq x) xs) ≡ false
        → slice_get (y ∷ xs ++ x ∷ []) (cond (not b) (1 + position_or_len (eq x) xs) 0) ≡ Some x
    at true rest h = cc
    at false rest h = grind arith

found : {A : Type 0} (eq : A → A → Bool) → ((x y : A) → eq x y ≡ true → x ≡ y) → (xs : List A) (x : A)
    → slice_get (if list_any (eq x) xs then xs else xs ++ x ∷ []) (position_or_len (eq x) xs) ≡ Some x
found eq tells xs x = grind (arith, slice_get, found_there, found_new)

pub directory_found : (ds : List LineText) (t : LineText)
    → slice_get (with_directory ds t) (index_of_directory ds t) ≡ Some t
directory_found ds t = found _ line_text_eq-tells _ t

index_of_key : (files : List File) (k : FileKey) → index_of_file files k ≡ position_or_len (key_eq k) (keys_of files)
index_of_key [] k = refl
index_of_key (f ∷ files) k = ap (λ n. cond (not (key_eq k f.0)) (1 + n) 0) (index_of_key files k)

pub file_found_at : (files : List File) (k : FileKey) (given : Option Details)
    → slice_get (keys_of (with_file files k given)) (index_of_file files k) ≡ Some k
file_found_at files k given = rw (keys-with_file _ _ _, index_of_key _ _, ← any-map (key_eq k) (λ f. f.0) files)
    (found _ key_eq-tells _ k)

pub some_within : {A : Type 0} (xs : List A) (i : ℕ) (x : A) → slice_get xs i ≡ Some x → i < length xs
some_within [] i x h = absurd cc
some_within (y ∷ xs) zero x h = omega arith
some_within (y ∷ xs) (suc i) x h = let short = some_within xs i x h in omega arith

-- ---- what was there stays

slice_get-kept : {A : Type 0} (xs ys : List A) (i : ℕ) → i < length xs → slice_get (xs ++ ys) i ≡ slice_get xs i
slice_get-kept [] ys i h = absurd (omega arith)
slice_get-kept _ ys zero h = refl
slice_get-kept (x ∷ xs) ys (suc i) h = slice_get-kept xs ys i (omega arith)

kept : {A : Type 0} (b : Bool) (xs : List A) (x : A) → Keeps xs (if b then xs else xs ++ x ∷ [])
kept b xs x = grind (arith, length-append, slice_get-kept)

pub directory_keeps : (ds : List LineText) (t : LineText) → Keeps ds (with_directory ds t)
directory_keeps ds t = kept _ _ t

pub file_keeps : (files : List File) (k : FileKey) (given : Option Details)
    → Keeps (keys_of files) (keys_of (with_file files k given))
file_keeps files k given = search (arith, keys-with_file, kept)

with_details-others : (files : List File) (n : ℕ) (d : Details) (i : ℕ) → i ≢ n
    → slice_get (with_details files n d) i ≡ slice_get files i
with_details-others [] n d i h = refl
with_details-others _ zero d zero h = absurd (h refl)
with_details-others _ zero d _ h = refl
with_details-others _ _ d zero h = refl
with_details-others (f ∷ files) (suc n) d (suc i) h = with_details-others files n d i (λ e. h (ap suc e))

pub file_others : (files : List File) (k : FileKey) (given : Option Details) (i : ℕ) → i < length files
    → i ≢ index_of_file files k
    → slice_get (with_file files k given) i ≡ slice_get files i
file_others files k given i short other = grind (arith, slice_get, with_details-others, slice_get-kept)

-- ---- what builder calls keep true of a program

-- ---- items

-- where items leave off, from a position on
reached : ℕ × ℕ → List BuiltItem → ℕ × ℕ
reached position [] = position
reached position (item ∷ items) = reached (position_after item) items

last_at : (position : ℕ × ℕ) (item : BuiltItem) (items : List BuiltItem) (n : ℕ) → n ≡ length items
    → reached position (item ∷ items) ≡ option_map_or position_after (slice_get (item ∷ items) n) (0, 0)
unfolding reached
last_at position item [] zero h = refl
last_at position item [] (suc n) h = absurd (omega arith)
last_at position item (next ∷ items) zero h = absurd (omega arith)
last_at position item (next ∷ items) (suc n) h = last_at (position_after item) next items n (omega arith)

reached_last : (items : List BuiltItem) → reached (0, 0) items ≡ previous_position items
unfolding reached
reached_last [] = refl
reached_last (item ∷ items) = last_at (0, 0) item items (length (item ∷ items) - 1) (omega arith)

push_reached : (e : LineEncoding) (position : ℕ × ℕ) (items : List BuiltItem) (item : BuiltItem)
    → AreBuilt e position items
    → CanBuild e (reached position items) item → AreBuilt e position (items ++ item ∷ [])
unfolding reached
push_reached e position [] item so can = (can, tt)
push_reached e position (first ∷ items) item so can = (so.0, push_reached e (position_after first) items item so.1 can)

stands_at : (e : LineEncoding) (position : ℕ × ℕ) (items : List BuiltItem) → CanEncode e
    → IsPosition e position.0 position.1 → AreBuilt e position items
    → IsPosition e (reached position items).0 (reached position items).1
unfolding reached
stands_at e position [] can so built = so
stands_at e position (SetAddress a ∷ items) can so built = stands_at e (0, 0) items can (start_position e can) built.1
stands_at e position (Row r ∷ items) can so built =
    stands_at e (r.address_offset, r.op_index) items can built.0.0.position built.1
stands_at e position (End o i ∷ items) can so built = stands_at e (0, 0) items can (start_position e can) built.1

-- the previous row stands at a position
pub previous_stands : (e : LineEncoding) (items : List BuiltItem) → CanEncode e → AreBuilt e (0, 0) items
    → IsPosition e (previous_position items).0 (previous_position items).1
previous_stands e items can built = grind (arith, reached_last, stands_at, start_position)

-- an item is built after others
pub item_pushed : {is_none : Bool} {encoding : Encoding} {e : LineEncoding} {directories : List LineText} {keys : List
    FileKey}
    (items : List BuiltItem)
    (item : BuiltItem)
    → IsProgram is_none encoding e directories keys items → CanBuild e (previous_position items) item
    → IsProgram is_none encoding e directories keys (items ++ item ∷ [])
item_pushed {e = e} items item so can = grind (arith, push_reached, reached_last)

-- ---- tables

not_empty_pushed : (ds : List LineText) (t : LineText) → 0 < length ds → All IsNotEmpty (drop 1 ds) → IsNotEmpty t
    → All IsNotEmpty (drop 1 (with_directory ds t))
not_empty_pushed [] t some all h = absurd (omega arith)
not_empty_pushed (d ∷ ds) t some all h = by _
  where
    by : (b : Bool) → All IsNotEmpty (drop 1 (if b then d ∷ ds else d ∷ ds ++ t ∷ []))
    by true = all
    by false = All-push IsNotEmpty _ t all h

-- a directory is added
pub directory_added : {is_none : Bool} {encoding : Encoding} {e : LineEncoding} {keys : List FileKey} {items : List
    BuiltItem}
    (ds : List LineText)
    (t : LineText)
    → IsProgram is_none encoding e ds keys items → is_none ≡ false → (encoding.version ≤ 4 → IsNotEmpty t)
    → IsProgram is_none encoding e (with_directory ds t) keys items
directory_added ds t so is not_empty = grind (arith, not_empty_pushed)

paths_pushed : (files : List File) (k : FileKey) (given : Option Details) → All (λ l. IsNotEmpty l.0) (keys_of files)
    → IsNotEmpty k.0
    → All (λ l. IsNotEmpty l.0) (keys_of (with_file files k given))
paths_pushed files k given all h = rw (keys-with_file _ _ _) (by _)
  where
    by : (b : Bool) → All (λ l. IsNotEmpty l.0) (if b then keys_of files else keys_of files ++ k ∷ [])
    by true = all
    by false = All-push (λ l. IsNotEmpty l.0) _ k all h

files_longer : (files : List File) (k : FileKey) (given : Option Details) → 0 < length (keys_of files)
    → 0 < length (keys_of (with_file files k given))
files_longer files k given some = grind (arith, keys-with_file, length-append)

-- a file is added
pub file_added : {is_none : Bool} {encoding : Encoding} {e : LineEncoding} {ds : List LineText} {items : List BuiltItem}
    (files : List File) (k : FileKey)
    (given : Option Details)
    → IsProgram is_none encoding e ds (keys_of files) items → (encoding.version ≤ 4 → IsNotEmpty k.0)
    → IsProgram is_none encoding e ds (keys_of (with_file files k given)) items
file_added files k given so not_empty = grind (arith, files_longer, paths_pushed)

-- details are written
pub details_written : {is_none : Bool} {encoding : Encoding} {e : LineEncoding} {ds : List LineText} {items : List
    BuiltItem}
    (files : List File) (i : ℕ)
    (d : Details)
    → IsProgram is_none encoding e ds (keys_of files) items
    → IsProgram is_none encoding e ds (keys_of (with_details files i d)) items
details_written files i d so = rw (keys-with_details _ _ _) so

-- The bytes of the tables of a unit up to version 4 spell them.
use Rattle.std.specs.Prelude.{◌≡◌, ◌<◌, ◌^◌, ◌∷◌, ◌++◌}
use Rattle.gimli_build.proofs
use proofs.Common
use Common.{ℕ, List, [], drop, map, Ok, refl, sym, append_assoc, All, append-nil, All-head, All-tail}
use Common.{recursion_from_All, Production, ◌>>=◌, Each, uleb, uleb_shortest, StringTables, path_text, plain_file}
use Common.{ReadFile, SpellsPaths, SpellsFiles, LineText, Inline, InStrings, InLineStrings, bytes_in, HasNoZero}
use Common.{IsNotEmpty, File, keys_of, FitsFile, result_concat, name_bytes, directories_bytes, file_bytes, files_bytes}
use Rattle.gimli_line.specs.header.HeaderGrammar.{file_production}
use proofs.writing.WrittenParts.{same_written, both_written, before_written}

module _ (texts : StringTables) where
  -- a text in the unit itself is its bytes
  name_spelled : (t : LineText) (bytes : List ℕ) → IsNotEmpty t → HasNoZero t → name_bytes t ≡ Ok bytes
      → path_text.Spells bytes (bytes_in texts t)
  name_spelled (Inline text) bytes some clean is = (some, (recursion_from_All _ _ clean, same_written _ _ is))
  name_spelled (InStrings i) bytes some clean is = absurd cc
  name_spelled (InLineStrings i) bytes some clean is = absurd cc

  -- ---- directories

  names_spelled : (ts : List LineText) (bytes : List ℕ) → All IsNotEmpty ts → All HasNoZero ts
      → result_concat name_bytes ts ≡ Ok bytes
      → Each path_text.Spells bytes (map (bytes_in texts) ts)
  names_spelled [] bytes some clean is = same_written _ _ is
  names_spelled (t ∷ ts) bytes some clean is =
      let b = both_written _ _ _ is in
      let own = name_spelled t _ (All-head IsNotEmpty t _ some) (All-head HasNoZero t _ clean) b.first_is in (
        b.first,
        b.rest,
        b.whole,
        own,
        names_spelled ts b.rest (All-tail IsNotEmpty t _ some) (All-tail HasNoZero t _ clean) b.rest_is,
      )

  pub directories-spelled : (ds : List LineText) (bytes : List ℕ) → All IsNotEmpty (drop 1 ds)
      → All HasNoZero (drop 1 ds) → directories_bytes ds ≡ Ok bytes
      → SpellsPaths bytes (map (bytes_in texts) (drop 1 ds))
  directories-spelled ds bytes some clean is =
      let b = before_written _ _ _ is in
      (b.front, b.whole, names_spelled _ _ some clean b.front_is)

  -- ---- files

  -- a path, and what stands after it
  abbrev entry_production : Production ReadFile
  entry_production = path_text >>= file_production

  -- what is read of a file up to version 4
  abbrev pub read_file : File → ReadFile
  read_file f = plain_file (bytes_in texts f.0.0) f.0.1 f.1.timestamp f.1.size

  numbers_spelled : (path : List ℕ) (directory time size : ℕ) → directory < 2 ^ 64 → time < 2 ^ 64 → size < 2 ^ 64
      → (file_production path).Spells (uleb directory ++ uleb time ++ uleb size) (plain_file path directory time size)
  unfolding file_production
  numbers_spelled path directory time size d t s = (
    directory,
    uleb directory,
    uleb time ++ uleb size,
    append_assoc (uleb directory) (uleb time) (uleb size),
    (uleb_shortest _ d).spells,
    (
      time,
      uleb time,
      uleb size,
      refl,
      (uleb_shortest _ t).spells,
      (size, uleb size, [], sym (append-nil _), (uleb_shortest _ s).spells, (refl, refl)),
    ),
  )

  file_spelled : (f : File) (bytes : List ℕ) → IsNotEmpty f.0.0 → HasNoZero f.0.0 → FitsFile f → file_bytes f ≡ Ok bytes
      → entry_production.Spells bytes (read_file f)
  file_spelled f bytes some clean fits is =
      let b = before_written _ _ _ is in
      let path = bytes_in texts f.0.0 in
      let numbers = numbers_spelled _ _ _ _ fits.directory fits.timestamp fits.size in (
        path,
        b.front,
        uleb f.0.1 ++ uleb f.1.timestamp ++ uleb f.1.size,
        b.whole,
        name_spelled _ _ some clean b.front_is,
        numbers,
      )

  each_file_spelled : (fs : List File) (bytes : List ℕ) → All (λ k. IsNotEmpty k.0) (keys_of fs)
      → All (λ k. HasNoZero k.0) (keys_of fs) → All FitsFile fs
      → result_concat file_bytes fs ≡ Ok bytes
      → Each entry_production.Spells bytes (map read_file fs)
  each_file_spelled [] bytes some clean fits is = same_written _ _ is
  each_file_spelled (f ∷ fs) bytes some clean fits is =
      let b = both_written _ _ _ is in
      let own = file_spelled f _ (All-head (λ k. IsNotEmpty k.0) _ _ some) (All-head (λ k. HasNoZero k.0) _ _ clean)
      (All-head FitsFile f _ fits) b.first_is in
      let rest =
      each_file_spelled fs b.rest (All-tail (λ k. IsNotEmpty k.0) _ _ some) (All-tail (λ k. HasNoZero k.0) _ _ clean)
      (All-tail FitsFile f _ fits) b.rest_is in
      (b.first, b.rest, b.whole, own, rest)

  pub files-spelled : (fs : List File) (bytes : List ℕ) → All (λ k. IsNotEmpty k.0) (keys_of fs)
      → All (λ k. HasNoZero k.0) (keys_of fs) → All FitsFile fs
      → files_bytes fs ≡ Ok bytes
      → SpellsFiles bytes (map read_file fs)
  files-spelled fs bytes some clean fits is =
      let b = before_written _ _ _ is in
      (b.front, b.whole, each_file_spelled _ _ some clean fits b.front_is)

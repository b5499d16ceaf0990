-- What is taken of an entry of version 5, value by value.
use Rattle.std.specs.Prelude.{if◌then◌else◌, ◌∷◌}
use Rattle.gimli_core.specs.Form.{form_production}
use Rattle.gimli_line.specs
use specs.Prelude
use Prelude.{ℕ, nat_eq, List, [], Option, Some, None, Ok, OrderAndLimit, Value, udata_value, Read}
use Prelude.{◌>>=◌, Format}
use specs.LineNumbers.{
  DW_LNCT_path,
  DW_LNCT_directory_index,
  DW_LNCT_timestamp,
  DW_LNCT_size,
  DW_LNCT_MD5,
  DW_LNCT_LLVM_source,
}
use specs.header.File.{File}
use specs.header.HeaderGrammar.{TableEntry, digest}
use specs.declared.header.file_entry.FileEntryFormat.{FileEntryFormat}

-- what a value of this content type makes of what stood before
abbrev pub value_after : {A : Type 0} → ℕ → (Value → Option A) → ℕ → Value → A → A
value_after wanted pick content value before =
    elim (if nat_eq content wanted then pick value else None) [ Some x ↦ x | None ↦ before ]

-- a file with one more value
abbrev pub file_with : File → ℕ → Value → File
file_with file content value = record {
  path_name = value_after DW_LNCT_path Some content value file.path_name;
  directory_index =
      value_after DW_LNCT_directory_index udata_value content value file.directory_index;
  timestamp = value_after DW_LNCT_timestamp udata_value content value file.timestamp;
  size = value_after DW_LNCT_size udata_value content value file.size;
  md5 = value_after DW_LNCT_MD5 digest content value file.md5;
  source = value_after DW_LNCT_LLVM_source (λ v. Some (Some v)) content value file.source;
}

-- the values of an entry one by one, from what stands at first
abbrev pub fold_of : {A : Type 0} → (A → ℕ → Value → A) → A → TableEntry → A
fold_of step first [] = first
fold_of step first (v ∷ entry) = fold_of step (step first v.0 v.1) entry

module _ (layout : OrderAndLimit) (format : Format) where
  -- the same as they are read
  abbrev pub folded_at : {A : Type 0} → (A → ℕ → Value → A) → A → List FileEntryFormat → List ℕ
      → Read A
  folded_at step first [] bytes = (Ok first, bytes)
  folded_at step first (f ∷ formats) bytes =
      (form_production layout format f.form.0).read bytes >>= λ value rest.
      folded_at step (step first f.content_type.0 value) formats rest

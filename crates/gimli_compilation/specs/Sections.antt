-- The sections from which compilations are read.
use Rattle.std.specs.Prelude.{ℕ, List, option_map}
use Rattle.gimli_core.specs.Layout.{Seen, OrderAndLimit, layout_of}
use Rattle.gimli_compilation.specs.declared.sections.Compilation.{Compilation}
use Rattle.gimli_compilation.specs.declared.sections.CompilationSections.{CompilationSections}

-- the sections, by their bytes
pub record Sections : Type 0 where
  -- `.debug_info` and `.debug_abbrev`
  pub info : List ℕ
  pub abbreviations : List ℕ
  -- `.debug_str` and `.debug_line_str`
  pub strings : List ℕ
  pub line_strings : List ℕ
  -- `.debug_str_offsets`
  pub string_offsets : List ℕ
  -- how numbers are encoded in `.debug_info`, and in `.debug_str_offsets`
  pub layout : OrderAndLimit
  pub offsets_layout : OrderAndLimit

-- the sections of readers, by their bytes, their orders and the limit of their offsets
abbrev pub sections_of : {R : Type 0} → (R → Seen) → ℕ → CompilationSections R → Sections
sections_of seen limit sections = record {
  info = (seen sections.debug_info).bytes;
  abbreviations = (seen sections.debug_abbrev).bytes;
  strings = (seen sections.debug_str).bytes;
  line_strings = (seen sections.debug_line_str).bytes;
  string_offsets = (seen sections.debug_str_offsets).bytes;
  layout = layout_of (seen sections.debug_info).is_big limit;
  offsets_layout = layout_of (seen sections.debug_str_offsets).is_big limit;
}

-- a compilation, its texts seen by bytes
abbrev pub compilation_seen : {R : Type 0} → (R → Seen) → Compilation R → Compilation (List ℕ)
compilation_seen seen compilation = record {
  version = compilation.version;
  stmt_list = compilation.stmt_list;
  comp_dir = option_map (λ r. (seen r).bytes) compilation.comp_dir;
  name = option_map (λ r. (seen r).bytes) compilation.name;
}

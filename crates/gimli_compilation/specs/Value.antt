-- The values of the attributes that are asked for.
use Rattle.std.specs.Prelude.{ℕ, nat_eq, if◌then◌else◌, Option, Some, None}
use Rattle.gimli_compilation.specs.DwarfNumbers.{DW_AT_name, DW_AT_stmt_list, DW_AT_comp_dir}
use Rattle.gimli_compilation.specs.DwarfNumbers.{DW_AT_str_offsets_base}
use Rattle.gimli_compilation.specs.declared.form.NumberKind.TheVariants.{SectionOffset}
use Rattle.gimli_compilation.specs.declared.form.Value.{Value}
use Rattle.gimli_compilation.specs.declared.form.Value.TheVariants.{Number, Passed}
use Rattle.gimli_compilation.specs.declared.attributes.Attributes.{Attributes}

-- the number of a value that is an offset into a section
abbrev pub section_offset : {R : Type 0} → Value R → Option ℕ
section_offset (Number SectionOffset n) = Some n
section_offset v = None

-- none of the attributes
abbrev pub no_attributes : {R : Type 0} → Attributes R
no_attributes = record {
  stmt_list = Passed;
  comp_dir = Passed;
  name = Passed;
  str_offsets_base = Passed;
}

-- one more attribute, by its name (DWARF 5, section 7.5.4): where two have the same name, the last
-- counts
abbrev pub attributes_with : {R : Type 0} → Attributes R → ℕ → Value R → Attributes R
attributes_with before name value = record {
  stmt_list = if nat_eq name DW_AT_stmt_list then value else before.stmt_list;
  comp_dir = if nat_eq name DW_AT_comp_dir then value else before.comp_dir;
  name = if nat_eq name DW_AT_name then value else before.name;
  str_offsets_base = if nat_eq name DW_AT_str_offsets_base then value else before.str_offsets_base;
}

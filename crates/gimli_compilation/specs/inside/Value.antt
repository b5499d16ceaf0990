-- The values of attributes, with lists of bytes in place of readers, and the shapes that are read.
use Rattle.std.specs.Prelude.{ℕ, ◌≤◌, List}
use Rattle.gimli_compilation.specs.declared.form.Value.{Value}
use Rattle.gimli_compilation.specs.declared.form.Value.TheVariants.{Number, Text, Passed}
use Rattle.gimli_compilation.specs.declared.form.Shape.{Shape}
use Rattle.gimli_compilation.specs.declared.form.Shape.TheVariants.{Fixed, Counted}
use Rattle.gimli_compilation.specs.declared.attributes.Attributes.{Attributes}
use Rattle.gimli_core.specs.Layout.{Seen}

-- a value, its text seen by bytes
abbrev pub value_seen : {R : Type 0} → (R → Seen) → Value R → Value (List ℕ)
value_seen seen (Number kind n) = Number kind n
value_seen seen (Text text) = Text (seen text).bytes
value_seen seen Passed = Passed

-- the attributes, their texts seen by bytes
abbrev pub attributes_seen : {R : Type 0} → (R → Seen) → Attributes R → Attributes (List ℕ)
attributes_seen seen attributes = record {
  stmt_list = value_seen seen attributes.stmt_list;
  comp_dir = value_seen seen attributes.comp_dir;
  name = value_seen seen attributes.name;
  str_offsets_base = value_seen seen attributes.str_offsets_base;
}

-- a number of this shape is one that `read_uint` takes
abbrev pub IsReadable : Shape → Type 0
IsReadable (Fixed size kind) = size ≤ 8
IsReadable (Counted size) = size ≤ 8
IsReadable shape = Unit {0}

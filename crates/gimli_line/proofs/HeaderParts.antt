-- The parts of a header are the same where each of them is.
use Rattle.std.specs.Prelude.{◌≡◌}
use Rattle.gimli_line.proofs.Common.{refl, DebugLineOffset, Parameters}
use Rattle.gimli_line.specs.header.HeaderParts.{HeaderParts}

-- parameters of these parts
abbrev rebuilt_parameters : Parameters → Parameters
rebuilt_parameters p = record { encoding = p.encoding; line_encoding = p.line_encoding; opcode_base = p.opcode_base }

pub joined_parameters : (x y : Parameters)
    → (x.encoding ≡ y.encoding) × ((x.line_encoding ≡ y.line_encoding) × (x.opcode_base ≡ y.opcode_base)) → x ≡ y
joined_parameters x y p = let same : rebuilt_parameters x ≡ rebuilt_parameters y = cc in same

pub parted_parameters : (x y : Parameters) → x ≡ y
    → (x.encoding ≡ y.encoding) × ((x.line_encoding ≡ y.line_encoding) × (x.opcode_base ≡ y.opcode_base))
parted_parameters x y e = rw e (refl, (refl, refl))

-- an offset of this number
pub joined_offset : {Offset : Type 0} (x y : DebugLineOffset Offset) → x.0 ≡ y.0 → x ≡ y
joined_offset x y p = let same : record { 0 = x.0 } ≡ record { 0 = y.0 } = rw p refl in same

module _ {R Offset Directory File : Type 0} where
  -- a header's parts, of these
  abbrev rebuilt : HeaderParts R Offset Directory File → HeaderParts R Offset Directory File
  rebuilt h = record {
    parameters = h.parameters;
    offset = h.offset;
    unit_length = h.unit_length;
    header_length = h.header_length;
    operand_counts = h.operand_counts;
    directory_formats = h.directory_formats;
    directories = h.directories;
    file_formats = h.file_formats;
    files = h.files;
    program = h.program;
    comp_dir = h.comp_dir;
    comp_file = h.comp_file;
  }

  abbrev pub SameParts : (x y : HeaderParts R Offset Directory File) → Type 0
  SameParts x y = (x.parameters ≡ y.parameters)
      × ((x.offset ≡ y.offset)
      × ((x.unit_length ≡ y.unit_length)
      × ((x.header_length ≡ y.header_length)
      × ((x.operand_counts ≡ y.operand_counts)
      × ((x.directory_formats ≡ y.directory_formats)
      × ((x.directories ≡ y.directories)
      × ((x.file_formats ≡ y.file_formats)
      × ((x.files ≡ y.files)
      × ((x.program ≡ y.program) × ((x.comp_dir ≡ y.comp_dir) × (x.comp_file ≡ y.comp_file)))))))))))

  pub joined : (x y : HeaderParts R Offset Directory File) → SameParts x y → x ≡ y
  joined x y p = let same : rebuilt x ≡ rebuilt y = cc in same

  pub parted : (x y : HeaderParts R Offset Directory File) → x ≡ y → SameParts x y
  parted x y e = rw e (refl, (refl, (refl, (refl, (refl, (refl, (refl, (refl, (refl, (refl, (refl, refl)))))))))))

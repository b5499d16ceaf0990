use Rattle.gimli_line.proofs
use proofs.Common.{ℕ, refl, ap, unsigned_Decides, slice_eq-Decides, DebugLineOffset}
use proofs.Equality.{both, whole, options_by, lists_by}
use proofs.HeaderParts.{joined_parameters, parted_parameters, joined_offset, joined, parted}
use proofs.laws.equal_headers_look_same.Goals as goal

pub returns : goal.returns
returns g c readers offsets x y =
    let values = c.equal_values_look_same.ensures readers offsets in
    let files = c.equal_files_look_same.ensures readers offsets in
    let formats = c.equal_parts_are_same.ensures.formats in
    let encodings = c.equal_encodings_are_same.ensures in
    let parameters = whole
    (both (encodings.encodings x.parameters.encoding y.parameters.encoding)
    (both (encodings.encodings_of_rows x.parameters.line_encoding y.parameters.line_encoding)
    (unsigned_Decides _ _)))
    (joined_parameters x.parameters y.parameters) (parted_parameters x.parameters y.parameters) in
    let offset = whole (offsets x.offset.0 y.offset.0) (joined_offset _ _) (ap (λ (o : DebugLineOffset ℕ). o.0)) in
    let directory_formats =
    slice_eq-Decides formats x.directory_entry_format.items y.directory_entry_format.items _ refl in
    let directories = lists_by values x.include_directories.items y.include_directories.items in
    let file_formats = slice_eq-Decides formats x.file_name_entry_format.items y.file_name_entry_format.items _ refl in
    let files_same = lists_by files x.file_names.items y.file_names.items in
    let lists = both directory_formats (both directories (both file_formats (both files_same
    (both (readers x.program_buf y.program_buf)
    (both (options_by readers x.comp_dir y.comp_dir) (options_by files x.comp_file y.comp_file)))))) in
    whole
    (both parameters (both offset (both (offsets x.unit_length y.unit_length)
    (both (offsets x.header_length y.header_length)
    (both (readers x.standard_opcode_lengths y.standard_opcode_lengths) lists)))))
    (joined _ _) (parted _ _)

use Rattle.std.specs.Prelude.{◌-◌}
use Rattle.gimli_line.proofs
use proofs.Common.{sym, ap, ◌∙◌, err_from_is_err_and, option_map, String, Parameters, read_of, order_of, part_read_of}
use proofs.Common.{part_order_of}
use Rattle.gimli_line.specs.header.HeaderGrammar.{handed_value}
use proofs.Fields.{parameters_end, counts_end, directories_end, files_end, fields_done}
use proofs.Order.{values_kept, files_kept, values_mapped, files_mapped, taken_part}
use proofs.header.program_header.LineProgramHeader.parse_fields.Goals as goal

pub returns-clause-order : goal.returns-clause-order
returns-clause-order g c =
    let counts = order_of c.parse_parameters.ensures.read ∙ c.requires.order in
    let directories = part_order_of c.split.ensures ∙ counts in
    let files = c.parse_directory_table.ensures.order ∙ directories in
    record {
      operand_counts = taken_part _ _ c.in_ok-standard_opcode_lengths.ensures ∙ counts;
      directories = values_mapped g.R.Reader.seen _ _
          (values_kept g.R.Reader.seen _ _ _ directories c.in_ok-directory_entry_format.ensures.parts);
      files = files_mapped g.R.Reader.seen _ _
          (files_kept g.R.Reader.seen _ _ _ files c.in_ok-file_name_entry_format.ensures.parts);
    }

pub returns-in_err-parameters-clause-read : goal.returns-in_err-parameters-clause-read
returns-in_err-parameters-clause-read g c =
    let p = err_from_is_err_and c.from_residual.result c.from_residual.ensures.1 in
    rw (p.1, p.2) (λ _. parameters_end _ _ _ _ _ _ _ _ _ (read_of c.in_err-parameters.ensures.read))

pub returns-in_err-standard_opcode_lengths-clause-read : goal.returns-in_err-standard_opcode_lengths-clause-read
returns-in_err-standard_opcode_lengths-clause-read g c =
    let p =
    err_from_is_err_and c.from_residual-in_err-standard_opcode_lengths.result
    c.from_residual-in_err-standard_opcode_lengths.ensures.1 in
    let counted = c.from_u8.ensures ∙ ap (λ (v : Parameters). v.opcode_base - 1) c.parameters.view_is in
    rw (p.1, p.2) (λ _.
    counts_end _ _ _ _ _ _ _ _ _ _ (read_of c.in_ok-parameters.ensures.read) counted _ _
    (part_read_of c.in_err-standard_opcode_lengths.ensures))

pub returns-in_err-directory_entry_format-clause-read : goal.returns-in_err-directory_entry_format-clause-read
returns-in_err-directory_entry_format-clause-read g c =
    let p =
    err_from_is_err_and c.from_residual-in_err-directory_entry_format.result
    c.from_residual-in_err-directory_entry_format.ensures.1 in
    let counted = c.from_u8.ensures ∙ ap (λ (v : Parameters). v.opcode_base - 1) c.parameters.view_is in
    let counts = order_of c.parse_parameters.ensures.read ∙ c.requires.order in
    let directories = part_order_of c.split.ensures ∙ counts in
    rw (p.1, p.2) (λ other.
    directories_end _ _ _ _ _ _ _ _ _ _ (read_of c.in_ok-parameters.ensures.read) counted _ _ _
    (part_read_of c.in_ok-standard_opcode_lengths.ensures) directories _
    (c.in_err-directory_entry_format.ensures.read other))

pub returns-in_err-file_name_entry_format-clause-read : goal.returns-in_err-file_name_entry_format-clause-read
returns-in_err-file_name_entry_format-clause-read g c =
    let p =
    err_from_is_err_and c.from_residual-in_err-file_name_entry_format.result
    c.from_residual-in_err-file_name_entry_format.ensures.1 in
    let counted = c.from_u8.ensures ∙ ap (λ (v : Parameters). v.opcode_base - 1) c.parameters.view_is in
    let counts = order_of c.parse_parameters.ensures.read ∙ c.requires.order in
    let directories = part_order_of c.split.ensures ∙ counts in
    let files = c.parse_directory_table.ensures.order ∙ directories in
    rw (p.1, p.2) (λ other.
    files_end _ _ _ _ _ _ _ _ _ _ (read_of c.in_ok-parameters.ensures.read) counted _ _ _
    (part_read_of c.in_ok-standard_opcode_lengths.ensures) directories _ _ _ _
    c.in_ok-directory_entry_format.ensures.read files _ (c.in_err-file_name_entry_format.ensures.read other))

pub returns-clause-read : goal.returns-clause-read
returns-clause-read g c =
    let counted = c.from_u8.ensures ∙ ap (λ (v : Parameters). v.opcode_base - 1) c.parameters.view_is in
    let counts = order_of c.parse_parameters.ensures.read ∙ c.requires.order in
    let directories = part_order_of c.split.ensures ∙ counts in
    let files = c.parse_directory_table.ensures.order ∙ directories in
    fields_done _ _ _ _ _ _ _ _ _ _ (read_of c.in_ok-parameters.ensures.read) counted _ _ _
    (part_read_of c.in_ok-standard_opcode_lengths.ensures) directories _ _ _ _
    c.in_ok-directory_entry_format.ensures.read files _ _ _ _ _ c.in_ok-file_name_entry_format.ensures.read
    c.comp_dir_of.ensures.bytes
    c.comp_file_of.ensures.file

pub returns-clause-directory : goal.returns-clause-directory
returns-clause-directory g c =
    c.comp_dir_of.ensures.own
    ∙ ap (λ encoding. handed_value encoding c.args.comp_dir) (sym c.in_ok-parameters.ensures.encoding)

pub returns-clause-name : goal.returns-clause-name
returns-clause-name g c =
    c.comp_file_of.ensures.path
    ∙ ap (λ encoding. handed_value encoding (option_map String c.args.comp_name))
    (sym c.in_ok-parameters.ensures.encoding)

use Rattle.std.proofs.Common.{◌∙◌, ap, sym, length}
use Rattle.std.proofs.lemmas.List.{length-map}
use Rattle.gimli_line.specs.run.Rows.{events_left, files_at_end}
use Rattle.gimli_line.specs.run.Sequences.{events_of}
use Rattle.gimli_core.specs.Numbers.{word_size}
use Rattle.gimli_c.specs.Status.{fault_status}
use Rattle.gimli_c.proofs.Runs.{without_files}
use Rattle.gimli_c.proofs.Units.{unit_is}
use Rattle.gimli_c.proofs.unit.read_unit.Goals as goal

pub returns-clause-ok : goal.returns-clause-ok
returns-clause-ok g c =
    let h = c.args.program.meaning in
    let header_is = c.header-header.ensures in
    let encoding = c.encoding-encoding.ensures.encoding ∙ ap (λ p. p.meaning.parameters.encoding) header_is in
    let copied = c.in_ok-run.ensures.ok in
    let files =
    c.file_names.ensures.files ∙ c.header.ensures.files ∙ c.in_ok-run_on.ensures.files
    ∙ c.in_ok-run.ensures.files in
    let directories = c.include_directories.ensures.directories ∙ ap (λ p. p.meaning.directories) header_is in
    record {
      events = events_of (events_left c.rows-rows.result);
      given = without_files _ _ _ _ _ c.rows-rows.ensures.events;
      files = files_at_end c.rows-rows.result;
      at_end = c.rows-rows.ensures.files;
      seen = unit_is c.args.next h _ _ _ _ _ _ _ _ _ _
          (c.into_u64-length.ensures ∙ c.unit_length.ensures ∙ ap (λ p. p.meaning.unit_length) header_is)
          (sym (length-map _ _) ∙ ap length directories)
          (sym (length-map _ _) ∙ ap length files)
          copied.count_is
          (c.from.ensures ∙ ap (λ e. e.version) encoding)
          (c.from-2.ensures ∙ ap (λ e. e.address_size) encoding)
          (c.from-3.ensures ∙ c.word_size.ensures ∙ ap (λ e. word_size e.format) encoding)
          (c.fault_status.ensures ∙ ap fault_status copied.end_is);
    }

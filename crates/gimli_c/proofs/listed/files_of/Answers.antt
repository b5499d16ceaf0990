use Rattle.std.proofs.Common.{ap, subst}
use Rattle.std.specs.List.{AllZip}
use Rattle.gimli_line.specs.header.Header.{Header}
use Rattle.gimli_lookup.specs.Strings.{strings}
use Rattle.gimli_c.specs.Listed.{IsFileAnswer}
use Rattle.gimli_c.proofs.Files.{complete, has_complete, header_whole}
use Rattle.gimli_c.proofs.PathsOfFiles.{ok_more, err_more}
use Rattle.gimli_c.specs.Location.{slice_seen}
use Rattle.gimli_c.proofs.listed.files_of.Goals as goal

pub returns-clause-ok : goal.returns-clause-ok
returns-clause-ok c =
    let start = c.rows-rows.result in
    let h = c.header.result.now.meaning in
    ok_more c.list_files.result (λ texts each. record {
      header = complete start;
      unit =
          has_complete _ _ _ start c.in-Ok.ensures.unit c.in-Ok.ensures.layout c.rows-rows.ensures.files
          (ap (λ a. a.fixed) c.rows-rows.ensures.start);
      each =
          subst
          (λ (k : Header).
          AllZip (IsFileAnswer k (strings slice_seen c.args.sections) c.args.comp_dir.now texts.items)
          c.args.files.now c.list_files.new.files)
          (header_whole start c.run_on.new.rows h c.header.ensures.header.fixed c.header.ensures.files
          c.run_on.ensures.fixed c.in-Ok-run_on.ensures.files)
          each;
    }) c.list_files.ensures.ok

pub returns-clause-refused : goal.returns-clause-refused
returns-clause-refused c = err_more c.list_files.result (λ s is other. absurd (other is)) c.list_files.ensures.err

pub returns-clause-kept : goal.returns-clause-kept
returns-clause-kept c = err_more c.list_files.result (λ s is other. absurd (other is)) c.list_files.ensures.err

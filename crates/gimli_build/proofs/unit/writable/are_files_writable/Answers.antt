use Rattle.gimli_build.proofs
use Rattle.std.proofs.lemmas.List.{drop_all}
use proofs.Common.{refl, All-nil, texts_in, line_text, File, details, IsFileWritable}
use proofs.writing.Joined.{next_at, all_passed}
use proofs.unit.writable.are_files_writable.Goals as goal

pub loop-index-preserved : goal.loop-index-preserved
loop-index-preserved c =
    let texts = texts_in c.args.strings.now c.args.line_strings.now in
    let files = c.args.tables.now.files in
    let i = c.loop-index.index in
    let file : File = ((line_text c.file.result.0.now, c.file.result.1), details c.file.result.2.now) in
    record {
      left = all_passed (λ f. IsFileWritable c.args.writes_sources texts f.0.0 f.1) files i file
          (next_at _ i _ c.file.ensures) (c.if-not-is_file_writable.ensures.0 refl) c.loop-index.invariant.left;
    }

pub returns : goal.returns
returns c =
    let end = rw c.file_count-index-end.ensures.count at c.loop-index-test.false in
    (λ is. c.loop-index.invariant.left (rw (drop_all _ _ end) (All-nil _)), λ all. refl)

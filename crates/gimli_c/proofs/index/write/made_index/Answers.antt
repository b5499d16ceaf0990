use Rattle.std.proofs.Common.{◌^◌, refl, rules}
use Rattle.std.proofs.lemmas.Result.{err_from_is_err_and}
use Rattle.std.specs.Option.{option_map}
use Rattle.gimli_compilation.specs.Directories.{directory_for}
use Rattle.gimli_compilation.specs.Sections.{sections_of}
use Rattle.gimli_index.specs.declared.error.MakeError.TheVariants.{OutOfMemory}
use Rattle.gimli_c.specs.MadeIndex.{index_source, program}
use Rattle.gimli_c.proofs.MadeIndexes.{index_made}
use Rattle.gimli_c.specs.Location.{slice_seen}
use Rattle.gimli_c.proofs.index.write.made_index.Goals as goal

pub returns-in-Ok-write_index-clause-ok : goal.returns-in-Ok-write_index-clause-ok
returns-in-Ok-write_index-clause-ok c =
    let texts = c.args.texts.now in
    let options = c.args.options.now in
    let source =
    index_source
    (program c.args.section.now options.is_big options.address_size options.lowest texts.debug_line_str.slice.now
    texts.debug_str.slice.now)
    (sections_of slice_seen (2 ^ 64) c.args.sections.now) c.args.identity.now in
    record {
      units = c.in_ok-program.program.lookup;
      are_units = c.in_ok-program.ensures.ok texts.debug_line_str.slice.now texts.debug_str.slice.now;
      directory = λ line. option_map (λ s. s.slice.now) (directory_for c.in-Ok.compilations line);
      tells = c.in-Ok.ensures.ok;
      index =
          index_made source (λ line. option_map (λ s. s.slice.now) (directory_for c.in-Ok.compilations line))
          c.in_ok-program.program.lookup
          c.from-size.result
          c.new-bytes.result.items c.write_index.new.out.items (search rules) (search rules)
          (rw c.in_ok-program.ensures.paths at
          (rw c.set_compilations.ensures at c.in-Ok-write_index.ensures.index));
    }

pub returns-in_err-program-clause-err : goal.returns-in_err-program-clause-err
returns-in_err-program-clause-err c =
    let p = err_from_is_err_and c.from_residual.result c.from_residual.ensures.1 in
    rw (p.1, p.2) (OutOfMemory, c.in_err-program.ensures.err)

pub returns-in_default-clause-err : goal.returns-in_default-clause-err
returns-in_default-clause-err c = (OutOfMemory, refl)

-- A converted program can be written.
use Rattle.std.proofs.Common.{rules, ℕ}
use Rattle.std.specs.Prelude.{Option, Some, None}
use Rattle.gimli_bytes.specs.declared.address.Address.{Address}
use Rattle.gimli_bytes.specs.declared.address.Address.TheVariants.{Constant}
use Rattle.gimli_write.specs.convert.Conversion.{outcome_with}
use Rattle.gimli_write.specs.convert.DoneConversions.{DoneConversion}
use Rattle.gimli_write.specs.convert.Sources.{ToConvert, to_convert}
use Rattle.bench.proofs.convert.convert_and_write_with.Goals as goal

abbrev itself : ℕ → Option Address
itself a = Some (Constant a)

pub write-requires : goal.write-requires
write-requires g c =
    let source : ToConvert =
    to_convert g.R.Reader.seen c.args.no_texts c.args.no_texts c.args.from_program None None None in
    let done : DoneConversion = record {
      convert_address = itself;
      source = source;
      line_strings = c.args.line_strings.now;
      outcome = outcome_with (c.in_ok-program.program, c.in_ok-program._files) c.convert_program.new.line_strings;
      is = c.in_ok-program.ensures.outcome.converts itself (λ a r post. search rules);
    } in
    c.converted_programs_can_be_written.ensures done c.convert_program.new.strings

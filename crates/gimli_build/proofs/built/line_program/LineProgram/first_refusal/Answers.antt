use Rattle.gimli_build.proofs
use proofs.Common
use Common.{ap, sym, ◌∙◌, option_map}
use Rattle.gimli_build.specs.declared.unit.refusal.Refusal.TheVariants as part
use proofs.refusals.FirstRefusals.{at_directory, at_file, at_length, at_item, at_end}
use proofs.built.line_program.LineProgram.first_refusal.Goals as goal

pub returns-in-Some-first_directory : goal.returns-in-Some-first_directory
returns-in-Some-first_directory c = λ is_big.
    at_directory c.args.symbols is_big c.args.encoding c.args.self.now _ _ c.encoding_cause.ensures _ c.in_default.is
    c.first_directory.ensures _ c.in-Some-first_directory.is

pub returns-in-Some-first_file : goal.returns-in-Some-first_file
returns-in-Some-first_file c = λ is_big.
    at_file c.args.symbols is_big c.args.encoding c.args.self.now _ _ c.encoding_cause.ensures _ c.in_default.is
    c.first_directory.ensures _ c.in_default-first_directory.is c.first_file.ensures _ c.in-Some-first_file.is

pub returns-in-Some-header_length_cause : goal.returns-in-Some-header_length_cause
returns-in-Some-header_length_cause c = λ is_big.
    at_length c.args.symbols is_big c.args.encoding c.args.self.now _ _ c.encoding_cause.ensures _ c.in_default.is
    c.first_directory.ensures _ c.in_default-first_directory.is c.first_file.ensures _ c.in_default-first_file.is
    (c.header_length_cause.ensures _) _ c.in-Some-header_length_cause.is

pub returns-in-Some-first_item : goal.returns-in-Some-first_item
returns-in-Some-first_item c = λ is_big.
    at_item c.args.symbols is_big c.args.encoding c.args.self.now _ _ c.encoding_cause.ensures _ c.in_default.is
    c.first_directory.ensures _ c.in_default-first_directory.is c.first_file.ensures _ c.in_default-first_file.is
    (c.header_length_cause.ensures _) _ c.in_default-header_length_cause.is c.first_item.ensures _
    c.in-Some-first_item.is

pub returns-in-Some-unit_length_cause : goal.returns-in-Some-unit_length_cause
returns-in-Some-unit_length_cause c = λ is_big.
    let none = rw c.in_default-first_item.is at c.first_item.ensures in
    ap (option_map part.Header) (sym c.in-Some-unit_length_cause.is)
    ∙ at_end c.args.symbols is_big c.args.encoding c.args.self.now _ _ c.encoding_cause.ensures _ c.in_default.is
    c.first_directory.ensures _ c.in_default-first_directory.is c.first_file.ensures _ c.in_default-first_file.is
    (c.header_length_cause.ensures _) _ c.in_default-header_length_cause.is c.first_item.ensures _
    c.in_default-first_item.is (c.unit_length_cause.ensures c.args.symbols is_big _ none)

pub returns-in-None : goal.returns-in-None
returns-in-None c = λ is_big.
    let none = rw c.in_default-first_item.is at c.first_item.ensures in
    ap (option_map part.Header) (sym c.in-None.is)
    ∙ at_end c.args.symbols is_big c.args.encoding c.args.self.now _ _ c.encoding_cause.ensures _ c.in_default.is
    c.first_directory.ensures _ c.in_default-first_directory.is c.first_file.ensures _ c.in_default-first_file.is
    (c.header_length_cause.ensures _) _ c.in_default-header_length_cause.is c.first_item.ensures _
    c.in_default-first_item.is (c.unit_length_cause.ensures c.args.symbols is_big _ none)

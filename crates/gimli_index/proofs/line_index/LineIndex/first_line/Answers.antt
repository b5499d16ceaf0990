use Rattle.std.proofs.Common.{◌≡◌, ◌∙◌, ap, sym, arith}
use Rattle.gimli_lookup.specs.Components.{components}
use Rattle.gimli_index.specs.Order.{key_of, last_number}
use Rattle.gimli_index.specs.Views.{index_of}
use Rattle.gimli_index.proofs.Ordered.{are_few, found_line, found_place, no_line_left, none_before, none_of_name}
use Rattle.gimli_index.proofs.Ordered.{one_more}
use Rattle.gimli_index.proofs.line_index.LineIndex.first_line.Goals as goal

pub loop-number-init : goal.loop-number-init
loop-number-init c =
    let key_is : c.key_of.result ≡ key_of (last_number (components c.args.path.now)) c.args.asked =
    c.key_of.ensures.key ∙ ap (λ n. key_of n c.args.asked) c.requires.name in
    λ ordered k m less from.
    none_before c.args.path.now (index_of c.args.self.now) ordered c.args.asked c.first_at-number.result
    (λ j lower. omega (arith, c.first_at-number.ensures.before ordered j lower, key_is)) k m less from

pub returns-then-statement_name-name-clause-line : goal.returns-then-statement_name-name-clause-line
returns-then-statement_name-name-clause-line c =
    let key_is : c.key_of.result ≡ key_of (last_number (components c.args.path.now)) c.args.asked =
    c.key_of.ensures.key ∙ ap (λ n. key_of n c.args.asked) c.requires.name in
    λ ordered.
    none_of_name c.args.path.now (index_of c.args.self.now) ordered
    (are_few (index_of c.args.self.now) c.args.self.now.low c.are_bytes.ensures) c.args.asked c.loop-number.number
    (c.loop-number.invariant ordered) c.loop-number-test.true
    (λ same. c.if-statement_name-name.true (c.statement_name.ensures.name ∙ same ∙ sym c.requires.name))
    (omega
    (arith, c.first_at-number.ensures.after ordered c.loop-number.number (omega arith) c.loop-number-test.true, key_is))

pub loop-number-preserved : goal.loop-number-preserved
loop-number-preserved c = λ ordered k m less from.
    one_more c.args.path.now (index_of c.args.self.now) ordered
    (are_few (index_of c.args.self.now) c.args.self.now.low c.are_bytes.ensures) c.args.asked c.loop-number.number
    (c.loop-number.invariant ordered) c.loop-number-test.true
    (λ l le. c.in_default.ensures.line l le) k m less from

pub returns-in-Some-clause-line : goal.returns-in-Some-clause-line
returns-in-Some-clause-line c = λ ordered.
    found_line c.args.path.now (index_of c.args.self.now) ordered
    (are_few (index_of c.args.self.now) c.args.self.now.low c.are_bytes.ensures) c.args.asked c.loop-number.number
    (c.loop-number.invariant ordered) c.loop-number-test.true c.in-Some.line c.in-Some.ensures.line.0
    (omega (arith, c.in-Some.ensures.few)) c.in-Some.ensures.line.1

pub returns-in-Some-clause-place : goal.returns-in-Some-clause-place
returns-in-Some-clause-place c = λ ordered.
    found_place c.args.path.now (index_of c.args.self.now) ordered
    (are_few (index_of c.args.self.now) c.args.self.now.low c.are_bytes.ensures) c.args.asked c.loop-number.number
    (c.loop-number.invariant ordered) c.loop-number-test.true c.in-Some.line c.in-Some.ensures.line.0
    (omega (arith, c.in-Some.ensures.few)) c.in-Some.ensures.line.1

pub returns-clause-line : goal.returns-clause-line
returns-clause-line c = λ ordered.
    no_line_left c.args.path.now (index_of c.args.self.now) ordered
    (are_few (index_of c.args.self.now) c.args.self.now.low c.are_bytes.ensures) c.args.asked c.loop-number.number
    (c.loop-number.invariant ordered) (omega arith)

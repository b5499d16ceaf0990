use Rattle.std.proofs.Common.{◌≡◌, [], Some, arith, rules, slice_get}
use Rattle.gimli_index.specs.Made.{contents_of}
use Rattle.gimli_index.proofs.KeptStatements.{same_path, same_statement}
use Rattle.gimli_index.proofs.contents.Contents.is_repeated.Goals as goal

pub returns : goal.returns
returns c = λ same.
    let first = c.in-Some.first in
    let second = c.in-Some-source_of.second in
    let sources = c.args.self.now.sources.now in
    let line : c.args.last.line ≡ c.args.next.line = omega arith in
    let address : c.args.last.address ≡ c.args.next.address = omega arith in
    let one : slice_get sources c.args.last.source ≡ Some first = search rules in
    let other : slice_get sources c.args.next.source ≡ Some second = search rules in
    let is = c.is_same_path.ensures same in
    same_statement (contents_of c.args.self.now []) c.args.last c.args.next first second line address one other
    (same_path c.args.self.now.paths.now first second is.0 is.1 is.2)

use Rattle.std.proofs.Common.{◌≢◌, ◌∙◌, List, ℕ, drop, sym, subst}
use Rattle.std.specs.List.{AllByRecursion}
use Rattle.gimli_core.proofs.Taken.{read_of}
use Rattle.gimli_lookup.proofs.EndedStrings.{cut_ended, offset_is}
use Rattle.gimli_lookup.proofs.ended_strings.ended.Goals as goal

pub returns-in-Ok-from_u64 : goal.returns-in-Ok-from_u64
returns-in-Ok-from_u64 g c =
    let number = g.R.Offset.ReaderOffset.number in
    let bytes = c.deref.ensures.value ∙ c.in-Ok.ensures.ok in
    let none =
    subst (λ (xs : List ℕ). AllByRecursion (λ byte. byte ≢ 0) (drop c.ended_length.result xs)) bytes
    c.ended_length.ensures.rest in
    let count = offset_is number g.R.Offset.ReaderOffset.limit c.ended_length.result c.in-Ok-from_u64.length
    c.from_u64.result c.in-Ok-from_u64.is c.from_u64.ensures in
    record {
      ended =
          cut_ended (number c.in-Ok-from_u64.length) (g.R.Reader.seen c.args.section).bytes
          (g.R.Reader.seen c.truncate.new.self).bytes _ (read_of c.truncate.ensures)
          (subst (λ (n : ℕ). AllByRecursion (λ byte. byte ≢ 0) (drop n (g.R.Reader.seen c.args.section).bytes))
          (sym count)
          none);
    }

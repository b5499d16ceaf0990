use Rattle.std.specs.Prelude.{◌≡◌, ◌-◌, ◌<◌}
use Rattle.std.proofs.lemmas.Bool.{ltb-true}
use Rattle.gimli_bytes.proofs
use proofs.Common.{sym, arith, length, true}
use proofs.AscendingLemmas.{all_past}
use Rattle.gimli_bytes.specs.inside.Ascending.{is_past}
use proofs.relocatable_vec.are_past.Goals as goal

pub returns-in-Some : goal.returns-in-Some
returns-in-Some c = λ is ascending.
    let places = c.args.places.now in
    let r = c.in-Some.place.now in
    let past : is_past c.args.offset r ≡ true = grind (arith) in
    let some : 0 < length places = ltb-true _ _ (sym c.in-Some.ensures.item.0) in
    all_past places c.args.offset (length places - 1) r ascending (omega (arith, some))
    c.in-Some.ensures.item.1 past

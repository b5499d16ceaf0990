use Rattle.std.proofs.Common.{refl}
use Rattle.gimli_c.proofs.index.place.place_seen.Goals as goal

pub returns-clause-seen : goal.returns-clause-seen
returns-clause-seen c = λ bytes stands. record {
  address_is = refl;
  known = refl;
  line = refl;
  column = refl;
  is_stmt = refl;
  prologue_end = refl;
  unit = refl;
  path = c.path_seen-path.ensures bytes stands;
}

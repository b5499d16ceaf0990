use Rattle.std.proofs.Common.{ℕ, ap, sym, subst, refl, ◌∙◌, arith, inl, inr}
use Rattle.gimli_index.specs.Lines.{addresses_left, addresses_of}
use Rattle.gimli_index.specs.Meaning.{statements_of}
use Rattle.gimli_index.specs.Views.{index_of}
use Rattle.gimli_lookup.specs.Statements.{IsFirstLine}
use Rattle.gimli_c.specs.declared.status.TheConstants.{NO_CODE, NO_ROOM, OK}
use Rattle.gimli_c.proofs.Copied.{apart}
use Rattle.gimli_c.proofs.index.lines.gimli_line_proved_index_addresses_of.Goals as goal

pub put_addresses-requires : goal.put_addresses-requires
put_addresses-requires c = c.most.ensures

pub put_addresses-requires-2 : goal.put_addresses-requires-2
put_addresses-requires-2 c = c.most-2.ensures

pub returns-in-Err : goal.returns-in-Err
returns-in-Err c = record {
  found = λ ok. absurd (c.in-Err.ensures.other.0 ok);
  larger = λ no_room. absurd (c.in-Err.ensures.other.1 no_room);
  refused = λ _ _. inr c.in-Err.ensures.refused;
  kept = λ _. (refl, refl);
  no_count = λ _ _. refl;
}

pub returns-in_default : goal.returns-in_default
returns-in_default c = record {
  found = λ ok. absurd (apart NO_CODE OK refl ok);
  larger = λ no_room. absurd (apart NO_CODE NO_ROOM refl no_room);
  refused = λ _ _. inl (
    refl,
    record {
      index = index_of c.in-Ok.index;
      is = c.in-Ok.ensures.stored;
      none = c.in_default.ensures;
    },
  );
  kept = λ _. (refl, refl);
  no_count = λ _ _. refl;
}

pub returns-then-count-addresses : goal.returns-then-count-addresses
returns-then-count-addresses c =
    let found = addresses_of c.args.path.now (statements_of (index_of c.in-Ok.index)) in
    record {
      found = λ ok. absurd (apart NO_ROOM OK refl ok);
      larger = λ _. (
        c.in-Some.found.line,
        addresses_left c.in-Some.found,
        record {
          index = index_of c.in-Ok.index;
          is = c.in-Ok.ensures.stored;
          is_first = λ ordered. (c.in-Some.ensures ordered).0;
          addresses_are = λ ordered. (c.in-Some.ensures ordered).1;
        },
        omega (arith, c.put_addresses.ensures.count),
        c.put_addresses.ensures.count,
      );
      refused = λ _ small. absurd (small refl);
      kept = λ _. (refl, refl);
      no_count = λ _ small. absurd (small refl);
    }

pub returns : goal.returns
returns c =
    let found = addresses_of c.args.path.now (statements_of (index_of c.in-Ok.index)) in
    record {
      found = λ _. (
        addresses_left c.in-Some.found,
        record {
          index = index_of c.in-Ok.index;
          is = c.in-Ok.ensures.stored;
          is_first = λ ordered.
              subst (λ (line : ℕ). IsFirstLine found c.args.line line) (sym c.line.ensures)
              (c.in-Some.ensures ordered).0;
          addresses_are =
              λ ordered. (c.in-Some.ensures ordered).1 ∙ ap (λ (line : ℕ). found line) (sym c.line.ensures);
        },
        (omega (arith, c.put_addresses.ensures.count), c.put_addresses-2.ensures.put),
        c.put_addresses.ensures.count,
      );
      larger = λ no_room. absurd (apart OK NO_ROOM refl no_room);
      refused = λ some _. absurd (some refl);
      kept = λ some. absurd (some refl);
      no_count = λ some _. absurd (some refl);
    }

use Rattle.std.proofs.Common.{refl, arith}
use Rattle.gimli_c.proofs.file.put_bytes.Goals as goal

pub returns-then-bytes-room : goal.returns-then-bytes-room
returns-then-bytes-room c = record {
  found = λ ok. absurd cc;
  larger = λ _. record {
    whole = c.args.bytes.now;
    is = refl;
    longer = omega (arith, c.if-bytes-room.true);
    size_is = refl;
  };
  refused = λ _ small. absurd (small refl);
  kept = λ _. refl;
  no_size = λ _ small. absurd (small refl);
}

pub returns : goal.returns
returns c = record {
  found = λ _. record {
    whole = c.args.bytes.now;
    is = refl;
    put = (omega (arith, c.if-bytes-room.false), c.copy_bytes.ensures);
    size_is = refl;
  };
  larger = λ no_room. absurd cc;
  refused = λ some _. absurd (some refl);
  kept = λ some. absurd (some refl);
  no_size = λ some _. absurd (some refl);
}

use Rattle.std.proofs.Common.{◌<◌, ◌∙◌, [], List, ℕ, ap, inl, inr, length, refl, subst, sym}
use Rattle.std.specs.Prelude.{unwrap_or}
use Rattle.gimli_line.specs.header.Header.{directory_of}
use Rattle.gimli_c.specs.declared.status.TheConstants.{NO_ROOM, NO_SUCH_DIRECTORY, OK}
use Rattle.gimli_c.specs.FileSeen.{GivesDirectory}
use Rattle.gimli_c.specs.Location.{location}
use Rattle.gimli_c.specs.Written.{IsPut}
use Rattle.gimli_c.proofs.Copied.{apart}
use Rattle.gimli_c.proofs.directory.gimli_line_proved_read_directory.Goals as goal

pub returns-in-Err-clause-directory : goal.returns-in-Err-clause-directory
returns-in-Err-clause-directory c = record {
  found = λ ok. absurd (c.in-Err.ensures.other.0 ok);
  larger = λ no_room. absurd (c.in-Err.ensures.other.1 no_room);
  refused = λ _ _ memory. inr (c.in-Err.ensures.refused memory);
  kept = λ _. refl;
  no_text = λ _ _. refl;
}

pub returns-in-None-clause-directory : goal.returns-in-None-clause-directory
returns-in-None-clause-directory c = record {
  found = λ ok. absurd (apart NO_SUCH_DIRECTORY OK refl ok);
  larger = λ no_room. absurd (apart NO_SUCH_DIRECTORY NO_ROOM refl no_room);
  refused = λ _ _ _.
      inl (
        refl,
        record {
          header = c.in-Ok.program.meaning;
          unit = c.in-Ok.ensures.unit;
          none = ap (λ p. directory_of p.meaning c.args.number) (sym c.header.ensures) ∙ c.in-None.ensures.none;
        },
      );
  kept = λ _. refl;
  no_text = λ _ _. refl;
}

pub returns-clause-directory : goal.returns-clause-directory
returns-clause-directory c =
    let told = c.in-Some.ensures.some in
    let told_text = c.in-Some.told.0 in
    let p = location c.args.section.now c.args.is_big c.args.address_size c.args.offset in
    let seen : GivesDirectory p c.args.number told_text c.bytes_of.result.now = record {
      header = c.in-Ok.program.meaning;
      unit = c.in-Ok.ensures.unit;
      directory = told.directory;
      is_directory = ap (λ p. directory_of p.meaning c.args.number) (sym c.header.ensures) ∙ told.is_directory;
      seen_is = told.seen_is;
      bytes_are = c.bytes_of.ensures ∙ ap (λ text. unwrap_or text []) told.bytes_are;
    } in
    let copies = c.put_bytes.ensures in
    record {
      found = λ ok.
          let given = copies.found ok in (
            c.bytes_of.result.now,
            seen,
            subst (λ (xs : List ℕ). IsPut xs c.args.bytes.now c.put_bytes.new.room) given.is given.put,
          );
      larger = λ no_room.
          let given = copies.larger no_room in (
            c.bytes_of.result.now,
            seen,
            subst (λ (xs : List ℕ). length c.args.bytes.now < length xs) given.is given.longer,
          );
      refused = λ some other. absurd (copies.refused some other);
      kept = copies.kept;
      no_text = λ some other. absurd (copies.refused some other);
    }

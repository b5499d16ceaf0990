use Rattle.std.proofs.Common.{sym}
use Rattle.gimli_index.specs.Spans.{place_among}
use Rattle.gimli_index.specs.Views.{index_of}
use Rattle.gimli_c.proofs.index.ask.place_in.Goals as goal

pub returns : goal.returns
returns c = record {
  index = index_of c.args.index.now;
  is = c.requires.stored;
  place = place_among (index_of c.args.index.now).path_bytes c.in_ok-place.place;
  said = λ ascending. sym (c.in_ok-place.ensures.place ascending);
  seen_is = c.place_seen.ensures.seen c.args.stored.now c.requires.stands;
  end = c.in_ok-place.place.end;
  around = λ ascending. rw c.place_seen.ensures.range.0 (c.in_ok-place.ensures.range ascending);
  end_is = c.place_seen.ensures.range.1;
}

use Rattle.gimli_write.proofs.Common.{map, take, value_seen, IsText, OneByOne}
use Rattle.gimli_write.proofs.read_back.texts.Given as goal

abbrev pub invariant-loop-value : goal.invariant-loop-value
invariant-loop-value g l =
    OneByOne (IsText l.sections)
    (map (value_seen g.R.Reader.seen g.R.Offset.ReaderOffset.number) (take l.value-index l.values))
    (map (λ text. text.items) l.texts.items)

use Rattle.gimli_bytes.proofs
use proofs.Common.{sym, ap, ◌∙◌, true, false, get_or, offset_of, index_of_text, texts_of}
use proofs.TextLemmas.{is_there, index_there, place_within, offset_absent, with_text-there}
use proofs.str.Texts.offset_of.Goals as goal

pub returns-in-Some : goal.returns-in-Some
returns-in-Some c =
    let texts = texts_of c.self.inside.strings.keys in
    let t = c.args.text.now in
    let there = is_there c.self.inside.strings.keys t true c.in-Some.ensures.found in
    let at = index_there c.self.inside.strings.keys t c.in-Some.index c.in-Some.ensures.index in
    rw (← c.self.view_is) (c.index.ensures
    ∙ ap (λ i. get_or c.self.inside.offsets.items i c.index.result.now) at
    ∙ c.self.invariant.begins (index_of_text texts t) c.index.result.now (place_within texts t there)
    ∙ ap (λ us. offset_of us (index_of_text texts t)) (sym (with_text-there texts t there)))

pub returns-in-None : goal.returns-in-None
returns-in-None c =
    let texts = texts_of c.self.inside.strings.keys in
    let t = c.args.text.now in
    let absent = is_there c.self.inside.strings.keys t false c.in-None.ensures.found in
    rw (← c.self.view_is) (c.self.invariant.counted ∙ offset_absent texts t absent)

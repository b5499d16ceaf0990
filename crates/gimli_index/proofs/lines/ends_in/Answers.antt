use Rattle.std.proofs.Common.{ap, sym, ◌∙◌}
use Rattle.std.specs.List.{starts_with}
use Rattle.std.specs.Str.{bytes_eq}
use Rattle.gimli_lookup.specs.Components.{components}
use Rattle.gimli_index.specs.Lines.{begins_with}
use Rattle.gimli_index.proofs.lines.ends_in.Goals as goal

pub returns-in-Some : goal.returns-in-Some
returns-in-Some c =
    let own = components c.args.path.now in
    let some = sym c.new-asked.ensures ∙ c.in-Some.ensures in
    c.ends_with.ensures ∙ ap (starts_with bytes_eq own) some ∙ sym (ap (begins_with own) some)

pub returns-in-None : goal.returns-in-None
returns-in-None c = sym (ap (begins_with (components c.args.path.now)) (sym c.new-asked.ensures ∙ c.in-None.ensures.0))

use Rattle.std.proofs.Common.{◌≡◌, ◌∙◌, ◌∷◌, ◌+◌, nat_eq, false, sym, ap, subst, Some}
use Rattle.std.specs.Option.{option_map_or}
use Rattle.gimli_index.specs.inside.Order.{left_from}
use Rattle.gimli_index.proofs.LineStatements.{left_of_new, left_of_other, left_of_same}
use Rattle.gimli_index.proofs.addresses.Addresses.new_address.Goals as goal

pub returns-then-not-is_of : goal.returns-then-not-is_of
returns-then-not-is_of c =
    left_of_other c.args.self.now c.args.number c.requires (sym c.is_of.ensures ∙ c.if-not-is_of.true)

pub returns-then-is_last : goal.returns-then-is_last
returns-then-is_last c =
    let found = c.args.self.now in
    left_of_same found c.args.number c.requires (sym c.is_of.ensures ∙ c.if-not-is_of.false)
    (ap (λ a. option_map_or (nat_eq a) found.last false) (sym c.statement_address-address.ensures)
    ∙ sym c.is_last.ensures ∙ c.if-is_last.true)

pub returns : goal.returns
returns c =
    let found = c.args.self.now in
    subst
    (λ a. left_from found c.args.number ≡ a ∷ left_from (record found { last = Some a }) (c.args.number + 1))
    (sym c.statement_address-address.ensures)
    (left_of_new found c.args.number c.requires (sym c.is_of.ensures ∙ c.if-not-is_of.false)
    (ap (λ a. option_map_or (nat_eq a) found.last false) (sym c.statement_address-address.ensures)
    ∙ sym c.is_last.ensures ∙ c.if-is_last.false))

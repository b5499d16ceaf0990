-- The traps of items, one after the other.
use Rattle.std.specs.Prelude.{◌≡◌, ◌+◌, ◌-◌, ◌<◌, ◌≤◌, ◌∷◌, ◌++◌}
use Rattle.gimli_build.proofs
use proofs.Common
use Common.{ℕ, Bool, Some, None, List, [], length, get_or, take, drop, reverse, ap, ◌∙◌, arith, reverse-append}
use Common.{flat_map}
use Common.{suc, sym, option_map, option_to_list, Built, base_of, BuiltItem}
use Rattle.std.specs.List.{range_with_len}
use Rattle.gimli_build.specs.Traps.{begins_unset, item_trap, trap_at, indexed_trap, traps_from}
use Rattle.gimli_build.specs.declared.built.trap.Trap.{Trap}
use proofs.writing.ItemsWritten.{taken_next}
use proofs.writing.Joined.{next_left}

-- ---- an item

pub past_more : (items : List BuiltItem) (i : ℕ) (item : BuiltItem) → i < length items → item ≡ get_or items i item
    → reverse (take (i + 1) items) ≡ item ∷ reverse (take i items)
past_more items i item lt is = rw (taken_next _ i _ lt is) (reverse-append (take i items) (item ∷ []))

pub at_item : (p : Built) (items : List BuiltItem) (i : ℕ) (item : BuiltItem) (base : ℕ) (begins : Bool)
    → items ≡ p.items
    → i < length items
    → item ≡ get_or items i item → base ≡ base_of (reverse (take i items))
    → begins ≡ begins_unset (reverse (take i items))
    → trap_at p i ≡ item_trap p base begins item (drop (i + 1) items)
at_item p items i item base begins same lt is base_is begins_is = grind (arith, next_left)

-- ---- a walk

-- those from an item on are its own, and those from the next one on
traps_step : (p : Built) (i : ℕ) → i < length p.items → traps_from p i ≡ indexed_trap p i ++ traps_from p (i + 1)
traps_step p i lt =
    let left : length p.items - i ≡ suc (length p.items - (i + 1)) = omega (arith, lt) in
    ap (λ k. flat_map (indexed_trap p) (range_with_len i k)) left

pub traps_passed : (p : Built) (i : ℕ) → i < length p.items → trap_at p i ≡ None → traps_from p (i + 1) ≡ traps_from p i
traps_passed p i lt none =
    sym (traps_step p i lt ∙ ap (λ t. option_to_list (option_map (λ trap. (i, trap)) t) ++ traps_from p (i + 1)) none)

pub traps_found : (p : Built) (i : ℕ) (trap : Trap) → i < length p.items → trap_at p i ≡ Some trap
    → traps_from p i ≡ (i, trap) ∷ traps_from p (i + 1)
traps_found p i trap lt some =
    traps_step p i lt ∙ ap (λ t. option_to_list (option_map (λ trap. (i, trap)) t) ++ traps_from p (i + 1)) some

-- none is left past the items
pub traps_end : (p : Built) (i : ℕ) → length p.items ≤ i → traps_from p i ≡ []
traps_end p i past =
    let left : length p.items - i ≡ 0 = omega (arith, past) in
    ap (λ k. flat_map (indexed_trap p) (range_with_len i k)) left

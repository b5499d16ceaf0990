use Rattle.std.proofs.Common.{refl, arith}
use Rattle.std.specs.Option.{option_map}
use Rattle.gimli_compilation.specs.Directories.{directory_for}
use Rattle.gimli_c.specs.Listed.{IsCompDirAnswer}
use Rattle.gimli_c.proofs.Indexes.{all_answered, answered_on, none_answered, one_more_answered}
use Rattle.gimli_c.proofs.Listings.{comp_dir_on}
use Rattle.gimli_c.proofs.comp_dir.list_comp_dirs.Goals as goal

pub loop-slot-init : goal.loop-slot-init
loop-slot-init c = none_answered _ c.args.directories.now

pub loop-slot-preserved : goal.loop-slot-preserved
loop-slot-preserved c =
    let old = c.loop-slot.texts.items in
    let now = c.comp_dir_listed.new.texts.items in
    let more = c.in_ok-directories.ensures.more in
    one_more_answered
    (IsCompDirAnswer (λ line. option_map (λ s. s.slice.now) (directory_for c.args.compilations.now line)) now)
    c.args.directories.now c.loop-slot.directories c.loop-slot.slot
    (answered_on
    (IsCompDirAnswer (λ line. option_map (λ s. s.slice.now) (directory_for c.args.compilations.now line)) old)
    (IsCompDirAnswer (λ line. option_map (λ s. s.slice.now) (directory_for c.args.compilations.now line)) now)
    (comp_dir_on old more.0 now more.1
    (λ line. option_map (λ s. s.slice.now) (directory_for c.args.compilations.now line)))
    c.loop-slot.slot c.args.directories.now c.loop-slot.directories c.loop-slot.invariant)
    _ _ (omega arith) (c.in_ok-directories.ensures.ok _ refl)

pub returns-clause-ok : goal.returns-clause-ok
returns-clause-ok c =
    all_answered
    (IsCompDirAnswer (λ line. option_map (λ s. s.slice.now) (directory_for c.args.compilations.now line))
    c.loop-slot.texts.items)
    c.args.directories.now c.loop-slot.directories c.loop-slot.slot c.loop-slot.invariant (omega arith)

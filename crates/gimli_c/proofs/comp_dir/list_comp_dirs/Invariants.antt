use Rattle.std.specs.Option.{option_map}
use Rattle.gimli_compilation.specs.Directories.{directory_for}
use Rattle.gimli_c.specs.Listed.{IsCompDirAnswer}
use Rattle.gimli_c.proofs.Indexes.{AreAnswered}
use Rattle.gimli_c.proofs.comp_dir.list_comp_dirs.Given as goal

abbrev pub invariant-loop-slot : goal.invariant-loop-slot
invariant-loop-slot l =
    AreAnswered
    (IsCompDirAnswer (λ line. option_map (λ s. s.slice.now) (directory_for l.compilations line)) l.texts.items) l.slot
    l.initial.directories l.directories

-- Worked paths: where debug files are looked for, computed from the definitions.
use Rattle.std.proofs.Common.{◌≡◌, [], ◌∷◌, Some, None, refl}
use Rattle.std.specs.Prelude.{codes}
use Rattle.hex.specs.Hex.{encode_with}
use Rattle.debug_files.specs.DebugPaths.{folder, debug_file_paths}

-- GDB's documentation: a build id of abcdef1234, and `ls` in /usr/bin with the link ls.debug
pub both : debug_file_paths (codes "/usr/lib/debug") (codes "/usr/bin/ls")
    (Some (0xab ∷ 0xcd ∷ 0xef ∷ 0x12 ∷ 0x34 ∷ [])) (Some (codes "ls.debug"))
    ≡ codes "/usr/lib/debug/.build-id/ab/cdef1234.debug" ∷ codes "/usr/bin/ls.debug" ∷ codes "/usr/bin/.debug/ls.debug"
    ∷ codes "/usr/lib/debug/usr/bin/ls.debug" ∷ []
unfolding encode_with
both = refl

-- another directory, relative to where the program runs
pub elsewhere : debug_file_paths (codes "d") (codes "/a/b") (Some (0x0 ∷ 0x1 ∷ [])) (Some (codes "b.debug"))
    ≡ codes "d/.build-id/00/01.debug" ∷ codes "/a/b.debug" ∷ codes "/a/.debug/b.debug" ∷ codes "d/a/b.debug" ∷ []
unfolding encode_with
elsewhere = refl

-- a path that isn't absolute
pub relative : debug_file_paths (codes "/d") (codes "out/a") None (Some (codes "a.debug"))
    ≡ codes "out/a.debug" ∷ codes "out/.debug/a.debug" ∷ []
relative = refl

pub without_folder : debug_file_paths (codes "/d") (codes "a") None (Some (codes "a.debug"))
    ≡ codes "a.debug" ∷ codes ".debug/a.debug" ∷ []
without_folder = refl

pub at_the_root : folder (codes "/a") ≡ codes "/"
at_the_root = refl

-- no build id has no bytes
pub nothing_known : debug_file_paths (codes "/d") (codes "a") (Some []) None ≡ []
nothing_known = refl

use Rattle.std.proofs.Common.{rules, ◌≡◌, ◌≢◌, ◌∙◌, sym, ap, List, ℕ, Result, Ok, Err, IfOk}
use Rattle.std.specs.Option.{option_copied}
use Rattle.gimli_line.specs.header.File.{file_seen}
use Rattle.gimli_lookup.specs.Paths.{file_path}
use Rattle.gimli_lookup.specs.Strings.{strings}
use Rattle.gimli_lookup.specs.declared.path_error.PathError.{PathError}
use Rattle.gimli_lookup.specs.declared.path_error.PathError.TheVariants.{OutOfMemory}
use Rattle.gimli_lookup.specs.inside.Paths.{paths_in}
use Rattle.gimli_lookup.proofs.ended_strings.EndedStrings.of_file.Goals as goal

pub file_fault-requires-clause-fault : goal.file_fault-requires-clause-fault
file_fault-requires-clause-fault g c =
    let f = file_seen g.R.Reader.seen g.R.Offset.ReaderOffset.number c.args.file.now in
    let other : c.in-Err.e ≢ OutOfMemory = search rules in
    (option_copied c.args.known, ap (λ p. file_path p f) (sym c.new.ensures) ∙ c.in-Err.ensures.err other)

pub returns-in-Err-clause-err : goal.returns-in-Err-clause-err
returns-in-Err-clause-err g c =
    let seen = g.R.Reader.seen in
    let known = option_copied c.args.known in
    let f = file_seen seen g.R.Offset.ReaderOffset.number c.args.file.now in
    λ other.
    ap (λ s. file_path (paths_in (strings seen s) c.args.header.now.meaning known) f) (sym c.self.view_is)
    ∙ c.file_fault.ensures known

by_both : {V : Type 0} (items : V → List ℕ) (result : Result V PathError) (ended whole : Result (List ℕ) PathError)
    → ((path : List ℕ) → ended ≡ Ok path → whole ≡ Ok path) → IfOk result (λ path. ended ≡ Ok (items path))
    → IfOk result (λ path. whole ≡ Ok (items path))
by_both items (Ok path) ended whole too is = too (items path) is
by_both items (Err e) ended whole too is = is

pub returns-in_default-2-clause-ok : goal.returns-in_default-2-clause-ok
returns-in_default-2-clause-ok g c =
    let seen = g.R.Reader.seen in
    let h = c.args.header.now.meaning in
    let known = option_copied c.args.known in
    let f = file_seen seen g.R.Offset.ReaderOffset.number c.args.file.now in
    let sections = c.self.inside.sections in
    by_both (λ path. path.items) c.of_file.result (file_path c.new.result f)
    (file_path (paths_in (strings seen c.args.self.now) h known) f)
    (λ path is.
    ap (λ s. file_path (paths_in (strings seen s) h known) f) (sym c.self.view_is)
    ∙ c.paths_end_alike.ensures (strings seen sections.whole) (strings seen sections.ended) h known f path
    c.self.invariant
    (ap (λ p. file_path p f) (sym c.new.ensures) ∙ is))
    c.of_file.ensures.ok

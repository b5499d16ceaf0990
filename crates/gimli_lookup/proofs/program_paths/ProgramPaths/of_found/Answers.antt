use Rattle.std.proofs.Common.{◌≡◌, ◌≢◌, ◌<◌, ℕ, zero, suc, List, [], ◌∷◌, length, slice_index_or, arith, Option, Some}
use Rattle.std.proofs.Common.{Result, Ok, Err, IfOk, IfErr, sym, ap, subst, ◌∙◌, slice_get}
use Rattle.std.proofs.lemmas.Bool.{ltb-true}
use Rattle.std.specs.Option.{option_map_or}
use Rattle.gimli_lookup.specs.Paths.{row_path}
use Rattle.gimli_lookup.specs.ProgramPaths.{found_in, found_path, texts_seen, unit_paths, Texts}
use Rattle.gimli_lookup.specs.Section.{KeptHeader, ListedUnit}
use Rattle.gimli_lookup.specs.declared.path_error.PathError.{PathError}
use Rattle.gimli_lookup.specs.declared.path_error.PathError.TheVariants.{InvalidFileIndex, OutOfMemory}
use Rattle.gimli_lookup.specs.declared.section_lookup.CoveringRows.{CoveringRows}
use Rattle.gimli_lookup.proofs.program_paths.ProgramPaths.of_found.Goals as goal

got : {X : Type 0} (xs : List X) (i : ℕ) (x : X) → i < length xs → x ≡ slice_index_or xs i x → slice_get xs i ≡ Some x
got [] i x less is = absurd (omega (arith, less))
got (y ∷ xs) zero x less is = ap (λ z. Some z) (sym is)
got (y ∷ xs) (suc i) x less is = got xs i x (omega (arith, less)) is

same_path : (t : Texts) (units : List ListedUnit) (f : CoveringRows) (u : ListedUnit) (h : KeptHeader) (offset : ℕ)
    → slice_get units f.unit ≡ Some u → u.header ≡ Some h → offset ≡ u.offset
    → found_path t units f ≡ row_path (unit_paths t offset h.meaning) f.row
same_path t units f u h offset there header is =
    let none : Result (List ℕ) PathError = Err (InvalidFileIndex f.row.file) in
    ap (λ (o : Option ListedUnit). option_map_or (found_in t f) o none) there
    ∙ ap
    (λ (o : Option KeptHeader). option_map_or (λ (h : KeptHeader). row_path (unit_paths t u.offset h.meaning) f.row) o
    none)
    header
    ∙ ap (λ (o : ℕ). row_path (unit_paths t o h.meaning) f.row) (sym is)

pub returns-clause-ok : goal.returns-clause-ok
returns-clause-ok g c =
    let t = texts_seen g.R.Reader.seen c.args.self.now in
    let h = c.in-Some-header.header.now in
    let kept : KeptHeader = record { meaning = h.meaning; layout = h.layout } in
    let there : slice_get c.args.units.now c.args.found.now.unit
    ≡ Some c.in-Some.unit.now = got c.args.units.now c.args.found.now.unit c.in-Some.unit.now
    (ltb-true _ _ (sym c.in-Some.ensures.lookup.0)) c.in-Some.ensures.lookup.1 in
    let same =
    same_path t c.args.units.now c.args.found.now c.in-Some.unit.now kept (g.R.Offset.ReaderOffset.number h.offset.0)
    there c.in-Some-header.ensures.header c.in-Some-header.ensures.offset in
    subst (λ (x : Result (List ℕ) PathError). IfOk c.of_row.result (λ path. x ≡ Ok path.items)) (sym same)
    c.of_row.ensures.ok

pub returns-clause-err : goal.returns-clause-err
returns-clause-err g c =
    let t = texts_seen g.R.Reader.seen c.args.self.now in
    let h = c.in-Some-header.header.now in
    let kept : KeptHeader = record { meaning = h.meaning; layout = h.layout } in
    let there : slice_get c.args.units.now c.args.found.now.unit
    ≡ Some c.in-Some.unit.now = got c.args.units.now c.args.found.now.unit c.in-Some.unit.now
    (ltb-true _ _ (sym c.in-Some.ensures.lookup.0)) c.in-Some.ensures.lookup.1 in
    let same =
    same_path t c.args.units.now c.args.found.now c.in-Some.unit.now kept (g.R.Offset.ReaderOffset.number h.offset.0)
    there c.in-Some-header.ensures.header c.in-Some-header.ensures.offset in
    subst (λ (x : Result (List ℕ) PathError). IfErr c.of_row.result (λ e. e ≢ OutOfMemory → x ≡ Err e)) (sym same)
    c.of_row.ensures.err

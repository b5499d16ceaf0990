use Rattle.std.specs.Prelude.{◌+◌, ◌-◌, ◌^◌}
use Rattle.gimli_bytes.specs.Number.{uleb}
use Rattle.gimli_build.proofs
use proofs.Common.{ℕ, ap, sym, ◌∙◌, length, length-map, min, sum_by, line_text, text_size, first_form}
use proofs.spellings.Version5TableSpellings.{first_form_small}
use proofs.sizes.TableSizes.{directory-formats-size, table-sum}
use proofs.tables.sizes.directory_table_size.Goals as goal

pub returns : goal.returns
returns c =
    let p = c.args.program.now in
    let m : ℕ = 2 ^ 64 - 1 in
    let texts = c.directories-directories.result.now in
    let same = c.directories-directories.ensures ∙ c.tables.ensures.directories in
    let number = c.unsigned_size-front.ensures.size
    ∙ ap (λ (n : ℕ). length (uleb n)) (sym (length-map texts line_text) ∙ ap length same) in
    let front = directory-formats-size (first_form p.directories) (first_form_small _) in
    let entries = sum_by (text_size p.encoding.format) p.directories in
    c.saturating_add.ensures
    ∙ (λ i. min (c.texts_size.ensures i + (3 + number i)) m)
    ∙ (λ i.
    min (min (sum_by (text_size (c.format.ensures i)) (same i)) m + (3 + length (uleb (length p.directories)))) m)
    ∙ table-sum 3 (length (uleb (length p.directories))) entries
    ∙ ap (λ (n : ℕ). min (n + length (uleb (length p.directories)) + entries) m) (sym front)

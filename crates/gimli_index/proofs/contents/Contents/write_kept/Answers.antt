use Rattle.std.proofs.Common.{◌≡◌, ◌∙◌, ◌++◌, ℕ, List, map, refl, sym, ap, subst}
use Rattle.std.specs.Prelude.{All}
use Rattle.gimli_index.specs.Contents.{Fits, HasColumn, index_bytes}
use Rattle.gimli_index.specs.Made.{contents_of}
use Rattle.gimli_index.specs.declared.contents.Contents.{Contents as Parts}
use Rattle.gimli_index.specs.declared.contents.Entry.{Entry}
use Rattle.gimli_index.specs.inside.Kept.{entry_by, numbers_from, statement_by, IsKeptWritten}
use Rattle.gimli_index.proofs.KeptSources.{both_ok, still_columns, still_few}
use Rattle.gimli_index.proofs.contents.Contents.write_kept.Goals as goal

pub write_all-requires-clause-counts : goal.write_all-requires-clause-counts
write_all-requires-clause-counts c =
    let self = c.args.self.now in
    let named = c.args.named.now in
    let own = numbers_from 0 named in
    let parts : Parts = record {
      address_size = self.address_size;
      sources = c.as_slice-3.result;
      entries = c.as_slice-4.result;
      statements = c.as_slice-5.result;
      paths = self.paths;
      identity = self.identity;
    } in
    still_few self parts c.args.statements.now named own c.requires.counts
    (c.as_slice-3.ensures.value ∙ c.in_ok-sources.ensures)
    (c.as_slice-4.ensures.value ∙ c.in_ok-entries.ensures
    ∙ ap (λ (ns : List ℕ). map (entry_by ns) self.entries.now) (c.as_slice.ensures.value ∙ c.in_ok-numbers.ensures))
    (c.as_slice-5.ensures.value ∙ c.in_ok-lines.ensures
    ∙ ap (λ (ns : List ℕ). map (statement_by ns) c.args.statements.now)
    (c.as_slice-2.ensures.value ∙ c.in_ok-numbers.ensures))
    refl refl

pub write_all-requires-clause-columns : goal.write_all-requires-clause-columns
write_all-requires-clause-columns c =
    let self = c.args.self.now in
    let own = numbers_from 0 c.args.named.now in
    subst (λ (es : List Entry). All (λ (e : Entry). HasColumn e.place) es)
    (sym (c.as_slice-4.ensures.value ∙ c.in_ok-entries.ensures
    ∙ ap (λ (ns : List ℕ). map (entry_by ns) self.entries.now)
    (c.as_slice.ensures.value ∙ c.in_ok-numbers.ensures)))
    (still_columns own self.entries.now c.requires.columns)

pub returns : goal.returns
returns c =
    let self = c.args.self.now in
    let named = c.args.named.now in
    let statements = c.args.statements.now in
    let parts : Parts = record {
      address_size = self.address_size;
      sources = c.as_slice-3.result;
      entries = c.as_slice-4.result;
      statements = c.as_slice-5.result;
      paths = self.paths;
      identity = self.identity;
    } in
    let made = contents_of parts parts.statements.now in
    let old = c.args.out.now.items in
    let new = c.write_all.new.out.items in
    both_ok c.write_all.result (new ≡ old ++ index_bytes made) (Fits made) (IsKeptWritten self statements named old new)
    c.write_all.ensures.bytes c.write_all.ensures.fits
    (λ bytes fits. record {
      contents = made;
      bytes = bytes;
      fits = fits;
      sources = c.as_slice-3.ensures.value ∙ c.in_ok-sources.ensures;
      entries =
          c.as_slice-4.ensures.value ∙ c.in_ok-entries.ensures
          ∙ ap (λ (ns : List ℕ). map (entry_by ns) self.entries.now)
          (c.as_slice.ensures.value ∙ c.in_ok-numbers.ensures);
      statements =
          c.as_slice-5.ensures.value ∙ c.in_ok-lines.ensures
          ∙ ap (λ (ns : List ℕ). map (statement_by ns) statements)
          (c.as_slice-2.ensures.value ∙ c.in_ok-numbers.ensures);
      paths = refl;
      address_size = refl;
      identity = refl;
    })

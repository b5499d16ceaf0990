use Rattle.std.proofs.Common.{◌≡◌, ◌<◌, ◌≤◌, ◌+◌, ◌^◌, ◌++◌, ℕ, List, ap, arith, refl, subst, sym, ◌∙◌}
use Rattle.std.specs.Prelude.{flat_map, All}
use Rattle.gimli_index.specs.Contents.{entry_bytes, header_bytes, source_bytes, start_bytes, statement_bytes}
use Rattle.gimli_index.specs.Made.{all_addresses, base_for, contents_of, greatest, least, size_for}
use Rattle.gimli_index.specs.declared.contents.Entry.{Entry}
use Rattle.gimli_index.specs.declared.contents.Statement.{Statement}
use Rattle.gimli_index.specs.declared.header.StartSize.{StartSize}
use Rattle.gimli_index.proofs.AddressEnds.{among_low, among_near, entries_low, entries_near}
use Rattle.gimli_index.proofs.Puts.{then_put}
use Rattle.gimli_index.proofs.contents.Contents.write_parts.Goals as goal

-- the size and the base that were worked out
size_known : (first last : ℕ) (addresses : List ℕ) (size : StartSize) → size ≡ size_for first last
    → first ≡ least addresses → last ≡ greatest addresses
    → size ≡ size_for (least addresses) (greatest addresses)
size_known first last addresses size is first_is last_is =
    is ∙ ap (λ n. size_for n last) first_is ∙ ap (λ n. size_for (least addresses) n) last_is

base_known : (first base : ℕ) (addresses : List ℕ) (size : StartSize) → base ≡ base_for size first
    → first ≡ least addresses → base ≡ base_for size (least addresses)
base_known first base addresses size is first_is = is ∙ ap (λ n. base_for size n) first_is

pub put_starts-requires-clause-base : goal.put_starts-requires-clause-base
put_starts-requires-clause-base c =
    let entries = c.args.self.now.entries.now in
    let statements = c.args.self.now.statements.now in
    let addresses = all_addresses entries statements in
    let size = c.size_for-size.result in
    subst (λ (base : ℕ). All (λ (e : Entry). base ≤ e.address) entries)
    (sym (base_known c.least_address-first.result c.base_for-base.result addresses size c.base_for-base.ensures
    c.least_address-first.ensures))
    (entries_low entries statements size)

pub put_starts-requires-clause-near : goal.put_starts-requires-clause-near
put_starts-requires-clause-near c =
    let entries = c.args.self.now.entries.now in
    let statements = c.args.self.now.statements.now in
    let addresses = all_addresses entries statements in
    let size = c.size_for-size.result in
    let small : greatest addresses < 2 ^ 64 = omega (arith, c.greatest_address.ensures) in
    λ four.
    subst (λ (base : ℕ). All (λ (e : Entry). e.address < base + 2 ^ 32) entries)
    (sym (base_known c.least_address-first.result c.base_for-base.result addresses size c.base_for-base.ensures
    c.least_address-first.ensures))
    (entries_near entries statements size
    (size_known c.least_address-first.result c.greatest_address.result addresses size c.size_for-size.ensures
    c.least_address-first.ensures c.greatest_address.ensures) four small)

pub put_statements-requires-clause-base : goal.put_statements-requires-clause-base
put_statements-requires-clause-base c =
    let entries = c.args.self.now.entries.now in
    let statements = c.args.self.now.statements.now in
    let addresses = all_addresses entries statements in
    let some = c.args.statements.now in
    let size = c.size_for-size.result in
    subst (λ (base : ℕ). All (λ (s : Statement). base ≤ s.address) some)
    (sym (base_known c.least_address-first.result c.base_for-base.result addresses size c.base_for-base.ensures
    c.least_address-first.ensures))
    (among_low entries statements size some c.requires.within)

pub put_statements-requires-clause-near : goal.put_statements-requires-clause-near
put_statements-requires-clause-near c =
    let entries = c.args.self.now.entries.now in
    let statements = c.args.self.now.statements.now in
    let addresses = all_addresses entries statements in
    let some = c.args.statements.now in
    let size = c.size_for-size.result in
    let small : greatest addresses < 2 ^ 64 = omega (arith, c.greatest_address.ensures) in
    λ four.
    subst (λ (base : ℕ). All (λ (s : Statement). s.address < base + 2 ^ 32) some)
    (sym (base_known c.least_address-first.result c.base_for-base.result addresses size c.base_for-base.ensures
    c.least_address-first.ensures))
    (among_near entries statements size some c.requires.within
    (size_known c.least_address-first.result c.greatest_address.result addresses size c.size_for-size.ensures
    c.least_address-first.ensures c.greatest_address.ensures) four small)

pub returns-clause-bytes : goal.returns-clause-bytes
returns-clause-bytes c =
    let ordered = c.args.statements.now in
    let contents = contents_of c.args.self.now ordered in
    let entries = c.args.self.now.entries.now in
    let addresses = all_addresses entries c.args.self.now.statements.now in
    let size = contents.start_size in
    let base = contents.base in
    let size_is : c.size_for-size.result ≡ size =
    size_known c.least_address-first.result c.greatest_address.result addresses c.size_for-size.result
    c.size_for-size.ensures c.least_address-first.ensures c.greatest_address.ensures in
    let base_is : c.base_for-base.result ≡ base =
    base_known c.least_address-first.result c.base_for-base.result addresses c.size_for-size.result
    c.base_for-base.ensures c.least_address-first.ensures
    ∙ ap (λ (s : StartSize). base_for s (least addresses)) size_is in
    let old = c.args.out.now.items in
    let x1 = c.put_header.new.out.items in
    let x2 = c.put_sources.new.out.items in
    let x3 = c.put_starts.new.out.items in
    let x4 = c.put_entries.new.out.items in
    let x5 = c.put_statements.new.out.items in
    let x6 = c.extend_from_slice.new.self.items in
    let x7 = c.extend_from_slice-2.new.self.items in
    let header = header_bytes contents in
    let sources = flat_map (source_bytes contents.paths) contents.sources in
    let starts = flat_map (start_bytes size base) entries in
    let places = flat_map entry_bytes entries in
    let lines = flat_map (statement_bytes size base) ordered in
    let put_starts : x3 ≡ x2 ++ starts =
    c.in_ok-put_starts.ensures.bytes
    ∙ ap (λ (s : StartSize). x2 ++ flat_map (start_bytes s c.base_for-base.result) entries) size_is
    ∙ ap (λ (b : ℕ). x2 ++ flat_map (start_bytes size b) entries) base_is in
    let put_lines : x5 ≡ x4 ++ lines =
    c.in_ok-put_statements.ensures.bytes
    ∙ ap (λ (s : StartSize). x4 ++ flat_map (statement_bytes s c.base_for-base.result) ordered) size_is
    ∙ ap (λ (b : ℕ). x4 ++ flat_map (statement_bytes size b) ordered) base_is in
    let put_header : x1 ≡ old ++ header =
    c.in_ok-put_header.ensures ordered refl
    ∙ ap (λ (bs : List ℕ). bs ++ header) c.reserve_exact.ensures.items in
    let put_sources : x2 ≡ x1 ++ sources = c.in_ok-put_sources.ensures.bytes contents.paths c.requires.names in
    then_put old (header ++ sources ++ starts ++ places ++ lines ++ contents.paths) contents.identity x6 x7
    (then_put old (header ++ sources ++ starts ++ places ++ lines) contents.paths x5 x6
    (then_put old (header ++ sources ++ starts ++ places) lines x4 x5
    (then_put old (header ++ sources ++ starts) places x3 x4
    (then_put old (header ++ sources) starts x2 x3
    (then_put old header sources x1 x2 put_header put_sources) put_starts)
    c.in_ok-put_entries.ensures.bytes)
    put_lines)
    c.in_ok-extend_from_slice.ensures.items)
    c.in_ok-extend_from_slice-2.ensures.items

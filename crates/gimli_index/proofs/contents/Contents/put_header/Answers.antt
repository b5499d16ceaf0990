use Rattle.std.proofs.Common.{◌≡◌, ◌++◌, ℕ, List, length, ap, ◌∙◌}
use Rattle.gimli_index.specs.Header.{magic, size_of}
use Rattle.gimli_index.specs.Contents.{le_bytes}
use Rattle.gimli_index.specs.Made.{contents_of}
use Rattle.gimli_index.proofs.Puts.{then_put}
use Rattle.gimli_index.proofs.contents.Contents.put_header.Goals as goal

pub returns : goal.returns
returns c =
    λ order count.
    let contents = contents_of c.args.self.now order in
    let old = c.args.out.now.items in
    let first = c.put_magic.new.out.items in
    let second = c.put_sizes.new.out.items in
    let third = c.put_words.new.out.items in
    let fourth = c.put_words-2.new.out.items in
    let last = c.put_words-3.new.out.items in
    let address = le_bytes 2 contents.address_size in
    let start : List ℕ = magic ++ le_bytes 4 2 in
    let sizes : List ℕ = address ++ le_bytes 2 (size_of contents.start_size) ++ le_bytes 8 contents.base in
    let counts : List ℕ = le_bytes 4 (length contents.entries) ++ le_bytes 4 (length contents.sources) in
    let more : List ℕ = le_bytes 4 (length contents.paths) ++ le_bytes 4 (length contents.identity) in
    let put_order : last ≡ fourth ++ (le_bytes 4 (length order) ++ le_bytes 4 0) =
    c.in_ok-put_words-3.ensures ∙ ap (λ n. fourth ++ (le_bytes 4 n ++ le_bytes 4 0)) count in
    let sized : second ≡ first ++ sizes =
    c.in_ok-put_sizes.ensures
    ∙ ap (λ s. first ++ (address ++ le_bytes 2 (size_of s) ++ le_bytes 8 c.args.base)) c.requires.size
    ∙ ap (λ b. first ++ (address ++ le_bytes 2 (size_of contents.start_size) ++ le_bytes 8 b)) c.requires.base in
    then_put old (start ++ sizes ++ counts ++ more) (le_bytes 4 (length order) ++ le_bytes 4 0) fourth last
    (then_put old (start ++ sizes ++ counts) more third fourth
    (then_put old (start ++ sizes) counts second third
    (then_put old start sizes first second c.in_ok-put_magic.ensures sized) c.in_ok-put_words.ensures)
    c.in_ok-put_words-2.ensures)
    put_order

use Rattle.std.proofs.Common.{◌≡◌, sym, ap, ◌∙◌, ℕ, ◌-◌, List, true, false, not, nat_eq, nat_lt, if◌then◌else◌, Err}
use Rattle.std.proofs.Common.{length, take, drop}
use Rattle.std.specs.Prelude.{codes}
use Rattle.std.specs.List.{starts_with}
use Rattle.std.proofs.lemmas.Bool.{le-ltb}
use Rattle.std.proofs.lemmas.List.{take_rest}
use Rattle.gimli_core.specs.Numbers.{value_of}
use Rattle.elf_sections.specs.Compression.{stream_bytes, uncompressed_old}
use Rattle.elf_sections.specs.declared.error.ElfError.TheVariants.{CompressionHeaderCut, NotZlib}
use Rattle.elf_sections.proofs.compression.uncompressed_old.Goals as goal

-- of the first 12 bytes and the rest
old_stream : (limit size : ℕ) (bytes stream : List ℕ) → nat_lt (length bytes) 12 ≡ false
    → starts_with nat_eq bytes (codes "ZLIB") ≡ true
    → size ≡ value_of true (take 8 (drop 4 bytes)) → stream ≡ drop 12 bytes
    → stream_bytes limit size stream ≡ uncompressed_old limit bytes
old_stream limit size bytes stream long magic is rest =
    ap (λ n. stream_bytes limit n stream) is
    ∙ ap (λ s. stream_bytes limit (value_of true (take 8 (drop 4 bytes))) s) rest
    ∙ sym
    (ap (λ b. if not b then Err NotZlib else stream_bytes limit (value_of true (take 8 (drop 4 bytes))) (drop 12 bytes))
    magic)
    ∙ sym (ap (λ b. if b then Err CompressionHeaderCut
    else (if not (starts_with nat_eq bytes (codes "ZLIB")) then Err NotZlib
    else stream_bytes limit (value_of true (take 8 (drop 4 bytes))) (drop 12 bytes))) long)

pub returns-clause-large : goal.returns-clause-large
returns-clause-large c = λ size is.
    let bytes : List ℕ = c.args.bytes.now in
    c.stream_bytes.ensures.large size
    (old_stream c.args.limit c.read_u64-size.result bytes (take (length bytes - 12) (drop 12 bytes))
    (le-ltb (length bytes) 12 c.if-bytes-lt-OLD_HEADER_SIZE.false)
    (sym c.starts_with.ensures.value ∙ c.if-not-starts_with.false)
    (c.read_u64-size.ensures ∙ ap (λ rest. value_of true (take 8 rest)) (take_rest bytes 4)) (take_rest bytes 12) ∙ is)

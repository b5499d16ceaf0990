use Rattle.gimli_core.specs.Reading.{number_at}
use Rattle.gimli_core.proofs.Taken.{read_of, order_of, taken_of}
use Rattle.std.proofs.Common.{◌≡◌, ◌∙◌, ap, sym, arith, length, take, drop, ◌-◌, true, false, Bool}
use Rattle.std.proofs.lemmas.List.{length-take, length-drop}
use Rattle.gimli_core.specs.Numbers.{value_of}
use Rattle.gimli_core.proofs
use proofs.Padded.{zeros_8, read_big, read_little}
use proofs.reader.Reader.read_uint.Goals as goal
use proofs.reader.Reader.read_uint.Goals.{
  then-is_big_endian+in_ok-read_slice,
  else-is_big_endian+in_ok-read_slice-2,
}

pub returns : goal.returns
returns g c = elim c.if-is_big_endian.branch [
  | then-is_big_endian+in_ok-read_slice w ↦
      let is_big : (g.Self.Reader.seen c.args.self.now).is_big ≡ true = cc in
      let stays : _ = ap (λ r. (g.Self.Reader.seen r).is_big) w.self-is
      ∙ order_of w.in_ok-read_slice.ensures.read in
      let order : g.Self.Endian.Endianity.is_big c.endian-2.result ≡ true = c.endian-2.ensures
      ∙ stays ∙ is_big in
      let size : length (take (8 - (8 - c.args.n)) (drop (8 - c.args.n) zeros_8))
      ≡ c.args.n = omega
      (arith, length-take (8 - (8 - c.args.n)) (drop (8 - c.args.n) zeros_8), length-drop (8 - c.args.n) zeros_8) in
      let number : _ = read_big c.args.n _ _ _ _ _ _ _ c.requires size (read_of w.in_ok-read_slice.ensures.read)
      (ap (λ r. (g.Self.Reader.seen r).bytes) w.self-is) w.buf-is
      (c.read_u64.ensures ∙ ap (λ (b : Bool). value_of b (take 8 c.if-is_big_endian.buf)) order) in
      taken_of (number ∙ ap (λ b. number_at b c.args.n (g.Self.Reader.seen c.args.self.now).bytes) (sym is_big)) stays
  | else-is_big_endian+in_ok-read_slice-2 w ↦
      let is_big : (g.Self.Reader.seen c.args.self.now).is_big ≡ false = cc in
      let stays : _ = ap (λ r. (g.Self.Reader.seen r).is_big) w.self-is
      ∙ order_of w.in_ok-read_slice-2.ensures.read in
      let order : g.Self.Endian.Endianity.is_big c.endian-2.result ≡ false = c.endian-2.ensures
      ∙ stays ∙ is_big in
      let size : length (take c.args.n zeros_8) ≡ c.args.n = omega (arith, length-take c.args.n zeros_8) in
      let number : _ = read_little c.args.n _ _ _ _ _ _ _ c.requires size (read_of w.in_ok-read_slice-2.ensures.read)
      (ap (λ r. (g.Self.Reader.seen r).bytes) w.self-is) w.buf-is
      (c.read_u64.ensures ∙ ap (λ (b : Bool). value_of b (take 8 c.if-is_big_endian.buf)) order) in
      taken_of (number ∙ ap (λ b. number_at b c.args.n (g.Self.Reader.seen c.args.self.now).bytes) (sym is_big)) stays
]

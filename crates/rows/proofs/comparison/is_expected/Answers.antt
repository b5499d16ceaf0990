use Rattle.std.proofs.Common.{◌≡◌, ◌++◌, List, ℕ, None, Some, sym}
use mathlib.Core.Bool.{true≢false}
use Rattle.std.proofs.lemmas.Bool.Decides.{Decides-eqb}
use Rattle.std.proofs.lemmas.Slice.Eq.{strip_prefix_is}
use Rattle.rows.specs.Output.{IsExpected}
use Rattle.rows.proofs.comparison.is_expected.Goals as goal

-- the output is a beginning of what is expected, and its gap is blank
pub returns-then-is_all_blank : goal.returns-then-is_all_blank
returns-then-is_all_blank c = (
  λ ended. record {
    gap = c.in-Some.gap.now;
    parts = strip_prefix_is Decides-eqb c.args.expected.now c.args.got.now (Some c.in-Some.gap) c.in-Some.ensures.cases;
    blank = sym c.if-is_all_blank.ensures;
    ended = c.ends_line.ensures.0 ended;
  },
  λ e. c.ends_line.ensures.1 e.ended,
)

-- it is no beginning
pub returns-in-None : goal.returns-in-None
returns-in-None c = (
  λ t. absurd (true≢false (sym t)),
  λ e.
      absurd
      (strip_prefix_is Decides-eqb c.args.expected.now c.args.got.now None c.in-None.ensures.cases e.gap e.parts),
)

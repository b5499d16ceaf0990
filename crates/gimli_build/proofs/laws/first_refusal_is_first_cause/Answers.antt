use Rattle.gimli_build.proofs
use proofs.refusals.FirstRefusals.{first-is}
use Rattle.gimli_build.specs.Refused.{program_seen}
use proofs.laws.first_refusal_is_first_cause.Goals as goal

pub returns : goal.returns
returns c = λ symbols is_big unit p handed can. first-is is_big unit (program_seen symbols p) handed (record {
  program = can.program;
  directories = can.directories;
  paths = can.paths;
  sources = can.sources;
  sources_end = can.sources_end;
})

use Rattle.gimli_index.proofs.KeptSources.{all_in}
use Rattle.gimli_index.proofs.contents.Contents.write_all.Goals as goal

pub write_parts-requires-clause-within : goal.write_parts-requires-clause-within
write_parts-requires-clause-within c = all_in c.args.self.now.statements.now

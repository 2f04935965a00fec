use Rattle.std.proofs.lemmas.Str.Pattern.{starts_text}
use Rattle.cases.proofs.naming.begins.Goals as goal

pub returns : goal.returns
returns c = starts_text c.starts_with.result c.args.name.now c.args.text.now c.starts_with.ensures.cases

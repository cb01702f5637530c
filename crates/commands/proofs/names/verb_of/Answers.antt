use Rattle.std.proofs.Common.{rules, codes, sym, ap}
use Rattle.commands.specs.Names.{verb_of}
use Rattle.commands.proofs.Spelling.{spelled}
use Rattle.commands.proofs.names.verb_of.Goals as goal

pub returns-in-volume : goal.returns-in-volume
returns-in-volume c = sym (ap verb_of (spelled c.args.word.now (codes "volume") (search rules)))

pub returns-in-report : goal.returns-in-report
returns-in-report c = sym (ap verb_of (spelled c.args.word.now (codes "report") (search rules)))

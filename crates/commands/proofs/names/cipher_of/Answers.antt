use Rattle.std.proofs.Common.{rules, codes, sym, ap}
use Rattle.commands.specs.Names.{cipher_of}
use Rattle.commands.proofs.Spelling.{spelled}
use Rattle.commands.proofs.names.cipher_of.Goals as goal

pub returns-in-109 : goal.returns-in-109
returns-in-109 c = sym (ap cipher_of (spelled c.args.word.now (codes "mask-1") (search rules)))

pub returns-in-109-2 : goal.returns-in-109-2
returns-in-109-2 c = sym (ap cipher_of (spelled c.args.word.now (codes "mask-8") (search rules)))

pub returns-in-97 : goal.returns-in-97
returns-in-97 c = sym (ap cipher_of (spelled c.args.word.now (codes "aes-128") (search rules)))

pub returns-in-109-3 : goal.returns-in-109-3
returns-in-109-3 c = sym (ap cipher_of (spelled c.args.word.now (codes "mask-16") (search rules)))

use Rattle.std.proofs.Common.{map, string_bytes}
use Rattle.help.proofs.WordsLemmas.{asks, asks_none}
use Rattle.help.proofs.answer.Goals as goal

pub returns-in-Some-clause-some : goal.returns-in-Some-clause-some
returns-in-Some-clause-some g c = asks (map string_bytes c.args.words.now) c.asked_by.result c.in-Some.asked c.in-Some.is c.asked_by.ensures.help c.asked_by.ensures.version

pub returns-in-None-clause-none : goal.returns-in-None-clause-none
returns-in-None-clause-none g c e = asks_none (map string_bytes c.args.words.now) c.asked_by.result c.in-None.is c.asked_by.ensures.help c.asked_by.ensures.version

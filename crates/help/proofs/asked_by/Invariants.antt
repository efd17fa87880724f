use Rattle.std.proofs.Common.{take}
use Rattle.help.proofs.WordsLemmas.{AsksNot}
use Rattle.help.proofs.asked_by.Given as goal

-- none of the words so far asks for help
abbrev pub invariant-loop-word : goal.invariant-loop-word
invariant-loop-word l = AsksNot (take l.word-index l.words)

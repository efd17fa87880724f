use Rattle.test_link.proofs.message_readers.ChosenMessageReaderU32.read.Goals as goal

pub returns-clause-value : goal.returns-clause-value
returns-clause-value c p f e = rw c.if-self.false (c.read-2.ensures.value p f e)

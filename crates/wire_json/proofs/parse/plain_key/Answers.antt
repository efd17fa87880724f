use Rattle.schema_table.specs.declared.node.Node.TheVariants as node
use Rattle.wire_json.proofs.NumberRefusals.{wrong_as, char_not_named, text_not_named, number_not_named}
use Rattle.wire_json.proofs.ParsedLemmas.{char_key, text_key}
use Rattle.wire_json.proofs.parse.plain_key.Goals as goal

pub returns-in-Char-clause-means : goal.returns-in-Char-clause-means
returns-in-Char-clause-means c = char_key c.args.key.now c.char_of.result c.char_of.ensures.of_type c.char_of.ensures.means

pub returns-in-Text-clause-means : goal.returns-in-Text-clause-means
returns-in-Text-clause-means c = text_key c.args.key.now node.Text c.text_of.result (λ top h. h) c.text_of.ensures.of_type c.text_of.ensures.means

pub returns-in-TextUpTo-clause-means : goal.returns-in-TextUpTo-clause-means
returns-in-TextUpTo-clause-means c = text_key c.args.key.now (node.TextUpTo c.in-TextUpTo.most) c.text_up_to.result (λ top h. h) c.text_up_to.ensures.of_type c.text_up_to.ensures.means

pub returns-in-Bool-clause-refused : goal.returns-in-Bool-clause-refused
returns-in-Bool-clause-refused c = rw c.in-Bool.is c.truth_of.ensures.refused

pub returns-in-Char-clause-refused : goal.returns-in-Char-clause-refused
returns-in-Char-clause-refused c = rw c.in-Char.is (wrong_as c.char_of.result (char_not_named c.args.key.now) c.char_of.ensures.refused)

pub returns-in-TextUpTo-clause-refused : goal.returns-in-TextUpTo-clause-refused
returns-in-TextUpTo-clause-refused c = rw c.in-TextUpTo.is (wrong_as c.text_up_to.result (text_not_named c.in-TextUpTo.most c.args.key.now) c.text_up_to.ensures.refused)

pub returns-in_default-clause-refused : goal.returns-in_default-clause-refused
returns-in_default-clause-refused c =
    let n = c.in_default in
    wrong_as c.number_key.result (number_not_named c.args.node.now c.args.key.now n.not-Bool n.not-Char n.not-Text n.not-TextUpTo) c.number_key.ensures.refused

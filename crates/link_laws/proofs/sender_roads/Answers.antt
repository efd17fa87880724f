use Rattle.postcard_tree.specs.Spelling.{short}
use Rattle.link_laws.proofs.sender_roads.Goals as goal

pub returns : goal.returns
returns g c t e = c.frames_of_a_message.ensures.differ (short t)

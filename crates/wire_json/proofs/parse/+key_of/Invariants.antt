use Rattle.wire_json.proofs.parse.+key_of.Given as goal

abbrev pub decreases-key_of : goal.decreases-key_of
decreases-key_of l = l.depth

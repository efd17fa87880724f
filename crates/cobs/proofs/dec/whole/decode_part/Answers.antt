use Rattle.cobs.proofs.dec.whole.decode_part.Goals as goal

pub returns-then-source-sentinel-clause-done : goal.returns-then-source-sentinel-clause-done
returns-then-source-sentinel-clause-done g c = c.decode_near.ensures

pub returns-then-is_short-clause-done : goal.returns-then-is_short-clause-done
returns-then-is_short-clause-done g c = c.decode_near-then-is_short.ensures

pub returns-clause-done : goal.returns-clause-done
returns-clause-done g c = c.decode_many.ensures

use Rattle.std.proofs.Common.{arith}
use Rattle.postcard.proofs.ShortLemmas.{framed, measured}
use Rattle.postcard.proofs.short.frame_short.Goals as goal

pub returns-in-Some-clause-framed : goal.returns-in-Some-clause-framed
returns-in-Some-clause-framed g c =
    framed (g.T.Readable.form.writes c.args.v.now) c.in-Some.n c.encode_in_place-end.result c.args.sentinel c.spell_behind.new.room c.encode_in_place-end.new.buffer c.in-Some.ensures.spelled c.in-Some.ensures.few
    (omega (arith, c.encode_in_place-end.ensures.plus_one, c.in-Some.ensures.room, c.encode_in_place-end.auto.buffer)) c.encode_in_place-end.ensures.frame

pub returns-in-Some-clause-length : goal.returns-in-Some-clause-length
returns-in-Some-clause-length g c =
    measured (g.T.Readable.form.writes c.args.v.now) c.in-Some.n c.encode_in_place-end.result c.spell_behind.new.room c.in-Some.ensures.spelled c.in-Some.ensures.few c.encode_in_place-end.ensures.length

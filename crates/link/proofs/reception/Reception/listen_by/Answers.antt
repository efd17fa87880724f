use Rattle.std.proofs.Common.{[], length, take, refl, ◌∙◌, ap, arith, Some, None, length-take-le}
use Rattle.line_io.specs.Calls.{read_failed, read_quiet}
use Rattle.link.proofs.HandingLemmas.{handed_none, handed_paused, nothing_more, taken_some, read_front, one_read}
use Rattle.link.proofs.reception.Reception.listen_by.Goals as goal

pub returns-in-None-clause-heard : goal.returns-in-None-clause-heard
returns-in-None-clause-heard g c = (
  record {
    bytes = [];
    read = (c.in-None.ensures.bytes, read_failed (g.R.Inlet.line c.args.reader.now) (g.R.Inlet.line c.read.new.self) c.in-None.ensures.faults c.in-None.ensures.calls);
    few = omega (arith, c.in-None.ensures.calls);
    adds = handed_none g.H.Hearer.hears g.H.Hearer.laws _ _ (λ limit s stream given h. nothing_more g.D.Decoding.inside (g.M.MessageReader.judging c.args.messages.now).holds (g.M.MessageReader.judging c.args.messages.now).reads limit s c.args.self.now given stream [] refl h);
  },
  omega arith,
  refl,
)

pub returns-in-None-clause-spent : goal.returns-in-None-clause-spent
returns-in-None-clause-spent g c e = refl

pub returns-in-Some-eq0-clause-heard : goal.returns-in-Some-eq0-clause-heard
returns-in-Some-eq0-clause-heard g c =
    let none = ap (λ n. take n c.read.new.room) c.in-Some-eq0.field-0-test in (
      record {
        bytes = take c.in-Some-eq0.field-0 c.read.new.room;
        read = (
          c.in-Some-eq0.ensures.bytes,
          read_quiet _ _ _ _ _ c.in-Some-eq0.ensures.faults refl,
          c.read.ensures.end (c.in-Some-eq0.is ∙ ap Some c.in-Some-eq0.field-0-test) (omega (arith, c.read.auto.room, c.requires)),
        );
        few = omega (arith, c.in-Some-eq0.ensures.calls);
        adds = handed_none g.H.Hearer.hears g.H.Hearer.laws _ _ (λ limit s stream given h. nothing_more g.D.Decoding.inside (g.M.MessageReader.judging c.args.messages.now).holds (g.M.MessageReader.judging c.args.messages.now).reads limit s c.args.self.now given stream _ none h);
      },
      omega (arith, ap length none),
      none,
    )

pub returns-in-Ok-clause-heard : goal.returns-in-Ok-clause-heard
returns-in-Ok-clause-heard g c = (
  record {
    bytes = take c.in-Some.n c.read.new.room;
    read = (c.in-Some.ensures.bytes, read_quiet _ _ _ _ _ c.in-Some.ensures.faults refl);
    few = omega (arith, c.in-Some.ensures.calls, taken_some c.in-Some.n c.read.new.room c.in-Some.n-test.1 c.in-Some.ensures.bound);
    adds = handed_paused g.H.Hearer.hears g.H.Hearer.laws _ _ _ _ c.in-Ok.ensures.ok c.pause.ensures.heard;
  },
  omega (arith, c.read.auto.room, c.in-Some.ensures.bound, length-take-le c.in-Some.n c.read.new.room c.in-Some.ensures.bound),
  tt,
)

pub returns-in-Err-clause-heard : goal.returns-in-Err-clause-heard
returns-in-Err-clause-heard g c = (
  record {
    bytes = take c.in-Some.n c.read.new.room;
    read = (c.in-Some.ensures.bytes, read_quiet _ _ _ _ _ c.in-Some.ensures.faults refl);
    few = omega (arith, c.in-Some.ensures.calls);
    adds = handed_paused g.H.Hearer.hears g.H.Hearer.laws _ _ _ _ c.in-Err.ensures.err c.pause-in-Err.ensures.heard;
  },
  omega (arith, c.read.auto.room, c.in-Some.ensures.bound, length-take-le c.in-Some.n c.read.new.room c.in-Some.ensures.bound),
  tt,
)

pub returns-in-None-clause-buffer : goal.returns-in-None-clause-buffer
returns-in-None-clause-buffer g c = ([], c.in-None.ensures.bytes, omega arith, c.in-None.ensures.past)

pub returns-in-Some-eq0-clause-buffer : goal.returns-in-Some-eq0-clause-buffer
returns-in-Some-eq0-clause-buffer g c = (
  take c.in-Some-eq0.field-0 c.read.new.room,
  c.in-Some-eq0.ensures.bytes,
  omega (arith, c.read.auto.room, c.in-Some-eq0.ensures.bound, length-take-le c.in-Some-eq0.field-0 c.read.new.room c.in-Some-eq0.ensures.bound),
  read_front c.in-Some-eq0.field-0 c.read.new.room c.args.room.now c.in-Some-eq0.ensures.bound c.in-Some-eq0.ensures.past,
)

pub returns-in-Ok-clause-buffer : goal.returns-in-Ok-clause-buffer
returns-in-Ok-clause-buffer g c = (
  take c.in-Some.n c.read.new.room,
  c.in-Some.ensures.bytes,
  omega (arith, c.read.auto.room, c.in-Some.ensures.bound, length-take-le c.in-Some.n c.read.new.room c.in-Some.ensures.bound),
  read_front c.in-Some.n c.read.new.room c.args.room.now c.in-Some.ensures.bound c.in-Some.ensures.past,
)

pub returns-in-Err-clause-buffer : goal.returns-in-Err-clause-buffer
returns-in-Err-clause-buffer g c = (
  take c.in-Some.n c.read.new.room,
  c.in-Some.ensures.bytes,
  omega (arith, c.read.auto.room, c.in-Some.ensures.bound, length-take-le c.in-Some.n c.read.new.room c.in-Some.ensures.bound),
  read_front c.in-Some.n c.read.new.room c.args.room.now c.in-Some.ensures.bound c.in-Some.ensures.past,
)

pub returns-in-None-clause-once : goal.returns-in-None-clause-once
returns-in-None-clause-once g c = omega (arith, c.in-None.ensures.faults, one_read (g.R.Inlet.line c.args.reader.now).calls_left None)

pub returns-in-Some-eq0-clause-once : goal.returns-in-Some-eq0-clause-once
returns-in-Some-eq0-clause-once g c = omega (arith, read_quiet _ _ _ _ _ c.in-Some-eq0.ensures.faults refl)

pub returns-in-Ok-clause-once : goal.returns-in-Ok-clause-once
returns-in-Ok-clause-once g c = omega (arith, read_quiet _ _ _ _ _ c.in-Some.ensures.faults refl)

pub returns-in-Err-clause-once : goal.returns-in-Err-clause-once
returns-in-Err-clause-once g c = omega (arith, read_quiet _ _ _ _ _ c.in-Some.ensures.faults refl)

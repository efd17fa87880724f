use Rattle.std.proofs.Common.{refl, ap}
use Rattle.link.specs.Senders.{sender_place}
use Rattle.link_laws.specs.Sessions.{sent_somehow, none_sent, then_sent, no_session, then_session, takes_run}
use Rattle.link_laws.proofs.headline.send_in_turn_with_sentinel.Goals as goal

pub send-first-requires : goal.send-first-requires
send-first-requires g c = c.requires.sender

pub send-second-requires : goal.send-second-requires
send-second-requires g c = c.requires.sender

pub returns : goal.returns
returns g c =
    let law = c.carries.ensures in
    let a = rw (c.new_with_sentinel-one.ensures.writer, c.new_with_sentinel-one.ensures.clean, c.new_with_sentinel-one.ensures.sentinel) at c.send-first.ensures.sent in
    let b = rw (c.new_with_sentinel-other.ensures.writer, c.new_with_sentinel-other.ensures.clean, c.new_with_sentinel-other.ensures.sentinel, c.into_inner.ensures) at c.send-second.ensures.sent in
    let x = sent_somehow law c.args.first.now a in
    let y = sent_somehow law c.args.second.now b in
    record {
      between = sender_place g.W.Outlet.line c.send-first.new.self;
      after = sender_place g.W.Outlet.line c.send-second.new.self;
      line_is = ap g.W.Outlet.line c.into_inner-writer.ensures;
      first_sent = a;
      second_sent = b;
      one = x.0;
      other = y.0;
      first_is = x.1;
      second_is = y.1;
      run = rw c.into_inner-writer.ensures (takes_run law.taken (then_session refl refl (then_sent x.2 refl none_sent) (then_session refl refl (then_sent y.2 refl none_sent) no_session)));
    }

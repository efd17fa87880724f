use Rattle.std.proofs.Common.{refl}
use Rattle.link_laws.specs.Sessions.{all_sent, no_session, then_session, takes_run}
use Rattle.link_laws.proofs.headline.send_each_in_turn_with_sentinel.Goals as goal

pub returns : goal.returns
returns g c =
    let a = c.send_each_with_sentinel-after_first.ensures.1 in
    let b = c.send_each_with_sentinel.ensures.1 in
    record {
      between = g.W.Outlet.line c.send_each_with_sentinel-after_first.result;
      first_clean = c.send_each_with_sentinel-after_first.ensures.0;
      second_clean = c.send_each_with_sentinel.ensures.0;
      first_sent = a;
      second_sent = b;
      one = a.sends;
      other = b.sends;
      first_of = a.of;
      second_of = b.of;
      first_fated = a.fated;
      second_fated = b.fated;
      run = takes_run c.carries.ensures.taken (then_session refl refl (all_sent a) (then_session refl refl (all_sent b) no_session));
    }

use Rattle.std.proofs.Common.{◌<◌, ℕ, List, take, length-take, sym, ◌∙◌, subst, arith}
use Rattle.std.proofs.lemmas.List.{length-take-le, get_or-take}
use Rattle.cobs.specs.Sentinel.{masked}
use Rattle.cobs.specs.Taking.{TakesFront}
use Rattle.cobs.proofs.MaskingLemmas.{masked_take}
use Rattle.cobs.proofs.TakesLemmas.{none_front, none_taken, front_longer}
use Rattle.cobs.proofs.dec.progress.Progress.take_stretch.Goals as goal

-- what has room
pub take_row-row-requires : goal.take_row-row-requires
take_row-row-requires c l = omega (arith, l, length-take c.min-2.result c.args.piece.now, c.min.ensures, c.min-2.ensures, c.saturating_sub-room.ensures)

pub take_all-requires-clause-room : goal.take_all-requires-clause-room
take_all-requires-clause-room c l =
    let n = c.before_sentinel-n.result in
    let piece = c.args.piece.now in
    let front = take c.min-2.result piece in
    omega (
      arith,
      l,
      length-take n front,
      length-take c.min-2.result piece,
      c.min.ensures,
      c.min-2.ensures,
      c.saturating_sub-room.ensures,
      c.if-row-gt0.false,
      c.take_row-row.ensures.len,
      c.take_row-row.auto.buffer,
      c.if-window-gt0.false,
      c.take_window-window.ensures.len,
      c.take_window-window.auto.buffer,
    )

pub take_window-window-requires-clause-few : goal.take_window-window-requires-clause-few
take_window-window-requires-clause-few c = omega (arith, length-take c.min-3.result (take c.min-2.result c.args.piece.now), c.min-3.ensures)

pub take_window-window-requires-clause-room : goal.take_window-window-requires-clause-room
take_window-window-requires-clause-room c =
    let front = take c.min-2.result c.args.piece.now in
    omega (
      arith,
      c.if-front-lt-FEW.false,
      length-take c.min-3.result front,
      length-take c.min-2.result c.args.piece.now,
      c.min.ensures,
      c.min-2.ensures,
      c.saturating_sub-room.ensures,
      c.if-row-gt0.false,
      c.take_row-row.ensures.len,
      c.take_row-row.auto.buffer,
    )

pub take_all-requires-clause-clear : goal.take_all-requires-clause-clear
take_all-requires-clause-clear c = λ k l e.
    let n = c.before_sentinel-n.result in
    let front = take c.min-2.result c.args.piece.now in
    let inside : k < n = omega (arith, l, length-take n front) in
    c.before_sentinel-n.ensures.none k inside (sym (get_or-take n front k 0 inside) ∙ e)

pub returns-then-row-gt0-clause-front : goal.returns-then-row-gt0-clause-front
returns-then-row-gt0-clause-front c p s =
    let m = c.min-2.result in
    let piece = c.args.piece.now in
    let t = c.take_row-row in
    front_longer p _ (masked c.args.sentinel piece) c.args.buffer.now t.new.buffer t.result m t.new.self (sym (masked_take c.args.sentinel m piece)) (t.ensures.front p s)

pub returns-then-window-gt0-clause-front : goal.returns-then-window-gt0-clause-front
returns-then-window-gt0-clause-front c p s =
    let m = c.min-2.result in
    let k = c.min-3.result in
    let piece = c.args.piece.now in
    let front : List ℕ = take m piece in
    let key = c.args.sentinel in
    let old = c.args.buffer.now in
    let none = none_taken p _ _ _ _ _ (omega (arith, c.if-row-gt0.false)) (c.take_row-row.ensures.front p s) in
    let t = c.take_window-window in
    let taken = subst (λ b. TakesFront p (masked key (take k front)) b t.result t.new.self t.new.buffer) none.1 (t.ensures.front p none.0) in
    let all = front_longer p (masked key (take k front)) (masked key front) old t.new.buffer t.result k t.new.self (sym (masked_take key k front)) taken in
    front_longer p (masked key front) (masked key piece) old t.new.buffer t.result m t.new.self (sym (masked_take key m piece)) all

pub returns-clause-front : goal.returns-clause-front
returns-clause-front c p s =
    let n = c.before_sentinel-n.result in
    let m = c.min-2.result in
    let piece = c.args.piece.now in
    let front : List ℕ = take m piece in
    let key = c.args.sentinel in
    let old = c.args.buffer.now in
    let row = none_taken p _ _ _ _ _ (omega (arith, c.if-row-gt0.false)) (c.take_row-row.ensures.front p s) in
    let none = none_taken p _ _ _ _ _ (omega (arith, c.if-window-gt0.false)) (c.take_window-window.ensures.front p row.0) in
    let t = c.take_all in
    let taken = subst (λ j. TakesFront p (masked key (take n front)) c.take_window-window.new.buffer j t.new.self t.new.buffer) (length-take-le n front c.before_sentinel-n.ensures.within) (t.ensures p none.0) in
    let all = front_longer p (masked key (take n front)) (masked key front) c.take_window-window.new.buffer t.new.buffer n n t.new.self (sym (masked_take key n front)) taken in
    let here = subst (λ b. TakesFront p (masked key front) b n t.new.self t.new.buffer) (none.1 ∙ row.1) all in
    front_longer p (masked key front) (masked key piece) old t.new.buffer n m t.new.self (sym (masked_take key m piece)) here

pub returns-then-front-lt-FEW-clause-front : goal.returns-then-front-lt-FEW-clause-front
returns-then-front-lt-FEW-clause-front c p s = none_front p _ _ _ s

pub returns-in-Idle-clause-front : goal.returns-in-Idle-clause-front
returns-in-Idle-clause-front c p s = none_front p _ _ _ s

use Rattle.std.proofs.Common.{◌≡◌, ◌≢◌, ◌-◌, ◌+◌, ◌^◌, ◌<◌, ◌≤◌, ℕ, List, length, take, drop, get_or, ◌∷◌, ◌++◌, [], ap, sym, ◌∙◌, subst, arith}
use Rattle.std.specs.Prelude.{bit_xor}
use Rattle.cobs.specs.Feeding.{placed, by_code}
use Rattle.cobs.specs.Sentinel.{masked}
use Rattle.cobs.specs.Streaming.{HasStreamed}
use Rattle.cobs.specs.Taking.{TakesFront, Owes}
use Rattle.cobs.specs.declared.dec.progress.Progress.{Progress}
use Rattle.cobs.specs.declared.dec.state.DecoderState.{DecoderState}
use Rattle.cobs.proofs.FeedsLemmas.{stays}
use Rattle.cobs.proofs.SourcesLemmas.{masked_positive}
use Rattle.cobs.proofs.TakesLemmas.{none_taken, byte_then, byte_fits}
use Rattle.cobs.proofs.WithinLemmas.{code_ahead}
use Rattle.cobs.proofs.dec.progress.Progress.take_some_within.Goals as goal

-- Nothing was taken in at once, so that a code is next.
module _ (key read end n : ℕ) (p old mid : List ℕ) (self d : Progress) (s : HasStreamed self p) (z : n ≡ 0)
    (f : TakesFront p (masked key (take (end - read) (drop read old))) old n d mid) where
  was : HasStreamed d p × (mid ≡ old)
  was = none_taken p _ old mid n d z f

  count : d.len ≡ self.len
  count = was.0.len ∙ sym s.len

  module _ (some : read < end) (inside : end ≤ length old) (behind : self.len ≤ read) (clear : (k : ℕ) → read ≤ k → k < end → get_or old k 0 ≢ key) where
    positive : 0 < bit_xor key (get_or mid read 0)
    positive = subst (λ b. 0 < bit_xor key (get_or b read 0)) (sym was.1) (masked_positive key (get_or old read 0) (clear read (omega arith) some))

    clear_on : (k : ℕ) → read + 1 ≤ k → k < end → get_or mid k 0 ≢ key
    clear_on k l q e = clear k (omega (arith, l)) q (sym (ap (λ b. get_or b k 0) was.1) ∙ e)

    -- it is taken in, and as many bytes behind it
    coded : length old < 2 ^ 64 → Owes d.state → bit_xor key (get_or mid read 0) < 256 → (state : DecoderState) → state ≡ by_code (bit_xor key (get_or mid read 0)) → (m : ℕ) (d' : Progress) (new : List ℕ)
        → ((q : List ℕ) → HasStreamed (record { state = state; len = d.len }) q → TakesFront q (masked key (take (end - (read + 1)) (drop (read + 1) mid))) mid m d' new)
        → TakesFront p (masked key (take (end - read) (drop read old))) old (1 + m) d' new
    coded small owes byte state by m d' new then =
        let x = bit_xor key (get_or mid read 0) in
        let told = owes x positive in
        let on = stays mid d p x positive byte was.0 told.0 in
        let put : mid ≡ placed p x old = on.2 ∙ ap (placed p x) was.1 in
        let has = subst (λ y. HasStreamed (record { state = y; len = d.len }) (p ++ x ∷ [])) (told.1 ∙ sym by) on.0 in
        let fits = byte_fits p x (length old) self positive s (omega (arith, behind, some, inside)) small in
        let piece = code_ahead key x read end old some inside (ap (λ b. bit_xor key (get_or b read 0)) was.1) ∙ ap (λ b. x ∷ masked key (take (end - (read + 1)) (drop (read + 1) b))) (sym was.1) in
        subst (λ b. TakesFront p b old (1 + m) d' new) (sym piece)
        (byte_then p x (masked key (take (end - (read + 1)) (drop (read + 1) mid))) old mid new m d' positive fits put (then (p ++ x ∷ []) has))

pub returns-then-taken-gt0-clause-front : goal.returns-then-taken-gt0-clause-front
returns-then-taken-gt0-clause-front g c = c.take_within-taken.ensures.front

pub take_within-requires-clause-behind : goal.take_within-requires-clause-behind
take_within-requires-clause-behind g c =
    let b = c.requires.begun in
    omega (arith, c.requires.behind, count c.args.sentinel c.args.read c.args.end c.take_within-taken.result b.0 c.args.buffer.now c.take_within-taken.new.buffer c.args.self.now c.take_within-taken.new.self b.1 (omega (arith, c.if-taken-gt0.false)) (c.take_within-taken.ensures.front b.0 b.1))

pub take_within-requires-2-clause-behind : goal.take_within-requires-2-clause-behind
take_within-requires-2-clause-behind g c =
    let b = c.requires.begun in
    omega (arith, c.requires.behind, count c.args.sentinel c.args.read c.args.end c.take_within-taken.result b.0 c.args.buffer.now c.take_within-taken.new.buffer c.args.self.now c.take_within-taken.new.self b.1 (omega (arith, c.if-taken-gt0.false)) (c.take_within-taken.ensures.front b.0 b.1))

pub take_within-requires-clause-clear : goal.take_within-requires-clause-clear
take_within-requires-clause-clear g c =
    let r = c.requires in
    let b = r.begun in
    clear_on c.args.sentinel c.args.read c.args.end c.take_within-taken.result b.0 c.args.buffer.now c.take_within-taken.new.buffer c.args.self.now c.take_within-taken.new.self b.1 (omega (arith, c.if-taken-gt0.false)) (c.take_within-taken.ensures.front b.0 b.1)
    r.some r.inside r.behind r.clear

pub take_within-requires-2-clause-clear : goal.take_within-requires-2-clause-clear
take_within-requires-2-clause-clear g c =
    let r = c.requires in
    let b = r.begun in
    clear_on c.args.sentinel c.args.read c.args.end c.take_within-taken.result b.0 c.args.buffer.now c.take_within-taken.new.buffer c.args.self.now c.take_within-taken.new.self b.1 (omega (arith, c.if-taken-gt0.false)) (c.take_within-taken.ensures.front b.0 b.1)
    r.some r.inside r.behind r.clear

pub by_code-self-requires : goal.by_code-self-requires
by_code-self-requires g c =
    let r = c.requires in
    let b = r.begun in
    positive c.args.sentinel c.args.read c.args.end c.take_within-taken.result b.0 c.args.buffer.now c.take_within-taken.new.buffer c.args.self.now c.take_within-taken.new.self b.1 (omega (arith, c.if-taken-gt0.false)) (c.take_within-taken.ensures.front b.0 b.1)
    r.some r.inside r.behind r.clear

pub returns-then-code-clause-front : goal.returns-then-code-clause-front
returns-then-code-clause-front g c p s =
    let r = c.requires in
    let t = c.take_within-taken in
    let w = c.take_within in
    let z : t.result ≡ 0 = omega (arith, c.if-taken-gt0.false) in
    coded c.args.sentinel c.args.read c.args.end t.result p c.args.buffer.now t.new.buffer c.args.self.now t.new.self s z (t.ensures.front p s)
    r.some r.inside r.behind r.clear (omega arith) (t.ensures.coded r.some z) (omega (arith, c.if-code.true)) _ (sym (ap by_code c.if-code.true)) w.result w.new.self w.new.buffer w.ensures.front

pub returns-clause-front : goal.returns-clause-front
returns-clause-front g c p s =
    let r = c.requires in
    let t = c.take_within-taken in
    let w = c.take_within-2 in
    let z : t.result ≡ 0 = omega (arith, c.if-taken-gt0.false) in
    coded c.args.sentinel c.args.read c.args.end t.result p c.args.buffer.now t.new.buffer c.args.self.now t.new.self s z (t.ensures.front p s)
    r.some r.inside r.behind r.clear (omega arith) (t.ensures.coded r.some z) c.by_code-self.ensures.byte _ c.by_code-self.ensures.state w.result w.new.self w.new.buffer w.ensures.front

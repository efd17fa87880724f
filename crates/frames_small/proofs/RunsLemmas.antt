-- The frame of a message, run by run, and what goes out of it.
use Rattle.std.proofs.Common.{◌≡◌, ◌≢◌, ℕ, suc, ◌+◌, ◌-◌, ◌<◌, ◌≤◌, List, [], ◌∷◌, ◌++◌, length, take, drop, get_or, Result, Ok, Err, refl, sym, ap, ◌∙◌, subst, inl, inr, arith, append_assoc, length-append, bit_xor}
use Rattle.std.proofs.lemmas.List.{append-nil, length_push, take_more, get_or-drop, length-drop, length-take-le, take-append-drop, drop-drop, drop_all, drop_more, map-append, take-take}
use Rattle.std.proofs.lemmas.Bool.{cases_eq, cases_lt, eq-eqb, ne_eqb}
use Rattle.line_io.specs.Device.{LineState}
use Rattle.line_io.specs.Transfers.{WentOrBroke}
use Rattle.line_io.specs.Calls.{WentOut-none, WentOut-then, BrokeOff-then, BrokeOff-more}
use Rattle.line_io.specs.declared.transfers.WriteFault.{WriteFault}
use Rattle.cobs.specs.Frames.{NoZero, block, shortest_from, shortest_frame}
use Rattle.cobs.specs.Sentinel.{masked, frame_for}

pub nonzero_push : (xs : List ℕ) (x : ℕ) → NoZero xs → 0 < x → NoZero (xs ++ x ∷ [])
nonzero_push [] x h p = (p, tt)
nonzero_push (y ∷ xs) x h p = (h.0, nonzero_push xs x h.1 p)

-- a further byte of a list, from a place on
pub run_more : (text : List ℕ) (at run : ℕ) → at + run < length text → take (run + 1) (drop at text) ≡ take run (drop at text) ++ get_or text (at + run) 0 ∷ []
run_more text at run near = take_more (drop at text) run 0 (omega (arith, near, length-drop at text)) ∙ ap (λ b. take run (drop at text) ++ b ∷ []) (get_or-drop at text run 0)

pub run_clear : (text : List ℕ) (at run : ℕ) → at + run < length text → get_or text (at + run) 0 ≢ 0 → NoZero (take run (drop at text)) → NoZero (take (run + 1) (drop at text))
run_clear text at run near n z = subst NoZero (sym (run_more text at run near)) (nonzero_push (take run (drop at text)) (get_or text (at + run) 0) z (omega (arith, n)))

-- how the shortest frame goes on behind an open run
open_full : (run : List ℕ) (byte : ℕ) (bytes : List ℕ) → length run ≡ 254 → shortest_from run (byte ∷ bytes) ≡ block run ++ shortest_from [] (byte ∷ bytes)
open_full run byte bytes e = rw (eq-eqb (length run) 254 e) refl

open_zero : (run bytes : List ℕ) → length run < 254 → shortest_from run (0 ∷ bytes) ≡ block run ++ shortest_from [] bytes
open_zero run bytes l = rw (ne_eqb (length run) 254 (λ e. omega arith)) refl

open_more : (run : List ℕ) (byte : ℕ) (bytes : List ℕ) → length run < 254 → 0 < byte → shortest_from run (byte ∷ bytes) ≡ shortest_from (run ++ byte ∷ []) bytes
open_more run byte bytes l p = rw (ne_eqb (length run) 254 (λ e. omega arith), ne_eqb byte 0 (λ e. omega arith)) refl

open_run : (run bytes rest : List ℕ) → NoZero bytes → length run + length bytes ≤ 254 → shortest_from run (bytes ++ rest) ≡ shortest_from (run ++ bytes) rest
open_run run [] rest h l = rw (append-nil run) refl
open_run run (byte ∷ bytes) rest h l =
    open_more run byte (bytes ++ rest) (omega arith) h.0
    ∙ open_run (run ++ byte ∷ []) bytes rest h.1 (omega (arith, length_push run byte))
    ∙ ap (λ r. shortest_from r rest) (append_assoc run (byte ∷ []) bytes)

-- a block of the frame from a place on: the last one, one before a zero, and a full one
module _ (text : List ℕ) (at run : ℕ) (few : run ≤ 254) (within : at + run ≤ length text) (clear : NoZero (take run (drop at text))) where
  abbrev piece : List ℕ
  piece = take run (drop at text)

  long : length (take run (drop at text)) ≡ run
  long = length-take-le run (drop at text) (omega (arith, within, length-drop at text))

  opens : shortest_from [] (drop at text) ≡ shortest_from (take run (drop at text)) (drop (at + run) text)
  opens =
      ap (shortest_from []) (sym (take-append-drop run (drop at text)))
      ∙ open_run [] (take run (drop at text)) (drop run (drop at text)) clear (omega (arith, long, few))
      ∙ ap (shortest_from (take run (drop at text))) (drop-drop run at text)

  pub block_last : at + run ≡ length text → shortest_from [] (drop at text) ≡ block (take run (drop at text))
  block_last e = opens ∙ ap (shortest_from (take run (drop at text))) (drop_all (at + run) text (omega (arith, e)))

  pub block_zero : at + run < length text → run < 254 → get_or text (at + run) 0 ≡ 0
      → shortest_from [] (drop at text) ≡ block (take run (drop at text)) ++ shortest_from [] (drop (at + run + 1) text)
  block_zero near less z =
      opens ∙ ap (shortest_from (take run (drop at text))) (drop_more text (at + run) 0 near ∙ ap (λ b. b ∷ drop (at + run + 1) text) z)
      ∙ open_zero (take run (drop at text)) (drop (at + run + 1) text) (omega (arith, long, less))

  pub block_full : at + run < length text → run ≡ 254
      → shortest_from [] (drop at text) ≡ block (take run (drop at text)) ++ shortest_from [] (drop (at + run) text)
  block_full near full =
      opens ∙ ap (shortest_from (take run (drop at text))) (drop_more text (at + run) 0 near)
      ∙ open_full (take run (drop at text)) (get_or text (at + run) 0) (drop (at + run + 1) text) (long ∙ full)
      ∙ ap (λ x. block (take run (drop at text)) ++ shortest_from [] x) (sym (drop_more text (at + run) 0 near))

-- no byte; bytes, and then bytes; bytes that were never tried (as in `link`)
pub writes_none : (w : LineState) → WentOrBroke w w [] (Ok tt)
writes_none w = record { ok = WentOut-none w; err = tt; calls = omega arith; few = omega arith; once = omega arith }

pub writes_then : (u v w : LineState) (a b : List ℕ) (r : Result (Unit {0}) WriteFault)
    → WentOrBroke u v a (Ok tt) → WentOrBroke v w b r → WentOrBroke u w (a ++ b) r
writes_then u v w a b (Ok x) p q = record {
  ok = WentOut-then p.ok q.ok;
  err = tt;
  calls = omega (arith, p.calls, q.calls);
  few = omega (arith, p.few, q.few, length-append a b);
  once = omega (arith, p.ok.quiet, q.once);
}
writes_then u v w a b (Err e) p q = record {
  ok = tt;
  err = BrokeOff-then p.ok q.err;
  calls = omega (arith, p.calls, q.calls);
  few = omega (arith, p.few, q.few, length-append a b);
  once = omega (arith, p.ok.quiet, q.once);
}

pub writes_more : (u v : LineState) (a b : List ℕ) (e : WriteFault) → WentOrBroke u v a (Err e)
    → WentOrBroke u v (a ++ b) (Err e)
writes_more u v a b e p = record { ok = tt; err = BrokeOff-more b p.err; calls = p.calls; few = omega (arith, p.few, length-append a b); once = p.once }

-- a further byte goes out, masked
pub masked_more : (s : ℕ) (text : List ℕ) (at run : ℕ) → at + run < length text
    → masked s (take (run + 1) (drop at text)) ≡ masked s (take run (drop at text)) ++ bit_xor s (get_or text (at + run) 0) ∷ []
masked_more s text at run near = ap (masked s) (run_more text at run near) ∙ map-append (bit_xor s) (take run (drop at text)) (get_or text (at + run) 0 ∷ [])

module _ (u v w : LineState) (s : ℕ) (text : List ℕ) (from sent byte : ℕ) (near : from + sent < length text) (is : byte ≡ get_or text (from + sent) 0) where
  pub byte_went : (r : Result (Unit {0}) WriteFault) → WentOrBroke u v (masked s (take sent (drop from text))) (Ok tt) → WentOrBroke v w (bit_xor s byte ∷ []) r
      → WentOrBroke u w (masked s (take (sent + 1) (drop from text))) r
  byte_went r p q =
      subst (λ x. WentOrBroke u w x r) (ap (λ b. masked s (take sent (drop from text)) ++ bit_xor s b ∷ []) is ∙ sym (masked_more s text from sent near))
      (writes_then u v w (masked s (take sent (drop from text))) (bit_xor s byte ∷ []) r p q)

  pub byte_broke : (run : ℕ) (e : WriteFault) → sent < run → WentOrBroke u v (masked s (take sent (drop from text))) (Ok tt) → WentOrBroke v w (bit_xor s byte ∷ []) (Err e)
      → WentOrBroke u w (masked s (take run (drop from text))) (Err e)
  byte_broke run e l p q =
      let x = drop from text in
      let rest = drop (sent + 1) (take run x) in
      let whole : take (sent + 1) x ++ rest ≡ take run x = ap (λ y. y ++ rest) (sym (take-take (sent + 1) run x (omega (arith, l)))) ∙ take-append-drop (sent + 1) (take run x) in
      subst (λ y. WentOrBroke u w y (Err e)) (sym (map-append (bit_xor s) (take (sent + 1) x) rest) ∙ ap (masked s) whole)
      (writes_more u w (masked s (take (sent + 1) x)) (masked s rest) e (byte_went (Err e) p q))

-- a block goes out
module _ (u v w : LineState) (s : ℕ) (text : List ℕ) (at run code : ℕ) (within : at + run ≤ length text) (is : code ≡ run + 1) where
  code_is : code ≡ suc (length (take run (drop at text)))
  code_is = omega (arith, is, length-take-le run (drop at text) (omega (arith, within, length-drop at text)))

  pub block_went : (r : Result (Unit {0}) WriteFault) → WentOrBroke u v (bit_xor s code ∷ []) (Ok tt) → WentOrBroke v w (masked s (take run (drop at text))) r
      → WentOrBroke u w (masked s (block (take run (drop at text)))) r
  block_went r p q =
      subst (λ k. WentOrBroke u w (bit_xor s k ∷ masked s (take run (drop at text))) r) code_is
      (writes_then u v w (bit_xor s code ∷ []) (masked s (take run (drop at text))) r p q)

  pub block_broke : (e : WriteFault) → WentOrBroke u v (bit_xor s code ∷ []) (Err e) → WentOrBroke u v (masked s (block (take run (drop at text)))) (Err e)
  block_broke e p =
      subst (λ k. WentOrBroke u v (bit_xor s k ∷ masked s (take run (drop at text))) (Err e)) code_is
      (writes_more u v (bit_xor s code ∷ []) (masked s (take run (drop at text))) e p)

-- The blocks before a place went out, and the frame goes on from there.
pub record Goes (u v : LineState) (s : ℕ) (text : List ℕ) (at : ℕ) : Type 0 where
  pub out : List ℕ
  pub went : WentOrBroke u v (masked s out) (Ok tt)
  pub whole : shortest_frame text ≡ out ++ shortest_from [] (drop at text)
  pub within : at ≤ length text

pub goes_start : (u : LineState) (s : ℕ) (text : List ℕ) → Goes u u s text 0
goes_start u s text = record { out = []; went = writes_none u; whole = refl; within = omega arith }

module _ (u v w : LineState) (s : ℕ) (text : List ℕ) (at run : ℕ) (few : run ≤ 254) (within : at + run ≤ length text) (clear : NoZero (take run (drop at text))) (g : Goes u v s text at) where
  joined : (r : Result (Unit {0}) WriteFault) → WentOrBroke v w (masked s (block (take run (drop at text)))) r → WentOrBroke u w (masked s (g.out ++ block (take run (drop at text)))) r
  joined r q =
      subst (λ x. WentOrBroke u w x r) (sym (map-append (bit_xor s) g.out (block (take run (drop at text)))))
      (writes_then u v w (masked s g.out) (masked s (block (take run (drop at text)))) r g.went q)

  pub goes_end : at + run ≡ length text → WentOrBroke v w (masked s (block (take run (drop at text)))) (Ok tt) → WentOrBroke u w (frame_for s text) (Ok tt)
  goes_end e q = subst (λ x. WentOrBroke u w (masked s x) (Ok tt)) (sym (g.whole ∙ ap (λ x. g.out ++ x) (block_last text at run few within clear e))) (joined (Ok tt) q)

  more_by : (more : List ℕ) → shortest_from [] (drop at text) ≡ block (take run (drop at text)) ++ more → shortest_frame text ≡ (g.out ++ block (take run (drop at text))) ++ more
  more_by more e = g.whole ∙ ap (λ x. g.out ++ x) e ∙ sym (append_assoc g.out (block (take run (drop at text))) more)

  pub goes_on : (next : ℕ) → at + run ≢ length text → (run < 254 → at + run < length text → get_or text (at + run) 0 ≡ 0)
      → (run < 254 → next ≡ at + run + 1) → (254 ≤ run → next ≡ at + run) → WentOrBroke v w (masked s (block (take run (drop at text)))) (Ok tt) → Goes u w s text next
  goes_on next n stops one full q = elim (cases_eq run 254) [
    | inl e ↦ (
        let near : at + run < length text = omega (arith, n, within) in
        let is : next ≡ at + run = full (omega (arith, e)) in
        record {
          out = g.out ++ block (take run (drop at text));
          went = joined (Ok tt) q;
          whole = more_by (shortest_from [] (drop (at + run) text)) (block_full text at run few within clear near e)
              ∙ ap (λ k. (g.out ++ block (take run (drop at text))) ++ shortest_from [] (drop k text)) (sym is);
          within = omega (arith, is, within);
        })
    | inr o ↦ (
        let near : at + run < length text = omega (arith, n, within) in
        let less : run < 254 = omega (arith, o, few) in
        let is : next ≡ at + run + 1 = one less in
        record {
          out = g.out ++ block (take run (drop at text));
          went = joined (Ok tt) q;
          whole = more_by (shortest_from [] (drop (at + run + 1) text)) (block_zero text at run few within clear near less (stops less near))
              ∙ ap (λ k. (g.out ++ block (take run (drop at text))) ++ shortest_from [] (drop k text)) (sym is);
          within = omega (arith, is, near);
        })
  ]

  broke_by : (e : WriteFault) (more : List ℕ) → shortest_from [] (drop at text) ≡ block (take run (drop at text)) ++ more → WentOrBroke v w (masked s (block (take run (drop at text)))) (Err e) → WentOrBroke u w (frame_for s text) (Err e)
  broke_by e more h q =
      let front = g.out ++ block (take run (drop at text)) in
      subst (λ x. WentOrBroke u w x (Err e)) (sym (map-append (bit_xor s) front more) ∙ ap (masked s) (sym (more_by more h)))
      (writes_more u w (masked s front) (masked s more) e (joined (Err e) q))

  pub goes_broke : (e : WriteFault) → (run < 254 → at + run < length text → get_or text (at + run) 0 ≡ 0) → WentOrBroke v w (masked s (block (take run (drop at text)))) (Err e) → WentOrBroke u w (frame_for s text) (Err e)
  goes_broke e stops q = elim (cases_eq (at + run) (length text)) [
    | inl end ↦ broke_by e [] (block_last text at run few within clear end ∙ sym (append-nil (block (take run (drop at text))))) q
    | inr n ↦ elim (cases_eq run 254) [
      | inl f ↦ broke_by e (shortest_from [] (drop (at + run) text)) (block_full text at run few within clear (omega (arith, n, within)) f) q
      | inr o ↦ broke_by e (shortest_from [] (drop (at + run + 1) text)) (block_zero text at run few within clear (omega (arith, n, within)) (omega (arith, o, few)) (stops (omega (arith, o, few)) (omega (arith, n, within)))) q
    ]
  ]

pub later_place : (at run next end : ℕ) → at + run ≤ end → at + run ≢ end → (run < 254 → next ≡ at + run + 1) → (254 ≤ run → next ≡ at + run) → (end - next < end - at) × (next ≤ end)
later_place at run next end l n one full = elim (cases_lt run 254) [
  | inl less ↦ (let e : next ≡ at + run + 1 = one less in (omega (arith, e, l, n), omega (arith, e, l, n)))
  | inr more ↦ (let e : next ≡ at + run = full more in (omega (arith, e, l, n, more), omega (arith, e, l)))
]

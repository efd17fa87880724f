-- What the streaming decoders do with a byte and with a piece.
use Rattle.std.proofs.Common.{◌≡◌, ◌≢◌, ℕ, zero, suc, ◌+◌, ◌-◌, ◌^◌, ◌<◌, ◌≤◌, min, nat_lt, if◌then◌else◌, false, set, List, [], ◌∷◌, ◌++◌, length, take, drop, append_assoc, length-append, length-take, length-drop, Option, Some, None, Result, Ok, Err, inl, inr, refl, ap, sym, ◌∙◌, subst, arith}
use Rattle.std.proofs.lemmas.List.{append-nil, take-take, set_past}
use Rattle.std.specs.Prelude.{IfOk, IfSome, IsNone}
use Rattle.cobs.specs.Frames.{NoZero, part, part_from, after}
use Rattle.cobs.specs.InPlace.{written_over}
use Rattle.cobs.specs.Feeding.{at_zero, at_byte, answer_of, frame_after, placed, told_by, fed, next, standing, listed}
use Rattle.cobs.specs.Pieces.{frame_met}
use Rattle.cobs.specs.Reports.{parsed_size, frame_size}
use Rattle.cobs.specs.Sentinel.{masked}
use Rattle.cobs.specs.Streaming.{HasStreamed}
use Rattle.cobs.specs.Taking.{FeedsByte, TakesPiece, TakesFront, Owes, left_in}
use Rattle.std.proofs.lemmas.Bool.{cases_lt, ne_eqb, lt-ltb, le-ltb}
use Rattle.cobs.specs.declared.dec.state.DecoderState.{DecoderState}
use Rattle.cobs.specs.declared.dec.state.DecoderState.TheVariants.{Idle, Grab, GrabChain}
use Rattle.cobs.specs.declared.dec.report.DecodeError.{DecodeError}
use Rattle.cobs.specs.declared.dec.report.DecodeError.TheVariants.{TargetBufTooSmall}
use Rattle.cobs.specs.declared.dec.report.DecodeReport.{DecodeReport}
use Rattle.cobs.specs.declared.dec.progress.Progress.{Progress}
use Rattle.cobs.proofs.DecodingLemmas.{part_append, nonzero_append}
use Rattle.cobs.proofs.FeedsLemmas.{StoresByte, frame_byte, answer_byte, part_told, takes_told, takes_over}
use Rattle.cobs.proofs.MaskingLemmas.{masked_zero}
use Rattle.cobs.proofs.MessagesLemmas.{decoded_next, decoded_left, placed_zero, length-placed, message_here, message_met}
use Rattle.cobs.proofs.PassingLemmas.{all_placed}
use Rattle.cobs.proofs.TurnsLemmas.{Came}
use Rattle.cobs.proofs.WindowsLemmas.{placed_written}
use Rattle.cobs.proofs.WithinLemmas.{placed_front, cases_zero}
use Rattle.cobs.proofs.WrittenLemmas.{front_then}

-- of an answer
if_answered : {A : Type 0} (result : Result (Option A) DecodeError) (P : A → Type 0) → ((x : A) → result ≡ Ok (Some x) → P x) → IfOk result (λ o. IfSome o P)
if_answered (Ok (Some x)) P f = f x refl
if_answered (Ok None) P f = tt
if_answered (Err e) P f = tt

-- of a byte that has no answer
pub none_within : {A : Type 0} (result : Result (Option A) DecodeError) (P : A → Type 0) → IfOk result IsNone → IfOk result (λ o. IfSome o P)
none_within (Ok None) P n = tt
none_within (Ok (Some x)) P n = absurd (cc)
none_within (Err e) P n = tt

takes_byte : (d : Progress) (old : List ℕ) (byte : ℕ) (result : Result (Option ℕ) DecodeError) (d' : Progress) (new : List ℕ)
    → ((p : List ℕ) → HasStreamed d p → HasStreamed d' (frame_after p byte)) → ((p : List ℕ) → HasStreamed d p → result ≡ answer_of (length old) p byte) → ((p : List ℕ) → HasStreamed d p → new ≡ placed p byte old)
    → IfOk result (λ o. IfSome o (λ n. n ≤ length new)) → length new ≡ length old → FeedsByte d old byte result d' new
takes_byte d old byte result d' new h a b w r = record {
  has = h;
  answer = a;
  buffer = b;
  decoded = λ p s k. rw (b p s) (decoded_next p byte old k);
  message = λ p s k. if_answered result (λ n. take n new ≡ part p) (λ n e. rw (b p s) (message_here (length old) p byte n old refl k (sym (a p s) ∙ e)));
  within = w;
  room = r;
}

pub takes_zero : (d : Progress) (old : List ℕ) (byte : ℕ) (result : Result (Option ℕ) DecodeError) (d' : Progress) → byte ≡ 0
    → HasStreamed d' [] → ((p : List ℕ) → HasStreamed d p → result ≡ at_zero (length old) p) → IfOk result (λ o. IfSome o (λ n. n ≤ length old)) → FeedsByte d old byte result d' old
takes_zero d old byte result d' z h a w =
    subst (λ b. FeedsByte d old b result d' old) (sym z) (takes_byte d old 0 result d' old (λ p s. h) a (λ p s. sym (placed_zero p old)) w refl)

pub takes_nonzero : (d : Progress) (old : List ℕ) (byte : ℕ) (result : Result (Option ℕ) DecodeError) (d' : Progress) (new : List ℕ) → 0 < byte
    → ((p : List ℕ) → HasStreamed d p → HasStreamed d' (p ++ byte ∷ [])) → ((p : List ℕ) → HasStreamed d p → result ≡ at_byte (length old) p byte) → ((p : List ℕ) → HasStreamed d p → new ≡ placed p byte old)
    → IfOk result (λ o. IfSome o (λ n. n ≤ length new)) → length new ≡ length old → FeedsByte d old byte result d' new
takes_nonzero d old byte result d' new z h a b w r =
    takes_byte d old byte result d' new (λ p s. rw (frame_byte p byte z) (h p s)) (λ p s. a p s ∙ sym (answer_byte (length old) p byte z)) b w r

-- a byte of a frame was taken
pub takes_stored : (d : Progress) (old : List ℕ) (byte : ℕ) (result : Result (Option ℕ) DecodeError) (d' : Progress) (new : List ℕ) → 0 < byte → length new ≡ length old → StoresByte d old byte result d' new → FeedsByte d old byte result d' new
takes_stored d old byte result d' new z r s = takes_nonzero d old byte result d' new z s.stands s.answer s.buffer (none_within result (λ n. n ≤ length new) s.none) r

-- and it told a byte of the message
pub takes_put : (d : Progress) (old : List ℕ) (byte x : ℕ) (result : Result (Option ℕ) DecodeError) (d' : Progress) (new : List ℕ) → 0 < byte → byte < 256 → length old < 2 ^ 64 → length new ≡ length old
    → told_by (fed d.state byte) ≡ Some x → d'.state ≡ next d.state byte → d'.len ≡ min (d.len + 1) (2 ^ 64 - 1)
    → result ≡ (if nat_lt d.len (length old) then Ok None else Err TargetBufTooSmall) → new ≡ set old d.len x → FeedsByte d old byte result d' new
takes_put d old byte x result d' new some small w room told state len answer put = elim (cases_lt d.len (length old)) [
  | inl l ↦
      let is : result ≡ Ok None = answer ∙ rw (lt-ltb d.len (length old) l) refl in
      takes_stored d old byte result d' new some room
      (subst (λ r. StoresByte d old byte r d' new) (sym is) (subst (λ b. StoresByte d old byte (Ok None) d' b) (sym put) (takes_told old d d' byte some small state x told len l w)))
  | inr g ↦
      let is : result ≡ Err TargetBufTooSmall = answer ∙ rw (le-ltb d.len (length old) g) refl in
      let same : new ≡ old = put ∙ set_past old d.len x g in
      takes_stored d old byte result d' new some room
      (subst (λ r. StoresByte d old byte r d' new) (sym is) (subst (λ b. StoresByte d old byte (Err TargetBufTooSmall) d' b) (sym same) (takes_over old d d' byte some small state x told len g)))
]

pub takes_piece : (d : Progress) (old piece : List ℕ) (result : Result (Option DecodeReport) DecodeError) (d' : Progress) (new : List ℕ)
    → ((p : List ℕ) → HasStreamed d p → Came p piece old result d' new) → IfOk result (λ o. IfSome o (λ r. (parsed_size r ≤ length piece) × (frame_size r ≤ length new))) → length new ≡ length old
    → TakesPiece d old piece result d' new
takes_piece d old piece result d' new c w r = record {
  has = λ p s. rw (c p s).outcome.leaves (c p s).stands;
  answer = λ p s. sym (c p s).outcome.answers;
  buffer = λ p s. sym (c p s).outcome.holds;
  decoded = λ p s k. rw (sym (c p s).outcome.holds) (decoded_left (length old) p piece old k);
  message = λ p s k. if_answered result (λ q. take (frame_size q) new ≡ part (frame_met (length old) p piece))
      (λ q e. rw (sym (c p s).outcome.holds) (message_met (length old) p piece old 0 q refl k ((c p s).outcome.answers ∙ e)));
  within = w;
  room = r;
}

-- for the sentinel zero
pub unmasked : {d : Progress} {old piece : List ℕ} {result : Result (Option DecodeReport) DecodeError} {d' : Progress} {new : List ℕ} → TakesPiece d old (masked 0 piece) result d' new → TakesPiece d old piece result d' new
unmasked {d} {old} {piece} {result} {d'} {new} t = subst (λ (b : List ℕ). TakesPiece d old b result d' new) (masked_zero piece) t

-- nothing more was taken in
pub none_front : (p rest buffer : List ℕ) (d : Progress) → HasStreamed d p → TakesFront p rest buffer 0 d buffer
none_front p rest buffer d s = record {
  within = omega arith;
  clear = tt;
  fits = λ l. absurd (omega arith);
  has = subst (HasStreamed d) (sym (append-nil p)) s;
  buffer = λ l. absurd (omega arith);
  same = λ z. refl;
}

-- where a code tells no byte of a message
pub owes_idle : Owes Idle
owes_idle code z = (rw (ne_eqb code 0 (λ e. omega arith)) refl, rw (ne_eqb code 0 (λ e. omega arith)) refl)

pub owes_chain : Owes (GrabChain 0)
owes_chain code z = (rw (ne_eqb code 0 (λ e. omega arith)) refl, rw (ne_eqb code 0 (λ e. omega arith)) refl)

pub owes_other : (state : DecoderState) → left_in state ≡ 0 → ((n : ℕ) → state ≢ Grab n) → Owes state
owes_other Idle none other = owes_idle
owes_other (Grab n) none other = absurd (other n refl)
owes_other (GrabChain zero) none other = owes_chain
owes_other (GrabChain (suc n)) none other = absurd (omega (arith, none))

-- nothing was taken in
pub none_taken : (p piece old new : List ℕ) (n : ℕ) (d : Progress) → n ≡ 0 → TakesFront p piece old n d new → HasStreamed d p × (new ≡ old)
none_taken p piece old new n d z f = (subst (HasStreamed d) (ap (λ k. p ++ take k piece) z ∙ append-nil p) f.has, f.same z)

-- a byte was taken in, and behind it these
module _ (p : List ℕ) (b : ℕ) (rest old mid new : List ℕ) (n : ℕ) (d : Progress) (some : 0 < b) (room : length (part (p ++ b ∷ [])) ≤ length old) (put : mid ≡ placed p b old)
    (f : TakesFront (p ++ b ∷ []) rest mid n d new) where
  abbrev bytes : List ℕ
  bytes = b ∷ take n rest

  whole : (p ++ b ∷ []) ++ take n rest ≡ p ++ bytes
  whole = append_assoc p (b ∷ []) (take n rest)

  fits : length (part (p ++ bytes)) ≤ length old
  fits = elim (cases_zero n) [
    | inl z ↦ let none : take n rest ≡ [] = ap (λ j. take j rest) z in rw none room
    | inr l ↦ omega (arith, f.fits l, ap (λ q. length (part q)) whole, ap length put, length-placed p b old)
  ]

  placed_all : new ≡ all_placed p bytes old
  placed_all = placed_front (p ++ b ∷ []) rest mid n d new f ∙ ap (all_placed (p ++ b ∷ []) (take n rest)) put

  written : new ≡ written_over (length (part p)) (part_from (after 0 false p).0 (after 0 false p).1 bytes) old
  written = placed_all ∙ placed_written p bytes old (some, f.clear) (omega (arith, fits, ap length (part_append 0 false p bytes), length-append (part p) (part_from (after 0 false p).0 (after 0 false p).1 bytes)))

  then_suc : TakesFront p (b ∷ rest) old (suc n) d new
  then_suc = record {
    within = omega (arith, f.within);
    clear = (some, f.clear);
    fits = λ l. fits;
    has = subst (HasStreamed d) whole f.has;
    buffer = λ l. written;
    same = λ z. absurd (omega arith);
  }

  pub byte_then : TakesFront p (b ∷ rest) old (1 + n) d new
  byte_then = let one : suc n ≡ 1 + n = omega arith in subst (λ j. TakesFront p (b ∷ rest) old j d new) one then_suc

-- what was taken in of the front of the bytes is of all of them
pub front_longer : (p piece rest old new : List ℕ) (n m : ℕ) (d : Progress) → piece ≡ take m rest → TakesFront p piece old n d new → TakesFront p rest old n d new
front_longer p piece rest old new n m d e f =
    let few : n ≤ min m (length rest) = omega (arith, f.within, ap length e, length-take m rest) in
    let same : take n piece ≡ take n rest = ap (take n) e ∙ take-take n m rest (omega (arith, few)) in
    record {
      within = omega (arith, few);
      clear = subst NoZero same f.clear;
      fits = subst (λ b. 0 < n → length (part (p ++ b)) ≤ length old) same f.fits;
      has = subst (λ b. HasStreamed d (p ++ b)) same f.has;
      buffer = subst (λ b. 0 < n → new ≡ written_over (length (part p)) (part_from (after 0 false p).0 (after 0 false p).1 b) old) same f.buffer;
      same = f.same;
    }

placed_append : (p a b buffer : List ℕ) → all_placed (p ++ a) b (all_placed p a buffer) ≡ all_placed p (a ++ b) buffer
placed_append p [] b buffer = ap (λ q. all_placed q b buffer) (append-nil p)
placed_append p (x ∷ a) b buffer =
    ap (λ q. all_placed q b (all_placed (p ++ x ∷ []) a (placed p x buffer))) (sym (append_assoc p (x ∷ []) a)) ∙ placed_append (p ++ x ∷ []) a b (placed p x buffer)

-- bytes were taken in, and behind them these
module _ (p piece old mid new : List ℕ) (n m : ℕ) (d d' : Progress) (room : length mid ≡ length old) (f : TakesFront p piece old n d mid) (g : TakesFront (p ++ take n piece) (drop n piece) mid m d' new) where
  both : take n piece ++ take m (drop n piece) ≡ take (n + m) piece
  both = ap (λ j. take n piece ++ take j (drop n piece)) (omega arith) ∙ front_then n (n + m) piece (omega arith)

  on : (p ++ take n piece) ++ take m (drop n piece) ≡ p ++ take (n + m) piece
  on = append_assoc p (take n piece) (take m (drop n piece)) ∙ ap (λ b. p ++ b) both

  all_clear : NoZero (take (n + m) piece)
  all_clear = subst NoZero both (nonzero_append (take n piece) (take m (drop n piece)) f.clear g.clear)

  put_all : new ≡ all_placed p (take (n + m) piece) old
  put_all =
      placed_front (p ++ take n piece) (drop n piece) mid m d' new g
      ∙ ap (all_placed (p ++ take n piece) (take m (drop n piece))) (placed_front p piece old n d mid f)
      ∙ placed_append p (take n piece) (take m (drop n piece)) old ∙ ap (λ b. all_placed p b old) both

  all_fits : 0 < n + m → length (part (p ++ take (n + m) piece)) ≤ length old
  all_fits l = elim (cases_zero m) [
    | inl z ↦ let none : n ≡ n + m = omega (arith, z) in subst (λ j. length (part (p ++ take j piece)) ≤ length old) none (f.fits (omega (arith, l, z)))
    | inr q ↦ omega (arith, g.fits q, ap (λ b. length (part b)) on, room)
  ]

  pub front_on : TakesFront p piece old (n + m) d' new
  front_on = record {
    within = omega (arith, f.within, g.within, length-drop n piece);
    clear = all_clear;
    fits = all_fits;
    has = subst (HasStreamed d') on g.has;
    buffer = λ l.
        let told = part_from (after 0 false p).0 (after 0 false p).1 (take (n + m) piece) in
        put_all ∙ placed_written p (take (n + m) piece) old all_clear (omega (arith, all_fits l, ap length (part_append 0 false p (take (n + m) piece)), length-append (part p) told));
    same = λ z. g.same (omega (arith, z)) ∙ f.same (omega (arith, z));
  }

-- a byte that has room
told_few : (o : Option ℕ) → length (listed o) ≤ 1
told_few None = omega arith
told_few (Some x) = omega arith

pub byte_fits : (p : List ℕ) (b room : ℕ) (d : Progress) → 0 < b → HasStreamed d p → d.len < room → room < 2 ^ 64 → length (part (p ++ b ∷ [])) ≤ room
byte_fits p b room d some s l w =
    let told = told_by (fed (standing p) b) in
    omega (arith, s.len, l, w, ap length (part_told p b some), length-append (part p) (listed told), told_few told)

-- Counted messages: where their bytes stand, and what is answered to them.
use Rattle.std.proofs.Common.{◌≡◌, ℕ, ◌+◌, ◌-◌, ◌*◌, ◌<◌, ◌≤◌, ◌^◌, ◌⊎◌, List, [], ◌∷◌, ◌++◌, length, take, drop, get_or, zero, suc, Some, None, Ok, inl, inr, refl, sym, ap, ◌∙◌, subst, arith, append_assoc}
use Rattle.std.proofs.lemmas.List.{length-drop, length-take-le, take-append-drop, take-take, drop-take, take_more, take_all}
use Rattle.cobs.specs.Frames.{Frame}
use Rattle.cobs.specs.FrameLaws.{HasOneMessage}
use Rattle.postcard_tree.specs.declared.error.Error.{Error}
use Rattle.postcard_tree.specs.declared.error.Error.TheVariants.{DeserializeUnexpectedEnd, DeserializeBadVarint}
use Rattle.postcard_tree.specs.Number.{Number, IsGrouped, grouped_value}
use Rattle.postcard_tree.specs.Once.{reach}
use Rattle.postcard_tree.specs.Reading.{NoFront, ReadsBytes, RefusesGroups, RefusesBehindCount}
use Rattle.postcard_tree.specs.ReadingLaws.{bytes_laws}
use Rattle.postcard_de.specs.Answer.{ReadsFront}
use Rattle.postcard_de.specs.Source.{GivesGroups, IsCountedRun}
use Rattle.postcard_de.specs.Groups.{reach_some}
use Rattle.postcard_de.specs.Runs.{bytes_spelled}
use Rattle.link.specs.Steps.{Event, quiet, ended, passed, Course}
use Rattle.link.specs.Finds.{Replies}
use Rattle.frames.specs.Events.{found, FindsFrame, TakesFrame, TakesCounted, HoldsCounted, answer_in, RepliesAs}
use Rattle.frames.specs.declared.receiving.FrameEvent.TheVariants.{Message, Damaged, TooLong}

-- each says that another one follows
abbrev pub GoOn : List ℕ → Type 0
GoOn [] = Unit {0}
GoOn (b ∷ bs) = (128 ≤ b) × (b < 256) × GoOn bs

short_refused : (m : ℕ) (s : List ℕ) → GoOn s → length s < m → RefusesGroups m 1 s DeserializeUnexpectedEnd
short_refused zero s h l = absurd (omega (arith, l))
short_refused (suc m) [] h l = refl
short_refused (suc zero) (b ∷ bs) h l = absurd (omega (arith, l))
short_refused (suc (suc m)) (b ∷ bs) h l = (h.0, short_refused (suc m) bs h.2 (omega (arith, l)))

long_refused : (m : ℕ) (s rest : List ℕ) → GoOn s → length s ≡ suc m → RefusesGroups (suc m) 1 (s ++ rest) DeserializeBadVarint
long_refused m [] rest h l = absurd (omega (arith, l))
long_refused zero (b ∷ bs) rest h l = (omega (arith, h.0), refl)
long_refused (suc m) (b ∷ bs) rest h l = (h.0, long_refused m bs rest h.2 (omega (arith, l)))

module _ (message : List ℕ) (at : ℕ) (goes : GoOn (take at message)) where
  -- no byte is left
  pub count_short : at ≡ length message → at < 10 → (e : Error) × RefusesGroups 10 1 message e
  count_short end few =
      let whole : take at message ≡ message = take_all at message (omega (arith, end)) in
      (DeserializeUnexpectedEnd, short_refused 10 message (subst GoOn whole goes) (omega (arith, end, few)))

  -- ten say that another one follows
  pub count_long : at ≡ 10 → at ≤ length message → (e : Error) × RefusesGroups 10 1 message e
  count_long ten within =
      let ends : length (take at message) ≡ 10 = length-take-le at message within ∙ ten in
      (DeserializeBadVarint, subst (λ s. RefusesGroups 10 1 s DeserializeBadVarint) (take-append-drop at message) (long_refused 9 (take at message) (drop at message) goes ends))

-- The number of groups, from the last on

last_groups : (s : List ℕ) (at : ℕ) → grouped_value (drop at s) ≤ grouped_value s
last_groups s zero = omega arith
last_groups [] (suc at) = omega arith
last_groups (b ∷ bs) (suc at) = omega (arith, last_groups bs at)

pub more_than_last : (s : List ℕ) (at : ℕ) → 0 < at → 128 * grouped_value (drop at s) ≤ grouped_value s
more_than_last s zero p = absurd (omega (arith, p))
more_than_last [] (suc at) p = omega arith
more_than_last (b ∷ bs) (suc at) p = omega (arith, last_groups bs at)

le_or_lt : (a b : ℕ) → (a ≤ b) ⊎ (b < a)
le_or_lt zero b = inl (omega arith)
le_or_lt (suc a) zero = inr (omega arith)
le_or_lt (suc a) (suc b) = more (le_or_lt a b)
  where
    more : (a ≤ b) ⊎ (b < a) → (suc a ≤ suc b) ⊎ (suc b < suc a)
    more (inl h) = inl (omega (arith, h))
    more (inr h) = inr (omega (arith, h))

-- A number that isn't below 2 ^ 64 is refused

large_refused : (more : ℕ) (s rest : List ℕ) → IsGrouped s → length s ≤ suc more → reach 1 more ≤ grouped_value s
    → RefusesGroups (suc more) 1 (s ++ rest) DeserializeBadVarint
large_refused more [] rest g l v = absurd g
large_refused zero (b ∷ []) rest g l v = (omega (arith, g, v), refl)
large_refused zero (b ∷ c ∷ cs) rest g l v = absurd (omega (arith, l))
large_refused (suc more) (b ∷ []) rest g l v = absurd (omega (arith, g, v, reach_some 1 more (omega arith)))
large_refused (suc more) (b ∷ c ∷ cs) rest g l v = (g.0, large_refused more (c ∷ cs) rest g.2 (omega (arith, l)) (omega (arith, v)))

pub uncounted : (message : List ℕ) (e : Error) → RefusesGroups 10 1 message e → NoFront TakesCounted message
uncounted message e r = bytes_laws.refused message e (inl r)

-- so many bytes are a count
number_given : (s : List ℕ) (n : ℕ) → GivesGroups 9 1 s n → Number 64 n s
number_given s n g = record { grouped = g.grouped; within = g.within; value = g.value; fits = g.below }

module _ (message : List ℕ) (at n : ℕ) (g : GivesGroups 9 1 (take at message) n) (within : at ≤ length message) where
  pub counted_read : n ≤ length message - at → (rest : List ℕ) × ReadsFront ReadsBytes message rest (take n (drop at message))
  counted_read few =
      let v = take n (drop at message) in
      let rest = drop n (drop at message) in
      let long : length v ≡ n = length-take-le n (drop at message) (omega (arith, few, length-drop at message)) in
      let run : IsCountedRun (take at message ++ v) v = record {
        count = take at message;
        whole = refl;
        counted = subst (λ k. Number 64 k (take at message)) (sym long) (number_given (take at message) n g);
      } in
      let whole : message ≡ (take at message ++ v) ++ rest =
      sym (take-append-drop at message) ∙ ap (λ x. take at message ++ x) (sym (take-append-drop n (drop at message))) ∙ sym (append_assoc (take at message) v rest) in
      (rest, record { front = take at message ++ v; whole = whole; spelled = bytes_spelled run })

  pub counted_short : length message - at < n → NoFront TakesCounted message
  counted_short many =
      let r : RefusesBehindCount (λ k s e. (length s < k) × (e ≡ DeserializeUnexpectedEnd)) message DeserializeUnexpectedEnd = record {
        n = n;
        count = take at message;
        rest = drop at message;
        whole = sym (take-append-drop at message);
        counted = number_given (take at message) n g;
        refused = (omega (arith, many, length-drop at message), refl);
      } in
      bytes_laws.refused message DeserializeUnexpectedEnd (inr r)

module _ (message : List ℕ) (at : ℕ) (few : at ≤ 10) (within : at ≤ length message) (ends : IsGrouped (take at message)) where
  so_many : length (take at message) ≤ 10
  so_many = omega (arith, few, length-take-le at message within)

  given : (n : ℕ) → n ≡ grouped_value (take at message) → n < 2 ^ 64 → GivesGroups 9 1 (take at message) n
  given n is fits = record { grouped = ends; within = so_many; value = sym is; below = fits }

  pub message_read : (n : ℕ) → n ≡ grouped_value (take at message) → n < 2 ^ 64 → n ≤ length message - at
      → (rest : List ℕ) × ReadsFront ReadsBytes message rest (take n (drop at message))
  message_read n is fits few = counted_read message at n (given n is fits) within few

  -- fewer bytes are left than are counted, whose number may be any
  pub message_short : length message - at < grouped_value (take at message) → NoFront TakesCounted message
  message_short many = by (le_or_lt (2 ^ 64) (grouped_value (take at message)))
    where
      by : (2 ^ 64 ≤ grouped_value (take at message)) ⊎ (grouped_value (take at message) < 2 ^ 64) → NoFront TakesCounted message
      by (inl large) = uncounted message DeserializeBadVarint
          (subst (λ s. RefusesGroups 10 1 s DeserializeBadVarint) (take-append-drop at message) (large_refused 9 (take at message) (drop at message) ends so_many large))
      by (inr small) = counted_short message at (grouped_value (take at message)) (given _ refl small) within many

-- a part of a front of a buffer is one of the buffer
part_of_front : (buffer : List ℕ) (n start size : ℕ) → start + size ≤ n → take size (drop start (take n buffer)) ≡ take size (drop start buffer)
part_of_front buffer n start size l =
    let whole : n ≡ start + (n - start) = omega (arith, l) in
    ap (λ k. take size (drop start (take k buffer))) whole ∙ ap (take size) (drop-take start (n - start) buffer) ∙ take-take size (n - start) (drop start buffer) (omega (arith, l))

-- a message that was found is the frame's that ended
ended_by : (limit : ℕ) (k : Course) (buffer : List ℕ) (used stretch start size : ℕ) → TakesFrame limit k buffer (found used stretch (Some (Message start size)))
    → (p : List ℕ) × (k.event ≡ ended p) × Frame p (take size buffer)
ended_by limit k buffer used stretch start size t = go k.event refl t.finds
  where
    go : (e : Event) → k.event ≡ e → FindsFrame buffer e (Some (Message start size)) → (p : List ℕ) × (k.event ≡ ended p) × Frame p (take size buffer)
    go quiet q f = cc
    go passed q f = cc
    go (ended p) q f = (p, q, f)

module _ (limit : ℕ) (k : Course) (buffer : List ℕ) (used stretch start size : ℕ) (t : TakesFrame limit k buffer (found used stretch (Some (Message start size)))) where
  -- a counted one
  pub counted_replies : (from n : ℕ) (rest : List ℕ) → from + n ≤ size → ReadsFront ReadsBytes (take size buffer) rest (take n (drop from (take size buffer)))
      → RepliesAs HoldsCounted ReadsBytes limit k buffer (found used stretch (Some (Message from n)))
  counted_replies from n rest l r =
      let e = ended_by limit k buffer used stretch start size t in
      let same = part_of_front buffer size from n l in
      record {
        used = t.used;
        reply = subst (λ x. Replies HoldsCounted ReadsBytes x (Ok (answer_in buffer (Some (Message from n))))) (sym e.1) (
          r.spelled.tree,
          record { message = take size buffer; front = r.front; rest = rest; frame = e.2; begins = r.whole; spelled = r.spelled.spells; taken = bytes_laws.taken r.spelled.tree _ r.spelled.read },
          subst (ReadsBytes r.spelled.tree) same r.spelled.read,
        );
        span = t.span;
      }

  -- none
  pub uncounted_replies : HasOneMessage → NoFront TakesCounted (take size buffer) → RepliesAs HoldsCounted ReadsBytes limit k buffer (found used stretch (Some Damaged))
  uncounted_replies one none =
      let e = ended_by limit k buffer used stretch start size t in
      record {
        used = t.used;
        reply = subst (λ x. Replies HoldsCounted ReadsBytes x (Ok (answer_in buffer (Some Damaged)))) (sym e.1)
            (λ u h. none u h.front h.rest h.taken h.spelled (one e.0 _ e.2 ∙ sym (one e.0 h.message h.frame) ∙ h.begins));
        span = t.span;
      }

damaged_reply : (event : Event) (buffer : List ℕ) → FindsFrame buffer event (Some Damaged) → Replies HoldsCounted ReadsBytes event (Ok (answer_in buffer (Some Damaged)))
damaged_reply quiet buffer h = cc
damaged_reply passed buffer h = cc
damaged_reply (ended p) buffer h = λ t x. h x.message x.frame

module _ (limit : ℕ) (k : Course) (buffer : List ℕ) (used stretch : ℕ) where
  pub damaged_replies : TakesFrame limit k buffer (found used stretch (Some Damaged)) → RepliesAs HoldsCounted ReadsBytes limit k buffer (found used stretch (Some Damaged))
  damaged_replies t = record { used = t.used; reply = damaged_reply k.event buffer t.finds; span = t.span }

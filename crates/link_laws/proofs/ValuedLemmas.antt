-- What is told of values is what is told of their trees.
use Rattle.std.proofs.Common.{◌≡◌, ℕ, zero, suc, ◌∙◌, Bool, true, false, List, [], ◌∷◌, ◌++◌, map, Option, Some, refl, sym, ap, subst, nat_lt, cond, length}
use Rattle.std.specs.List.{AllZip, AllByRecursion}
use Rattle.cobs.specs.Frames.{shortest_frame}
use Rattle.postcard_tree.specs.Tree.{Tree}
use Rattle.postcard_tree.specs.Spelling.{short}
use Rattle.link.specs.Stream.{Verdict, value, damaged, too_long, cut}
use Rattle.link.specs.Run.{Send, completed, refused, broken, clean_after, session_line, line, frame_bytes, told_broken, told_send, told_session, told}
use Rattle.link.specs.Pushes.{Matches}
use Rattle.link_laws.specs.Answered.{Sends}
use Rattle.link_laws.specs.Values.{sends_of, runs_of, answer_of, told_values_session, told_values, AlikeAnswers, AreSends, AllCompleted, values_sent}
use Rattle.link.specs.declared.receiver.Answer.{Answer}
use Rattle.link.specs.declared.receiver.Answer.TheVariants.{Value, Damaged, TooLong, Cut}
use Rattle.link.specs.Lemmas.HeardLaws.{zip_joined}

-- the tree of each value that is told is t
abbrev IsOf : Tree → List Verdict → Type 0
IsOf t us = AllByRecursion (λ u. (w : Tree) → u ≡ value w → w ≡ t) us

of_itself : (t w : Tree) → value t ≡ value w → w ≡ t
of_itself t w e = cc

of_broken : (t : Tree) (out : ℕ) (later : List ℕ) → IsOf t (told_broken t out later)
of_broken t zero later = tt
of_broken t (suc out) [] = (λ w e. cc, tt)
of_broken t (suc out) (b ∷ later) = by (nat_lt (suc out) (length (shortest_frame (short t))))
  where
    by : (c : Bool) → IsOf t (cond c (damaged ∷ []) (value t ∷ []))
    by true = (λ w e. cc, tt)
    by false = (of_itself t, tt)

-- the answers to lists one behind another
record ZippedRight {A B : Type 0} (R : A → B → Type 0) (ys zs : List B) (every : List A) : Type 0 where
  us : List A
  vs : List A
  first : AllZip R us ys
  second : AllZip R vs zs
  whole : every ≡ us ++ vs

zip_right : {A B : Type 0} (R : A → B → Type 0) (ys zs : List B) (every : List A) → AllZip R every (ys ++ zs) → ZippedRight R ys zs every
zip_right R [] zs every h = record { us = []; vs = every; first = tt; second = h; whole = refl }
zip_right R (y ∷ ys) zs [] h = absurd h
zip_right R (y ∷ ys) zs (x ∷ every) h =
    let r = zip_right R ys zs every h.1 in
    record { us = x ∷ r.us; vs = r.vs; first = (h.0, r.first); second = r.second; whole = ap (λ l. x ∷ l) r.whole }

module _ {V : Type 0} (reads : Tree → V → Type 0) (alike : V → V → Type 0) (writes : V → Option Tree) (valid : V → Type 0)
    (same : (v w : V) (t : Tree) → valid v → writes v ≡ Some t → reads t w → alike v w) where
  one : (v : V) (t : Tree) (u : Verdict) (a : Answer V) → valid v → writes v ≡ Some t → ((w : Tree) → u ≡ value w → w ≡ t) → Matches reads a u → AlikeAnswers alike (answer_of v u) a
  one v t (value x) (Value w) h e k m = same v w t h e (subst (λ z. reads z w) (k m.0 m.2) m.1)
  one v t (value x) Damaged h e k m = cc
  one v t (value x) TooLong h e k m = cc
  one v t (value x) Cut h e k m = cc
  one v t damaged (Value w) h e k m = absurd (let no : damaged ≡ value m.0 = m.2 in cc)
  one v t damaged Damaged h e k m = tt
  one v t damaged TooLong h e k m = cc
  one v t damaged Cut h e k m = cc
  one v t too_long (Value w) h e k m = absurd (let no : too_long ≡ value m.0 = m.2 in cc)
  one v t too_long Damaged h e k m = cc
  one v t too_long TooLong h e k m = tt
  one v t too_long Cut h e k m = cc
  one v t cut (Value w) h e k m = absurd (let no : cut ≡ value m.0 = m.2 in cc)
  one v t cut Damaged h e k m = cc
  one v t cut TooLong h e k m = cc
  one v t cut Cut h e k m = tt

  all : (v : V) (t : Tree) (us : List Verdict) (bs : List (Answer V)) → valid v → writes v ≡ Some t → IsOf t us → AllZip (Matches reads) bs us → AllZip (AlikeAnswers alike) (map (answer_of v) us) bs
  all v t [] [] h e k m = tt
  all v t [] (b ∷ bs) h e k m = absurd m
  all v t (u ∷ us) [] h e k m = absurd m
  all v t (u ∷ us) (b ∷ bs) h e k m = (one v t u b h e k.0 m.0, all v t us bs h e k.1 m.1)

  send : (v : V) (x : Send) (clean : Bool) (later : List ℕ) (bs : List (Answer V)) → Sends writes valid v x → AllZip (Matches reads) bs (told_send clean later x) → AllZip (AlikeAnswers alike) (map (answer_of v) (told_send clean later x)) bs
  send v (completed t) clean later bs h m = all v t (value t ∷ []) bs h.0 h.1 (of_itself t, tt) m
  send v refused clean later [] h m = tt
  send v refused clean later (b ∷ bs) h m = absurd m
  send v (broken t k) clean later bs h m = all v t (told_broken t (frame_bytes clean k) later) bs h.0 h.1 (of_broken t (frame_bytes clean k) later) m

  module _ (s : ℕ) where
    session : (calls : List (V × Send)) (clean : Bool) (later : List ℕ) (bs : List (Answer V)) → AllByRecursion (λ c. Sends writes valid c.0 c.1) calls
        → AllZip (Matches reads) bs (told_session s clean later (sends_of calls)) → AllZip (AlikeAnswers alike) (told_values_session s clean later calls) bs
    session [] clean later [] h m = tt
    session [] clean later (b ∷ bs) h m = absurd m
    session (c ∷ calls) clean later bs h m =
        let behind = session_line s (clean_after clean c.1) (sends_of calls) ++ later in
        let r = zip_right (Matches reads) (told_send clean behind c.1) (told_session s (clean_after clean c.1) later (sends_of calls)) bs m in
        subst (AllZip (AlikeAnswers alike) (told_values_session s clean later (c ∷ calls))) (sym r.whole)
        (zip_joined (AlikeAnswers alike) (map (answer_of c.0) (told_send clean behind c.1)) (told_values_session s (clean_after clean c.1) later calls) r.us r.vs
        (send c.0 c.1 clean behind r.us h.0 r.first) (session calls (clean_after clean c.1) later r.vs h.1 r.second))

    pub told_alike : (run : List (List (V × Send))) (bs : List (Answer V)) → AreSends writes valid run → AllZip (Matches reads) bs (told s (runs_of run)) → AllZip (AlikeAnswers alike) (told_values s run) bs
    told_alike [] [] h m = tt
    told_alike [] (b ∷ bs) h m = absurd m
    told_alike (calls ∷ run) bs h m =
        let later = line s (runs_of run) in
        let r = zip_right (Matches reads) (told_session s false later (sends_of calls)) (told s (runs_of run)) bs m in
        subst (AllZip (AlikeAnswers alike) (told_values s (calls ∷ run))) (sym r.whole)
        (zip_joined (AlikeAnswers alike) (told_values_session s false later calls) (told_values s run) r.us r.vs (session calls false later r.us h.0 r.first) (told_alike run r.vs h.1 r.second))

-- of sends that completed each value is told
completed_session : {V : Type 0} (s : ℕ) (calls : List (V × Send)) (clean : Bool) (later : List ℕ) → AllCompleted calls → told_values_session s clean later calls ≡ map Value (map (λ c. c.0) calls)
completed_session s [] clean later h = refl
completed_session s ((v, completed t) ∷ calls) clean later h = ap (λ l. Value v ∷ l) (completed_session s calls true later h.1)
completed_session s ((v, refused) ∷ calls) clean later h = absurd (let no : refused ≡ completed h.0.0 = h.0.1 in cc)
completed_session s ((v, broken t k) ∷ calls) clean later h = absurd (let no : broken t k ≡ completed h.0.0 = h.0.1 in cc)

map_joined : {A B : Type 0} (f : A → B) (xs ys : List A) → map f (xs ++ ys) ≡ map f xs ++ map f ys
map_joined f [] ys = refl
map_joined f (x ∷ xs) ys = ap (λ l. f x ∷ l) (map_joined f xs ys)

pub completed_run : {V : Type 0} (s : ℕ) (run : List (List (V × Send))) → AllByRecursion AllCompleted run → told_values s run ≡ map Value (values_sent run)
completed_run s [] h = refl
completed_run s (calls ∷ run) h =
    ap (λ l. l ++ told_values s run) (completed_session s calls false (line s (runs_of run)) h.0) ∙ ap (λ l. map Value (map (λ c. c.0) calls) ++ l) (completed_run s run h.1)
    ∙ sym (map_joined Value (map (λ c. c.0) calls) (values_sent run))

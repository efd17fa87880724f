-- The bytes of an encoder are those of a session, and what is told of it are its values.
use Rattle.std.proofs.Common.{◌≡◌, ℕ, Bool, true, List, [], ◌∷◌, ◌++◌, map, Option, Some, refl, sym, ap, ◌∙◌, subst}
use Rattle.std.specs.List.{AllZip}
use Rattle.postcard_tree.specs.Tree.{Tree, IsTree}
use Rattle.link.specs.Stream.{value}
use Rattle.link.specs.Run.{Send, completed, refused, broken, IsSession, session_line, written, told_session}
use Rattle.link.specs.Fates.{IsSendOf}
use Rattle.link.specs.Pushes.{Matches}
use Rattle.link.specs.declared.receiver.Answer.{Answer}
use Rattle.link.specs.declared.receiver.Answer.TheVariants.{Value, Damaged, TooLong, Cut}
use Rattle.link_laws.specs.Values.{AlikeAnswers}
use Rattle.link_codec.specs.declared.encoder.LinkEncoder.{LinkEncoder}
use Rattle.link_codec.specs.Encoding.{encoder_sentinel, encoder_clean}
use Rattle.link_codec.specs.Told.{SendsEach, IsSessionOf}

pub session_of : {V : Type 0} {N : ℕ} (writes : V → Option Tree) (valid : V → Type 0) (values : List V) (e : LinkEncoder N) → IsSessionOf e writes valid values
session_of writes valid [] e bytes later h = ([], tt, tt, h.0)
session_of {V} {N} writes valid (v ∷ values) e bytes later (frame, next, rest, one, parts, all) =
    let k = session_of writes valid values next rest later all in
    let s = encoder_sentinel e in (
      completed one.tree ∷ k.0,
      ((one.tree, one.of, one.valid, refl), k.1),
      (one.is, subst (λ c. IsSession IsTree N s c k.0) one.clean (subst (λ m. IsSession IsTree N m (encoder_clean next) k.0) one.sentinel k.2)),
      parts ∙ ap (λ f. f ++ rest) one.bytes ∙ ap (λ r. written s (encoder_clean e) (completed one.tree) ++ r) (k.3 ∙ ap (λ m. session_line m (encoder_clean next) k.0) one.sentinel ∙ ap (λ c. session_line s c k.0) one.clean),
    )

module _ {V : Type 0} (writes : V → Option Tree) (valid : V → Type 0) where
  pub sends_of_each : (limit : ℕ) (values : List V) (sends : List Send) → SendsEach writes valid values sends → AllZip (λ v x. IsSendOf limit (writes v) (valid v) x) values sends
  sends_of_each limit [] [] h = tt
  sends_of_each limit [] (x ∷ sends) h = absurd h
  sends_of_each limit (v ∷ values) [] h = absurd h
  sends_of_each limit (v ∷ values) (x ∷ sends) ((t, w, l, e), k) = (subst (λ y. IsSendOf limit (writes v) (valid v) y) (sym e) (w, l), sends_of_each limit values sends k)

  module _ (reads : Tree → V → Type 0) (alike : V → V → Type 0) (same : (v w : V) (t : Tree) → valid v → writes v ≡ Some t → reads t w → alike v w) where
    one_alike : (v : V) (t : Tree) (a : Answer V) → valid v → writes v ≡ Some t → Matches reads a (value t) → AlikeAnswers alike (Value v) a
    one_alike v t (Value w) l e (u, r, k) = same v w t l e (subst (λ x. reads x w) (let h : u ≡ t = cc in h) r)
    one_alike v t Damaged l e m = cc
    one_alike v t TooLong l e m = cc
    one_alike v t Cut l e m = cc

    -- what is told of completed sends of values are values alike them
    pub told_alike : (s : ℕ) (values : List V) (sends : List Send) (clean : Bool) (later : List ℕ) (answers : List (Answer V)) → SendsEach writes valid values sends
        → AllZip (Matches reads) answers (told_session s clean later sends) → AllZip (AlikeAnswers alike) (map Value values) answers
    told_alike s [] [] clean later [] h m = tt
    told_alike s [] [] clean later (a ∷ answers) h m = absurd m
    told_alike s [] (x ∷ sends) clean later answers h m = absurd h
    told_alike s (v ∷ values) [] clean later answers h m = absurd h
    told_alike s (v ∷ values) (refused ∷ sends) clean later answers ((t, w, l, e), k) m = cc
    told_alike s (v ∷ values) (broken u n ∷ sends) clean later answers ((t, w, l, e), k) m = cc
    told_alike s (v ∷ values) (completed u ∷ sends) clean later [] ((t, w, l, e), k) m = absurd m
    told_alike s (v ∷ values) (completed u ∷ sends) clean later (a ∷ answers) ((t, w, l, e), k) m = (
      one_alike v t a l w (subst (λ x. Matches reads a (value x)) (let h : u ≡ t = cc in h) m.0),
      told_alike s values sends true later answers k m.1,
    )

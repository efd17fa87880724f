-- Records appended anew, and logs that were damaged.
use Rattle.std.proofs.Common.{◌≡◌, ℕ, ◌+◌, ◌≤◌, Bool, true, false, List, [], ◌∷◌, ◌++◌, length, map, refl, sym, ap, ◌∙◌, subst, arith}
use Rattle.std.proofs.lemmas.List.{append-nil, length-map}
use Rattle.std.specs.List.{AllZip}
use Rattle.postcard_tree.specs.Tree.{Tree}
use Rattle.postcard.specs.Frames.{Holds}
use Rattle.link.specs.Stream.{Verdict, cut, damaged, too_long, value, ended, IsAnswer, HoldsExactly, Answers}
use Rattle.link.specs.Run.{completed, IsFramed, IsSession, IsRun, told_session, told}
use Rattle.link.specs.Laws.{sentinels, IsLeast, IsTold, IsLocal}
use Rattle.link.specs.Roads.{values_of}
use Rattle.link.specs.Lemmas.ValueLaws.{values_done}
use Rattle.journal_laws.specs.Laws.{anew, LosesTouched}

told_anew_in : (s : ℕ) (clean : Bool) (later : List ℕ) (ts : List Tree) → told_session s clean later (map completed ts) ≡ map value ts
told_anew_in s clean later [] = refl
told_anew_in s clean later (t ∷ ts) = ap (λ x. value t ∷ x) (told_anew_in s true later ts)

-- what is told of records that were appended in one session
pub told_anew : (s : ℕ) (ts : List Tree) → told s (anew ts) ≡ map value ts
told_anew s ts = append-nil (told_session s false [] (map completed ts)) ∙ told_anew_in s false [] ts

-- each of these
abbrev AllOf : (Tree → Type 0) → List Tree → Type 0
AllOf P [] = Unit {0}
AllOf P (t ∷ ts) = P t × AllOf P ts

session_anew : (takes : Tree → Type 0) (limit s : ℕ) (clean : Bool) (ts : List Tree) → AllOf (IsFramed takes limit) ts → IsSession takes limit s clean (map completed ts)
session_anew takes limit s clean [] h = tt
session_anew takes limit s clean (t ∷ ts) h = (h.0, session_anew takes limit s true ts h.1)

-- what is read can be appended, where each stretch that holds a tree is one that can
module _ (takes : Tree → Type 0) (holds : List ℕ → Tree → Type 0) (limit : ℕ) (framed : (p : List ℕ) (t : Tree) → IsAnswer holds limit p (value t) → IsFramed takes limit t) where
  all_framed : (ps : List (List ℕ)) (answers : List Verdict) → AllZip (IsAnswer holds limit) ps answers → AllOf (IsFramed takes limit) (values_of answers)
  all_framed [] [] z = tt
  all_framed [] (a ∷ answers) z = absurd z
  all_framed (p ∷ ps) [] z = absurd z
  all_framed (p ∷ ps) (value t ∷ answers) z = (framed p t z.0, all_framed ps answers z.1)
  all_framed (p ∷ ps) (damaged ∷ answers) z = all_framed ps answers z.1
  all_framed (p ∷ ps) (too_long ∷ answers) z = all_framed ps answers z.1
  all_framed (p ∷ ps) (cut ∷ answers) z = all_framed ps answers z.1

  pub run_anew : (s : ℕ) (stream : List ℕ) (answers : List Verdict) → Answers holds limit s stream answers → IsRun takes limit s (anew (values_of answers))
  run_anew s stream answers h =
      (session_anew takes limit s false (values_of answers) (subst (AllOf (IsFramed takes limit)) (sym (values_done h)) (all_framed (ended s stream) h.done h.each)), tt)

pub framed_ordinarily : (takes : Tree → Type 0) (limit : ℕ) → IsLeast takes limit → (p : List ℕ) (t : Tree) → IsAnswer (Holds takes) limit p (value t) → IsFramed takes limit t
framed_ordinarily takes limit least p t h = record { taken = h.1.taken; within = (let l = least p t h in let m : length p ≤ limit = h.0 in omega (arith, l, m)) }

pub framed_strictly : (takes : Tree → Type 0) (limit : ℕ) (p : List ℕ) (t : Tree) → IsAnswer (HoldsExactly takes) limit p (value t) → IsFramed takes limit t
framed_strictly takes limit p t h = record { taken = h.1.0; within = subst (λ x. length x ≤ limit) h.1.1 h.0 }

-- a part of values is values
record ValuesIn (ts : List Tree) (us rest : List Verdict) : Type 0 where
  first : List Tree
  others : List Tree
  whole : ts ≡ first ++ others
  are : us ≡ map value first
  rest_are : rest ≡ map value others

values_in : (ts : List Tree) (us rest : List Verdict) → map value ts ≡ us ++ rest → ValuesIn ts us rest
values_in ts [] rest e = record { first = []; others = ts; whole = refl; are = refl; rest_are = sym e }
values_in [] (u ∷ us) rest e = absurd (cc)
values_in (t ∷ ts) (u ∷ us) rest e =
    let tail : map value ts ≡ us ++ rest = cc in
    let head : u ≡ value t = cc in
    let h = values_in ts us rest tail in
    record { first = t ∷ h.first; others = h.others; whole = ap (λ x. t ∷ x) h.whole; are = ap (λ x. x ∷ us) head ∙ ap (λ x. value t ∷ x) h.are; rest_are = h.rest_are }

-- what damage at one place leaves
pub loses_by : (takes : Tree → Type 0) (holds : List ℕ → Tree → Type 0) (limit s : ℕ) → IsTold takes holds limit s → IsLocal holds limit s → LosesTouched takes holds limit s
loses_by takes holds limit s tells local ts a x y b answers d e h =
    let heard = (tells (anew ts) (map value ts) d).1 (sym (told_anew s ts)) in
    let was = subst (λ z. Answers holds limit s z (map value ts)) e heard in
    let l = local a x y b (map value ts) answers was h in
    let p = l.4 in
    let q = l.5 in
    let first = values_in ts l.0 (p.0 ++ l.1) p.1 in
    let second = values_in first.others p.0 l.1 (sym first.rest_are) in
    let few : length p.0 ≤ sentinels s x + 1 = p.2 in
    record {
      before = first.first;
      lost = second.first;
      behind = second.others;
      instead = q.0;
      were = first.whole ∙ ap (λ z. first.first ++ z) second.whole;
      few = subst (λ n. n ≤ sentinels s x + 1) (ap length second.are ∙ length-map second.first value) few;
      are = q.1 ∙ ap (λ z. z ++ (q.0 ++ l.1)) first.are ∙ ap (λ z. map value first.first ++ (q.0 ++ z)) second.rest_are;
      little = q.2;
    }

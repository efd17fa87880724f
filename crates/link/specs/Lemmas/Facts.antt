-- What the laws of a link rest on: laws of frames, and of the trees that a type takes; a stretch has at most one answer.
use Rattle.std.proofs.Common.{◌≡◌, ◌≢◌, ℕ, ◌<◌, List, [], ◌∷◌, ◌++◌, length, sym, ap, subst, arith, append-nil, refl, ◌∙◌}
use Rattle.cobs.specs.Frames.{NoZero, spelled, Frame, shortest_frame}
use Rattle.cobs.specs.FrameLaws.{HasOneMessage, HasOneShortest, HoldsNoZero, FrontsBeginProperly}
use Rattle.postcard_tree.specs.Tree.{Tree, IsTree}
use Rattle.postcard_tree.specs.Spelling.{Spells, short}
use Rattle.postcard_tree.specs.Reading.{EndsByItself}
use Rattle.link.specs.Link.{Holds, HoldsExactly, too_long, cut, damaged, value, IsAnswer}
use Rattle.postcard.specs.Spellings.{HasNoBeginning}
use Rattle.link.specs.Lemmas.HeardLaws.{IsOne}

-- a frame has one message, a message one shortest frame, and spellings of the type's trees end by themselves
pub record Facts (takes : Tree → Type 0) : Type 0 where
  pub one_message : HasOneMessage
  pub one_shortest : HasOneShortest
  pub apart : EndsByItself takes
  pub trees : (t : Tree) → takes t → IsTree t
  pub spells : (t : Tree) → IsTree t → Spells t (short t)

-- no beginning of a frame or of a spelling is taken for another
pub record Breaking (takes : Tree → Type 0) : Type 0 where
  pub nonzero : HoldsNoZero
  pub begins : FrontsBeginProperly
  pub no_beginning : HasNoBeginning takes

some_spelled : (run : List ℕ) (runs : List (List ℕ)) → 0 < length (spelled run runs)
some_spelled run [] = omega arith
some_spelled run (next ∷ runs) = omega arith

-- a frame has a byte
pub some_bytes : (frame message : List ℕ) → Frame frame message → 0 < length frame
some_bytes frame message f = omega (arith, ap length f.spells, some_spelled f.first f.others)

module _ (takes : Tree → Type 0) (facts : Facts takes) where
  -- the frame of a tree
  pub is_frame : (t : Tree) → Frame (shortest_frame (short t)) (short t)
  is_frame t = (facts.one_shortest (short t)).0.is_frame

  -- it has a byte, and none is zero
  pub has_bytes : (t : Tree) → 0 < length (shortest_frame (short t))
  has_bytes t = some_bytes _ _ (is_frame t)

  -- it holds the tree
  pub holds_it : (t : Tree) → takes t → Holds takes (shortest_frame (short t)) t
  holds_it t h = record { message = short t; front = short t; rest = []; frame = is_frame t; begins = sym (append-nil (short t)); spelled = facts.spells t (facts.trees t h); taken = h }

  -- what a stretch holds strictly it holds
  pub exactly_holds : (p : List ℕ) (t : Tree) → HoldsExactly takes p t → Holds takes p t
  exactly_holds p t (h, e) = subst (λ f. Holds takes f t) (sym e) (holds_it t h)

  module _ (breaking : Breaking takes) where
    pub has_no_zero : (t : Tree) → NoZero (shortest_frame (short t))
    has_no_zero t = breaking.nonzero _ _ (is_frame t)

    -- a nonempty proper front of it holds nothing
    pub front_holds_nothing : (t : Tree) (front rest : List ℕ) → takes t
        → shortest_frame (short t) ≡ front ++ rest → rest ≢ []
        → (u : Tree) → Holds takes front u → ⊥
    front_holds_nothing t front rest h e n u k =
        let later = breaking.begins (shortest_frame (short t)) (short t) front rest k.message (facts.one_shortest (short t)).0 e n k.frame in
        breaking.no_beginning t k.message later.0 h later.1 later.2 u k.front k.rest k.taken k.spelled k.begins

-- a frame holds one tree at most
pub one_tree : (takes : Tree → Type 0) → Facts takes → IsOne (Holds takes)
one_tree takes facts p t u h k =
    let same : h.front ++ h.rest ≡ k.front ++ k.rest = sym h.begins ∙ facts.one_message p h.message h.frame ∙ sym (facts.one_message p k.message k.frame) ∙ k.begins in
    (facts.apart t u h.front k.front h.rest k.rest h.taken k.taken h.spelled k.spelled same).1

-- and strictly too
pub one_tree_exactly : (takes : Tree → Type 0) → Facts takes → IsOne (HoldsExactly takes)
one_tree_exactly takes facts p t u h k = one_tree takes facts p t u (exactly_holds takes facts p t h) (exactly_holds takes facts p u k)

-- under a limit too
pub one_answer : (holds : List ℕ → Tree → Type 0) (limit : ℕ) → IsOne holds
    → IsOne (IsAnswer holds limit)
one_answer holds limit one p too_long too_long h k = refl
one_answer holds limit one p too_long (value u) h k = absurd (omega (arith, h, k.0))
one_answer holds limit one p too_long damaged h k = absurd (omega (arith, h, k.0))
one_answer holds limit one p too_long cut h k = absurd k
one_answer holds limit one p (value t) too_long h k = absurd (omega (arith, k, h.0))
one_answer holds limit one p (value t) (value u) h k = ap value (one p t u h.1 k.1)
one_answer holds limit one p (value t) damaged h k = absurd (k.1 t h.1)
one_answer holds limit one p (value t) cut h k = absurd k
one_answer holds limit one p damaged too_long h k = absurd (omega (arith, k, h.0))
one_answer holds limit one p damaged (value u) h k = absurd (h.1 u k.1)
one_answer holds limit one p damaged damaged h k = refl
one_answer holds limit one p damaged cut h k = absurd k
one_answer holds limit one p cut b h k = absurd h

-- The loop over an accumulator, feed by feed.
use Rattle.std.proofs.Common.{◌≡◌, ℕ, ◌+◌, ◌-◌, ◌*◌, ◌<◌, ◌≤◌, Bool, true, false, List, [], ◌∷◌, ◌++◌, length, map, drop, refl, sym, ap, ◌∙◌, subst, inl, inr, arith, append_assoc, length-drop, bit_xor, ◌==◌, ne_eqb, append-nil}
use Rattle.std.proofs.lemmas.Bool.{cases_lt}
use Rattle.std.proofs.lemmas.List.{length-map, map-append}
use Rattle.cobs.specs.InPlace.{stretch}
use Rattle.cobs.specs.Sentinel.{masked}
use Rattle.postcard_tree.specs.Tree.{Tree}
use Rattle.postcard.specs.Frames.{Holds, HoldsValue}
use Rattle.postcard.specs.Feeds.{Feeds}
use Rattle.link.specs.Stream.{Verdict, Answers}
use Rattle.link.specs.Roads.{Loops, done, stopped, used_up, consumed, overfull, failed, success, joined, AllFit, AreValues, AreFirst, values_of}
use Rattle.line_io.specs.declared.transfers.End.{End}
use Rattle.line_io.specs.declared.transfers.End.TheVariants.{Ended, ReadFault, NoMemory}
use Rattle.link.specs.Gathering.{GathersPieces, GathersOnLine, HasGathered, AreThose, AreThoseFor, AreLooped, LoopsOver, AreSameByAccumulator, some_held}
use Rattle.link.specs.Lemmas.Pieces.{masked_twice}
use Rattle.link.specs.Lemmas.RoadLaws.{fed_by}

some_is : (held : List ℕ) → 0 < length held → some_held held ≡ 1
some_is [] l = absurd (omega arith)
some_is (b ∷ held) l = refl

at_most : (held : List ℕ) → some_held held ≤ 1
at_most [] = omega arith
at_most (b ∷ held) = omega arith

-- where a piece isn't used up, less is left of it on the line, or nothing is held any more
pub fed_less : (room s : ℕ) (held rest kept left : List ℕ) (O : List ℕ → Type 0)
    (A : List ℕ → List ℕ → Type 0) → ((r : List ℕ) → O r → left ≡ masked s r)
    → ((f r : List ℕ) → A f r → left ≡ masked s r) → 0 < room → 0 < length rest
    → Feeds room held (masked s rest) ⊥ O A kept
    → 2 * length left + some_held kept < 2 * length rest + some_held held
fed_less room s held rest kept left O A f g some l h =
    let piece = masked s rest in
    let n = length-map rest (bit_xor s) in
    let by = λ (k : ℕ) (e : left ≡ masked s (drop k piece)).
    (let m = length-map (drop k piece) (bit_xor s) in let d = length-drop k piece in let left_is : length left ≡ length piece - k = omega (arith, ap length e, m, d) in left_is) in
    fed_by room held piece kept ⊥ O A h (λ z c e. absurd c)
    (λ z over o e. (
    let m = by (room - length held) (f _ o) in
    let none : some_held kept ≡ 0 = ap some_held e in
    elim (cases_lt 0 (length held)) [
      | inl k ↦ (let one = some_is held k in omega arith)
      | inr k ↦ omega (arith, at_most held)
    ]))
    (λ q a e. (let m = by (length (stretch piece) + 1) (g _ _ a) in let none : some_held kept ≡ 0 = ap some_held e in omega (arith, at_most held)))
    (λ q over o e. (let m = by (length (stretch piece) + 1) (f _ o) in let none : some_held kept ≡ 0 = ap some_held e in omega (arith, at_most held)))

module _ {V : Type 0} (takes : Tree → Type 0) (reads : Tree → V → Type 0) (growing : Bool) (room : ℕ) (first : List ℕ) (pieces : List (List ℕ)) (old : List V)
    (t s : ℕ) (e : t ≡ s) (held rest now : List ℕ) (new : List V) (p : GathersPieces takes reads growing room first pieces held (masked s rest ∷ []) old new) where
  -- the same feed by the sentinel, said otherwise
  fed : (C : Type 0) (O P : List ℕ → Type 0) (A B : List ℕ → List ℕ → Type 0)
      → ((r : List ℕ) → O r → P r) → ((f r : List ℕ) → A f r → B f r)
      → Feeds room held (masked t rest) C O A now → Feeds room held (masked s rest) C P B now
  fed C O P A B f g k =
      let h = subst (λ z. Feeds room held (masked z rest) C O A now) e k in record {
        nothing = h.nothing;
        ended = λ l m. let w = h.ended l m in (g _ _ w.0, w.1);
        full_ended = λ l m. let w = h.full_ended l m in (f _ w.0, w.1);
        more = h.more;
        full = λ l m. let w = h.full l m in (f _ w.0, w.1);
      }

  -- a rest on the line, XORed with the sentinel
  back : (left r : List ℕ) → left ≡ masked t r → masked s left ≡ r
  back left r q = ap (masked s) (q ∙ ap (λ z. masked z r) e) ∙ masked_twice s r

  pub gathers_over : (left : List ℕ)
      → Feeds room held (masked t rest) ⊥ (λ r. left ≡ masked t r) (λ f r. ⊥) now
      → GathersPieces takes reads growing room first pieces now (masked s left ∷ []) old new
  gathers_over left g = record {
    got = p.got;
    values = p.values;
    goes_on = λ may_stop later vs h. p.goes_on may_stop later vs (overfull (masked s left) (fed ⊥ (λ r. left ≡ masked t r) (λ r. masked s left ≡ r) (λ f r. ⊥) (λ f r. ⊥) (back left) (λ f r x. x) g) h);
  }

  -- a stretch that is answered leaves this, with what is said of it
  answered : (left : List ℕ) (Q : List ℕ → Type 0)
      → Feeds room held (masked t rest) ⊥ (λ r. ⊥) (λ f r. (left ≡ masked t r) × Q f) now
      → Feeds room held (masked s rest) ⊥ (λ r. ⊥) (λ f r. (masked s left ≡ r) × Q f) now
  answered left Q g = fed ⊥ (λ r. ⊥) (λ r. ⊥) (λ f r. (left ≡ masked t r) × Q f) (λ f r. (masked s left ≡ r) × Q f) (λ r x. x) (λ f r x. (back left r x.0, x.1)) g

  pub gathers_failed : (left : List ℕ) → Feeds room held (masked t rest) ⊥ (λ r. ⊥) (λ f r. (left ≡ masked t r) × ((t : Tree) → Holds takes f t → growing ≡ true)) now
      → GathersPieces takes reads growing room first pieces now (masked s left ∷ []) old new
  gathers_failed left g = record {
    got = p.got;
    values = p.values;
    goes_on = λ may_stop later vs h. p.goes_on may_stop later vs (failed (masked s left) (answered left (λ f. (t : Tree) → Holds takes f t → growing ≡ true) g) h);
  }

  pub gathers_value : (v : V) (left : List ℕ) (more : List V) → Feeds room held (masked t rest) ⊥ (λ r. ⊥) (λ f r. (left ≡ masked t r) × HoldsValue takes reads f v) now
      → more ≡ new ++ v ∷ [] → GathersPieces takes reads growing room first pieces now (masked s left ∷ []) old more
  gathers_value v left more g e = record {
    got = p.got ++ v ∷ [];
    values = e ∙ ap (λ x. x ++ v ∷ []) p.values ∙ append_assoc old p.got (v ∷ []);
    goes_on = λ may_stop later vs h. subst (Loops takes reads growing may_stop room first (pieces ++ later)) (sym (append_assoc p.got (v ∷ []) vs)) (p.goes_on may_stop later (v ∷ vs) (success v (masked s left) (answered left (λ f. HoldsValue takes reads f v) g) h));
  }

  pub gathers_consumed : Feeds room held (masked t rest) (Unit {0}) (λ r. ⊥) (λ f r. ⊥) now
      → GathersPieces takes reads growing room first pieces now [] old new
  gathers_consumed g = record {
    got = p.got;
    values = p.values;
    goes_on = λ may_stop later vs h. p.goes_on may_stop later vs (consumed (fed (Unit {0}) (λ r. ⊥) (λ r. ⊥) (λ f r. ⊥) (λ f r. ⊥) (λ r x. x) (λ f r x. x) g) h);
  }

  pub gathers_whole : rest ≡ [] → GathersPieces takes reads growing room first pieces held [] old new
  gathers_whole q = record {
    got = p.got;
    values = p.values;
    goes_on = λ may_stop later vs h. p.goes_on may_stop later vs (subst (λ x. Loops takes reads growing may_stop room held (masked s x ∷ later) vs) (sym q) (used_up h));
  }

pub has_bytes : (rest : List ℕ) (b : Bool) → b ≡ (length rest == 0) → b ≡ false → 0 < length rest
has_bytes [] b e f = let no : true ≡ false = sym e ∙ f in absurd (cc)
has_bytes (x ∷ rest) b e f = omega arith

pub has_none : (rest : List ℕ) (b : Bool) → b ≡ (length rest == 0) → b ≡ true → rest ≡ []
has_none [] b e f = refl
has_none (x ∷ rest) b e f = let n : (length (x ∷ rest) == 0) ≡ false = ne_eqb (length (x ∷ rest)) 0 (λ k. omega arith) in let no : false ≡ true = sym n ∙ sym e ∙ f in absurd (cc)

module _ {V : Type 0} (takes : Tree → Type 0) (reads : Tree → V → Type 0) (growing : Bool) (room s : ℕ) (held : List ℕ) (old : List V) where
  pub gathers_no_bytes : GathersOnLine takes reads growing room s held [] held [] old old
  gathers_no_bytes = record { pieces = []; are = refl; gathers = record { got = []; values = sym (append-nil old); goes_on = λ may_stop later vs h. h } }

  joined_more : (pieces : List (List ℕ)) (piece : List ℕ) → joined (pieces ++ piece ∷ []) ≡ joined pieces ++ piece
  joined_more [] piece = append-nil piece
  joined_more (p ∷ pieces) piece = ap (λ x. p ++ x) (joined_more pieces piece) ∙ sym (append_assoc p (joined pieces) piece)

  pub gathers_more : (bytes piece kept now : List ℕ) (rest : List (List ℕ)) (new more : List V) (t : ℕ) → t ≡ s → GathersOnLine takes reads growing room s held bytes kept [] old new
      → GathersPieces takes reads growing room kept (masked t piece ∷ []) now rest new more → GathersOnLine takes reads growing room s held (bytes ++ piece) now rest old more
  gathers_more bytes piece kept now rest new more t e p fed =
      let k = p.gathers in
      let q = subst (λ z. GathersPieces takes reads growing room kept (masked z piece ∷ []) now rest new more) e fed in
      let before = map (masked s) p.pieces in
      let last = masked s piece in
      record {
        pieces = p.pieces ++ piece ∷ [];
        are = joined_more p.pieces piece ∙ ap (λ x. x ++ piece) p.are;
        gathers = subst (λ ps. GathersPieces takes reads growing room held ps now rest old more) (sym (map-append (masked s) p.pieces (piece ∷ []))) (record {
          got = k.got ++ q.got;
          values = q.values ∙ ap (λ x. x ++ q.got) k.values ∙ append_assoc old k.got q.got;
          goes_on = λ may_stop later vs h.
              subst (λ x. Loops takes reads growing may_stop room held ((before ++ last ∷ []) ++ later) x) (sym (append_assoc k.got q.got vs))
              (subst (λ x. Loops takes reads growing may_stop room held x (k.got ++ (q.got ++ vs))) (sym (append_assoc before (last ∷ []) later)) (k.goes_on may_stop (last ∷ later) (q.got ++ vs) (q.goes_on may_stop later vs h)));
        });
      }

  -- the loop over the pieces that were gathered, from nothing
  loops_over : (may_stop : Bool) (bytes kept : List ℕ) (rest : List (List ℕ)) (new : List V) → held ≡ [] → old ≡ [] → Loops takes reads growing may_stop room kept (rest ++ []) []
      → GathersOnLine takes reads growing room s held bytes kept rest old new → LoopsOver takes reads growing may_stop room s bytes new
  loops_over may_stop bytes kept rest new e n l g =
      let k = g.gathers in
      let pieces = map (masked s) g.pieces in
      let values : k.got ++ [] ≡ new = append-nil k.got ∙ sym (k.values ∙ ap (λ x. x ++ k.got) n) in
      record {
        pieces = g.pieces;
        are = g.are;
        loops = subst (λ x. Loops takes reads growing may_stop room x pieces new) e (subst (λ x. Loops takes reads growing may_stop room held pieces x) values (subst (λ x. Loops takes reads growing may_stop room held x (k.got ++ [])) (append-nil pieces) (k.goes_on may_stop [] [] l)));
      }

  looped : (bytes kept : List ℕ) (new : List V) (end : End) → held ≡ [] → old ≡ [] → HasGathered takes reads growing room s held bytes kept old new end → AreLooped takes reads growing room s bytes new end
  looped bytes kept new Ended e n g = loops_over false bytes kept [] new e n done g
  looped bytes kept new ReadFault e n g = loops_over false bytes kept [] new e n done g
  looped bytes kept new NoMemory e n g = record {
    lost = g.lost;
    loops = loops_over true bytes g.now g.rest (new ++ g.lost ∷ []) e n (stopped refl) g.gathers;
    before = g.before;
    last = g.last;
    parts = g.parts;
    short = g.short;
    early = g.early;
    later = g.later;
    said = g.said;
    first = loops_over false g.before g.then [] g.early e n done g.first;
  }

  pub looped_by : (t : ℕ) → t ≡ s → (bytes kept : List ℕ) (new : List V) (end : End) → held ≡ [] → old ≡ [] → HasGathered takes reads growing room t held bytes kept old new end → AreLooped takes reads growing room s bytes new end
  looped_by t is bytes kept new end e n g = looped bytes kept new end e n (subst (λ z. HasGathered takes reads growing room z held bytes kept old new end) is g)

module _ {V : Type 0} (takes : Tree → Type 0) (reads : Tree → V → Type 0) (growing : Bool) (room s : ℕ) (some : 0 < room) (same : AreSameByAccumulator takes reads growing) (bytes : List ℕ) where
  first_of : (may_stop : Bool) (values : List V) → LoopsOver takes reads growing may_stop room s bytes values → (answers : List Verdict) → AllFit room s bytes → Answers (Holds takes) room s bytes answers
      → AreFirst reads growing may_stop (values_of answers) values
  first_of may_stop values g answers f h = same values s may_stop room g.pieces answers some (subst (AllFit room s) (sym g.are) f) (subst (λ x. Answers (Holds takes) room s x answers) (sym g.are) h) g.loops

  those : (values : List V) → LoopsOver takes reads growing false room s bytes values → AreThose takes reads growing room s bytes values
  those values g answers f h =
      let r = first_of false values g answers f h in
      subst (λ ts. AreValues reads growing ts values) (sym (r.parts ∙ ap (λ x. r.first ++ x) (r.whole refl) ∙ append-nil r.first)) r.are

  -- where the stretches fit, these are the values of the answers
  pub by_loop : (values : List V) (end : End) → AreLooped takes reads growing room s bytes values end → AreThoseFor takes reads growing room s bytes values end
  by_loop values Ended g = those values g
  by_loop values ReadFault g = those values g
  by_loop values NoMemory g = (g.lost, first_of true (values ++ g.lost ∷ []) g.loops)

-- What a teller of answers does.
use Rattle.std.specs.Prelude.{◌≡◌, ℕ, ◌&&◌, ◌⊎◌, Bool, true, false, List, [], ◌∷◌, ◌++◌, refl}
use Rattle.std.specs.List.{list_all}
use Rattle.std.specs.declared.string.String.{String}
use Rattle.std.proofs.Common.{sym, ap, ◌∙◌, subst, append_assoc, append-nil}
use Rattle.std.proofs.Math.Bool.{and-true, and_assoc}
use Rattle.std.proofs.lemmas.Grind.{flat_map-append}
use Rattle.std.proofs.lemmas.List.Folds.{list_all-append}
use Rattle.line_io.specs.Device.{LineState}
use Rattle.line_io.specs.Transfers.{broken}
use Rattle.link.specs.Firsts.{not_both as no_both}
use Rattle.link.specs.Each.{HearerLaws}
use Rattle.link.specs.declared.receiver.Answer.{Answer}
use Rattle.framed_lib.specs.Lines.{answer_line, answer_lines, has_value}
use Rattle.framed_lib.specs.Output.{WritingByFew, few-more, Puts, put-none, put-then, put-broke}
use Rattle.framed_lib.specs.declared.telling.Telling.{Telling}

-- What is held was written, or a write failed; lines that aren't live may wait.
abbrev pub IsSettled : {W : Type 0} → Telling W → Type 0
IsSettled t = t.live ≡ true → (t.held.items ≡ []) ⊎ (t.failed ≡ true)

module _ {W : Type 0} (line : W → LineState) where
  -- These bytes are put behind what is held, unless a write failed before; and whether they are lines of values alone is known.
  pub record PutsLines (old new : Telling W) (bytes : List ℕ) (values : Bool) : Type 0 where
    pub good : new.good ≡ (old.good && values)
    pub live : new.live ≡ old.live
    pub went : old.failed ≡ false → new.failed ≡ false
        → Puts (line old.writer) (line new.writer) old.held.items new.held.items bytes
    pub broke : old.failed ≡ false → new.failed ≡ true
        → WritingByFew (line old.writer) (line new.writer) broken (old.held.items ++ bytes)
    pub silent : old.failed ≡ true → (new.failed ≡ true) × (new.writer ≡ old.writer)

  -- the lines of these answers are put
  abbrev pub Tells : {A : Type 0} → Telling W → List (Answer (String A)) → Telling W → Type 0
  Tells old answers new = PutsLines old new (answer_lines answers) (list_all has_value answers)

  -- one answer's line
  pub tells_one : {A : Type 0} (old new : Telling W) (answer : Answer (String A))
      → PutsLines old new (answer_line answer) (has_value answer) → Tells old (answer ∷ []) new
  tells_one old new answer h =
      subst (λ x. PutsLines old new x (has_value answer && true)) (sym (append-nil (answer_line answer)))
      (subst (λ b. PutsLines old new (answer_line answer) b) (sym (and-true (has_value answer))) h)

  module _ {A : Type 0} (h k m : Telling W) (a b : List (Answer (String A))) (p : Tells h a k) (q : Tells k b m) where
    went-more : (f : Bool) → k.failed ≡ f → h.failed ≡ false → m.failed ≡ false
        → Puts (line h.writer) (line m.writer) h.held.items m.held.items (answer_lines (a ++ b))
    went-more false e start end =
        subst (λ x. Puts (line h.writer) (line m.writer) h.held.items m.held.items x) (sym (flat_map-append answer_line a b)) (put-then (p.went start e) (q.went e end))
    went-more true e start end = absurd (no_both m.failed (q.silent e).0 end)

    broke-more : (f : Bool) → k.failed ≡ f → h.failed ≡ false → m.failed ≡ true
        → WritingByFew (line h.writer) (line m.writer) broken
        (h.held.items ++ answer_lines (a ++ b))
    broke-more false e start end =
        subst (λ x. WritingByFew (line h.writer) (line m.writer) broken (h.held.items ++ x)) (sym (flat_map-append answer_line a b))
        (put-broke (answer_lines b) (p.went start e) (q.broke e end))
    broke-more true e start end =
        subst (λ w. WritingByFew (line h.writer) (line w) broken (h.held.items ++ answer_lines (a ++ b))) (sym (q.silent e).1)
        (subst (λ x. WritingByFew (line h.writer) (line k.writer) broken x)
        (append_assoc h.held.items (answer_lines a) (answer_lines b) ∙ ap (λ x. h.held.items ++ x) (sym (flat_map-append answer_line a b)))
        (few-more (answer_lines b) (p.broke start e)))

    more : Tells h (a ++ b) m
    more = record {
      good = q.good ∙ (ap (λ x. x && list_all has_value b) p.good ∙ (and_assoc h.good (list_all has_value a) (list_all has_value b) ∙ ap (λ x. h.good && x) (sym (list_all-append has_value a b))));
      live = q.live ∙ p.live;
      went = λ start end. went-more k.failed refl start end;
      broke = λ start end. broke-more k.failed refl start end;
      silent = λ e. let r = p.silent e in let s = q.silent r.0 in (s.0, s.1 ∙ r.1);
    }

  pub tells_laws : {A : Type 0} → HearerLaws (Tells {A = A})
  tells_laws = record {
    none = λ h. record {
      good = sym (and-true h.good);
      live = refl;
      went = λ start end. put-none _ _;
      broke = λ start end. absurd (no_both h.failed end start);
      silent = λ e. (e, refl);
    };
    more = λ h k m a b p q. more h k m a b p q;
  }

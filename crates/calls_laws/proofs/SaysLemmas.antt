-- What a server says whose application numbers its replies.
use Rattle.std.proofs.Common.{◌≡◌, ℕ, Bool, true, false, cond, eqb, List, [], ◌∷◌, ◌++◌, Option, Some, None, refl, sym, ap, ◌∙◌, subst, inl, inr}
use Rattle.std.specs.Prelude.{IfSome}
use Rattle.std.specs.List.{FoldsTo}
use Rattle.sealed.specs.declared.keyed.Keyed.{Keyed}
use Rattle.calls.specs.Calls.{Execution, call, no_call, notices, again, ServesAll, greatest, known, fresh, no_request, request, In}
use Rattle.calls.specs.Serving.{Runs}
use Rattle.calls.specs.ServedLaws.{in_joined, alone}
use Rattle.calls.specs.Sealing.{replied_inside, ExecutesNumbered, passes_numbered}
use Rattle.calls.specs.declared.sealing.Numbering.{Numbering}
use Rattle.calls_laws.specs.Echo.{IsRequest, IsReply, SaysReplies}

module _ {A Q R : Type 0} (K : ℕ) (executes : A → Q → R → A → Type 0) (passes : ℕ → ℕ → Option R) where
  -- a notice is one
  noticed : (o : Option R) (p : ℕ × Keyed (ℕ × R) K) → In p (notices (passes_numbered o)) → IsReply p
  noticed None p i = absurd i
  noticed (Some said) p i = by p (alone (no_call, (record { 0 = (0, said) })) p i)
    where
      by : (p : ℕ × Keyed (ℕ × R) K) → p ≡ (no_call, (record { 0 = (0, said) })) → IsReply p
      by p e = subst (λ (x : ℕ × Keyed (ℕ × R) K). IsReply x) (sym e) refl

  -- what is replied to a request that isn't executed
  said_again : (equal : Keyed (ℕ × Q) K → Keyed (ℕ × Q) K → Bool) (kept : Option (Execution (Keyed (ℕ × Q) K) (Keyed (ℕ × R) K))) (n : ℕ) (q : Keyed (ℕ × Q) K) → IfSome kept (λ e. IsReply (e.number, e.says))
      → (p : ℕ × Keyed (ℕ × R) K) → In p (again equal (λ number last. passes_numbered (passes number last)) kept n q) → IsReply p
  said_again equal None n q is p i = absurd i
  said_again equal (Some e) n q is p i = by (eqb e.number n) (equal e.asks q) i
    where
      by : (b c : Bool) → In p (cond b (cond c ((e.number, e.says) ∷ []) (notices (passes_numbered (passes n e.number)))) (notices (passes_numbered (passes n e.number)))) → IsReply p
      by true true j = subst (λ (x : ℕ × Keyed (ℕ × R) K). IsReply x) (sym (alone (e.number, e.says) p j)) is
      by true false j = noticed (passes n e.number) p j
      by false c j = noticed (passes n e.number) p j

  says : (equal : Keyed (ℕ × Q) K → Keyed (ℕ × Q) K → Bool) {kept later : Option (Execution (Keyed (ℕ × Q) K) (Keyed (ℕ × R) K))} {qs : List (ℕ × Keyed (ℕ × Q) K)} {log : List (Execution (Keyed (ℕ × Q) K) (Keyed (ℕ × R) K))} {out : List (ℕ × Keyed (ℕ × R) K)}
      → ServesAll equal (λ number last. passes_numbered (passes number last)) kept qs log out later
      → (old new : Numbering A) → FoldsTo (Runs (ExecutesNumbered executes)) old log new
      → ((p : ℕ × Keyed (ℕ × Q) K) → In p qs → IsRequest p) → IfSome kept (λ e. IsReply (e.number, e.says)) → (p : ℕ × Keyed (ℕ × R) K) → In p out → IsReply p
  says equal no_request old new ran all is p i = absurd i
  says equal (request (greatest l) h) old new ran all is p i = says equal h old new ran (λ x j. all x (inr j)) is p i
  says equal (request {kept = kept} {q = q} {out = out} (known m l) h) old new ran all is p i =
      elim (in_joined p (again equal (λ number last. passes_numbered (passes number last)) kept q.0 q.1) out i) [
        | inl a ↦ said_again equal kept q.0 q.1 is p a
        | inr a ↦ says equal h old new ran (λ x j. all x (inr j)) is p a
      ]
  says equal (request {q = q} (fresh said m l) h) old new ran all is p i =
      let replied : said.0.0 ≡ replied_inside q.0 = ran.1.0 ∙ ap replied_inside (all q (inl refl)) in
      elim i [
        | inl e ↦ subst (λ (x : ℕ × Keyed (ℕ × R) K). IsReply x) (sym e) replied
        | inr j ↦ says equal h ran.0 new ran.2 (λ x k. all x (inr k)) replied p j
      ]

  pub says_replies : SaysReplies K executes passes
  says_replies equal kept later qs log out old new h ran all is p i = says equal h old new ran all is p i

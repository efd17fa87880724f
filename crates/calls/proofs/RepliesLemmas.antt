-- What a server executes and replies.
use Rattle.std.proofs.Common.{◌≡◌, ℕ, ◌+◌, ◌<◌, ◌≤◌, Bool, true, false, cond, eqb, List, [], ◌∷◌, ◌++◌, Option, Some, None, refl, sym, ap, ◌∙◌, subst, inl, inr, ◌⊎◌, arith}
use Rattle.std.proofs.lemmas.Bool.{eqb-true}
use Rattle.calls.specs.Calls.{Execution, call, next_of, no_call, notices, again, Serves, ServesAll, greatest, known, fresh, no_request, request, KeptFor, Rises, In}
use Rattle.calls.specs.ServedLaws.{in_joined, in_before, in_first, alone, rises, which}

-- a notice goes out by the greatest number
noticed : {R : Type 0} (said : Option R) (p : ℕ × R) → In p (notices said) → p.0 ≡ no_call
noticed None p i = absurd i
noticed (Some r) p i = ap (λ x. x.0) (alone (no_call, r) p i)

module _ {Q R : Type 0} (equal : Q → Q → Bool) (passes : ℕ → ℕ → Option R) where
  -- what is said again by a call's number is what is kept, by its number, and to what is the same
  repeated : (kept : Option (Execution Q R)) (n : ℕ) (q : Q) (p : ℕ × R) → p.0 < no_call
      → In p (again equal passes kept n q) → (p.0 ≡ n) × KeptFor equal kept p.0 q p.1
  repeated None n q p z i = absurd i
  repeated (Some e) n q p z i = numbered (eqb e.number n) refl i
    where
      never : In p (notices (passes n e.number)) → (p.0 ≡ n) × KeptFor equal (Some e) p.0 q p.1
      never h = absurd (let f : p.0 ≡ no_call = noticed (passes n e.number) p h in omega (arith, f, z))

      alike : (c : Bool) → equal e.asks q ≡ c → e.number ≡ n → In p (cond c ((e.number, e.says) ∷ []) (notices (passes n e.number))) → (p.0 ≡ n) × KeptFor equal (Some e) p.0 q p.1
      alike true f g (inl h) = (ap (λ x. x.0) h ∙ g, (sym (ap (λ x. x.0) h), f, sym (ap (λ x. x.1) h)))
      alike true f g (inr h) = absurd h
      alike false f g h = never h

      numbered : (c : Bool) → eqb e.number n ≡ c → In p (cond c (cond (equal e.asks q) ((e.number, e.says) ∷ []) (notices (passes n e.number))) (notices (passes n e.number))) → (p.0 ≡ n) × KeptFor equal (Some e) p.0 q p.1
      numbered true f h = alike (equal e.asks q) refl (eqb-true e.number n f) h
      numbered false f h = never h

  -- a reply is to a request that was heard, by its number, and was said when one was executed that was heard by it, or kept for this one
  abbrev Found : ℕ × R → Option (Execution Q R) → List (ℕ × Q) → List (Execution Q R) → Type 0
  Found p kept qs log = ((q : Q) × In (call p.0 q p.1) log × In (p.0, q) qs) ⊎ ((asked : Q) × In (p.0, asked) qs × KeptFor equal kept p.0 asked p.1)

  said_now : (p : ℕ × R) (q : ℕ × Q) (says : R) (kept : Option (Execution Q R)) (qs : List (ℕ × Q))
      (log : List (Execution Q R)) → p.0 ≡ q.0 → p.1 ≡ says
      → Found p kept (q ∷ qs) (call q.0 q.1 says ∷ log)
  said_now p q says kept qs log e f = inl (q.1, inl (rw (e, f) refl), inl (ap (λ n. (n, q.1)) e))

  pub found : {kept later : Option (Execution Q R)} {qs : List (ℕ × Q)}
      {log : List (Execution Q R)} {out : List (ℕ × R)}
      → ServesAll equal passes kept qs log out later
      → (p : ℕ × R) → p.0 < no_call → In p out → Found p kept qs log
  found no_request p z i = absurd i
  found (request (greatest l) h) p z i = elim (found h p z i) [
    | inl f ↦ inl (f.0, f.1, inr f.2)
    | inr f ↦ inr (f.0, inr f.1, f.2)
  ]
  found (request {kept = kept} {q = q} {out = out} (known m l) h) p z i =
      elim (in_joined p (again equal passes kept q.0 q.1) out i) [
        | inl a ↦ (let r = repeated kept q.0 q.1 p z a in inr (q.1, inl (ap (λ n. (n, q.1)) r.0), r.1))
        | inr a ↦ elim (found h p z a) [
          | inl f ↦ inl (f.0, f.1, inr f.2)
          | inr f ↦ inr (f.0, inr f.1, f.2)
        ]
      ]
  found (request {kept = kept} {q = q} {qs = qs} {log = log} (fresh says m l) h) p z (inl a) =
      said_now p q says kept qs log (ap (λ x. x.0) a) (ap (λ x. x.1) a)
  found (request {kept = kept} {q = q} {qs = qs} {log = log} (fresh says m l) h) p z (inr a) =
      elim (found h p z a) [
        | inl f ↦ inl (f.0, inr f.1, inr f.2)
        | inr f ↦ said_now p q says kept qs log (sym f.2.0) (sym f.2.2)
      ]

  -- what is kept was kept before, or executed
  kept_before : {kept later : Option (Execution Q R)} {qs : List (ℕ × Q)}
      {log : List (Execution Q R)} {out : List (ℕ × R)}
      → ServesAll equal passes kept qs log out later
      → (e : Execution Q R) → later ≡ Some e → (kept ≡ Some e) ⊎ In e log
  kept_before no_request e is = inl is
  kept_before (request (greatest l) h) e is = kept_before h e is
  kept_before (request (known m l) h) e is = kept_before h e is
  kept_before (request (fresh says m l) h) e is = elim (kept_before h e is) [
    | inl m ↦ inr (inl (sym (which m)))
    | inr i ↦ inr (inr i)
  ]

  -- what a new server replies to one request, by what it executed before and now
  pub to_the_same : {before : List (ℕ × Q)} {log : List (Execution Q R)} {out : List (ℕ × R)}
      {mid : Option (Execution Q R)} {n : ℕ} {q : Q} (p : ℕ × R) {now : List (Execution Q R)}
      {said : List (ℕ × R)} {later : Option (Execution Q R)} → p.0 < no_call
      → ServesAll equal passes None before log out mid → Serves equal passes mid n q now said later
      → In p said → (p.0 ≡ n) × (executed : Q) × ((executed ≡ q) ⊎ (equal executed q ≡ true))
      × In (call n executed p.1) (log ++ now)
  to_the_same {log = log} {n = n} {q = q} p z h (fresh says m l) (inl e) = (
    ap (λ x. x.0) e,
    q,
    inl refl,
    in_before (call n q p.1) log (call n q says ∷ []) (inl (ap (λ x. call n q x.1) e)),
  )
  to_the_same p z h (fresh says m l) (inr e) = absurd e
  to_the_same p z h (greatest l) i = absurd i
  to_the_same {log = log} {mid = mid} {n = n} {q = q} p z h (known m l) i =
      let r = repeated mid n q p z i in kept_one mid refl r.0 r.1
    where
      kept_one : (o : Option (Execution Q R)) → mid ≡ o → p.0 ≡ n → KeptFor equal o p.0 q p.1
          → (p.0 ≡ n) × (executed : Q) × ((executed ≡ q) ⊎ (equal executed q ≡ true))
          × In (call n executed p.1) (log ++ [])
      kept_one None e f g = absurd g
      kept_one (Some k) e f g = elim (kept_before h k e) [
        | inl z ↦ absurd (let no : ◌≡◌ {A = Option (Execution Q R)} None (Some k) = z in cc)
        | inr j ↦ (
            let is : k ≡ call n k.asks p.1 = rw (← f, ← g.0, ← g.2) refl in
            let here = in_first (call n k.asks p.1) log [] (subst (λ x. In x log) is j) in
            (f, k.asks, inr g.1, here))
      ]

  -- what was replied is below what is executed later
  pub below : {kept later : Option (Execution Q R)} {qs : List (ℕ × Q)}
      {log : List (Execution Q R)} {out : List (ℕ × R)}
      → ServesAll equal passes kept qs log out later
      → (p : ℕ × R) → p.0 < no_call → In p out → p.0 < next_of later
  below no_request p z i = absurd i
  below (request (greatest l) h) p z i = below h p z i
  below (request {kept = kept} {q = q} {out = out} (known m l) h) p z i =
      elim (in_joined p (again equal passes kept q.0 q.1) out i) [
        | inl a ↦ omega (arith, l, (repeated kept q.0 q.1 p z a).0, (rises h).1)
        | inr a ↦ below h p z a
      ]
  below (request (fresh says m l) h) p z (inl a) = omega (arith, ap (λ x. x.0) a, (rises h).1)
  below (request (fresh says m l) h) p z (inr a) = below h p z a

  -- what is executed has no greatest number
  pub are_calls : {kept later : Option (Execution Q R)} {qs : List (ℕ × Q)}
      {log : List (Execution Q R)} {out : List (ℕ × R)}
      → ServesAll equal passes kept qs log out later
      → (e : Execution Q R) → In e log → e.number < no_call
  are_calls no_request e i = absurd i
  are_calls (request (greatest l) h) e i = are_calls h e i
  are_calls (request (known m l) h) e i = are_calls h e i
  are_calls (request {q = q} (fresh says m l) h) e (inl i) = (let k : e.number ≡ q.0 = ap (λ x. x.number) i in omega (arith, k, m))
  are_calls (request (fresh says m l) h) e (inr i) = are_calls h e i

module _ {Q R : Type 0} where
  pub above : (n : ℕ) (log : List (Execution Q R)) → Rises n log → (e : Execution Q R) → In e log → n ≤ e.number
  above n [] h e i = absurd i
  above n (x ∷ log) h e (inl i) = (let k : e.number ≡ x.number = ap (λ z. z.number) i in let l = h.0 in omega arith)
  above n (x ∷ log) h e (inr i) = (let k = above (x.number + 1) log h.1 e i in let l = h.0 in omega arith)

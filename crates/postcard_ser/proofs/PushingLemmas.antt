-- How pushes follow one another.
use Rattle.std.proofs.Common.{◌≡◌, ℕ, ◌+◌, ◌<◌, List, [], ◌∷◌, ◌++◌, length, take, drop, get_or, sym, subst, Option, Some, None, Result, Ok, Err, IsErrAnd, append-nil}
use Rattle.std.proofs.lemmas.Result.{err_from_is_err_and}
use Rattle.std.proofs.lemmas.List.{take_more, take-append-drop}
use Rattle.postcard_tree.specs.declared.error.Error.{Error}
use Rattle.std.specs.Char.{encode_utf8}
use Rattle.std.specs.Prelude.{OnOk}
use Rattle.postcard_tree.specs.Tree.{Tree, Trees, character, IsTree, parts, group_of, text_of}
use Rattle.postcard_tree.specs.Texts.{short_text}
use Rattle.postcard_tree.specs.Spelling.{short, short_all, varint}
use Rattle.postcard_ser.specs.Flavor.{FlavorLaws, RefusedAs, Pushes}
use Rattle.postcard_ser.specs.Writing.{Writes, WritesAll}
use Rattle.postcard_ser.proofs.PartsLemmas.{both, parts_append, short_joined, are_joined}

-- a list is what stands before a place, at it and after it
pub at_place : (xs : List ℕ) (i : ℕ) → i < length xs → (take i xs ++ get_or xs i 0 ∷ []) ++ drop (i + 1) xs ≡ xs
at_place xs i h = rw (← take_more xs i 0 h) (take-append-drop (i + 1) xs)

-- a flavor and its laws
pub record Pushed {S : Type 0} (took : S → List ℕ → S → Type 0) (refused : S → List ℕ → Error → S → Type 0) : Type 0 where
  pub nothing : (s : S) → took s [] s
  pub more : (s t u : S) (a b : List ℕ) → took s a t → took t b u → took s (a ++ b) u
  pub later : (s t u : S) (a b : List ℕ) (e : Error) → took s a t → RefusedAs refused t b e u → RefusedAs refused s (a ++ b) e u
  pub longer : (s u : S) (a b : List ℕ) (e : Error) → RefusedAs refused s a e u → RefusedAs refused s (a ++ b) e u

pub pushed : {S : Type 0} {told : S → Option (List ℕ)} {took : S → List ℕ → S → Type 0} {refused : S → List ℕ → Error → S → Type 0} {has_room : S → List ℕ → Type 0} {same : S → S → Type 0} → FlavorLaws told took refused has_room same → Pushed took refused
pushed laws = record {
  nothing = laws.nothing;
  more = laws.more;
  later = λ s t u a b e p q. record { cause = q.cause; was = laws.refused_later s t u a b q.cause p q.was; passed_on = q.passed_on };
  longer = λ s u a b e q. record { cause = q.cause; was = laws.refused_more s u a b q.cause q.was; passed_on = q.passed_on };
}

pub pushes_then : {S T : Type 0} {took : S → List ℕ → S → Type 0} {refused : S → List ℕ → Error → S → Type 0} → Pushed took refused → {s t u : S} {a b : List ℕ} {r : Result T Error} → took s a t → Pushes took refused t b r u → Pushes took refused s (a ++ b) r u
pushes_then laws {s = s} {t = t} {u = u} {a = a} {b = b} {r = Ok x} p q = record { ok = laws.more s t u a b p q.ok; err = tt }
pushes_then laws {s = s} {t = t} {u = u} {a = a} {b = b} {r = Err e} p q = record { ok = tt; err = laws.later s t u a b e p q.err }

pub pushes_stop : {S T : Type 0} {took : S → List ℕ → S → Type 0} {refused : S → List ℕ → Error → S → Type 0} → Pushed took refused → {s t : S} {a : List ℕ} (b : List ℕ) {e : Error} → RefusedAs refused s a e t → Pushes {T = T} took refused s (a ++ b) (Err e) t
pushes_stop laws {s = s} {t = t} {a = a} b {e = e} q = record { ok = tt; err = laws.longer s t a b e q }

-- a tree whose spelling was pushed
pub pushes_tree : {S T : Type 0} {took : S → List ℕ → S → Type 0} {refused : S → List ℕ → Error → S → Type 0} {s t : S} {tree : Tree} {r : Result T Error} → IsTree tree → Pushes took refused s (short tree) r t → Writes took refused s (Some tree) r t
pushes_tree {r = Ok x} i p = record { ok = (i, p.ok); err = tt }
pushes_tree {r = Err e} i p = record { ok = tt; err = p.err }

-- a number that was pushed, under another name of it
pub took_as : {S : Type 0} (took : S → List ℕ → S → Type 0) {s t : S} {m : ℕ} (n : ℕ) → took s (varint m) t → m ≡ n → took s (varint n) t
took_as took {s = s} {t = t} n p e = subst (λ k. took s (varint k) t) e p

pub pushes_as : {S T : Type 0} {took : S → List ℕ → S → Type 0} {refused : S → List ℕ → Error → S → Type 0} {s t : S} {m : ℕ} {r : Result T Error} (n : ℕ) → Pushes took refused s (varint m) r t → m ≡ n → Pushes took refused s (varint n) r t
pushes_as {took = took} {refused = refused} {s = s} {t = t} {r = r} n p e = subst (λ k. Pushes took refused s (varint k) r t) e p

-- a refusal is one whatever an Ok would have held
pub refusal_of : {S T U : Type 0} {took : S → List ℕ → S → Type 0} {refused : S → List ℕ → Error → S → Type 0} {s t : S} {o : Option Tree} {e : Error} → Writes {T = T} took refused s o (Err e) t → Writes {T = U} took refused s o (Err e) t
refusal_of v = record { ok = tt; err = v.err }

-- one tree
pub all_one : {S T : Type 0} {took : S → List ℕ → S → Type 0} {refused : S → List ℕ → Error → S → Type 0} → Pushed took refused → {s t : S} {o : Option Tree} {r : Result T Error} → Writes took refused s o r t → WritesAll took refused s (parts (o ∷ [])) r t
all_one laws {o = None} {r = Ok x} w = absurd w.ok
all_one laws {o = None} {r = Err e} w = record { ok = tt; err = tt }
all_one {took = took} laws {s = s} {t = t} {o = Some tree} {r = Ok x} w = record { ok = ((w.ok.0, tt), subst (λ xs. took s xs t) (sym (append-nil (short tree))) w.ok.1); err = tt }
all_one laws {s = s} {t = t} {o = Some tree} {r = Err e} w = record { ok = tt; err = laws.longer s t (short tree) [] e w.err }

-- then more of them
pub all_then : {S U : Type 0} {took : S → List ℕ → S → Type 0} {refused : S → List ℕ → Error → S → Type 0} → Pushed took refused → {s t u : S} {p q : Option Trees} {x : Unit {0}} {r : Result U Error} → WritesAll {T = Unit {0}} took refused s p (Ok x) t → WritesAll took refused t q r u → WritesAll took refused s (both p q) r u
all_then laws {p = None} v w = absurd v.ok
all_then laws {p = Some ts} {q = None} {r = Ok y} v w = absurd w.ok
all_then laws {p = Some ts} {q = None} {r = Err e} v w = record { ok = tt; err = tt }
all_then {took = took} laws {s = s} {t = t} {u = u} {p = Some ts} {q = Some us} {r = Ok y} v w = record { ok = (are_joined ts us v.ok.0 w.ok.0, subst (λ xs. took s xs u) (sym (short_joined ts us)) (laws.more s t u (short_all ts) (short_all us) v.ok.1 w.ok.1)); err = tt }
all_then {refused = refused} laws {s = s} {t = t} {u = u} {p = Some ts} {q = Some us} {r = Err e} v w = record { ok = tt; err = subst (λ xs. RefusedAs refused s xs e u) (sym (short_joined ts us)) (laws.later s t u (short_all ts) (short_all us) e v.ok.1 w.err) }

-- a refusal of the front
pub all_cut : {S T : Type 0} {took : S → List ℕ → S → Type 0} {refused : S → List ℕ → Error → S → Type 0} → Pushed took refused → {s t : S} {p : Option Trees} (q : Option Trees) {e : Error} → WritesAll {T = T} took refused s p (Err e) t → WritesAll {T = T} took refused s (both p q) (Err e) t
all_cut laws {p = None} q v = record { ok = tt; err = tt }
all_cut laws {p = Some ts} None v = record { ok = tt; err = tt }
all_cut {refused = refused} laws {s = s} {t = t} {p = Some ts} (Some us) {e = e} v = record { ok = tt; err = subst (λ xs. RefusedAs refused s xs e t) (sym (short_joined ts us)) (laws.longer s t (short_all ts) (short_all us) e v.err) }

pub group_writes : {S T : Type 0} {took : S → List ℕ → S → Type 0} {refused : S → List ℕ → Error → S → Type 0} {s t : S} {p : Option Trees} {r : Result T Error} → WritesAll took refused s p r t → Writes took refused s (group_of p) r t
group_writes {p = None} {r = Ok x} w = absurd w.ok
group_writes {p = None} {r = Err e} w = record { ok = tt; err = tt }
group_writes {p = Some ts} {r = Ok x} w = record { ok = w.ok; err = tt }
group_writes {p = Some ts} {r = Err e} w = record { ok = tt; err = w.err }

-- a tree that is refused, before more of them
pub all_stops : {S T : Type 0} {took : S → List ℕ → S → Type 0} {refused : S → List ℕ → Error → S → Type 0} → Pushed took refused → {s t : S} {o : Option Tree} (os : List (Option Tree)) {e : Error} → Writes {T = T} took refused s o (Err e) t → WritesAll {T = T} took refused s (parts (o ∷ os)) (Err e) t
all_stops {T = T} {took = took} {refused = refused} laws {s = s} {t = t} {o = o} os {e = e} v =
    subst (λ p. WritesAll {T = T} took refused s p (Err e) t) (sym (parts_append (o ∷ []) os)) (all_cut laws (parts os) (all_one laws v))

-- a text behind its length
pub text_writes : {S T : Type 0} {took : S → List ℕ → S → Type 0} {refused : S → List ℕ → Error → S → Type 0} {s t : S} (bs : List ℕ) {r : Result T Error} → IsTree (text_of bs) → Pushes took refused s (varint (length bs) ++ bs) r t → Writes took refused s (Some (text_of bs)) r t
text_writes {took = took} {refused = refused} {s = s} {t = t} bs {r = r} i p =
    pushes_tree {tree = text_of bs} i (subst (λ a. Pushes took refused s a r t) (sym (short_text bs)) p)

pub text_exit : {S T U : Type 0} {took : S → List ℕ → S → Type 0} {refused : S → List ℕ → Error → S → Type 0} → Pushed took refused → {s t : S} (bs : List ℕ) {e : Error} (r : Result U Error) → IsErrAnd r (λ y. y ≡ e) → IsTree (text_of bs) → Pushes {T = T} took refused s (varint (length bs)) (Err e) t → Writes {T = U} took refused s (Some (text_of bs)) r t
text_exit {U = U} laws bs r f i q =
    let a = err_from_is_err_and r f in rw (a.1, a.2) (text_writes {T = U} bs i (pushes_stop {T = U} laws bs q.err))

-- a group whose first part was written, and then its others
pub group_then : {S U : Type 0} {took : S → List ℕ → S → Type 0} {refused : S → List ℕ → Error → S → Type 0} → Pushed took refused → {s t u : S} {o : Option Tree} (os : List (Option Tree)) {x : Unit {0}} {r : Result U Error} → Writes {T = Unit {0}} took refused s o (Ok x) t → WritesAll took refused t (parts os) r u → Writes took refused s (group_of (parts (o ∷ os))) r u
group_then {U = U} {took = took} {refused = refused} laws {s = s} {u = u} {o = o} os {r = r} v w =
    group_writes (subst (λ p. WritesAll {T = U} took refused s p r u) (sym (parts_append (o ∷ []) os)) (all_then laws (all_one laws v) w))

-- a group whose first part was refused
pub group_stops : {S T U : Type 0} {took : S → List ℕ → S → Type 0} {refused : S → List ℕ → Error → S → Type 0} → Pushed took refused → {s t : S} {o : Option Tree} (os : List (Option Tree)) {e : Error} (r : Result U Error) → IsErrAnd r (λ y. y ≡ e) → Writes {T = T} took refused s o (Err e) t → Writes {T = U} took refused s (group_of (parts (o ∷ os))) r t
group_stops {U = U} laws {o = o} os r f v =
    let a = err_from_is_err_and r f in rw (a.1, a.2) (group_writes (all_stops {T = U} laws os (refusal_of {U = U} v)))

-- what a group of parts is made of
pub group_parts : {S T : Type 0} {took : S → List ℕ → S → Type 0} {refused : S → List ℕ → Error → S → Type 0} {s t : S} {p : Option Trees} {r : Result T Error} → Writes took refused s (group_of p) r t → WritesAll took refused s p r t
group_parts {p = None} {r = Ok x} w = absurd w.ok
group_parts {p = None} {r = Err e} w = record { ok = tt; err = tt }
group_parts {p = Some ts} {r = Ok x} w = record { ok = w.ok; err = tt }
group_parts {p = Some ts} {r = Err e} w = record { ok = tt; err = w.err }

-- a character whose length was refused
pub char_exit : {S T U : Type 0} {took : S → List ℕ → S → Type 0} {refused : S → List ℕ → Error → S → Type 0} → Pushed took refused → {s t : S} (c : ℕ) (bs : List ℕ) → IsTree (character c) → bs ≡ encode_utf8 c → {e : Error} (r : Result U Error) → IsErrAnd r (λ y. y ≡ e) → Pushes {T = T} took refused s (varint (length bs)) (Err e) t → Writes {T = U} took refused s (Some (character c)) r t
char_exit {U = U} {took = took} {refused = refused} laws {s = s} {t = t} c bs i v {e = e} r f q =
    let a = err_from_is_err_and r f in rw (a.1, a.2)
    (pushes_tree {T = U} {tree = character c} i (subst (λ x. Pushes {T = U} took refused s (varint (length x) ++ x) (Err e) t) v (pushes_stop {T = U} laws bs q.err)))

-- a part that holds stands before what an Ok says of the others
pub also_valid : {T P : Type 0} (Q : Type 0) (r : Result T Error) → P → OnOk r Q → OnOk r (P × Q)
also_valid Q (Ok x) p q = (p, q)
also_valid Q (Err e) p q = tt

-- Values written one after another, in a loop.
use Rattle.std.proofs.Common.{◌≡◌, ℕ, ◌+◌, ◌<◌, List, [], ◌∷◌, ◌++◌, length, take, drop, map, get_or, sym, ◌∙◌, ap, subst, Option, Some, None, Result, Ok, Err, IsErrAnd, IfSome, arith, ◌^◌, append_assoc}
use Rattle.std.proofs.lemmas.List.{map_more, take-append-drop, map-append, length-map}
use Rattle.std.proofs.lemmas.Result.{err_from_is_err_and}
use Rattle.postcard_tree.specs.declared.error.Error.{Error}
use Rattle.postcard_tree.specs.Tree.{Tree, Trees, parts, count_of, sequence_of}
use Rattle.postcard_tree.specs.Spelling.{varint, short_all}
use Rattle.postcard_ser.specs.Flavor.{RefusedAs, Pushes}
use Rattle.postcard_ser.specs.Writing.{WroteAll, Writes, WritesAll}
use Rattle.postcard_ser.proofs.PartsLemmas.{both, parts_append, count_parts}
use Rattle.postcard_ser.proofs.PushingLemmas.{Pushed, all_one, all_then, all_cut, refusal_of}

-- the trees of one more value
pub parts_more : {A : Type 0} (w : A → Option Tree) (xs : List A) (i : ℕ) (x : A) → i < length xs → x ≡ get_or xs i x → both (parts (map w (take i xs))) (parts (w x ∷ [])) ≡ parts (map w (take (i + 1) xs))
parts_more w xs i x h e =
    sym (parts_append (map w (take i xs)) (w x ∷ []))
    ∙ ap parts (ap (λ y. map w (take i xs) ++ w y ∷ []) e ∙ sym (map_more w xs i x h))

pub parts_split : {A : Type 0} (w : A → Option Tree) (xs : List A) (i : ℕ) → both (parts (map w (take i xs))) (parts (map w (drop i xs))) ≡ parts (map w xs)
parts_split w xs i =
    sym (parts_append (map w (take i xs)) (map w (drop i xs)))
    ∙ ap parts (sym (map-append w (take i xs) (drop i xs)) ∙ ap (map w) (take-append-drop i xs))

-- one more value, written or refused
pub elements_then : {S A U : Type 0} {took : S → List ℕ → S → Type 0} {refused : S → List ℕ → Error → S → Type 0} → Pushed took refused → {s t u : S} (w : A → Option Tree) (xs : List A) (i : ℕ) (x : A) (r : Result U Error) → i < length xs → x ≡ get_or xs i x → WroteAll took s t (parts (map w (take i xs))) → Writes took refused t (w x) r u → WritesAll took refused s (parts (map w (take (i + 1) xs))) r u
elements_then {took = took} {refused = refused} laws {s = s} {t = t} {u = u} w xs i x r h e v q =
    subst (λ p. WritesAll took refused s p r u) (parts_more w xs i x h e)
    (all_then laws {t = t} {p = parts (map w (take i xs))} {x = tt} (record { ok = v; err = tt }) (all_one laws q))

pub elements_more : {S A : Type 0} {took : S → List ℕ → S → Type 0} {refused : S → List ℕ → Error → S → Type 0} → Pushed took refused → (s : S) {t u : S} (w : A → Option Tree) (xs : List A) (i : ℕ) (x : A) → i < length xs → x ≡ get_or xs i x → WroteAll took s t (parts (map w (take i xs))) → Writes {T = Unit {0}} took refused t (w x) (Ok tt) u → WroteAll took s u (parts (map w (take (i + 1) xs)))
elements_more laws s w xs i x h e v q = (elements_then laws w xs i x (Ok tt) h e v q).ok

pub elements_stop : {S A U : Type 0} {took : S → List ℕ → S → Type 0} {refused : S → List ℕ → Error → S → Type 0} → Pushed took refused → {s t u : S} (w : A → Option Tree) (xs : List A) (i : ℕ) (x : A) {e : Error} (r : Result U Error) → IsErrAnd r (λ y. y ≡ e) → i < length xs → x ≡ get_or xs i x → WroteAll took s t (parts (map w (take i xs))) → Writes {T = Unit {0}} took refused t (w x) (Err e) u → WritesAll took refused s (parts (map w xs)) r u
elements_stop {U = U} {took = took} {refused = refused} laws {s = s} {u = u} w xs i x {e = e} r f h g v q =
    let p = err_from_is_err_and r f in
    rw (p.1, p.2)
    (subst (λ p. WritesAll {T = U} took refused s p (Err e) u) (parts_split w xs (i + 1))
    (all_cut {T = U} laws (parts (map w (drop (i + 1) xs))) (elements_then {U = U} laws w xs i x (Err e) h g v (refusal_of q))))

-- one more value behind those that are done, written or refused
pub done_then : {S A U : Type 0} {took : S → List ℕ → S → Type 0} {refused : S → List ℕ → Error → S → Type 0} → Pushed took refused → {s t u : S} (w : A → Option Tree) (done : List A) (x : A) (r : Result U Error) → WroteAll took s t (parts (map w done)) → Writes took refused t (w x) r u → WritesAll took refused s (parts (map w (done ++ x ∷ []))) r u
done_then {took = took} {refused = refused} laws {s = s} {t = t} {u = u} w done x r v q =
    subst (λ p. WritesAll took refused s p r u) (sym (parts_append (map w done) (w x ∷ [])) ∙ ap parts (sym (map-append w done (x ∷ []))))
    (all_then laws {t = t} {p = parts (map w done)} {x = tt} (record { ok = v; err = tt }) (all_one laws q))

pub done_more : {S A : Type 0} {took : S → List ℕ → S → Type 0} {refused : S → List ℕ → Error → S → Type 0} → Pushed took refused → (s : S) {t u : S} (w : A → Option Tree) (done : List A) (x : A) → WroteAll took s t (parts (map w done)) → Writes {T = Unit {0}} took refused t (w x) (Ok tt) u → WroteAll took s u (parts (map w (done ++ x ∷ [])))
done_more laws s w done x v q = (done_then laws w done x (Ok tt) v q).ok

pub done_stop : {S A U : Type 0} {took : S → List ℕ → S → Type 0} {refused : S → List ℕ → Error → S → Type 0} → Pushed took refused → {s t u : S} (w : A → Option Tree) (all done rest : List A) (x : A) {e : Error} (r : Result U Error) → IsErrAnd r (λ y. y ≡ e) → all ≡ done ++ x ∷ rest → WroteAll took s t (parts (map w done)) → Writes {T = Unit {0}} took refused t (w x) (Err e) u → WritesAll took refused s (parts (map w all)) r u
done_stop {U = U} {took = took} {refused = refused} laws {s = s} {u = u} w all done rest x {e = e} r f h v q =
    let p = err_from_is_err_and r f in
    let same : (done ++ x ∷ []) ++ rest ≡ all = append_assoc done (x ∷ []) rest ∙ sym h in
    rw (p.1, p.2)
    (subst (λ o. WritesAll {T = U} took refused s o (Err e) u) (sym (parts_append (map w (done ++ x ∷ [])) (map w rest)) ∙ ap parts (sym (map-append w (done ++ x ∷ []) rest) ∙ ap (map w) same))
    (all_cut {T = U} laws (parts (map w rest)) (done_then {U = U} laws w done x (Err e) v (refusal_of q))))

-- how many trees the values have
pub count_map : {A : Type 0} (w : A → Option Tree) (xs : List A) → IfSome (parts (map w xs)) (λ ts. count_of ts ≡ length xs)
count_map w xs = subst (λ n. IfSome (parts (map w xs)) (λ ts. count_of ts ≡ n)) (length-map xs w) (count_parts (map w xs))

pub count_map_at : {A : Type 0} (w : A → Option Tree) (xs : List A) (n : ℕ) → n ≡ length xs → IfSome (parts (map w xs)) (λ ts. count_of ts ≡ n)
count_map_at w xs n e = subst (λ k. IfSome (parts (map w xs)) (λ ts. count_of ts ≡ k)) (sym e) (count_map w xs)

-- the parts behind their count
pub sequence_then : {S T : Type 0} {took : S → List ℕ → S → Type 0} {refused : S → List ℕ → Error → S → Type 0} → Pushed took refused → {s t u : S} (n : ℕ) {p : Option Trees} {r : Result T Error} → IfSome p (λ ts. count_of ts ≡ n) → n < 2 ^ 64 → Pushes {T = Unit {0}} took refused s (varint n) (Ok tt) t → WritesAll took refused t p r u → Writes took refused s (sequence_of p) r u
sequence_then laws n {p = None} {r = Ok x} c f q w = absurd w.ok
sequence_then laws n {p = None} {r = Err e} c f q w = record { ok = tt; err = tt }
sequence_then {took = took} laws {s = s} {t = t} {u = u} n {p = Some ts} {r = Ok x} c f q w = record {
  ok = ((omega arith, w.ok.0), laws.more s t u (varint (count_of ts)) (short_all ts) (subst (λ k. took s (varint k) t) (sym c) q.ok) w.ok.1);
  err = tt;
}
sequence_then {took = took} laws {s = s} {t = t} {u = u} n {p = Some ts} {r = Err e} c f q w = record {
  ok = tt;
  err = laws.later s t u (varint (count_of ts)) (short_all ts) e (subst (λ k. took s (varint k) t) (sym c) q.ok) w.err;
}

pub sequence_stop : {S T : Type 0} {took : S → List ℕ → S → Type 0} {refused : S → List ℕ → Error → S → Type 0} → Pushed took refused → {s t : S} (n : ℕ) (p : Option Trees) {e : Error} → IfSome p (λ ts. count_of ts ≡ n) → RefusedAs refused s (varint n) e t → Writes {T = T} took refused s (sequence_of p) (Err e) t
sequence_stop laws n None c q = record { ok = tt; err = tt }
sequence_stop {refused = refused} laws {s = s} {t = t} n (Some ts) {e = e} c q = record { ok = tt; err = laws.longer s t (varint (count_of ts)) (short_all ts) e (subst (λ k. RefusedAs refused s (varint k) e t) (sym c) q) }

pub sequence_exit : {S T U : Type 0} {took : S → List ℕ → S → Type 0} {refused : S → List ℕ → Error → S → Type 0} → Pushed took refused → {s t : S} (n : ℕ) (p : Option Trees) {e : Error} (r : Result U Error) → IsErrAnd r (λ y. y ≡ e) → IfSome p (λ ts. count_of ts ≡ n) → Pushes {T = T} took refused s (varint n) (Err e) t → Writes {T = U} took refused s (sequence_of p) r t
sequence_exit {U = U} laws n p r f c q = let a = err_from_is_err_and r f in rw (a.1, a.2) (sequence_stop {T = U} laws n p c q.err)

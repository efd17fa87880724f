-- The two numbers at a message's front tell a request and a reply apart.
use Rattle.std.proofs.Common.{◌≡◌, ℕ, ◌+◌, ◌<◌, ◌==◌, Bool, true, false, cond, eqb, List, [], ◌∷◌, ◌++◌, Option, Some, None, refl, sym, ap, ◌∙◌, subst, inl, inr, arith, append_assoc}
use Rattle.std.specs.Prelude.{map, if◌then◌else◌}
use Rattle.std.proofs.lemmas.Bool.{eqb-true}
use Rattle.postcard_tree.specs.Tree.{Tree, Trees, group, part, end}
use Rattle.postcard_tree.specs.Spelling.{Spells, SpellsAll}
use Rattle.postcard_tree.specs.Reading.{EndsByItself, ReadsPair}
use Rattle.sealed.specs.declared.keyed.Keyed.{Keyed}
use Rattle.sealed.specs.Seals.{ReadsSealed}
use Rattle.link.specs.declared.receiver.Answer.{Answer}
use Rattle.link.specs.declared.receiver.Answer.TheVariants.{Value, Damaged, TooLong, Cut}
use Rattle.calls.specs.Calls.{no_call, In}
use Rattle.calls.specs.Serving.{requests_of}
use Rattle.calls.specs.Sealing.{compared, compared_reply, replied_inside}
use Rattle.calls_laws.specs.Echo.{IsRequest, IsReply, NoRequest, NoReply}

-- no number stands behind itself
never_behind : (n : ℕ) → n ≡ replied_inside n → ⊥
never_behind n e = by (eqb n no_call) refl e
  where
    by : (b : Bool) → eqb n no_call ≡ b → n ≡ cond b 0 (n + 1) → ⊥
    by true f g = (let k : n ≡ no_call = eqb-true n no_call f in omega (arith, g, k))
    by false f g = omega (arith, g)

-- a reply compared as a request is damaged
pub reply_compared : {T : Type 0} {K : ℕ} (p : ℕ × Keyed (ℕ × T) K) → p.1.0.0 ≡ replied_inside p.0 → compared (Value p) ≡ Damaged
reply_compared {T} {K} p e = by (eqb p.0 p.1.0.0) refl
  where
    by : (b : Bool) → eqb p.0 p.1.0.0 ≡ b → cond b (Value p) (let a : Answer (ℕ × Keyed (ℕ × T) K) = Damaged in a) ≡ Damaged
    by true f = absurd (never_behind p.0 (eqb-true p.0 p.1.0.0 f ∙ e))
    by false f = refl

-- a request compared as a reply is damaged
pub request_compared : {T : Type 0} {K : ℕ} (p : ℕ × Keyed (ℕ × T) K) → p.1.0.0 ≡ p.0 → compared_reply (Value p) ≡ Damaged
request_compared {T} {K} p e = by (eqb (replied_inside p.0) p.1.0.0) refl
  where
    by : (b : Bool) → eqb (replied_inside p.0) p.1.0.0 ≡ b → cond b (Value p) (let a : Answer (ℕ × Keyed (ℕ × T) K) = Damaged in a) ≡ Damaged
    by true f = absurd (never_behind p.0 (sym (eqb-true (replied_inside p.0) p.1.0.0 f ∙ e)))
    by false f = refl

-- the bytes of a pair are those of its parts
pair_parts : {A B : Type 0} (R : Tree → A → Type 0) (S : Tree → B → Type 0) (t : Tree) (p : A × B) (f : List ℕ) → ReadsPair R S t p → Spells t f
    → (a b : Tree) × (x y : List ℕ) × R a p.0 × S b p.1 × Spells a x × Spells b y × (f ≡ x ++ y)
unfolding Spells SpellsAll
pair_parts R S (group (part a (part b end))) p f h (x, y, e, k, (z, w, g, l, last)) =
    (a, b, x, z, h.0, h.1.0, k, l, e ∙ ap (λ v. x ++ v) (g ∙ ap (λ v. z ++ v) last ∙ nothing z))
  where
    nothing : (z : List ℕ) → z ++ [] ≡ z
    nothing [] = refl
    nothing (c ∷ z) = ap (λ v. c ∷ v) (nothing z)
pair_parts R S (group end) p f h k = absurd h
pair_parts R S (group (part a end)) p f h k = absurd h.1
pair_parts R S (group (part a (part b (part c ts)))) p f h k = absurd h.1.1
pair_parts R S _ p f h k = absurd h

-- the bytes of what is sealed begin with those of the value
sealed_front : {A : Type 0} (key : ℕ) (R : Tree → A → Type 0) (t : Tree) (v : A) (f : List ℕ) → ReadsSealed key R t v → Spells t f
    → (a : Tree) × (x more : List ℕ) × R a v × Spells a x × (f ≡ x ++ more)
unfolding Spells SpellsAll
sealed_front key R (group (part a (part u end))) v f h (x, y, e, k, rest) = (a, x, y, h.0, k, e)
sealed_front key R (group end) v f h k = absurd h
sealed_front key R (group (part a end)) v f h k = absurd h
sealed_front key R (group (part a (part b (part c ts)))) v f h k = absurd h
sealed_front key R _ v f h k = absurd h

-- Bytes begin with two numbers, each by its tree.
record Begins (N : Tree → ℕ → Type 0) (m n : ℕ) (f : List ℕ) : Type 0 where
  pub outside : Tree
  pub inside : Tree
  pub x : List ℕ
  pub y : List ℕ
  pub more : List ℕ
  pub reads_outside : N outside m
  pub reads_inside : N inside n
  pub spells_outside : Spells outside x
  pub spells_inside : Spells inside y
  pub whole : f ≡ x ++ (y ++ more)

begins : {A : Type 0} {K : ℕ} (N : Tree → ℕ → Type 0) (R : Tree → A → Type 0) (t : Tree) (p : ℕ × Keyed (ℕ × A) K) (f : List ℕ)
    → ReadsPair N (λ u (v : Keyed (ℕ × A) K). ReadsSealed K (ReadsPair N R) u v.0) t p → Spells t f → Begins N p.0 p.1.0.0 f
begins {A} {K} N R t p f h k =
    let o = pair_parts N (λ u (v : Keyed (ℕ × A) K). ReadsSealed K (ReadsPair N R) u v.0) t p f h k in
    let s = sealed_front K (ReadsPair N R) o.1 p.1.0 o.3 o.5 o.7 in
    let i = pair_parts N R s.0 p.1.0 s.1 s.3 s.4 in
    record {
      outside = o.0;
      inside = i.0;
      x = o.2;
      y = i.2;
      more = i.3 ++ s.2;
      reads_outside = o.4;
      reads_inside = i.4;
      spells_outside = o.6;
      spells_inside = i.6;
      whole = o.8 ∙ ap (λ v. o.2 ++ v) (s.5 ∙ ap (λ v. v ++ s.2) i.8 ∙ append_assoc i.2 i.3 s.2);
    }

same_rest : (a x y : List ℕ) → a ++ x ≡ a ++ y → x ≡ y
same_rest [] x y e = e
same_rest (b ∷ a) x y e = same_rest a x y (cc)

-- bytes that begin with two numbers begin with no others
one_front : (takes : Tree → Type 0) (N : Tree → ℕ → Type 0) → ((t : Tree) (n : ℕ) → N t n → takes t) → EndsByItself takes → ((t : Tree) (m n : ℕ) → N t m → N t n → m ≡ n)
    → (m n m' n' : ℕ) (f g rest behind : List ℕ) → Begins N m n f → Begins N m' n' g → f ++ rest ≡ g ++ behind → (m ≡ m') × (n ≡ n')
one_front takes N taken once value m n m' n' f g rest behind b c e =
    let long : (b.x ++ (b.y ++ (b.more ++ rest)) ≡ c.x ++ (c.y ++ (c.more ++ behind))) =
    sym (parted b.x b.y b.more rest) ∙ ap (λ v. v ++ rest) (sym b.whole) ∙ e ∙ ap (λ v. v ++ behind) c.whole ∙ parted c.x c.y c.more behind in
    let first = once b.outside c.outside b.x c.x (b.y ++ (b.more ++ rest)) (c.y ++ (c.more ++ behind)) (taken b.outside m b.reads_outside) (taken c.outside m' c.reads_outside) b.spells_outside c.spells_outside long in
    let behind_first : b.y ++ (b.more ++ rest) ≡ c.y ++ (c.more ++ behind) = same_rest c.x (b.y ++ (b.more ++ rest)) (c.y ++ (c.more ++ behind)) (subst (λ v. v ++ (b.y ++ (b.more ++ rest)) ≡ c.x ++ (c.y ++ (c.more ++ behind))) first.0 long) in
    let second = once b.inside c.inside b.y c.y (b.more ++ rest) (c.more ++ behind) (taken b.inside n b.reads_inside) (taken c.inside n' c.reads_inside) b.spells_inside c.spells_inside behind_first in (
      value c.outside m m' (subst (λ t. N t m) first.1 b.reads_outside) c.reads_outside,
      value c.inside n n' (subst (λ t. N t n) second.1 b.reads_inside) c.reads_inside,
    )
  where
    parted : (x y z r : List ℕ) → (x ++ (y ++ z)) ++ r ≡ x ++ (y ++ (z ++ r))
    parted x y z r = append_assoc x (y ++ z) r ∙ ap (λ v. x ++ v) (append_assoc y z r)

-- how a message is read, whose two numbers are read by N
abbrev pub ReadsMessage : {A : Type 0} (K : ℕ) → (Tree → ℕ → Type 0) → (Tree → A → Type 0) → Tree → ℕ × Keyed (ℕ × A) K → Type 0
ReadsMessage {A} K N R = ReadsPair N (λ u (v : Keyed (ℕ × A) K). ReadsSealed K (ReadsPair N R) u v.0)

module _ (takes : Tree → Type 0) (N : Tree → ℕ → Type 0) (taken : (t : Tree) (n : ℕ) → N t n → takes t) (once : EndsByItself takes) (value : (t : Tree) (m n : ℕ) → N t m → N t n → m ≡ n) where
  pub no_request : {Q R : Type 0} (K L : ℕ) (asks : Tree → Q → Type 0) (says : Tree → R → Type 0) → NoRequest {K = K} {L = L} (ReadsMessage K N says) (ReadsMessage L N asks)
  no_request K L asks says t u front before rest behind said asked is h k g l e =
      let same = one_front takes N taken once value said.0 said.1.0.0 asked.0 asked.1.0.0 front before rest behind (begins N says t said front h k) (begins N asks u asked before g l) e in
      reply_compared asked (sym same.1 ∙ is ∙ ap replied_inside same.0)

  pub no_reply : {Q R : Type 0} (K L : ℕ) (asks : Tree → Q → Type 0) (says : Tree → R → Type 0) → NoReply {K = K} {L = L} (ReadsMessage L N asks) (ReadsMessage K N says)
  no_reply K L asks says t u front before rest behind asked said is h k g l e =
      let same = one_front takes N taken once value asked.0 asked.1.0.0 said.0 said.1.0.0 front before rest behind (begins N asks t asked front h k) (begins N says u said before g l) e in
      request_compared said (sym same.1 ∙ is ∙ same.0)

-- where each message is damaged none is left
pub none_left : {V : Type 0} (f : Answer V → Answer V) → (f Damaged ≡ Damaged) → (f TooLong ≡ TooLong) → (f Cut ≡ Cut) → (answers : List (Answer V))
    → ((v : V) → In v (requests_of answers) → f (Value v) ≡ Damaged) → requests_of (map f answers) ≡ []
none_left f d t c [] all = refl
none_left f d t c (Value v ∷ answers) all = ap (λ a. requests_of (a ∷ map f answers)) (all v (inl refl)) ∙ none_left f d t c answers (λ w i. all w (inr i))
none_left f d t c (Damaged ∷ answers) all = ap (λ a. requests_of (a ∷ map f answers)) d ∙ none_left f d t c answers all
none_left f d t c (TooLong ∷ answers) all = ap (λ a. requests_of (a ∷ map f answers)) t ∙ none_left f d t c answers all
none_left f d t c (Cut ∷ answers) all = ap (λ a. requests_of (a ∷ map f answers)) c ∙ none_left f d t c answers all

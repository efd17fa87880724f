-- Chains, their trees, and the bytes that are refused.
use Rattle.std.specs.Global.{Global}
use Rattle.std.specs.Prelude.{Box, Some, ◌≡◌, ℕ, ◌≤◌, ◌⊎◌, List, [], ◌∷◌, ◌++◌, refl}
use Rattle.std.proofs.Common.{sym, ◌∙◌, ap, inl, inr, arith, append_assoc, append-nil, subst}
use Rattle.postcard_tree.specs.declared.error.Error.{Error}
use Rattle.postcard_tree.specs.declared.error.Error.TheVariants.{SerdeDeCustom}
use Rattle.postcard_tree.specs.Number.{Number}
use Rattle.postcard_tree.specs.Tree.{Tree, byte, number, group, end, part}
use Rattle.postcard_tree.specs.Spelling.{Spells, SpellsAll}
use Rattle.postcard_tree.specs.Reading.{EndsByItself, NoFront, RefusesGroups, RefusesByte}
use Rattle.postcard_tree.specs.Once.{nothing_at, byte_at, number_at, pair_at, number_once, number_refused, same_rest}
use Rattle.postcard_tree.specs.Bounds.{OnlyTrees, width_32}
use Rattle.postcard_tree.specs.ReadingLaws.{ReadingLaws}
use Rattle.example_by_hand.specs.declared.chain.Chain.{Chain, End, More'}
use Rattle.example_by_hand.specs.declared.chain.Chain.TheVariants.{More}

-- the end of a chain, variant 0
abbrev pub end_tree : Tree
end_tree = group (part (number 32 0) (part (group end) end))

-- a byte before a chain, variant 1
abbrev pub more_tree : ℕ → Tree → Tree
more_tree b t = group (part (number 32 1) (part (group (part (byte b) (part t end))) end))

-- The trees of chains.
pub data TakesChain : Tree → Type 0 where
  takes_end : TakesChain end_tree
  takes_more : (b : ℕ) (t : Tree) → TakesChain t → TakesChain (more_tree b t)

-- The chain that such a tree is read as.
pub data ReadsChain : Tree → Chain → Type 0 where
  reads_end : ReadsChain end_tree End
  reads_more : (b : ℕ) (t : Tree) (rest : Box Chain Global) → ReadsChain t rest.value
      → ReadsChain (more_tree b t) (More b rest)

-- the first error in the order of reading
pub data RefusesChain : List ℕ → Error → Type 0 where
  at_index : (s : List ℕ) (e : Error) → RefusesGroups 5 15 s e → RefusesChain s e
  unknown : (n : ℕ) (front rest : List ℕ) → Number 32 n front → 2 ≤ n
      → RefusesChain (front ++ rest) SerdeDeCustom
  at_byte : (front rest : List ℕ) (e : Error) → Number 32 1 front → RefusesByte rest e
      → RefusesChain (front ++ rest) e
  at_rest : (front rest : List ℕ) (b : ℕ) (e : Error) → Number 32 1 front → RefusesChain rest e
      → RefusesChain (front ++ (b ∷ rest)) e

pub chain_once : EndsByItself TakesChain
chain_once _ _ a b x y takes_end takes_end r s e = pair_at _ _ _ _ (number_at 32 0 0) (λ _. nothing_at) a b x y r s e
chain_once _ _ a b x y takes_end (takes_more c u q) r s e = pair_at _ _ _ _ (number_at 32 0 1) (λ k. cc) a b x y r s e
chain_once _ _ a b x y (takes_more c t p) takes_end r s e = pair_at _ _ _ _ (number_at 32 1 0) (λ k. cc) a b x y r s e
chain_once _ _ a b x y (takes_more c t p) (takes_more d u q) r s e =
    pair_at _ _ _ _ (number_at 32 1 1) (λ _. pair_at _ _ _ _ (byte_at c d) (λ _ f g v w m n o. chain_once t u f g v w p q m n o)) a b x y r s e

pub chain_taken : (t : Tree) (v : Chain) → ReadsChain t v → TakesChain t
chain_taken _ _ reads_end = takes_end
chain_taken _ _ (reads_more b t rest h) = takes_more b t (chain_taken t rest.value h)

-- the payload of More: its byte, and the rest of it
payload : (s : List ℕ) (b : ℕ) (u : Tree) → SpellsAll (part (byte b) (part u end)) s → List ℕ
unfolding Spells SpellsAll
payload s b u (f, v, j, g, h) = h.0

payload_spells : (s : List ℕ) (b : ℕ) (u : Tree) → (h : SpellsAll (part (byte b) (part u end)) s)
    → Spells u (payload s b u h)
unfolding Spells SpellsAll payload
payload_spells s b u (f, v, j, g, h) = h.3

payload_is : (s : List ℕ) (b : ℕ) (u : Tree) → (h : SpellsAll (part (byte b) (part u end)) s)
    → s ≡ b ∷ payload s b u h
unfolding Spells SpellsAll payload
payload_is s b u (f, v, j, g, h) = j ∙ ap (λ z. z ++ v) g ∙ ap (λ z. b ∷ z) (h.2 ∙ ap (λ z. h.0 ++ z) h.4 ∙ append-nil h.0)

-- the index at the start
indexed : (s rest : List ℕ) (t : Tree) (front more f : List ℕ) (n : ℕ) → TakesChain t
    → Spells t front → s ≡ front ++ more → Number 32 n f → s ≡ f ++ rest
    → ((n ≡ 0) × (t ≡ end_tree))
    ⊎ ((n ≡ 1) × (b : ℕ) × (u : Tree) × (v : List ℕ) × (t ≡ more_tree b u)
    × TakesChain u × Spells u v × (rest ≡ b ∷ (v ++ more)))
unfolding Spells SpellsAll
indexed s rest _ front more f n takes_end (g, v, j, h, k) w p q =
    let i : (f ≡ g) × (n ≡ 0) = number_once 32 n 0 f g rest (v ++ more) p h (sym q ∙ w ∙ ap (λ z. z ++ more) j ∙ append_assoc g v more) in
    inl (i.1, refl)
indexed s rest _ front more f n (takes_more b u a) (g, v, j, h, k) w p q =
    let x : f ++ rest ≡ g ++ (v ++ more) = sym q ∙ w ∙ ap (λ z. z ++ more) j ∙ append_assoc g v more in
    let i : (f ≡ g) × (n ≡ 1) = number_once 32 n 1 f g rest (v ++ more) p h x in
    let r : rest ≡ v ++ more = same_rest f g rest (v ++ more) i.0 x in
    inr (i.1, b, u, payload k.0 b u k.3, refl, a, payload_spells k.0 b u k.3, r ∙ ap (λ z. z ++ more) (k.2 ∙ ap (λ z. k.0 ++ z) k.4 ∙ append-nil k.0 ∙ payload_is k.0 b u k.3))

pub chain_refused : (s : List ℕ) (e : Error) → RefusesChain s e → NoFront TakesChain s
unfolding Spells SpellsAll
chain_refused _ _ (at_index s e h) _ front more takes_end (g, v, j, i, k) w =
    number_refused 32 4 15 s e 0 g (v ++ more) refl refl h i (w ∙ ap (λ z. z ++ more) j ∙ append_assoc g v more)
chain_refused _ _ (at_index s e h) _ front more (takes_more b u a) (g, v, j, i, k) w =
    number_refused 32 4 15 s e 1 g (v ++ more) refl refl h i (w ∙ ap (λ z. z ++ more) j ∙ append_assoc g v more)
chain_refused _ _ (unknown n f rest h l) t front more p r w =
    elim (indexed (f ++ rest) rest t front more f n p r w h refl) [ inl i ↦ omega (arith, i.0, l) | inr i ↦ omega (arith, i.0, l) ]
chain_refused _ _ (at_byte f [] e h l) t front more p r w =
    elim (indexed (f ++ []) [] t front more f 1 p r w h refl) [ inl i ↦ omega (arith, i.0) | inr i ↦ let k : [] ≡ i.1 ∷ (i.3 ++ more) = i.7 in cc ]
chain_refused _ _ (at_byte f (c ∷ rest) e h l) t front more p r w = absurd l
chain_refused _ _ (at_rest f rest c e h l) t front more p r w =
    elim (indexed (f ++ (c ∷ rest)) (c ∷ rest) t front more f 1 p r w h refl) [
      | inl i ↦ omega (arith, i.0)
      | inr i ↦ let k : c ∷ rest ≡ i.1 ∷ (i.3 ++ more) = i.7 in chain_refused rest e l i.2 i.3 more i.5 i.6 (cc)
    ]

pub chain_trees : OnlyTrees TakesChain
chain_trees _ takes_end = ((width_32, omega arith), (tt, tt))
chain_trees _ (takes_more b t h) = ((width_32, omega arith), ((tt, (chain_trees t h, tt)), tt))

-- A chain is seen as its bytes, in order.
abbrev pub bytes_in : Chain → List ℕ
bytes_in End = []
bytes_in (More' b p rest) = b ∷ bytes_in rest

chain_value : (t : Tree) (v w : Chain) → ReadsChain t v → ReadsChain t w → bytes_in v ≡ bytes_in w
chain_value _ _ _ reads_end reads_end = refl
chain_value _ _ _ (reads_more b t r h) (reads_more c u s k) = ap (λ z. b ∷ z) (chain_value t r.value s.value h k)

pub chain_laws : ReadingLaws TakesChain ReadsChain RefusesChain (λ v w. bytes_in v ≡ bytes_in w)
chain_laws = record { taken = chain_taken; trees = chain_trees; once = chain_once; refused = chain_refused; one_value = chain_value }

-- the tree of a chain
abbrev pub chain_tree : Chain → Tree
chain_tree End = end_tree
chain_tree (More' b p rest) = more_tree b (chain_tree rest)

chain_reads : (v : Chain) → ReadsChain (chain_tree v) v
chain_reads End = reads_end
chain_reads (More' b p rest) = reads_more b (chain_tree rest) _ (chain_reads rest)

pub chain_reads_back : (v : Chain) (t : Tree) → Some (chain_tree v) ≡ Some t → ReadsChain t v
chain_reads_back v t e = let k : chain_tree v ≡ t = cc in subst (λ z. ReadsChain z v) k (chain_reads v)

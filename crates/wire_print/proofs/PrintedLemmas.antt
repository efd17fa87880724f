-- Tokens of JSON values that are appended one after another.
use Rattle.std.proofs.Common.{◌≡◌, ℕ, suc, ◌+◌, ◌<◌, Bool, true, false, ◌&&◌, Option, Some, String, List, [], ◌∷◌, ◌++◌, flat_map, drop, length, get_or, Result, OnOk, refl, sym, ap, ◌∙◌, subst, append_assoc}
use Rattle.std.proofs.lemmas.List.{append-nil, drop_more}
use Rattle.std.proofs.lemmas.Grind.{flat_map-append}
use Rattle.std.specs.List.{AllZip}
use Rattle.json.specs.Token.{Token, begin_object, end_object, begin_array, end_array, key}
use Rattle.json.specs.Json.{Json, null, string, array, object, no_members, member}
use Rattle.json.specs.Tree.{json_tokens, items_tokens, members_tokens}
use Rattle.json.specs.Value.{items_of}
use Rattle.hex.specs.Hex.{encode_lower}
use Rattle.schema_table.specs.declared.node.Node.{Node}
use Rattle.schema_table.specs.declared.node.Node.TheVariants as node
use Rattle.schema_table.specs.declared.schema.Names.{Names}
use Rattle.schema_table.specs.declared.schema.Names.TheVariants as names
use Rattle.schema_table.specs.declared.schema.Schema.{Schema}
use Rattle.schema_table.specs.Telling.{names_at, node_at}
use Rattle.schema_table.specs.declared.value.Value.{Value, out-Value}
use Rattle.schema_table.specs.declared.value.Value.TheOpen.{Value-F}
use Rattle.schema_table.specs.Looks.{IsUnder, is_empty_named, is_map_named, pair_node, first_is_key, key_text}
use Rattle.wire_print.specs.Appended.{member_tokens}
use Rattle.schema_table.specs.Printed.{members_by, first_name, other_names, called, Shows, ShowsArray, ShowsChosen, ShowsHeld, ShowsAll, ShowsList, ShowsMap, ShowsNamed, ShowsNode, ShowsObject, ShowsPair, ShowsParts, ShowsVariant, bytes_in, plain_json}
use Rattle.std.proofs.lemmas.Result.{on_ok_weaker}
use Rattle.wire_print.specs.TokenLaws.{array_tokens, object_tokens}

-- the tokens of what shows the first of some values were appended, and `left` are left
abbrev pub Shown : {A B : Type 0} → (B → List Token) → (A → B → Type 0) → List Token → List Token → List A → List A → Type 0
Shown {A} {B} f like old new all left =
    (done : List B) × (new ≡ old ++ flat_map f done) × ((more : List B) → AllZip like left more → AllZip like all (done ++ more))

-- one more
pub shown_more : {A B : Type 0} (f : B → List Token) (like : A → B → Type 0) (old mid new : List Token) (all left xs : List A) (x : A) → left ≡ x ∷ xs
    → Shown f like old mid all left → ((y : B) × (new ≡ mid ++ f y) × like x y) → Shown f like old new all xs
shown_more f like old mid new all left xs x e h g = (
  h.0 ++ g.0 ∷ [],
  g.1 ∙ ap (λ t. t ++ f g.0) h.1 ∙ append_assoc old (flat_map f h.0) (f g.0)
      ∙ ap (λ t. old ++ (flat_map f h.0 ++ t)) (sym (append-nil (f g.0))) ∙ ap (λ t. old ++ t) (sym (flat_map-append f h.0 (g.0 ∷ []))),
  λ more k.
      subst (λ zs. AllZip like all zs) (sym (append_assoc h.0 (g.0 ∷ []) more)) (h.2 (g.0 ∷ more) (subst (λ zs. AllZip like zs (g.0 ∷ more)) (sym e) (g.2, k))),
)

-- what is left from an element on
pub left_at : {A : Type 0} (xs : List A) (i : ℕ) (x : A) → i < length xs → x ≡ get_or xs i x → drop i xs ≡ x ∷ drop (i + 1) xs
left_at xs i x l e = drop_more xs i x l ∙ ap (λ y. y ∷ drop (i + 1) xs) (sym e)

-- all
shown_all : {A B : Type 0} (f : B → List Token) (like : A → B → Type 0) (old new : List Token) (all left : List A) (h : Shown f like old new all left) → left ≡ [] → AllZip like all h.0
shown_all f like old new all left h e = subst (λ zs. AllZip like all zs) (append-nil h.0) (h.2 [] (subst (λ zs. AllZip like zs []) (sym e) tt))

-- an array of all
pub array_done : {A E : Type 0} (r : Result (Unit {0}) E) (like : A → Json → Type 0) (old begun looped ended : List Token) (all left : List A) → begun ≡ old ++ begin_array ∷ []
    → Shown json_tokens like begun looped all left → left ≡ [] → OnOk r (ended ≡ looped ++ end_array ∷ [])
    → OnOk r ((j : Json) × (ended ≡ old ++ json_tokens j) × ShowsArray like all j)
array_done r like old begun looped ended all left b h none ok = on_ok_weaker r
    (λ e. (
      array (items_of h.0),
      e ∙ ap (λ t. t ++ end_array ∷ []) (h.1 ∙ ap (λ t. t ++ flat_map json_tokens h.0) b)
          ∙ append_assoc (old ++ begin_array ∷ []) (flat_map json_tokens h.0) (end_array ∷ [])
          ∙ ap (λ t. (old ++ begin_array ∷ []) ++ t) (array_tokens h.0)
          ∙ append_assoc old (begin_array ∷ []) (items_tokens (items_of h.0)),
      (h.0, refl, shown_all json_tokens like begun looped all left h none),
    ))
    ok

-- an object of all
pub object_done : {A E : Type 0} (r : Result (Unit {0}) E) (like : A → List ℕ × Json → Type 0) (old begun looped ended : List Token) (all left : List A) → begun ≡ old ++ begin_object ∷ []
    → Shown member_tokens like begun looped all left → left ≡ [] → OnOk r (ended ≡ looped ++ end_object ∷ [])
    → OnOk r ((j : Json) × (ended ≡ old ++ json_tokens j) × ShowsObject like all j)
object_done r like old begun looped ended all left b h none ok = on_ok_weaker r
    (λ e. (
      object (members_by h.0),
      e ∙ ap (λ t. t ++ end_object ∷ []) (h.1 ∙ ap (λ t. t ++ flat_map member_tokens h.0) b)
          ∙ append_assoc (old ++ begin_object ∷ []) (flat_map member_tokens h.0) (end_object ∷ [])
          ∙ ap (λ t. (old ++ begin_object ∷ []) ++ t) (object_tokens h.0)
          ∙ append_assoc old (begin_object ∷ []) (members_tokens (members_by h.0)),
      (h.0, refl, shown_all member_tokens like begun looped all left h none),
    ))
    ok

-- a name and its value are a member
pub member_of : (like : List ℕ × Json → Type 0) (a b c : List Token) (s : List ℕ) → b ≡ a ++ key s ∷ [] → ((j : Json) × (c ≡ b ++ json_tokens j) × like (s, j))
    → (m : List ℕ × Json) × (c ≡ a ++ member_tokens m) × like m
member_of like a b c s e h = ((s, h.0), h.1 ∙ ap (λ t. t ++ json_tokens h.0) e ∙ append_assoc a (key s ∷ []) (json_tokens h.0), h.2)

-- the same, if the value was appended
pub member_done : {E : Type 0} (r : Result (Unit {0}) E) (kind : Json → Type 0) (like : List ℕ × Json → Type 0) (a b c : List Token) (s : List ℕ) → b ≡ a ++ key s ∷ []
    → OnOk r ((j : Json) × (c ≡ b ++ json_tokens j) × kind j) → ((j : Json) → kind j → like (s, j)) → OnOk r ((m : List ℕ × Json) × (c ≡ a ++ member_tokens m) × like m)
member_done r kind like a b c s e h f = on_ok_weaker r (λ k. member_of like a b c s e (k.0, k.1, f k.0 k.2)) h

-- an object of one member
pub under_done : {E : Type 0} (r : Result (Unit {0}) E) (kind : Json → Type 0) (old begun named shown ended : List Token) (s : List ℕ) → begun ≡ old ++ begin_object ∷ []
    → named ≡ begun ++ key s ∷ [] → ((j : Json) × (shown ≡ named ++ json_tokens j) × kind j) → OnOk r (ended ≡ shown ++ end_object ∷ [])
    → OnOk r ((j : Json) × (ended ≡ old ++ json_tokens j) × IsUnder s kind j)
under_done r kind old begun named shown ended s b n h ok = on_ok_weaker r
    (λ e. (
      object (member s h.0 no_members),
      e ∙ ap (λ t. t ++ end_object ∷ []) (h.1 ∙ ap (λ t. t ++ json_tokens h.0) (n ∙ ap (λ t. t ++ key s ∷ []) b))
          ∙ append_assoc ((old ++ begin_object ∷ []) ++ key s ∷ []) (json_tokens h.0) (end_object ∷ [])
          ∙ append_assoc (old ++ begin_object ∷ []) (key s ∷ []) (json_tokens h.0 ++ end_object ∷ [])
          ∙ append_assoc old (begin_object ∷ []) (key s ∷ (json_tokens h.0 ++ end_object ∷ [])),
      (h.0, refl, h.2),
    ))
    ok

-- one value of this kind, if it was appended
pub one_value : {E : Type 0} (r : Result (Unit {0}) E) (kind : Json → Type 0) (old new : List Token) (j : Json) → kind j → OnOk r (new ≡ old ++ json_tokens j)
    → OnOk r ((x : Json) × (new ≡ old ++ json_tokens x) × kind x)
one_value r kind old new j k h = on_ok_weaker r (λ e. (j, e, k)) h

-- a value of this kind is of another
pub other_kind : {E : Type 0} (r : Result (Unit {0}) E) (kind other : Json → Type 0) (old new : List Token) → OnOk r ((x : Json) × (new ≡ old ++ json_tokens x) × kind x)
    → ((j : Json) → kind j → other j) → OnOk r ((x : Json) × (new ≡ old ++ json_tokens x) × other x)
other_kind r kind other old new h f = on_ok_weaker r (λ e. (e.0, e.1, f e.0 e.2)) h

-- the first of some, with its name, and the others
pub called_first : {A B : Type 0} (ns more : List (String A)) (xs : List B) (x : B) (ts : List B) → xs ≡ x ∷ ts → more ≡ other_names ns → called ns xs ≡ (first_name ns, x) ∷ called more ts
called_first ns more xs x ts e f = rw (e, f) refl

-- none are called by no names
pub called_none : {A B : Type 0} (ns : List (String A)) (xs : List B) → xs ≡ [] → called ns xs ≡ []
called_none ns xs e = rw e refl

-- a pair
pub held_shown : (schema : Schema) (shows : ℕ → Value → Json → Type 0) (types : Option (ℕ × ℕ)) (values : Option (Value × Value)) (a : ℕ × ℕ) (b : Value × Value) (j : Json) → types ≡ Some a
    → values ≡ Some b → shows a.1 b.1 j → ShowsHeld schema shows types values (key_text schema a.0 b.0, j)
held_shown schema shows types values a b j e f h = rw (e, f) (refl, h)

-- a variant that has a name and a type
pub variant_shown : (schema : Schema) (named : Option (List ℕ)) (payload : Option ℕ) (s : List ℕ) (k n : ℕ) (shows : ℕ → Value → Json → Type 0) (v : Value) (j : Json) → named ≡ Some s → payload ≡ Some k
    → ShowsChosen (is_empty_named (names_at schema k)) s (shows k v) j → ShowsVariant schema named payload n shows v j
variant_shown schema named payload s k n shows v j e f h = rw (e, f) h

-- a value by the node of its type
pub shows_node : (hex : Bool) (schema : Schema) (depth below i : ℕ) (v : Value) (j : Json) (n : Option Node) → depth ≡ suc below → node_at schema i ≡ n
    → ShowsNode hex schema i (Shows hex schema below) n (out-Value v) j → Shows hex schema depth i v j
unfolding Shows
shows_node hex schema depth below i v j n e f h = subst (λ d. Shows hex schema d i v j) (sym e) (subst (λ m. ShowsNode hex schema i (Shows hex schema below) m (out-Value v) j) (sym f) h)

-- a value below all that may nest
pub shows_deepest : (hex : Bool) (schema : Schema) (depth i : ℕ) (v : Value) (j : Json) → depth ≡ 0 → j ≡ null → Shows hex schema depth i v j
unfolding Shows
shows_deepest hex schema depth i v j e h = subst (λ d. Shows hex schema d i v j) (sym e) h

-- a value of a node without parts
pub plain_node : (hex : Bool) (schema : Schema) (i : ℕ) (shows : ℕ → Value → Json → Type 0) (n : Node) (v : Value-F Value) → ((x : _) → n ≡ node.LE x → ⊥) → ((x : _) → n ≡ node.Option x → ⊥)
    → ((x : _) → n ≡ node.List x → ⊥) → ((x y : _) → n ≡ node.ListUpTo x y → ⊥) → ((x y : _) → n ≡ node.Array x y → ⊥) → ((x : _) → n ≡ node.Struct x → ⊥) → ((x : _) → n ≡ node.Enum x → ⊥)
    → ShowsNode hex schema i shows (Some n) v (plain_json hex v)
plain_node hex schema i shows node.Bool v a b c d e f g = refl
plain_node hex schema i shows node.U8 v a b c d e f g = refl
plain_node hex schema i shows node.U16 v a b c d e f g = refl
plain_node hex schema i shows node.U32 v a b c d e f g = refl
plain_node hex schema i shows node.U64 v a b c d e f g = refl
plain_node hex schema i shows node.U128 v a b c d e f g = refl
plain_node hex schema i shows node.I8 v a b c d e f g = refl
plain_node hex schema i shows node.I16 v a b c d e f g = refl
plain_node hex schema i shows node.I32 v a b c d e f g = refl
plain_node hex schema i shows node.I64 v a b c d e f g = refl
plain_node hex schema i shows node.I128 v a b c d e f g = refl
plain_node hex schema i shows (node.LE x) v a b c d e f g = absurd (a x refl)
plain_node hex schema i shows (node.BE x) v a b c d e f g = refl
plain_node hex schema i shows node.Char v a b c d e f g = refl
plain_node hex schema i shows node.Text v a b c d e f g = refl
plain_node hex schema i shows (node.TextUpTo x) v a b c d e f g = refl
plain_node hex schema i shows node.Bytes v a b c d e f g = refl
plain_node hex schema i shows (node.Option x) v a b c d e f g = absurd (b x refl)
plain_node hex schema i shows (node.List x) v a b c d e f g = absurd (c x refl)
plain_node hex schema i shows (node.ListUpTo x y) v a b c d e f g = absurd (d x y refl)
plain_node hex schema i shows (node.Array x y) v a b c d e f g = absurd (e x y refl)
plain_node hex schema i shows (node.Struct x) v a b c d e f g = absurd (f x refl)
plain_node hex schema i shows (node.Enum x) v a b c d e f g = absurd (g x refl)

-- values that are called by no names
pub parts_named : (m : Names) (is : List ℕ) (shows : ℕ → Value → Json → Type 0) (vs : List Value) (j : Json) → (m ≡ names.Empty → ⊥) → (m ≡ names.Unit → ⊥) → (m ≡ names.Newtype → ⊥)
    → ((x : _) → m ≡ names.Fields x → ⊥) → ShowsParts shows is vs j → ShowsNamed (Some m) is shows vs j
parts_named names.Nothing is shows vs j a b c d h = h
parts_named names.Float is shows vs j a b c d h = h
parts_named names.Empty is shows vs j a b c d h = absurd (a refl)
parts_named names.Unit is shows vs j a b c d h = absurd (b refl)
parts_named names.Newtype is shows vs j a b c d h = absurd (c refl)
parts_named names.Tuple is shows vs j a b c d h = h
parts_named (names.Fields x) is shows vs j a b c d h = absurd (d x refl)
parts_named (names.Variants x) is shows vs j a b c d h = h
parts_named names.Map is shows vs j a b c d h = h

-- a list that is a map
pub object_list : (hex : Bool) (schema : Schema) (i inner : ℕ) (shows : ℕ → Value → Json → Type 0) (v : Value-F Value) (w : _) (vs : List Value) (j : Json) → v ≡ Value-F.List w → vs ≡ w.items
    → true ≡ (is_map_named (names_at schema i) && first_is_key schema (pair_node (node_at schema inner))) → ShowsObject (ShowsPair schema inner shows) vs j → ShowsList hex schema i inner shows v j
object_list hex schema i inner shows v w vs j e f b h =
    rw e (subst (λ t. ShowsMap t hex schema inner shows w.items j) b (subst (λ xs. ShowsObject (ShowsPair schema inner shows) xs j) f h))

-- bytes that are digits
pub digits_shown : (b : Bool) (shows : Value → Json → Type 0) (vs : List Value) (bs : List ℕ) → true ≡ b → bs ≡ bytes_in vs → ShowsAll b shows vs (string (encode_lower bs))
digits_shown b shows vs bs e f = subst (λ t. ShowsAll t shows vs (string (encode_lower bs))) e (ap (λ x. string (encode_lower x)) f)

-- a variant that holds something, and one that doesn't
pub chosen_under : (b : Bool) (s : List ℕ) (kind : Json → Type 0) (j : Json) → false ≡ b → IsUnder s kind j → ShowsChosen b s kind j
chosen_under b s kind j e h = subst (λ t. ShowsChosen t s kind j) e h

pub chosen_alone : (b : Bool) (s : List ℕ) (kind : Json → Type 0) → true ≡ b → ShowsChosen b s kind (string s)
chosen_alone b s kind e = subst (λ t. ShowsChosen t s kind (string s)) e refl

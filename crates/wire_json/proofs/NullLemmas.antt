-- A value whose JSON can't be `null` isn't shown as `null`.
use Rattle.std.specs.Prelude.{◌≡◌, ◌≤◌, ◌||◌, ℕ, zero, suc, Bool, true, false, Option, Some, None, List, [], ◌∷◌, decimal, if◌then◌else◌, from_bits}
use Rattle.std.specs.Fmt.{signed_decimal}
use Rattle.std.specs.Float.{binary32, binary64, float_is_finite}
use Rattle.std.specs.Global.{Global}
use Rattle.std.specs.List.{slice_get}
use Rattle.std.proofs.Common.{refl, sym, ap, ◌∙◌, subst, arith, Vec}
use Rattle.json.specs.Json.{Json, null}
use Rattle.json.specs.Word.{after_number}
use Rattle.schema_table.specs.declared.node.Node.{Node}
use Rattle.schema_table.specs.declared.node.Node.TheVariants as node
use Rattle.schema_table.specs.declared.schema.Names.{Names}
use Rattle.schema_table.specs.declared.schema.Names.TheVariants as names
use Rattle.schema_table.specs.declared.schema.Schema.{Schema}
use Rattle.schema_table.specs.Telling.{names_at, node_at}
use Rattle.schema_table.specs.declared.integer.Integer.{Integer}
use Rattle.schema_table.specs.declared.integer.Integer.TheVariants as integers
use Rattle.schema_table.specs.declared.value.Value.{Value, out-Value}
use Rattle.schema_table.specs.declared.value.Value.TheOpen.{Value-F}
use Rattle.schema_table.specs.Schemas.{SchemaHas, NodeHas, PlaceHas, FieldsHave}
use Rattle.schema_table.specs.Floats.{ShowsFinite}
use Rattle.schema_table.specs.Looks.{is_unit_named, is_newtype_named, is_empty_named, is_float_named, null_node, null_type, null_within, asked_by, inside_of, only_field, variant_named}
use Rattle.schema_table.specs.Printed.{digits_by, integer_json, bytes_json, plain_json, Shows, ShowsAll, ShowsMap, ShowsNamed, ShowsNode, ShowsVariant, ShowsChosen, ShowsFloat, ShowsInteger}
use Rattle.wire_json.proofs.LeafLemmas.{IsLeaf}
use Rattle.wire_json.proofs.ParsedLemmas.{IsStruct, inside_struct}

-- values without parts

no_absent : (has : ℕ → Value → Type 0) (n : Node) → IsLeaf n → NodeHas has n Value-F.Absent → ⊥
no_absent has (node.Option k) l h = l
no_absent has _ l h = h

no_present : (has : ℕ → Value → Type 0) (n : Node) (v : _) → IsLeaf n → NodeHas has n (Value-F.Present v) → ⊥
no_present has (node.Option k) v l h = l
no_present has _ v l h = h

no_list : (has : ℕ → Value → Type 0) (n : Node) (v : _) → IsLeaf n → NodeHas has n (Value-F.List v) → ⊥
no_list has (node.List k) v l h = l
no_list has (node.ListUpTo m k) v l h = l
no_list has _ v l h = h

no_group : (has : ℕ → Value → Type 0) (n : Node) (v : _) → IsLeaf n → NodeHas has n (Value-F.Group v) → ⊥
no_group has (node.Array m k) v l h = l
no_group has (node.Struct is) v l h = l
no_group has _ v l h = h

no_variant : (has : ℕ → Value → Type 0) (n : Node) (m : ℕ) (v : _) → IsLeaf n → NodeHas has n (Value-F.Variant m v) → ⊥
no_variant has (node.Enum is) m v l h = l
no_variant has _ m v l h = h

digits_some : (o : Option (List ℕ)) (s : List ℕ) → null ≡ digits_by o s → ⊥
digits_some None s e = cc e
digits_some (Some []) s e = cc e
digits_some (Some (c ∷ cs)) s e = cc e

integer_some : (i : Integer) → null ≡ integer_json i → ⊥
integer_some (integers.U128 n) e = digits_some (after_number (decimal n)) (decimal n) e
integer_some (integers.I128 z) e = digits_some (after_number (signed_decimal z)) (signed_decimal z) e
integer_some _ e = cc e

bytes_some : (hex : Bool) (bs : List ℕ) → null ≡ bytes_json hex bs → ⊥
bytes_some true bs e = cc e
bytes_some false bs e = cc e

leaf_some : (has : ℕ → Value → Type 0) (hex : Bool) (n : Node) (t : Value-F Value) → IsLeaf n → NodeHas has n t → null ≡ plain_json hex t → ⊥
leaf_some has hex n Value-F.Absent l h e = no_absent has n l h
leaf_some has hex n (Value-F.Present v) l h e = no_present has n v l h
leaf_some has hex n (Value-F.List v) l h e = no_list has n v l h
leaf_some has hex n (Value-F.Group v) l h e = no_group has n v l h
leaf_some has hex n (Value-F.Variant m v) l h e = no_variant has n m v l h
leaf_some has hex n (Value-F.U128 m) l h e = digits_some (after_number (decimal m)) (decimal m) e
leaf_some has hex n (Value-F.I128 z) l h e = digits_some (after_number (signed_decimal z)) (signed_decimal z) e
leaf_some has hex n (Value-F.LE i) l h e = integer_some i e
leaf_some has hex n (Value-F.BE i) l h e = integer_some i e
leaf_some has hex n (Value-F.Bytes v) l h e = bytes_some hex v.items e
leaf_some has hex n _ l h e = cc e

finite_some : (b : Bool) (f : _) (x : _) (word : List ℕ) → ShowsFinite b f x word null → ⊥
finite_some true f x word h = cc h.1
finite_some false f x word h = cc h

float_some : (i : Integer) → ShowsFloat i null → ⊥
float_some (integers.U32 n) h = finite_some (float_is_finite (from_bits binary32 n)) _ _ _ h
float_some (integers.U64 n) h = finite_some (float_is_finite (from_bits binary64 n)) _ _ _ h
float_some (integers.U128 n) h = integer_some (integers.U128 n) h
float_some (integers.I128 n) h = integer_some (integers.I128 n) h
float_some _ h = cc h

fixed_some : (b hex : Bool) (i : Integer) → ShowsInteger b hex (Value-F.LE i) null → ⊥
fixed_some true hex i h = float_some i h
fixed_some false hex i h = integer_some i h

-- values with parts

all_some : (b : Bool) (shows : Value → Json → Type 0) (vs : List Value) → ShowsAll b shows vs null → ⊥
all_some true shows vs h = cc h
all_some false shows vs h = cc h.1

map_some : (b hex : Bool) (schema : Schema) (k : ℕ) (shows : ℕ → Value → Json → Type 0) (vs : List Value) → ShowsMap b hex schema k shows vs null → ⊥
map_some true hex schema k shows vs h = cc h.1
map_some false hex schema k shows vs h = all_some _ (shows k) vs h

named_some : (m : Option Names) (is : List ℕ) (shows : ℕ → Value → Json → Type 0) (vs : List Value) → is_unit_named m ≡ false → is_newtype_named m ≡ false → ShowsNamed m is shows vs null → ⊥
named_some (Some names.Unit) is shows vs a b h = cc a
named_some (Some names.Empty) is shows vs a b h = cc a
named_some (Some names.Newtype) is shows vs a b h = cc b
named_some (Some (names.Fields ns)) is shows vs a b h = cc h.1
named_some None is shows vs a b h = cc h.1
named_some (Some _) is shows vs a b h = cc h.1

chosen_some : (b : Bool) (s : List ℕ) (kind : Json → Type 0) → ShowsChosen b s kind null → ⊥
chosen_some true s kind h = cc h
chosen_some false s kind h = cc h.1

variant_some : (schema : Schema) (s : Option (List ℕ)) (k : Option ℕ) (n : ℕ) (shows : ℕ → Value → Json → Type 0) (v : Value) → ShowsVariant schema s k n shows v null → ⊥
variant_some schema None k n shows v h = cc h
variant_some schema (Some s) None n shows v h = cc h
variant_some schema (Some s) (Some k) n shows v h = chosen_some (is_empty_named (names_at schema k)) s (shows k v) h

neither : (a b c : Bool) → (a || b || c) ≡ false → (a ≡ false) × (b ≡ false) × (c ≡ false)
neither false false false h = (refl, refl, refl)
neither true b c h = absurd (cc h)
neither false true c h = absurd (cc h)
neither false false true h = absurd (cc h)

here_some : (hex : Bool) (schema : Schema) (i : ℕ) (has : ℕ → Value → Type 0) (shows : ℕ → Value → Json → Type 0) (n : Node) (t : Value-F Value) → null_node (Some n) ≡ false → is_unit_named (names_at schema i) ≡ false
    → is_newtype_named (names_at schema i) ≡ false → NodeHas has n t → ShowsNode hex schema i shows (Some n) t null → ⊥
here_some hex schema i has shows (node.Option k) t z a b h s = cc z
here_some hex schema i has shows (node.List k) (Value-F.List v) z a b h s = map_some _ hex schema k shows v.items s
here_some hex schema i has shows (node.List k) _ z a b h s = h
here_some hex schema i has shows (node.ListUpTo m k) (Value-F.List v) z a b h s = map_some _ hex schema k shows v.items s
here_some hex schema i has shows (node.ListUpTo m k) _ z a b h s = h
here_some hex schema i has shows (node.Array m k) (Value-F.Group v) z a b h s = all_some _ (shows k) v.items s
here_some hex schema i has shows (node.Array m k) _ z a b h s = h
here_some hex schema i has shows (node.Struct is) (Value-F.Group v) z a b h s = named_some (names_at schema i) is.items shows v.items a b s
here_some hex schema i has shows (node.Struct is) _ z a b h s = h
here_some hex schema i has shows (node.Enum is) (Value-F.Variant m v) z a b h s = variant_some schema (variant_named (names_at schema i) m) (slice_get is.items m) m shows v.value s
here_some hex schema i has shows (node.Enum is) _ z a b h s = h
here_some hex schema i has shows (node.LE k) (Value-F.LE l) z a b h s = fixed_some (is_float_named (names_at schema i)) hex l s
here_some hex schema i has shows (node.LE k) _ z a b h s = h
here_some hex schema i has shows n t z a b h s = leaf_some has hex n t tt h s

-- through newtypes

newtype_name : (m : Option Names) (o : Option ℕ) (k : ℕ) → (if is_newtype_named m then o else None) ≡ Some k → m ≡ Some names.Newtype
newtype_name (Some names.Newtype) o k h = refl
newtype_name None o k h = absurd (cc h)
newtype_name (Some _) o k h = absurd (cc h)

-- the only field of a newtype
pub one_field : (has : ℕ → Value → Type 0) (n : Option Node) (k : ℕ) (v : Value) → IsStruct (k ∷ []) n → PlaceHas has n v → (w : Vec Value Global) × (x : Value) × (out-Value v ≡ Value-F.Group w) × (w.items ≡ x ∷ []) × has k x
one_field has n k v s h = group_of (out-Value v) refl (subst (λ o. PlaceHas has o v) s.1 h)
  where
    one_of : (is : List ℕ) (vs : List Value) → is ≡ k ∷ [] → FieldsHave has is vs → (x : Value) × (vs ≡ x ∷ []) × has k x
    one_of (i ∷ []) (x ∷ []) e f = (x, refl, subst (λ z. has z x) (cc) f.0)
    one_of [] vs e f = absurd (cc e)
    one_of (i ∷ l ∷ is) vs e f = absurd (cc e)
    one_of (i ∷ []) [] e f = absurd f
    one_of (i ∷ []) (x ∷ y ∷ vs) e f = absurd f.1

    group_of : (t : Value-F Value) → out-Value v ≡ t → NodeHas has (node.Struct s.0) (out-Value v) → (w : Vec Value Global) × (x : Value) × (out-Value v ≡ Value-F.Group w) × (w.items ≡ x ∷ []) × has k x
    group_of (Value-F.Group w) e f =
        let o = one_of s.0.items w.items s.2 (subst (NodeHas has (node.Struct s.0)) e f) in
        (w, o.0, e, o.1, o.2)
    group_of _ e f = absurd (subst (NodeHas has (node.Struct s.0)) e f)

-- a newtype is shown as what is inside
pub newtype_shown : (hex : Bool) (schema : Schema) (i k : ℕ) (shows : ℕ → Value → Json → Type 0) (v x : Value) (w : Vec Value Global) (j : Json) → names_at schema i ≡ Some names.Newtype → IsStruct (k ∷ []) (node_at schema i)
    → out-Value v ≡ Value-F.Group w → w.items ≡ x ∷ [] → ShowsNode hex schema i shows (node_at schema i) (out-Value v) j → shows k x j
newtype_shown hex schema i k shows v x w j m s e f h =
    let a : ShowsNode hex schema i shows (Some (node.Struct s.0)) (out-Value v) j = subst (λ o. ShowsNode hex schema i shows o (out-Value v) j) s.1 h in
    let b : ShowsNamed (names_at schema i) s.0.items shows w.items j = subst (λ t. ShowsNode hex schema i shows (Some (node.Struct s.0)) t j) e a in
    let c : ShowsNamed (Some names.Newtype) s.0.items shows w.items j = subst (λ o. ShowsNamed o s.0.items shows w.items j) m b in
    subst (λ vs. ShowsNamed (Some names.Newtype) (k ∷ []) shows vs j) f (subst (λ is. ShowsNamed (Some names.Newtype) is shows w.items j) s.2 c)

null_step : (hex : Bool) (schema : Schema) (d n e i : ℕ) (v : Value) → ((k : ℕ) (x : Value) → null_within n schema k ≡ false → SchemaHas d schema.nodes.items k x → Shows hex schema e k x null → ⊥)
    → asked_by (null_within n schema) (null_type schema i) (inside_of schema i) ≡ false → PlaceHas (SchemaHas d schema.nodes.items) (node_at schema i) v → ShowsNode hex schema i (Shows hex schema e) (node_at schema i) (out-Value v) null → ⊥
null_step hex schema d n e i v inner z h s = by_inside (inside_of schema i) refl z
  where
    here : (o : Option Node) → node_at schema i ≡ o → (is_unit_named (names_at schema i) ≡ false) × (is_newtype_named (names_at schema i) ≡ false) × (null_node (node_at schema i) ≡ false) → ⊥
    here None f p = cc (sym p.2 ∙ ap null_node f)
    here (Some m) f p = here_some hex schema i (SchemaHas d schema.nodes.items) (Shows hex schema e) m (out-Value v) (ap null_node (sym f) ∙ p.2) p.0 p.1
        (subst (λ o. PlaceHas (SchemaHas d schema.nodes.items) o v) f h) (subst (λ o. ShowsNode hex schema i (Shows hex schema e) o (out-Value v) null) f s)

    by_inside : (o : Option ℕ) → inside_of schema i ≡ o → asked_by (null_within n schema) (null_type schema i) o ≡ false → ⊥
    by_inside None f y = here (node_at schema i) refl (neither (is_unit_named (names_at schema i)) (is_newtype_named (names_at schema i)) (null_node (node_at schema i)) y)
    by_inside (Some k) f y =
        let struct = inside_struct (is_newtype_named (names_at schema i)) (node_at schema i) k f in
        let one = one_field (SchemaHas d schema.nodes.items) (node_at schema i) k v struct h in
        inner k one.1 y one.4 (newtype_shown hex schema i k (Shows hex schema e) v one.1 one.0 null (newtype_name (names_at schema i) (only_field (node_at schema i)) k f) struct one.2 one.3 s)

-- what isn't null by its type isn't shown so
pub null_shown : (hex : Bool) (schema : Schema) (n d e i : ℕ) (v : Value) → null_within n schema i ≡ false → d ≤ e → SchemaHas d schema.nodes.items i v → Shows hex schema e i v null → ⊥
unfolding null_within SchemaHas Shows
null_shown hex schema zero d e i v z l h s = cc z
null_shown hex schema (suc n) zero e i v z l h s = h
null_shown hex schema (suc n) (suc d) zero i v z l h s = omega (arith, l)
null_shown hex schema (suc n) (suc d) (suc e) i v z l h s = null_step hex schema d n e i v (λ k x a b c. null_shown hex schema n d e k x a (omega (arith, l)) b c) z h s

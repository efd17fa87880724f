-- What one more argument sets.
use Rattle.std.proofs.Common.{◌≡◌, ◌↔◌, ◌==◌, ◌<◌, ◌≤◌, ◌+◌, ◌⊎◌, ℕ, Bool, true, false, length, List, [], ◌∷◌, ◌++◌, Option, Some, None, Ok, Err, Result, MatchOption, codes, refl, sym, subst, ap, ◌∙◌, inl, inr, if◌then◌else◌, arith, zero, suc, map, take, drop, take-append-drop, get_or, String, Global, string_bytes}
use Rattle.std.proofs.lemmas.Bool.Decides.{nat_tests}
use Rattle.std.specs.List.{All, Contains}
use Rattle.std.specs.Option.{option_map, option_or}
use Rattle.std.proofs.lemmas.List.{take_more, take_all, drop_more, map-append}
use Rattle.std.proofs.lemmas.List.Elements.{All-append, Contains-append_left, Contains-push, Contains-push_cases}
use Rattle.std.specs.Result.{result_ok}
use Rattle.std.specs.Str.Parse.{ParsesUnsigned}
use denote.Ref.{Bor}
use Rattle.hex.specs.Hex.{decode_sized}
use Rattle.wire_lib.specs.Arguments.{value_behind, last_value, WritesNumber, AreSetBy, AddsArgument, IsArgument, IsRefusedFor, HasNoFrames}
use Rattle.wire_lib.specs.declared.words.Action.{Action}
use Rattle.wire_lib.specs.declared.words.Options.{Options}

-- the last value, with one more argument
last_then : (name : List ℕ) (words : List (List ℕ)) (word : List ℕ)
    → last_value name (words ++ word ∷ []) ≡ option_or (value_behind name word) (last_value name words)
last_then name [] word = by (value_behind name word)
  where
    by : (v : Option (List ℕ)) → v ≡ option_or v None
    by None = refl
    by (Some x) = refl
last_then name (first ∷ words) word =
    ap (λ v. option_or v (value_behind name first)) (last_then name words word) ∙ by (value_behind name word)
  where
    by : (v : Option (List ℕ)) → option_or (option_or v (last_value name words)) (value_behind name first)
        ≡ option_or v (option_or (last_value name words) (value_behind name first))
    by None = refl
    by (Some x) = refl

-- a text begins with itself, and nothing follows
same_char : (c : ℕ) → (c == c) ≡ true
same_char c = grind (arith, nat_tests)

whole_behind : (name : List ℕ) → value_behind name name ≡ Some []
whole_behind [] = refl
whole_behind (c ∷ name) = ap (λ t. if t then value_behind name name else None) (same_char c) ∙ whole_behind name

none_some : {x : List ℕ} → ◌≡◌ {A = Option (List ℕ)} None (Some x) → ⊥
none_some e = cc

none_number : {x : ℕ} → ◌≡◌ {A = Option ℕ} None (Some x) → ⊥
none_number e = cc

-- an argument that is a flag, and one that isn't
set_now : (words : List (List ℕ)) (flag : List ℕ) → true ≡ true ↔ Contains (words ++ flag ∷ []) flag
set_now words flag = (λ e. Contains-push words flag, λ h. refl)

set_before : (words : List (List ℕ)) (word flag : List ℕ) (is : Bool) → value_behind flag word ≡ None
    → (is ≡ true ↔ Contains words flag) → (is ≡ true ↔ Contains (words ++ word ∷ []) flag)
set_before words word flag is other h = (λ e. Contains-append_left words (word ∷ []) flag (h.0 e), back)
  where
    back : Contains (words ++ word ∷ []) flag → is ≡ true
    back c = elim (Contains-push_cases words word flag c) [
      | inl before ↦ h.1 before
      | inr e ↦ absurd (none_some (sym other ∙ ap (value_behind flag) e ∙ whole_behind flag))
    ]

-- an argument with this name, and one with another
value_now : (words : List (List ℕ)) (name word value : List ℕ) (P : Option (List ℕ) → Type 0)
    → value_behind name word ≡ Some value → P (Some value) → P (last_value name (words ++ word ∷ []))
value_now words name word value P e p = subst P (sym (last_then name words word ∙ ap (λ v. option_or v (last_value name words)) e)) p

value_before : (words : List (List ℕ)) (name word : List ℕ) (P : Option (List ℕ) → Type 0)
    → value_behind name word ≡ None → P (last_value name words) → P (last_value name (words ++ word ∷ []))
value_before words name word P e p = subst P (sym (last_then name words word ∙ ap (λ v. option_or v (last_value name words)) e)) p

false_true : false ≡ true → ⊥
false_true e = cc

-- without arguments the options are those that none sets
pub none_set : (o : Options) → (o.hex ≡ false) × (o.strict ≡ false) × (o.raw ≡ false) × (o.summed ≡ false) × (o.time ≡ false) × (o.digits ≡ false)
    → (o.sentinel ≡ 0) × (o.from ≡ 0) × (o.depth ≡ 60) × (o.empty ≡ 65536) → o.only ≡ None → AreSetBy [] o
none_set o f v e = record {
  hex = unset o.hex (codes "hex") f.0;
  strict = unset o.strict (codes "strict") f.1;
  raw = unset o.raw (codes "raw") f.2;
  summed = unset o.summed (codes "crc32") f.3;
  time = unset o.time (codes "time") f.4;
  digits = unset o.digits (codes "bytes=hex") f.5;
  sentinel = v.0;
  from = v.1;
  depth = v.2;
  empty = v.3;
  only = ap (λ x. option_map (λ name. name.now) x) e;
}
  where
    unset : (is : Bool) (flag : List ℕ) → is ≡ false → (is ≡ true ↔ Contains [] flag)
    unset is flag e = (λ t. absurd (false_true (sym e ∙ t)), λ h. absurd (omega (arith, h.1)))

-- an argument by its name and its value
pub by_name : (name key value : List ℕ) (old made new : Options) → name ≡ key → new ≡ made
    → AddsArgument (key ++ (codes "=" ++ value)) old made → AddsArgument (name ++ (codes "=" ++ value)) old new
by_name name key value old made new is same adds =
    subst (λ x. AddsArgument (x ++ (codes "=" ++ value)) old new) (sym is)
    (subst (λ x. AddsArgument (key ++ (codes "=" ++ value)) old x) (sym same) adds)

-- the same of an argument whose value is a word
pub by_both : (name value whole : List ℕ) (old made new : Options) → name ++ (codes "=" ++ value) ≡ whole → new ≡ made
    → AddsArgument whole old made → AddsArgument (name ++ (codes "=" ++ value)) old new
by_both name value whole old made new is same adds =
    subst (λ x. AddsArgument x old new) (sym is) (subst (λ x. AddsArgument whole old x) (sym same) adds)

-- the same of a whole argument
pub by_word : (word key : List ℕ) (old made new : Options) → word ≡ key → new ≡ made → AddsArgument key old made → AddsArgument word old new
by_word word key old made new is same adds =
    subst (λ x. AddsArgument x old new) (sym is) (subst (λ x. AddsArgument key old x) (sym same) adds)

-- a number was read
pub number_read : {E : Type 0} (k : ℕ) (text : List ℕ) (r : Result ℕ E) (o : Option ℕ) (n : ℕ) → ParsesUnsigned k 10 text r
    → o ≡ result_ok r → o ≡ Some n → WritesNumber k text n
number_read k text (Ok x) o n p e is = grind (arith, p, e, is)
number_read k text (Err x) o n p e is = absurd (none_number (sym e ∙ is))

-- the arguments so far, and one more
one_more : (words : List (String Global)) (i : ℕ) (w : String Global) (word : List ℕ) → i < length words → w ≡ get_or words i w → word ≡ string_bytes w
    → map string_bytes (take (i + 1) words) ≡ map string_bytes (take i words) ++ word ∷ []
one_more words i w word l is same =
    ap (map string_bytes) (take_more words i w l ∙ ap (λ x. take i words ++ x ∷ []) (sym is))
    ∙ (map-append string_bytes (take i words) (w ∷ []) ∙ ap (λ x. map string_bytes (take i words) ++ x ∷ []) (sym same))

-- the arguments before it and after it
around : (words : List (String Global)) (i : ℕ) (w : String Global) (word : List ℕ) → i < length words → w ≡ get_or words i w → word ≡ string_bytes w
    → map string_bytes words ≡ map string_bytes (take i words) ++ word ∷ map string_bytes (drop (i + 1) words)
around words i w word l is same =
    let after = map string_bytes (drop (i + 1) words) in
    ap (map string_bytes) (sym (take-append-drop i words))
    ∙ (map-append string_bytes (take i words) (drop i words) ∙ ap (λ x. map string_bytes (take i words) ++ x)
    (ap (map string_bytes) (drop_more words i w l) ∙ (ap (λ y. string_bytes y ∷ after) (sym is) ∙ ap (λ y. y ∷ after) (sym same))))

-- one more of the arguments was added
pub one_added : (mode : Action) (words : List (String Global)) (i : ℕ) (w : String Global) (old new : Options) (word : List ℕ) → i < length words
    → w ≡ get_or words i w → word ≡ string_bytes w → AddsArgument word old new → IsArgument mode word
    → AreSetBy (map string_bytes (take i words)) old × All (IsArgument mode) (map string_bytes (take i words))
    → AreSetBy (map string_bytes (take (i + 1) words)) new × All (IsArgument mode) (map string_bytes (take (i + 1) words))
one_added mode words i w old new word l is same adds right before =
    let parts = one_more words i w word l is same in (
      subst (λ xs. AreSetBy xs new) (sym parts) (adds (map string_bytes (take i words)) before.0),
      subst (λ xs. All (IsArgument mode) xs) (sym parts) (All-append (IsArgument mode) (map string_bytes (take i words)) (word ∷ []) before.1 (alone word right)),
    )
  where
    alone : (x : List ℕ) → IsArgument mode x → All (IsArgument mode) (x ∷ [])
    alone x h zero d l = h
    alone x h (suc k) d l = absurd (omega (arith, l))

-- before the first
pub none_wrong : (mode : Action) → All (IsArgument mode) []
none_wrong mode k d l = absurd (omega (arith, l))

-- one is wrong, and none before it
pub first_wrong : (mode : Action) (words : List (String Global)) (i : ℕ) (w : String Global) (word : List ℕ) → i < length words
    → w ≡ get_or words i w → word ≡ string_bytes w → All (IsArgument mode) (map string_bytes (take i words)) → (IsArgument mode word → ⊥)
    → IsRefusedFor mode (map string_bytes words) word
first_wrong mode words i w word l is same right wrong = inl (record {
  before = map string_bytes (take i words);
  after = map string_bytes (drop (i + 1) words);
  words_are = around words i w word l is same;
  right = right;
  wrong = wrong;
})

-- all are right
pub all_right : (mode : Action) (words : List (String Global)) (i : ℕ) → length words ≤ i
    → All (IsArgument mode) (map string_bytes (take i words)) → All (IsArgument mode) (map string_bytes words)
all_right mode words i l h = subst (λ xs. All (IsArgument mode) (map string_bytes xs)) (take_all i words l) h

-- and all of them
pub all_added : (words : List (String Global)) (i : ℕ) (o : Options) → length words ≤ i
    → AreSetBy (map string_bytes (take i words)) o → AreSetBy (map string_bytes words) o
all_added words i o l h = subst (λ xs. AreSetBy (map string_bytes xs) o) (take_all i words l) h

-- what all of them set can't be combined
pub cant_combine : (mode : Action) (words : List (String Global)) (i : ℕ) (o : Options) → length words ≤ i
    → AreSetBy (map string_bytes (take i words)) o × All (IsArgument mode) (map string_bytes (take i words)) → HasNoFrames o
    → IsRefusedFor mode (map string_bytes words) (codes "raw")
cant_combine mode words i o l h wrong = inr (
  refl,
  record {
    right = all_right mode words i l h.1;
    options = o;
    set = all_added words i o l h.0;
    wrong = wrong;
  },
)

-- What one argument does to a flag: nothing, or it sets it.
abbrev FlagStep : List ℕ → List ℕ → Bool → Bool → Type 0
FlagStep flag word old new = ((value_behind flag word ≡ None) × (new ≡ old)) ⊎ ((word ≡ flag) × (new ≡ true))

flag_then : (words : List (List ℕ)) (flag word : List ℕ) (old new : Bool) → FlagStep flag word old new
    → (old ≡ true ↔ Contains words flag) → (new ≡ true ↔ Contains (words ++ word ∷ []) flag)
flag_then words flag word old new (inl other) h =
    subst (λ b. b ≡ true ↔ Contains (words ++ word ∷ []) flag) (sym other.1) (set_before words word flag old other.0 h)
flag_then words flag word old new (inr this) h =
    subst (λ b. b ≡ true ↔ Contains (words ++ word ∷ []) flag) (sym this.1)
    (subst (λ w. true ≡ true ↔ Contains (words ++ w ∷ []) flag) (sym this.0) (set_now words flag))

-- What it does to a value, of which this was and this is to hold: nothing, or it sets it.
abbrev ValueStep : List ℕ → List ℕ → (Option (List ℕ) → Type 0) → (Option (List ℕ) → Type 0) → Type 0
ValueStep name word old new = ((value_behind name word ≡ None) × ((v : Option (List ℕ)) → old v → new v))
    ⊎ ((value : List ℕ) × (value_behind name word ≡ Some value) × new (Some value))

value_then : (words : List (List ℕ)) (name word : List ℕ) (old new : Option (List ℕ) → Type 0) → ValueStep name word old new
    → old (last_value name words) → new (last_value name (words ++ word ∷ []))
value_then words name word old new (inl other) h = value_before words name word new other.0 (other.1 _ h)
value_then words name word old new (inr this) h = value_now words name word this.0 new this.1 this.2

-- what is to hold of the last value of each name
abbrev IsSentinelBy : ℕ → Option (List ℕ) → Type 0
IsSentinelBy n v = MatchOption v (n ≡ 0) (λ value. decode_sized value 1 ≡ Ok (n ∷ []))

abbrev IsNumberBy : ℕ → ℕ → Option (List ℕ) → Type 0
IsNumberBy otherwise n v = MatchOption v (n ≡ otherwise) (λ value. WritesNumber 64 value n)

abbrev IsDepthBy : ℕ → Option (List ℕ) → Type 0
IsDepthBy n v = MatchOption v (n ≡ 60) (λ value. WritesNumber 32 value n × (0 < n) × (n ≤ 1000))

abbrev IsOnlyBy : Option (Bor (List ℕ)) → Option (List ℕ) → Type 0
IsOnlyBy o v = option_map (λ name. name.now) o ≡ v

-- what an argument does to all options
adds : (word : List ℕ) (o n : Options)
    → FlagStep (codes "hex") word o.hex n.hex → FlagStep (codes "strict") word o.strict n.strict → FlagStep (codes "raw") word o.raw n.raw
    → FlagStep (codes "crc32") word o.summed n.summed → FlagStep (codes "time") word o.time n.time → FlagStep (codes "bytes=hex") word o.digits n.digits
    → ValueStep (codes "sentinel=") word (IsSentinelBy o.sentinel) (IsSentinelBy n.sentinel) → ValueStep (codes "from=") word (IsNumberBy 0 o.from) (IsNumberBy 0 n.from)
    → ValueStep (codes "depth=") word (IsDepthBy o.depth) (IsDepthBy n.depth) → ValueStep (codes "empty=") word (IsNumberBy 65536 o.empty) (IsNumberBy 65536 n.empty)
    → ValueStep (codes "only=") word (IsOnlyBy o.only) (IsOnlyBy n.only) → AddsArgument word o n
adds word o n hex strict raw summed time digits sentinel from depth empty only words h = record {
  hex = flag_then words (codes "hex") word o.hex n.hex hex h.hex;
  strict = flag_then words (codes "strict") word o.strict n.strict strict h.strict;
  raw = flag_then words (codes "raw") word o.raw n.raw raw h.raw;
  summed = flag_then words (codes "crc32") word o.summed n.summed summed h.summed;
  time = flag_then words (codes "time") word o.time n.time time h.time;
  digits = flag_then words (codes "bytes=hex") word o.digits n.digits digits h.digits;
  sentinel = value_then words (codes "sentinel=") word (IsSentinelBy o.sentinel) (IsSentinelBy n.sentinel) sentinel h.sentinel;
  from = value_then words (codes "from=") word (IsNumberBy 0 o.from) (IsNumberBy 0 n.from) from h.from;
  depth = value_then words (codes "depth=") word (IsDepthBy o.depth) (IsDepthBy n.depth) depth h.depth;
  empty = value_then words (codes "empty=") word (IsNumberBy 65536 o.empty) (IsNumberBy 65536 n.empty) empty h.empty;
  only = value_then words (codes "only=") word (IsOnlyBy o.only) (IsOnlyBy n.only) only h.only;
}

-- what each argument sets
pub sets_hex : (o : Options) → AddsArgument (codes "hex") o (record o { hex = true })
sets_hex o = adds (codes "hex") o (record o { hex = true })
    (inr (refl, refl)) (inl (refl, refl)) (inl (refl, refl)) (inl (refl, refl)) (inl (refl, refl)) (inl (refl, refl))
    (inl (refl, λ v h. h)) (inl (refl, λ v h. h)) (inl (refl, λ v h. h)) (inl (refl, λ v h. h)) (inl (refl, λ v h. h))

pub sets_strict : (o : Options) → AddsArgument (codes "strict") o (record o { strict = true })
sets_strict o = adds (codes "strict") o (record o { strict = true })
    (inl (refl, refl)) (inr (refl, refl)) (inl (refl, refl)) (inl (refl, refl)) (inl (refl, refl)) (inl (refl, refl))
    (inl (refl, λ v h. h)) (inl (refl, λ v h. h)) (inl (refl, λ v h. h)) (inl (refl, λ v h. h)) (inl (refl, λ v h. h))

pub sets_raw : (o : Options) → AddsArgument (codes "raw") o (record o { raw = true })
sets_raw o = adds (codes "raw") o (record o { raw = true })
    (inl (refl, refl)) (inl (refl, refl)) (inr (refl, refl)) (inl (refl, refl)) (inl (refl, refl)) (inl (refl, refl))
    (inl (refl, λ v h. h)) (inl (refl, λ v h. h)) (inl (refl, λ v h. h)) (inl (refl, λ v h. h)) (inl (refl, λ v h. h))

pub sets_summed : (o : Options) → AddsArgument (codes "crc32") o (record o { summed = true })
sets_summed o = adds (codes "crc32") o (record o { summed = true })
    (inl (refl, refl)) (inl (refl, refl)) (inl (refl, refl)) (inr (refl, refl)) (inl (refl, refl)) (inl (refl, refl))
    (inl (refl, λ v h. h)) (inl (refl, λ v h. h)) (inl (refl, λ v h. h)) (inl (refl, λ v h. h)) (inl (refl, λ v h. h))

pub sets_time : (o : Options) → AddsArgument (codes "time") o (record o { time = true })
sets_time o = adds (codes "time") o (record o { time = true })
    (inl (refl, refl)) (inl (refl, refl)) (inl (refl, refl)) (inl (refl, refl)) (inr (refl, refl)) (inl (refl, refl))
    (inl (refl, λ v h. h)) (inl (refl, λ v h. h)) (inl (refl, λ v h. h)) (inl (refl, λ v h. h)) (inl (refl, λ v h. h))

pub sets_digits : (o : Options) → AddsArgument (codes "bytes=hex") o (record o { digits = true })
sets_digits o = adds (codes "bytes=hex") o (record o { digits = true })
    (inl (refl, refl)) (inl (refl, refl)) (inl (refl, refl)) (inl (refl, refl)) (inl (refl, refl)) (inr (refl, refl))
    (inl (refl, λ v h. h)) (inl (refl, λ v h. h)) (inl (refl, λ v h. h)) (inl (refl, λ v h. h)) (inl (refl, λ v h. h))

pub sets_sentinel : (o : Options) (value : List ℕ) (n : ℕ) → decode_sized value 1 ≡ Ok (n ∷ [])
    → AddsArgument (codes "sentinel=" ++ value) o (record o { sentinel = n })
sets_sentinel o value n is = adds (codes "sentinel=" ++ value) o (record o { sentinel = n })
    (inl (refl, refl)) (inl (refl, refl)) (inl (refl, refl)) (inl (refl, refl)) (inl (refl, refl)) (inl (refl, refl))
    (inr (value, refl, is)) (inl (refl, λ v h. h)) (inl (refl, λ v h. h)) (inl (refl, λ v h. h)) (inl (refl, λ v h. h))

pub sets_from : (o : Options) (value : List ℕ) (n : ℕ) → WritesNumber 64 value n
    → AddsArgument (codes "from=" ++ value) o (record o { from = n })
sets_from o value n is = adds (codes "from=" ++ value) o (record o { from = n })
    (inl (refl, refl)) (inl (refl, refl)) (inl (refl, refl)) (inl (refl, refl)) (inl (refl, refl)) (inl (refl, refl))
    (inl (refl, λ v h. h)) (inr (value, refl, is)) (inl (refl, λ v h. h)) (inl (refl, λ v h. h)) (inl (refl, λ v h. h))

pub sets_depth : (o : Options) (value : List ℕ) (n : ℕ) → WritesNumber 32 value n × (0 < n) × (n ≤ 1000)
    → AddsArgument (codes "depth=" ++ value) o (record o { depth = n })
sets_depth o value n is = adds (codes "depth=" ++ value) o (record o { depth = n })
    (inl (refl, refl)) (inl (refl, refl)) (inl (refl, refl)) (inl (refl, refl)) (inl (refl, refl)) (inl (refl, refl))
    (inl (refl, λ v h. h)) (inl (refl, λ v h. h)) (inr (value, refl, is)) (inl (refl, λ v h. h)) (inl (refl, λ v h. h))

pub sets_empty : (o : Options) (value : List ℕ) (n : ℕ) → WritesNumber 64 value n
    → AddsArgument (codes "empty=" ++ value) o (record o { empty = n })
sets_empty o value n is = adds (codes "empty=" ++ value) o (record o { empty = n })
    (inl (refl, refl)) (inl (refl, refl)) (inl (refl, refl)) (inl (refl, refl)) (inl (refl, refl)) (inl (refl, refl))
    (inl (refl, λ v h. h)) (inl (refl, λ v h. h)) (inl (refl, λ v h. h)) (inr (value, refl, is)) (inl (refl, λ v h. h))

pub sets_only : (o : Options) (name : Bor (List ℕ)) → AddsArgument (codes "only=" ++ name.now) o (record o { only = Some name })
sets_only o name = adds (codes "only=" ++ name.now) o (record o { only = Some name })
    (inl (refl, refl)) (inl (refl, refl)) (inl (refl, refl)) (inl (refl, refl)) (inl (refl, refl)) (inl (refl, refl))
    (inl (refl, λ v h. h)) (inl (refl, λ v h. h)) (inl (refl, λ v h. h)) (inl (refl, λ v h. h)) (inr (name.now, refl, refl))

-- one of two, the second beside what was tested before it
pub second_alone : {A B C : Type 0} → A ⊎ (B × C) → A ⊎ C
second_alone (inl a) = inl a
second_alone (inr p) = inr p.1

-- Worked examples: tokens and what they are, what a text spells at each kind of type and as a tree, what the type gives the tree, displays, parameters, calls.
use Rattle.std.proofs.Common.{ℕ, ◌≡◌, ◌≢◌, ◌<◌, ◌==◌, nat_le, length, ◌&&◌, if◌then◌else◌, List, [], ◌∷◌, ◌++◌, map, take, codes, bytes_eq, inl, inr, refl, ap, subst, ◌∙◌, true, lit<, Some, None, pos, negsuc}
use Prim.Native.String.{String}
use Rattle.wave_wasm.specs.Types as type
use Rattle.wave_wasm.specs.Numbers.{IsInRange}
use Rattle.wave_wasm.specs.Values as value
use Rattle.wave_grammar.specs.Token.{Token, brace_open, brace_close, paren_open, paren_close, bracket_open, bracket_close, colon, comma, number, label, char, string, multiline, lexeme_of, text_of}
use Rattle.wave_grammar.specs.NumberText.{all_digits, whole_text, IsNumberOf}
use Rattle.wave_grammar.specs.Private.NumberText.{IsMagnitude}
use Rattle.wave_lex.specs.Tokenization.{three_quotes, Prefix}
use Rattle.wave_grammar.specs.LeafTokens.{Spells, name_of}
use Rattle.wave_grammar.specs.TypedGrammar.{look_up, Reads}
use Rattle.wave_grammar.specs.ParserPosition.{token_of}
use Rattle.wave_grammar.specs.TypeErrors.{SpellsNoLeaf}
use Rattle.wave_wasm.specs.Keywords.{keywords}
use Rattle.wave_wasm.specs.Values.{Value, Leaf, values, entries, field_values}
use Rattle.wave_lex.specs.declared.lex.Token.TheVariants as class
use Rattle.wave_lex.specs.Tokens.{whitespace, function_name}
use Rattle.wave_lex.proofs.LongestPrefix.ByComputing.{longest_here, token_here}
use Rattle.wave_grammar.specs.Denotes.{Means}
use Rattle.wave_grammar.specs.Params.{Params}
use Rattle.wave_grammar.specs.Tree as tree
use Rattle.wave_grammar.specs.Tree.{Tree, Takes, word_of, leaf_word, none_word, some_word, ok_word, err_word, case_word, in_order, display, trees, tree_entries, levels}
use Rattle.wave_grammar.specs.Elaborates.{TreeReads}
use Rattle.wave_grammar.specs.Calls.{SpellsParams, IsCall, display_call}
use Rattle.wave_grammar.proofs.Unambiguity.Values.{apart}
use Rattle.wave_grammar.proofs.Elaboration.TreeToGrammar.{trees-injective}
use Rattle.wave_wasm.proofs.Names.NameTests.{none_of}

abbrev marks : List Token
marks = brace_open ∷ brace_close ∷ paren_open ∷ paren_close ∷ bracket_open ∷ bracket_close ∷ colon ∷ comma ∷ []

abbrev all_tokens : List Token
all_tokens = marks ++ number (codes "1") ∷ label (codes "a") ∷ char (codes "'a'") ∷ string (codes "\"a\"") ∷ multiline (codes "\"\"\"a\"\"\"") ∷ []

-- a token of each class has its text, and is determined by its class and text; a label's name is without its `%`;
-- `7`, `-7` and no text at a signed type, `-7` at an unsigned one, no digits; `-0` is the zero of s8 and no u8; zeros may lead
texts : (map text_of all_tokens ≡ codes "{" ∷ codes "}" ∷ codes "(" ∷ codes ")" ∷ codes "[" ∷ codes "]" ∷ codes ":" ∷ codes "," ∷ codes "1" ∷ codes "a" ∷ codes "'a'" ∷ codes "\"a\"" ∷ codes "\"\"\"a\"\"\"" ∷ [])
    × (map (λ t. token_of (lexeme_of t).0 (text_of t)) all_tokens ≡ all_tokens)
    × (name_of (codes "%a") ≡ codes "a") × (name_of (codes "a") ≡ codes "a") × (name_of [] ≡ [])
    × (whole_text type.s8 (codes "7") ≡ Some (pos 7)) × (whole_text type.s8 (codes "-7") ≡ Some (negsuc 6)) × (whole_text type.s8 [] ≡ None) × (whole_text type.u8 (codes "-7") ≡ None) × (all_digits [] ≡ None)
    × IsNumberOf type.s8 (codes "-0") (Some (pos 0)) × IsNumberOf type.u8 (codes "-0") None × IsMagnitude (codes "007") (Some 7)
texts = (refl, refl, refl, refl, refl, refl, refl, refl, refl, refl, (refl, (record { le = tt }, record { lt = tt })), (λ z e h. cc), (refl, lit< tt))

-- `1` is a u8, `256` is none
abbrev pub one : Token
one = number (codes "1")

pub one_spells : Spells (type.whole type.u8) one (value.whole type.u8 (pos 1))
one_spells = (codes "1", pos 1, refl, refl, (record { le = tt }, record { lt = tt }), refl)

pub above_u8 : SpellsNoLeaf (type.whole type.u8) (number (codes "256"))
above_u8 v (text, z, e, f, h, g) =
    let same : codes "256" ≡ text = cc in
    let w : Some (pos 256) ≡ Some z = ap (whole_text type.u8) same ∙ f in let q : z ≡ pos 256 = cc in (subst (IsInRange type.u8) q h).1.lt

-- `true` is a bool, `'\n'` a line feed, `""` and a multiline string of no line the empty text
spelled : Spells type.bool (label (codes "true")) (value.bool true) × Spells type.char (char (codes "'\\n'")) (value.char 10) × Spells type.string (string (codes "\"\"")) (value.string [])
spelled = ((true, refl, refl), (_, 10, refl, (codes "\\n", refl, refl, inr (inl (110, refl, refl))), refl), (_, [], inl (refl, ([], refl, ([], (refl, refl)))), refl))

no_lines : Spells type.string (multiline (codes "\"\"\"" ++ 10 ∷ codes "\"\"\"")) (value.string [])
no_lines = (_, [], inr (refl, (10 ∷ [], refl, record { first = []; between = []; indent = 0; texts = []; cut = refl; opens = inl refl; lines = tt; joins = refl })), refl)

-- the tokens of a text, where spaces and marks part the others; and what is no mark, if it isn't empty, before others
abbrev and_word : List ℕ → List Token → List Token
and_word [] more = more
and_word (b ∷ w) more =
    (if b == 39 then char (b ∷ w) else (if b == 34 then (if bytes_eq (take 3 (b ∷ w)) three_quotes then multiline (b ∷ w) else string (b ∷ w))
    else (if nat_le 48 b && nat_le b 57 then number (b ∷ w) else label (b ∷ w)))) ∷ more

abbrev cut : List ℕ → List ℕ → List Token
cut w [] = and_word w []
cut w (b ∷ s) = elim (look_up (map (λ t. (text_of t, t)) marks) (b ∷ [])) [ Some t ↦ and_word w (t ∷ cut [] s) | None ↦ if b == 32 then and_word w (cut [] s) else cut (w ++ b ∷ []) s ]

abbrev pub tokens : String → List Token
tokens text = cut [] (codes text)

abbrev pub u8 : type.TypeTree
u8 = type.simple (type.whole type.u8)

abbrev pub u8_or_err : type.TypeTree
u8_or_err = type.result (type.a_type u8) type.no_type

-- the tree of `1` and its value at u8
abbrev one_tree : Tree
one_tree = tree.one one

abbrev a_one : Value
a_one = value.leaf (value.whole type.u8 (pos 1))

one_reads : (n : ℕ) (rest : List Token) → 0 < n → Reads u8 n (one ∷ rest) a_one rest
one_reads n rest l = (l, (one, _, refl, one_spells, refl))

inner : {rest : List Token} → Reads u8 1 (one ∷ rest) a_one rest
inner = one_reads 1 _ (lit< tt)

given : TreeReads u8 one_tree a_one
given = (one, _, refl, one_spells, refl)

-- at the type the text spells the value, it spells the tree, and the type gives the tree the value
abbrev Row : type.TypeTree → String → Tree → Value → Type 0
Row T text t v = Reads T 2 (tokens text) v [] × Takes 2 (tokens text) t [] × TreeReads T t v

-- items
a_list : Row (type.list u8) "[1, 1,]" (tree.list (trees (one_tree ∷ one_tree ∷ []))) (value.list (values (a_one ∷ a_one ∷ [])))
a_list = ((lit< tt, (_ ∷ _ ∷ [], (_, refl, (_, inner, (_, _, refl, inner, inr refl))), refl)), (_ ∷ _ ∷ [], (_, (refl, refl), (_, _, refl, (refl, refl), inr refl)), refl), (_ ∷ _ ∷ [], _ ∷ _ ∷ [], refl, (_, _, given, (_, _, given, refl, refl), refl), refl))

-- four numbers in brackets, with a comma after the last
abbrev in_brackets : List ℕ → List ℕ → List ℕ → List ℕ → List Token
in_brackets a b c d = bracket_open ∷ number a ∷ comma ∷ number b ∷ comma ∷ number c ∷ comma ∷ number d ∷ comma ∷ bracket_close ∷ []

abbrev IsU8 : List ℕ → Leaf → Type 0
IsU8 text leaf = Spells (type.whole type.u8) (number text) leaf

number_reads : (text : List ℕ) (leaf : Leaf) (rest : List Token) → IsU8 text leaf → Reads u8 1 (number text ∷ rest) (value.leaf leaf) rest
number_reads text leaf rest h = (lit< tt, (number text, leaf, refl, h, refl))

four_read : (a b c d : List ℕ) (x y z w : Leaf) → IsU8 a x → IsU8 b y → IsU8 c z → IsU8 d w → Reads (type.fixed u8 4) 2 (in_brackets a b c d) (value.fixed (values (map value.leaf (x ∷ y ∷ z ∷ w ∷ [])))) []
four_read a b c d x y z w h i j k =
    (lit< tt, (map value.leaf (x ∷ y ∷ z ∷ w ∷ []), (_, refl, (_, number_reads a x _ h, (_, _, refl, number_reads b y _ i, (_, _, refl, number_reads c z _ j, (_, _, refl, number_reads d w _ k, inr refl))))), refl, refl))

-- as many items as the type says: four, none, and one that stands for `some` of itself
four : (tokens "[1, 2, 3, 4,]" ≡ in_brackets (codes "1") (codes "2") (codes "3") (codes "4"))
    × Reads (type.fixed u8 4) 2 (in_brackets (codes "1") (codes "2") (codes "3") (codes "4")) (value.fixed (values (map value.leaf (map (λ k. value.whole type.u8 (pos k)) (1 ∷ 2 ∷ 3 ∷ 4 ∷ []))))) []
four = (
  refl,
  four_read (codes "1") (codes "2") (codes "3") (codes "4") _ _ _ _ one_spells (codes "2", pos 2, refl, refl, (record { le = tt }, record { lt = tt }), refl)
      (codes "3", pos 3, refl, refl, (record { le = tt }, record { lt = tt }), refl) (codes "4", pos 4, refl, refl, (record { le = tt }, record { lt = tt }), refl),
)

no_items : Row (type.fixed u8 0) "[]" (tree.list tree.no_trees) (value.fixed value.no_values)
no_items = ((lit< tt, ([], (_, refl, refl), refl, refl)), ([], refl, refl), ([], [], refl, refl, refl, refl))

flat_list : Row (type.option (type.fixed u8 1)) "[1]" (tree.list (trees (one_tree ∷ []))) (value.option (value.a_value (value.fixed (values (a_one ∷ [])))))
flat_list = (
  inr (_, (tt, (lit< tt, (_ ∷ [], (_, refl, (_, inner, inl refl)), refl, refl))), refl),
  (_ ∷ [], (_, (refl, refl), inl refl), refl),
  inr (_, (tt, (_ ∷ [], _ ∷ [], refl, refl, (_, _, given, refl, refl), refl)), refl),
)

-- no list of fewer or more items is one of this length
other_lengths : (count : ℕ) (ts : List Tree) (v : Value) → length ts ≢ count → TreeReads (type.fixed u8 count) (tree.list (trees ts)) v → ⊥
other_lengths count ts v other (us, vs, e, long, each, f) = other (ap length (trees-injective ts us (list_parts e)) ∙ long)
  where
    list_parts : {xs ys : tree.Trees} → tree.list xs ≡ tree.list ys → xs ≡ ys
    list_parts e = cc

a_pair : Row (type.tuple (type.type_and u8 (type.type_and u8 type.no_types))) "(1, 1)" (tree.tuple (trees (one_tree ∷ one_tree ∷ []))) (value.tuple (values (a_one ∷ a_one ∷ [])))
a_pair = ((lit< tt, (_, _, refl, (_, _, _, inner, (_, refl, (_, [], _, inner, (inl refl, refl), refl)), refl), refl)), (_ ∷ _ ∷ [], lit< tt, (_, (refl, refl), (_, _, refl, (refl, refl), inl refl)), refl), (_ ∷ _ ∷ [], _ ∷ _ ∷ [], refl, lit< tt, (_, _, _, _, refl, given, (_, _, _, _, refl, given, (refl, refl), refl), refl), refl))

-- flags stand in the type's order, in a tree in that of their names
flags : Row (type.flags (codes "c" ∷ codes "b" ∷ codes "a" ∷ [])) "{%b, a,}" (tree.flags (codes "a" ∷ codes "%b" ∷ [])) (value.flags (codes "b" ∷ codes "a" ∷ []))
flags = (
  (lit< tt, (codes "b" ∷ codes "a" ∷ [], (_, refl, (_, (_, refl, refl), (_, _, refl, (_, refl, refl), inr refl))), ((λ e. apart _ _ refl e, tt), (tt, tt)), (inr (inl refl), (inr (inr (inl refl)), tt)), refl)),
  inr (inr (inr (codes "%b" ∷ codes "a" ∷ [], lit< tt, (_, refl, (_, _, refl, refl, inr refl)), ((λ e. apart _ _ refl e, tt), (tt, tt)), refl))),
  (_, inr refl, (inr (inr (inl refl)), (inr (inl refl), tt)), refl),
)

-- an option may be left out of a record
some_fields : Row (type.record_type (type.field (codes "a") (type.option u8) (type.field (codes "b") u8 type.no_fields))) "{%b: 1}" (tree.entries (tree_entries ((label (codes "%b"), one_tree) ∷ []))) (value.record_value (field_values ((codes "a", value.option value.no_value) ∷ (codes "b", a_one) ∷ [])))
some_fields = (
  (lit< tt, ((codes "b", a_one) ∷ [], _, inr ((_, refl, (_, (codes "%b", _, refl, refl, inr (inl (refl, inner))), inl refl)), lit< tt), (tt, tt), (_, _, (tt, refl), (_, _, refl, refl, refl), refl), refl)),
  inr (inr (inl (_ ∷ [], lit< tt, (_, (_, refl, tt, (refl, refl)), inl refl), refl))),
  (_ ∷ [], (codes "b", a_one) ∷ [], _, inr (refl, lit< tt), (_, _, (codes "%b", refl, refl, inr (inl (refl, given))), refl, refl), (tt, tt), (_, _, (tt, refl), (_, _, refl, refl, refl), refl), refl),
)

no_fields : Row (type.record_type (type.field (codes "a") (type.option u8) type.no_fields)) "{:}" tree.no_fields (value.record_value (field_values ((codes "a", value.option value.no_value) ∷ [])))
no_fields = ((lit< tt, ([], _, inl (refl, refl), tt, (_, _, (tt, refl), refl, refl), refl)), inr (inl (refl, refl)), ([], [], _, inl (refl, refl), refl, tt, (_, _, (tt, refl), refl, refl), refl))

-- maps, and flags of no name
no_entries : Row (type.map type.string u8) "{:}" tree.no_fields (value.map value.no_entries) × Row (type.map type.string u8) "{}" tree.empty_braces (value.map value.no_entries) × TreeReads (type.flags []) tree.empty_braces (value.flags [])
no_entries = (((lit< tt, ([], inl (refl, refl), refl)), inr (inl (refl, refl)), ([], [], inl (inr refl, refl), refl, refl)), ((lit< tt, ([], inr (_, refl, refl), refl)), inl (refl, refl), ([], [], inl (inl refl, refl), refl, refl)), ([], inl (refl, refl), tt, refl))

an_entry : Row (type.map (type.whole type.u8) u8) "{1: 1}" (tree.entries (tree_entries ((one, one_tree) ∷ []))) (value.map (entries ((value.whole type.u8 (pos 1), a_one) ∷ [])))
an_entry = ((lit< tt, (_ ∷ [], inr (_, refl, (_, (_, _, refl, one_spells, inner), inl refl)), refl)), inr (inr (inl (_ ∷ [], lit< tt, (_, (_, refl, tt, (refl, refl)), inl refl), refl))), (_ ∷ [], _ ∷ [], inr (refl, lit< tt), (_, _, (one_spells, given), refl, refl), refl))

-- cases by their names, where a keyword has its `%`
a_name : Row (type.enum (codes "ok" ∷ [])) "%ok" (tree.label (codes "%ok") tree.no_tree) (value.enum (codes "ok"))
a_name = ((lit< tt, (_, (_, refl, refl, none_of keywords (codes "%ok") refl), inl refl, refl)), (_, inl (refl, (λ more e. cc), refl), refl), (codes "%ok", refl, inl refl, refl))

no_payload : Row (type.variant (type.case_of (codes "a") type.no_type type.no_cases)) "a" (tree.label (codes "a") tree.no_tree) (value.variant (codes "a") value.no_value)
no_payload = ((lit< tt, (_, _, _, (_, refl, refl, none_of keywords (codes "a") refl), inl (refl, (refl, refl)), refl)), (_, inl (refl, (λ more e. cc), refl), refl), (_, _, _, refl, inl (refl, (refl, refl)), refl))

a_payload : Row (type.variant (type.case_of (codes "a") type.no_type (type.case_of (codes "ok") (type.a_type u8) type.no_cases))) "%ok(1)" (tree.label (codes "%ok") (tree.a_tree one_tree)) (value.variant (codes "ok") (value.a_value a_one))
a_payload = ((lit< tt, (_, _, _, (_, refl, refl, none_of keywords (codes "%ok") refl), inr (inl (refl, (_, (_, refl, inner), refl))), refl)), (_, inr (one_tree, (_, refl, (refl, refl)), refl), refl), (codes "%ok", _, _, refl, inr (inl (refl, (one_tree, a_one, refl, given, refl))), refl))

-- options and results, by a word and flat
options : Row (type.option u8) "none" tree.none (value.option value.no_value) × Row (type.option u8) "some(1)" (tree.some one_tree) (value.option (value.a_value a_one))
options = ((inl (lit< tt, inl (refl, refl)), (refl, refl), inl (inl (refl, refl))), (inl (lit< tt, inr (a_one, (_, refl, (_, refl, inner)), refl)), (one_tree, (_, refl, (refl, refl)), refl), inl (inr (one_tree, a_one, refl, given, refl))))

results : Row u8_or_err "ok(1)" (tree.ok (tree.a_tree one_tree)) (value.ok (value.a_value a_one)) × Row u8_or_err "err" (tree.err tree.no_tree) (value.err value.no_value)
results = ((inl (lit< tt, inl (_, (_, refl, (a_one, (_, refl, inner), refl)), refl)), (_, inr (one_tree, (_, refl, (refl, refl)), refl), refl), inl (inl (_, _, refl, (one_tree, a_one, refl, given, refl), refl))), (inl (lit< tt, inr (_, (_, refl, (refl, refl)), refl)), (_, inl (refl, (λ more e. cc), refl), refl), inl (inr (_, _, refl, (refl, refl), refl))))

flat : Row (type.option u8) "1" one_tree (value.option (value.a_value a_one)) × Row u8_or_err "1" one_tree (value.ok (value.a_value a_one))
flat = ((inr (a_one, (tt, one_reads 2 _ (lit< tt)), refl), (refl, refl), inr (a_one, (tt, given), refl)), (inr (a_one, (tt, one_reads 2 _ (lit< tt)), refl), (refl, refl), inr (a_one, (tt, given), refl)))

-- no tokens are a tuple of no types, or of a type that is not read
none : (n : ℕ) (tokens rest : List Token) (v : Value) → (Reads (type.tuple type.no_types) n tokens v rest → ⊥) × (Reads (type.unreadable type.f64) n tokens v rest → ⊥)
none n tokens rest v = ((λ h. h.1.3), (λ h. h))

-- other leaves, before a `(`
leaves : (rest : List Token) → Takes 1 (char (codes "'x'") ∷ rest) (tree.one (char (codes "'x'"))) rest × Takes 1 (string (codes "\"x\"") ∷ rest) (tree.one (string (codes "\"x\""))) rest
    × Takes 1 (multiline (codes "\"\"\"x\"\"\"") ∷ rest) (tree.one (multiline (codes "\"\"\"x\"\"\""))) rest × Takes 1 (label (codes "true") ∷ rest) (tree.one (label (codes "true"))) rest
leaves rest = ((refl, refl), (refl, refl), (refl, refl), (refl, refl))

-- what a label is where a value is expected; in byte order capitals stand before small letters, `-` before digits, and a prefix before what is longer, and `%` doesn't count
labels : (map word_of (codes "true" ∷ codes "none" ∷ codes "some" ∷ codes "ok" ∷ codes "err" ∷ codes "%ok" ∷ []) ≡ leaf_word ∷ none_word ∷ some_word ∷ ok_word ∷ err_word ∷ case_word ∷ [])
    × (in_order (codes "b" ∷ codes "%a-1" ∷ codes "a2" ∷ codes "%a" ∷ codes "Z" ∷ []) ≡ codes "Z" ∷ codes "%a" ∷ codes "%a-1" ∷ codes "a2" ∷ codes "b" ∷ [])
labels = (refl, refl)

-- a tree and each thing that is no value in it is one level; beside one another the deepest counts
-- leaves and keys stand as in the source, flags lose their `%`, a label with a payload keeps it where it is a keyword, one alone keeps it always
levels_and_displays : (map levels (tree.flags (codes "a" ∷ []) ∷ tree.entries (tree_entries ((one, one_tree) ∷ [])) ∷ tree.label (codes "a") tree.no_tree ∷ tree.some (tree.ok (tree.a_tree tree.none)) ∷ tree.err tree.no_tree ∷ tree.empty_braces ∷ tree.no_fields
    ∷ tree.tuple (trees (one_tree ∷ tree.list (trees (tree.list tree.no_trees ∷ [])) ∷ one_tree ∷ [])) ∷ []) ≡ 1 ∷ 2 ∷ 1 ∷ 3 ∷ 1 ∷ 1 ∷ 1 ∷ 3 ∷ [])
    × (map display (tree.tuple (trees (one_tree ∷ tree.one (string (codes "\"\\u{61}\"")) ∷ [])) ∷ tree.list tree.no_trees ∷ tree.empty_braces ∷ tree.no_fields ∷ tree.entries (tree_entries ((label (codes "%a"), one_tree) ∷ (one, tree.none) ∷ []))
    ∷ tree.flags (codes "%a" ∷ codes "%true" ∷ []) ∷ tree.label (codes "%a") tree.no_tree ∷ tree.label (codes "%a") (tree.a_tree one_tree) ∷ tree.label (codes "%ok") (tree.a_tree one_tree) ∷ tree.some one_tree ∷ tree.ok tree.no_tree ∷ tree.err (tree.a_tree one_tree) ∷ [])
    ≡ map codes ("(1, \"\\u{61}\")" ∷ "[]" ∷ "{}" ∷ "{:}" ∷ "{%a: 1, 1: none}" ∷ "{a, true}" ∷ "%a" ∷ "a(1)" ∷ "%ok(1)" ∷ "some(1)" ∷ "ok" ∷ "err(1)" ∷ []))
    × (display_call (codes "f") tree.no_tree ≡ codes "f()") × (display_call (codes "a:b/c.d@1.0.0") (tree.a_tree (tree.tuple (trees (one_tree ∷ tree.none ∷ [])))) ≡ codes "a:b/c.d@1.0.0(1, none)")
levels_and_displays = (refl, refl, refl, refl)

-- the tree of parameters; none at no type and at an option, one and an option left out, two
params : SpellsParams 100 (tokens "(1,)") (tree.a_tree (tree.tuple (trees (one_tree ∷ []))))
    × Params [] (tokens "()") [] × Params (type.option u8 ∷ []) (tokens "()") (value.option value.no_value ∷ []) × Params (u8 ∷ type.option u8 ∷ []) (tokens "(1)") (a_one ∷ value.option value.no_value ∷ []) × Params (u8 ∷ u8 ∷ []) (tokens "(1, 1,)") (a_one ∷ a_one ∷ [])
params = (inr (_, one_tree ∷ [], refl, lit< tt, (_, (refl, refl), inr refl), refl), (refl, refl), inl (refl, (_, tt, refl, refl)), inr (1, _, _, _, _, refl, inner, inl (inl refl, (_, tt, refl, refl)), refl), inr (1, _, _, _, _, refl, inner, inr (1, _, _, _, _, refl, inner, (inr refl, refl), refl), refl))

-- spaces and a comment without text are whitespace
a_text : Means u8 100 (codes " 1//") a_one
a_text = (one ∷ [], (codes "//", (1, 1, longest_here whitespace _ _ refl refl refl refl, token_here _ 1 class.Number refl refl refl tt refl, refl, refl), longest_here whitespace _ _ refl refl refl refl), one_reads 100 [] (lit< tt))

-- a call with no value
a_call : IsCall (codes "f()") (codes "f") tree.no_tree
a_call = record { bytes = 1; tokens = tokens "()"; named = longest_here function_name _ _ refl refl refl refl; is = refl; cut = ([], in_parens, longest_here whitespace _ _ refl refl refl refl); spelled = inl (refl, refl) }
  where
    in_parens : Prefix (codes "()") (map lexeme_of (tokens "()")) []
    in_parens = (0, 1, longest_here whitespace _ _ refl refl refl refl, token_here _ 1 class.ParenOpen refl refl refl tt refl, refl, (0, 1, longest_here whitespace _ _ refl refl refl refl, token_here _ 1 class.ParenClose refl refl refl tt refl, refl, refl))

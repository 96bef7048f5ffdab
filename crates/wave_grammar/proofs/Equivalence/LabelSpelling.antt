-- Trees that differ only in how their labels are written have the same values.
use Rattle.std.proofs.Common.{◌≡◌, ℕ, suc, ◌<◌, List, [], ◌∷◌, inl, inr, refl, sym, ap, subst, ◌∙◌, map, length}
use Rattle.wave_wasm.specs.Names.{IsOneOf, AreAllOf, found_in}
use Rattle.wave_wasm.specs.Types as type
use Rattle.wave_wasm.specs.Types.{TypeTree, MaybeType, Types, Fields, Cases, Simple}
use Rattle.wave_wasm.specs.Values as value
use Rattle.wave_wasm.specs.Values.{Value, MaybeValue, Leaf}
use Rattle.wave_grammar.specs.Token.{Token}
use Rattle.wave_grammar.specs.LeafTokens.{Spells, name_of}
use Rattle.wave_grammar.specs.Tree.{Tree, MaybeTree, Trees, TreeEntries, one, tuple, list, empty_braces, no_fields, entries, flags, label, none, some, ok, err, no_tree, a_tree, no_trees, tree_and, no_entries, entry, trees, tree_entries}
use Rattle.wave_grammar.specs.TypedGrammar.{IsFlat}
use Rattle.wave_grammar.specs.Elaborates as m
use Rattle.wave_grammar.specs.Elaborates.{Meaning, Each, TreeReads, TreeReadsPayload, TreeReadsFlat, TreeReadsAll, TreeReadsField, TreeReadsCase}

-- the trees differ only in how their labels are written
abbrev mutual
  pub Alike : Tree → Tree → Type 0
  Alike (one a) (one b) = a ≡ b
  Alike (tuple ts) (tuple us) = AreAlike ts us
  Alike (list ts) (list us) = AreAlike ts us
  Alike empty_braces empty_braces = Unit {0}
  Alike no_fields no_fields = Unit {0}
  Alike (entries es) (entries fs) = EntriesAlike es fs
  Alike (flags xs) (flags ys) = map name_of xs ≡ map name_of ys
  Alike (label x p) (label y q) = (name_of x ≡ name_of y) × MaybeAlike p q
  Alike none none = Unit {0}
  Alike (some t) (some u) = Alike t u
  Alike (ok p) (ok q) = MaybeAlike p q
  Alike (err p) (err q) = MaybeAlike p q
  Alike _ _ = ⊥

  pub MaybeAlike : MaybeTree → MaybeTree → Type 0
  MaybeAlike no_tree no_tree = Unit {0}
  MaybeAlike (a_tree t) (a_tree u) = Alike t u
  MaybeAlike _ _ = ⊥

  pub AreAlike : Trees → Trees → Type 0
  AreAlike no_trees no_trees = Unit {0}
  AreAlike (tree_and t ts) (tree_and u us) = Alike t u × AreAlike ts us
  AreAlike _ _ = ⊥

  pub EntriesAlike : TreeEntries → TreeEntries → Type 0
  EntriesAlike no_entries no_entries = Unit {0}
  EntriesAlike (entry k t es) (entry l u fs) = (k ≡ l) × Alike t u × EntriesAlike es fs
  EntriesAlike _ _ = ⊥

mutual
  -- trees are alike both ways
  pub alike_back : (t u : Tree) → Alike t u → Alike u t
  alike_back (one a) (one b) h = sym h
  alike_back (tuple ts) (tuple us) h = are_alike_back ts us h
  alike_back (list ts) (list us) h = are_alike_back ts us h
  alike_back empty_braces empty_braces h = tt
  alike_back no_fields no_fields h = tt
  alike_back (entries es) (entries fs) h = entries_alike_back es fs h
  alike_back (flags xs) (flags ys) h = sym h
  alike_back (label x p) (label y q) h = (sym h.0, maybe_alike_back p q h.1)
  alike_back none none h = tt
  alike_back (some t) (some u) h = alike_back t u h
  alike_back (ok p) (ok q) h = maybe_alike_back p q h
  alike_back (err p) (err q) h = maybe_alike_back p q h
  alike_back _ _ h = absurd h

  maybe_alike_back : (p q : MaybeTree) → MaybeAlike p q → MaybeAlike q p
  maybe_alike_back no_tree no_tree h = tt
  maybe_alike_back (a_tree t) (a_tree u) h = alike_back t u h
  maybe_alike_back _ _ h = absurd h

  are_alike_back : (ts us : Trees) → AreAlike ts us → AreAlike us ts
  are_alike_back no_trees no_trees h = tt
  are_alike_back (tree_and t ts) (tree_and u us) h = (alike_back t u h.0, are_alike_back ts us h.1)
  are_alike_back _ _ h = absurd h

  entries_alike_back : (es fs : TreeEntries) → EntriesAlike es fs → EntriesAlike fs es
  entries_alike_back no_entries no_entries h = tt
  entries_alike_back (entry k t es) (entry l u fs) h = (sym h.0, alike_back t u h.1, entries_alike_back es fs h.2)
  entries_alike_back _ _ h = absurd h

-- ---- what is alike to each form

alike_one : (a : Token) (u : Tree) → Alike (one a) u → u ≡ one a
alike_one a (one b) h = ap one (sym h)
alike_one a _ h = absurd h

alike_tuple : (ts : Trees) (u : Tree) → Alike (tuple ts) u → (us : Trees) × (u ≡ tuple us) × AreAlike ts us
alike_tuple ts (tuple us) h = (us, refl, h)
alike_tuple ts _ h = absurd h

alike_list : (ts : Trees) (u : Tree) → Alike (list ts) u → (us : Trees) × (u ≡ list us) × AreAlike ts us
alike_list ts (list us) h = (us, refl, h)
alike_list ts _ h = absurd h

alike_empty : (u : Tree) → Alike empty_braces u → u ≡ empty_braces
alike_empty empty_braces h = refl
alike_empty _ h = absurd h

alike_no_fields : (u : Tree) → Alike no_fields u → u ≡ no_fields
alike_no_fields no_fields h = refl
alike_no_fields _ h = absurd h

alike_entries : (es : TreeEntries) (u : Tree) → Alike (entries es) u → (fs : TreeEntries) × (u ≡ entries fs) × EntriesAlike es fs
alike_entries es (entries fs) h = (fs, refl, h)
alike_entries es _ h = absurd h

alike_flags : (xs : List (List ℕ)) (u : Tree) → Alike (flags xs) u → (ys : List (List ℕ)) × (u ≡ flags ys) × (map name_of xs ≡ map name_of ys)
alike_flags xs (flags ys) h = (ys, refl, h)
alike_flags xs _ h = absurd h

alike_label : (x : List ℕ) (p : MaybeTree) (u : Tree) → Alike (label x p) u → (y : List ℕ) × (q : MaybeTree) × (u ≡ label y q) × (name_of x ≡ name_of y) × MaybeAlike p q
alike_label x p (label y q) h = (y, q, refl, h.0, h.1)
alike_label x p _ h = absurd h

alike_none : (u : Tree) → Alike none u → u ≡ none
alike_none none h = refl
alike_none _ h = absurd h

alike_some : (t u : Tree) → Alike (some t) u → (w : Tree) × (u ≡ some w) × Alike t w
alike_some t (some w) h = (w, refl, h)
alike_some t _ h = absurd h

alike_ok : (p : MaybeTree) (u : Tree) → Alike (ok p) u → (q : MaybeTree) × (u ≡ ok q) × MaybeAlike p q
alike_ok p (ok q) h = (q, refl, h)
alike_ok p _ h = absurd h

alike_err : (p : MaybeTree) (u : Tree) → Alike (err p) u → (q : MaybeTree) × (u ≡ err q) × MaybeAlike p q
alike_err p (err q) h = (q, refl, h)
alike_err p _ h = absurd h

alike_bare : (q : MaybeTree) → MaybeAlike no_tree q → q ≡ no_tree
alike_bare no_tree h = refl
alike_bare _ h = absurd h

alike_payload : (t : Tree) (q : MaybeTree) → MaybeAlike (a_tree t) q → (u : Tree) × (q ≡ a_tree u) × Alike t u
alike_payload t (a_tree u) h = (u, refl, h)
alike_payload t _ h = absurd h

-- lists of trees that are alike
abbrev pub AllAlike : List Tree → List Tree → Type 0
AllAlike [] [] = Unit {0}
AllAlike (t ∷ ts) (u ∷ us) = Alike t u × AllAlike ts us
AllAlike _ _ = ⊥

alike_trees : (ts : List Tree) (us : Trees) → AreAlike (trees ts) us → (ws : List Tree) × (us ≡ trees ws) × AllAlike ts ws
alike_trees [] no_trees h = ([], refl, tt)
alike_trees (t ∷ ts) (tree_and u us) h = let (ws, e, k) = alike_trees ts us h.1 in (u ∷ ws, ap (tree_and u) e, (h.0, k))
alike_trees _ _ h = absurd h

-- entries of the same keys, whose values are alike
abbrev pub AllEntriesAlike : List (Token × Tree) → List (Token × Tree) → Type 0
AllEntriesAlike [] [] = Unit {0}
AllEntriesAlike (e ∷ es) (f ∷ fs) = (e.0 ≡ f.0) × Alike e.1 f.1 × AllEntriesAlike es fs
AllEntriesAlike _ _ = ⊥

alike_tree_entries : (es : List (Token × Tree)) (fs : TreeEntries) → EntriesAlike (tree_entries es) fs → (ws : List (Token × Tree)) × (fs ≡ tree_entries ws) × AllEntriesAlike es ws
alike_tree_entries [] no_entries h = ([], refl, tt)
alike_tree_entries (e ∷ es) (entry k u fs) h = let (ws, g, l) = alike_tree_entries es fs h.2 in ((k, u) ∷ ws, ap (entry k u) g, (h.0, h.1, l))
alike_tree_entries _ _ h = absurd h

-- ---- what an alike tree means

-- what a tree means, each alike tree means
abbrev pub Carries : {A : Type 0} → Meaning Tree A → Type 0
Carries {A} Mean = (t u : Tree) (a : A) → Alike t u → Mean t a → Mean u a

abbrev pub CarriesMaybe : Meaning MaybeTree MaybeValue → Type 0
CarriesMaybe Mean = (p q : MaybeTree) (a : MaybeValue) → MaybeAlike p q → Mean p a → Mean q a

abbrev pub CarriesAll : Meaning (List Tree) (List Value) → Type 0
CarriesAll Mean = (ts us : List Tree) (vs : List Value) → AllAlike ts us → Mean ts vs → Mean us vs

each_carried : (Inner : Meaning Tree Value) → Carries Inner → (ts us : List Tree) (vs : List Value) → AllAlike ts us → Each Inner ts vs → Each Inner us vs
each_carried Inner carries [] [] vs h each = each
each_carried Inner carries (t ∷ ts) (u ∷ us) vs h (v, more, read, others, e) = (v, more, carries t u v h.0 read, each_carried Inner carries ts us more h.1 others, e)
each_carried Inner carries _ _ vs h each = absurd h

as_long : (ts us : List Tree) → AllAlike ts us → length ts ≡ length us
as_long [] [] h = refl
as_long (t ∷ ts) (u ∷ us) h = ap (λ (n : ℕ). suc n) (as_long ts us h.1)
as_long _ _ h = absurd h

as_many_entries : (es fs : List (Token × Tree)) → AllEntriesAlike es fs → length es ≡ length fs
as_many_entries [] [] h = refl
as_many_entries (e ∷ es) (f ∷ fs) h = ap (λ (n : ℕ). suc n) (as_many_entries es fs h.2)
as_many_entries _ _ h = absurd h

simple_carries : (S : Simple) → Carries (m.SimpleTree S)
simple_carries S t u v h (token, leaf, e, spelled, f) = (token, leaf, alike_one token u (subst (λ (w : Tree). Alike w u) e h), spelled, f)

list_carries : (Inner : Meaning Tree Value) → Carries Inner → Carries (m.ListTree Inner)
list_carries Inner carries t u v h (ts, vs, e, each, f) =
    let (us, is, k) = alike_list (trees ts) u (subst (λ (w : Tree). Alike w u) e h) in
    let (ws, are, l) = alike_trees ts us k in
    (ws, vs, is ∙ ap list are, each_carried Inner carries ts ws vs l each, f)

fixed_carries : (count : ℕ) (Inner : Meaning Tree Value) → Carries Inner → Carries (m.FixedListTree count Inner)
fixed_carries count Inner carries t u v h (ts, vs, e, long, each, f) =
    let (us, is, k) = alike_list (trees ts) u (subst (λ (w : Tree). Alike w u) e h) in
    let (ws, are, l) = alike_trees ts us k in
    (ws, vs, is ∙ ap list are, sym (as_long ts ws l) ∙ long, each_carried Inner carries ts ws vs l each, f)

tuple_carries : (Inner : Meaning (List Tree) (List Value)) → CarriesAll Inner → Carries (m.TupleTree Inner)
tuple_carries Inner carries t u v h (ts, vs, e, some_items, read, f) =
    let (us, is, k) = alike_tuple (trees ts) u (subst (λ (w : Tree). Alike w u) e h) in
    let (ws, are, l) = alike_trees ts us k in
    (ws, vs, is ∙ ap tuple are, subst (λ (n : ℕ). 0 < n) (as_long ts ws l) some_items, carries ts ws vs l read, f)

named_carried : {A : Type 0} (Inner : List ℕ → Meaning Tree A) → ((name : List ℕ) → Carries (Inner name)) → (es fs : List (Token × Tree)) (found : List (List ℕ × A)) → AllEntriesAlike es fs → Each (m.NamedTree Inner) es found → Each (m.NamedTree Inner) fs found
named_carried Inner carries [] [] found h each = each
named_carried Inner carries (e ∷ es) (f ∷ fs) found h (a, more, (text, is, name, read), others, g) =
    (a, more, (text, sym h.0 ∙ is, name, carries a.0 e.1 f.1 a.1 h.1 read), named_carried Inner carries es fs more h.2 others, g)
named_carried Inner carries _ _ found h each = absurd h

keyed_carried : {A : Type 0} (key : Simple) (Inner : Meaning Tree A) → Carries Inner → (es fs : List (Token × Tree)) (found : List (Leaf × A)) → AllEntriesAlike es fs → Each (m.KeyedTree key Inner) es found → Each (m.KeyedTree key Inner) fs found
keyed_carried key Inner carries [] [] found h each = each
keyed_carried key Inner carries (e ∷ es) (f ∷ fs) found h (a, more, (spelled, read), others, g) =
    (a, more, (subst (λ (t : Token). Spells key t a.0) h.0 spelled, carries e.1 f.1 a.1 h.1 read), keyed_carried key Inner carries es fs more h.2 others, g)
keyed_carried key Inner carries _ _ found h each = absurd h

-- the entries of an alike tree
entries_carried : (es : List (Token × Tree)) (t u : Tree) → Alike t u → t ≡ entries (tree_entries es) → (ws : List (Token × Tree)) × (u ≡ entries (tree_entries ws)) × AllEntriesAlike es ws
entries_carried es t u h e =
    let (fs, is, k) = alike_entries (tree_entries es) u (subst (λ (w : Tree). Alike w u) e h) in
    let (ws, are, l) = alike_tree_entries es fs k in
    (ws, is ∙ ap entries are, l)

record_carries : (fs : Fields) (Inner : List ℕ → Meaning Tree Value) → ((name : List ℕ) → Carries (Inner name)) → Carries (m.RecordTree fs Inner)
record_carries fs Inner carries t u v h (es, found, all, inl (e, none_there), each, d, fills, f) =
    (es, found, all, inl (alike_no_fields u (subst (λ (w : Tree). Alike w u) e h), none_there), each, d, fills, f)
record_carries fs Inner carries t u v h (es, found, all, inr (e, some_there), each, d, fills, f) =
    let (ws, is, k) = entries_carried es t u h e in
    (ws, found, all, inr (is, subst (λ (n : ℕ). 0 < n) (as_many_entries es ws k) some_there), named_carried Inner carries es ws found k each, d, fills, f)

flags_carries : (names : List (List ℕ)) → Carries (m.FlagsTree names)
flags_carries names t u v h (texts, inl (e, none_there), are, f) = (texts, inl (alike_empty u (subst (λ (w : Tree). Alike w u) e h), none_there), are, f)
flags_carries names t u v h (texts, inr e, are, f) =
    let (ys, is, same) = alike_flags texts u (subst (λ (w : Tree). Alike w u) e h) in
    (ys, inr is, subst (AreAllOf names) same are, f ∙ ap (λ (xs : List (List ℕ)). value.flags (found_in xs names)) same)

map_carries : (key : Simple) (Inner : Meaning Tree Value) → Carries Inner → Carries (m.MapTree key Inner)
map_carries key Inner carries t u v h (es, pairs, inl (inl e, none_there), each, f) = (es, pairs, inl (inl (alike_empty u (subst (λ (w : Tree). Alike w u) e h)), none_there), each, f)
map_carries key Inner carries t u v h (es, pairs, inl (inr e, none_there), each, f) = (es, pairs, inl (inr (alike_no_fields u (subst (λ (w : Tree). Alike w u) e h)), none_there), each, f)
map_carries key Inner carries t u v h (es, pairs, inr (e, some_there), each, f) =
    let (ws, is, k) = entries_carried es t u h e in
    (ws, pairs, inr (is, subst (λ (n : ℕ). 0 < n) (as_many_entries es ws k) some_there), keyed_carried key Inner carries es ws pairs k each, f)

variant_carries : (Inner : List ℕ → Meaning MaybeTree MaybeValue) → ((name : List ℕ) → CarriesMaybe (Inner name)) → Carries (m.VariantTree Inner)
variant_carries Inner carries t u v h (text, inner, payload, e, read, f) =
    let (y, q, is, same, k) = alike_label text inner u (subst (λ (w : Tree). Alike w u) e h) in
    (y, q, payload, is, subst (λ (name : List ℕ). Inner name q payload) same (carries (name_of text) inner q payload k read), f ∙ ap (λ (name : List ℕ). value.variant name payload) same)

enum_carries : (names : List (List ℕ)) → Carries (m.EnumTree names)
enum_carries names t u v h (text, e, is_case, f) =
    let (y, q, is, same, k) = alike_label text no_tree u (subst (λ (w : Tree). Alike w u) e h) in
    (y, is ∙ ap (label y) (alike_bare q k), subst (IsOneOf names) same is_case, f ∙ ap value.enum same)

option_carries : (Inner : Meaning Tree Value) → Carries Inner → Carries (m.OptionTree Inner)
option_carries Inner carries t u v h (inl (e, f)) = inl (alike_none u (subst (λ (w : Tree). Alike w u) e h), f)
option_carries Inner carries t u v h (inr (inner, w, e, read, f)) =
    let (x, is, k) = alike_some inner u (subst (λ (y : Tree). Alike y u) e h) in inr (x, w, is, carries inner x w k read, f)

result_carries : (Ok Err : Meaning MaybeTree MaybeValue) → CarriesMaybe Ok → CarriesMaybe Err → Carries (m.ResultTree Ok Err)
result_carries Ok Err first second t u v h (inl (inner, payload, e, read, f)) =
    let (q, is, k) = alike_ok inner u (subst (λ (y : Tree). Alike y u) e h) in inl (q, payload, is, first inner q payload k read, f)
result_carries Ok Err first second t u v h (inr (inner, payload, e, read, f)) =
    let (q, is, k) = alike_err inner u (subst (λ (y : Tree). Alike y u) e h) in inr (q, payload, is, second inner q payload k read, f)

bare_carries : CarriesMaybe m.BareTree
bare_carries p q a h (e, f) = (alike_bare q (subst (λ (y : MaybeTree). MaybeAlike y q) e h), f)

payload_carries : (Inner : Meaning Tree Value) → Carries Inner → CarriesMaybe (m.PayloadTree Inner)
payload_carries Inner carries p q a h (inner, w, e, read, f) =
    let (u, is, k) = alike_payload inner q (subst (λ (y : MaybeTree). MaybeAlike y q) e h) in (u, w, is, carries inner u w k read, f)

no_more_carries : CarriesAll m.NoMore
no_more_carries [] [] vs h (e, f) = (refl, f)
no_more_carries [] (u ∷ us) vs h (e, f) = absurd h
no_more_carries (t ∷ ts) us vs h (e, f) = absurd (cc)

one_more_carries : (Inner : Meaning Tree Value) (More : Meaning (List Tree) (List Value)) → Carries Inner → CarriesAll More → CarriesAll (m.OneMore Inner More)
one_more_carries Inner More first more [] us vs h (t, others, w, ws, e, read, rest, f) = absurd (cc)
one_more_carries Inner More first more (s ∷ ss) [] vs h (t, others, w, ws, e, read, rest, f) = absurd h
one_more_carries Inner More first more (s ∷ ss) (u ∷ us) vs h (t, others, w, ws, e, read, rest, f) =
    (u, us, w, ws, refl, first s u w h.0 (subst (λ (y : Tree). Inner y w) (sym (head s t ss others e)) read), more ss us ws h.1 (subst (λ (ys : List Tree). More ys ws) (sym (tail s t ss others e)) rest), f)
  where
    head : (a b : Tree) (xs ys : List Tree) → a ∷ xs ≡ b ∷ ys → a ≡ b
    head a b xs ys e = cc

    tail : (a b : Tree) (xs ys : List Tree) → a ∷ xs ≡ b ∷ ys → xs ≡ ys
    tail a b xs ys e = cc

or_carries : (P Q : Meaning Tree Value) → Carries P → Carries Q → Carries (m.Or P Q)
or_carries P Q p q t u v h (inl read) = inl (p t u v h read)
or_carries P Q p q t u v h (inr read) = inr (q t u v h read)

if_carries : (Holds : Type 0) (Inner : Meaning Tree Value) → Carries Inner → Carries (m.If Holds Inner)
if_carries Holds Inner inner t u v h (holds, read) = (holds, inner t u v h read)

stands_carries : (wrap : Value → Value) (Inner : Meaning Tree Value) → Carries Inner → Carries (m.StandsTree wrap Inner)
stands_carries wrap Inner inner t u v h (w, read, f) = (w, inner t u w h read, f)

mutual
  -- what a type reads from a tree it reads from each alike tree
  pub carries : (T : TypeTree) → Carries (TreeReads T)
  carries (type.simple S) = simple_carries S
  carries (type.unreadable kind) = λ t u v h read. read
  carries (type.list E) = list_carries (TreeReads E) (carries E)
  carries (type.fixed E count) = fixed_carries count (TreeReads E) (carries E)
  carries (type.record_type fs) = record_carries fs (TreeReadsField fs) (carries_field fs)
  carries (type.tuple types) = tuple_carries (TreeReadsAll types) (carries_all types)
  carries (type.variant cases) = variant_carries (TreeReadsCase cases) (carries_case cases)
  carries (type.enum names) = enum_carries names
  carries (type.option P) =
      or_carries (m.OptionTree (TreeReads P)) (m.StandsTree (λ w. value.option (value.a_value w)) (m.If (IsFlat P) (TreeReads P))) (option_carries (TreeReads P) (carries P))
      (stands_carries (λ w. value.option (value.a_value w)) (m.If (IsFlat P) (TreeReads P)) (if_carries (IsFlat P) (TreeReads P) (carries P)))
  carries (type.result A B) =
      or_carries (m.ResultTree (TreeReadsPayload A) (TreeReadsPayload B)) (m.StandsTree (λ w. value.ok (value.a_value w)) (TreeReadsFlat A))
      (result_carries (TreeReadsPayload A) (TreeReadsPayload B) (carries_payload A) (carries_payload B)) (stands_carries (λ w. value.ok (value.a_value w)) (TreeReadsFlat A) (carries_flat A))
  carries (type.flags names) = flags_carries names
  carries (type.map K V) = map_carries K (TreeReads V) (carries V)

  carries_payload : (A : MaybeType) → CarriesMaybe (TreeReadsPayload A)
  carries_payload type.no_type = bare_carries
  carries_payload (type.a_type T) = payload_carries (TreeReads T) (carries T)

  carries_flat : (A : MaybeType) → Carries (TreeReadsFlat A)
  carries_flat type.no_type = λ t u v h read. read
  carries_flat (type.a_type T) = if_carries (IsFlat T) (TreeReads T) (carries T)

  pub carries_all : (Ts : Types) → CarriesAll (TreeReadsAll Ts)
  carries_all type.no_types = no_more_carries
  carries_all (type.type_and T more) = one_more_carries (TreeReads T) (TreeReadsAll more) (carries T) (carries_all more)

  carries_field : (fs : Fields) (name : List ℕ) → Carries (TreeReadsField fs name)
  carries_field type.no_fields name t u v h read = read
  carries_field (type.field other T more) name t u v h (inl (e, read)) = inl (e, carries T t u v h read)
  carries_field (type.field other T more) name t u v h (inr read) = inr (carries_field more name t u v h read)

  carries_case : (cs : Cases) (name : List ℕ) → CarriesMaybe (TreeReadsCase cs name)
  carries_case type.no_cases name p q a h read = read
  carries_case (type.case_of other T more) name p q a h (inl (e, read)) = inl (e, carries_payload T p q a h read)
  carries_case (type.case_of other T more) name p q a h (inr read) = inr (carries_case more name p q a h read)

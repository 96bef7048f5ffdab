-- The flags of a map stand in the order of their names.
use Rattle.std.proofs.Common.{◌≡◌, ℕ, List, [], ◌∷◌, Bool, true, false, refl, sym, ap, ◌∙◌, Bor, map}
use Rattle.std.specs.Prelude.{if◌then◌else◌}
use Rattle.std.specs.Cmp.Lexicographic.{slice_cmp}
use Rattle.std.specs.Ordering.{nat_cmp, is_lt, match_ordering}
use Rattle.std.specs.declared.cmp.Ordering.{Ordering}
use Rattle.std.specs.declared.cmp.Ordering.TheVariants.{Less, Equal, Greater}
use Rattle.std.specs.BTreeMap.{insert_entry}
use Rattle.wave_wasm.specs.Names.{IsNoneOf}
use Rattle.wave_wasm.specs.Lists.{AllOf}
use Rattle.wave_grammar.specs.LeafTokens.{name_of}
use Rattle.wave_grammar.specs.SpannedTree.{slice}
use Rattle.wave_grammar.specs.Tree.{is_before}
use Rattle.std.specs.declared.ops.Range.{Range}
use Rattle.wave_grammar.specs.FlagOrder.{Flag, flag_name, put_flag, flags_in_order}
use Rattle.wave_grammar.specs.FlagParts.{label_at}
use Rattle.wave_node.specs.FlagNodes.{flag_node}
use Rattle.wave_grammar.proofs.NodeMeaning.FlagOrder.{before_is, equal_names}

-- an entry's name and place
abbrev pub entry_of : Bor (List ℕ) × Range ℕ → List ℕ × Range ℕ
entry_of e = (e.0.now, e.1)

-- a flag's name and place
abbrev pub named_place : Flag → List ℕ × Range ℕ
named_place f = (flag_name f, f.0)

put_entry : (o : Ordering) (b : Bool) (k : Bor (List ℕ)) (v : Range ℕ) (e : Bor (List ℕ) × Range ℕ) (es more : List (Bor (List ℕ) × Range ℕ)) (f g : Flag) (gs others : List Flag) → b ≡ is_lt o → (o ≡ Equal → ⊥) →
    (k.now, v) ≡ named_place f → entry_of e ≡ named_place g → map entry_of es ≡ map named_place gs → map entry_of more ≡ map named_place others →
    map entry_of (match_ordering o ((k, v) ∷ e ∷ es) ((e.0, v) ∷ es) (e ∷ more)) ≡ map named_place (if b then f ∷ g ∷ gs else g ∷ others)
put_entry Less b k v e es more f g gs others h n p q r s = two p q r ∙ ap (λ z. map named_place (if z then f ∷ g ∷ gs else g ∷ others)) (sym h)
  where
    two : {a c x y : List ℕ × Range ℕ} {as' bs : List (List ℕ × Range ℕ)} → a ≡ c → x ≡ y → as' ≡ bs → a ∷ x ∷ as' ≡ c ∷ y ∷ bs
    two d e f = λ i. d i ∷ e i ∷ f i
put_entry Equal b k v e es more f g gs others h n p q r s = absurd (n refl)
put_entry Greater b k v e es more f g gs others h n p q r s = one q s ∙ ap (λ z. map named_place (if z then f ∷ g ∷ gs else g ∷ others)) (sym h)
  where
    one : {x y : List ℕ × Range ℕ} {as' bs : List (List ℕ × Range ℕ)} → x ≡ y → as' ≡ bs → x ∷ as' ≡ y ∷ bs
    one e f = λ i. e i ∷ f i

same_heads : {x y : List ℕ × Range ℕ} {as' bs : List (List ℕ × Range ℕ)} → x ∷ as' ≡ y ∷ bs → (x ≡ y) × (as' ≡ bs)
same_heads e = (cc, cc)

-- a flag of a new name among the entries
pub insert_flag : (k : Bor (List ℕ)) (v : Range ℕ) (es : List (Bor (List ℕ) × Range ℕ)) (f : Flag) (gs : List Flag) → (k.now, v) ≡ named_place f → map entry_of es ≡ map named_place gs → IsNoneOf (map flag_name gs) (flag_name f) →
    map entry_of (insert_entry (λ a b. slice_cmp nat_cmp a.now b.now) es k v) ≡ map named_place (put_flag f gs)
insert_flag k v [] f [] p r n = λ i. p i ∷ []
insert_flag k v [] f (g ∷ gs) p r n = absurd (let wrong : [] ≡ named_place g ∷ map named_place gs = r in cc)
insert_flag k v (e ∷ es) f [] p r n = absurd (let wrong : entry_of e ∷ map entry_of es ≡ [] = r in cc)
insert_flag k v (e ∷ es) f (g ∷ gs) p r (m, n) =
    let (q, s) = same_heads r in
    let key : k.now ≡ flag_name f = ap (λ (z : List ℕ × Range ℕ). z.0) p in
    let other : e.0.now ≡ flag_name g = ap (λ (z : List ℕ × Range ℕ). z.0) q in
    put_entry (slice_cmp nat_cmp k.now e.0.now) (is_before (flag_name f) (flag_name g)) k v e es (insert_entry (λ a b. slice_cmp nat_cmp a.now b.now) es k v) f g gs (put_flag f gs)
    (before_is (flag_name f) (flag_name g) ∙ (ap (λ z. is_lt (slice_cmp nat_cmp z (flag_name g))) (sym key) ∙ ap (λ z. is_lt (slice_cmp nat_cmp k.now z)) (sym other)))
    (λ same. m (sym key ∙ (equal_names k.now e.0.now same ∙ other)))
    p q s (insert_flag k v es f gs p s n)

-- the nodes of the entries
pub nodes_of : (es : List (Bor (List ℕ) × Range ℕ)) (gs : List Flag) → map entry_of es ≡ map named_place gs → map label_at (map (λ e. e.1) es) ≡ map flag_node gs
nodes_of [] [] e = refl
nodes_of [] (g ∷ gs) e = absurd (let wrong : [] ≡ named_place g ∷ map named_place gs = e in cc)
nodes_of (x ∷ xs) [] e = absurd (let wrong : entry_of x ∷ map entry_of xs ≡ [] = e in cc)
nodes_of (x ∷ xs) (g ∷ gs) e =
    let (q, s) = same_heads e in
    let here : label_at x.1 ≡ flag_node g = ap (λ (z : List ℕ × Range ℕ). label_at z.1) q in
    ap (λ z. z ∷ map label_at (map (λ (e : Bor (List ℕ) × Range ℕ). e.1) xs)) here ∙ ap (λ z. flag_node g ∷ z) (nodes_of xs gs s)

-- the flag's text stands at its place
abbrev pub IsWritten : List ℕ → Flag → Type 0
IsWritten source f = f.1 ≡ slice source f.0

all_put : (source : List ℕ) (f : Flag) (gs : List Flag) → IsWritten source f → AllOf (IsWritten source) gs → AllOf (IsWritten source) (put_flag f gs)
all_put source f [] h k = (h, tt)
all_put source f (g ∷ gs) h k = by (is_before (flag_name f) (flag_name g)) (all_put source f gs h k.1)
  where
    by : (b : Bool) → AllOf (IsWritten source) (put_flag f gs) → AllOf (IsWritten source) (if b then f ∷ g ∷ gs else g ∷ put_flag f gs)
    by true more = (h, k)
    by false more = (k.0, more)

-- so do those in order
pub all_ordered : (source : List ℕ) (fs : List Flag) → AllOf (IsWritten source) fs → AllOf (IsWritten source) (flags_in_order fs)
all_ordered source [] h = tt
all_ordered source (f ∷ fs) h = all_put source f (flags_in_order fs) h.0 (all_ordered source fs h.1)

-- each entry is held by the name at its place
pub all_named : (source : List ℕ) (es : List (Bor (List ℕ) × Range ℕ)) (gs : List Flag) → map entry_of es ≡ map named_place gs → AllOf (IsWritten source) gs → AllOf (λ e. e.0.now ≡ name_of (slice source e.1)) es
all_named source [] gs r h = tt
all_named source (e ∷ es) [] r h = absurd (let wrong : entry_of e ∷ map entry_of es ≡ [] = r in cc)
all_named source (e ∷ es) (g ∷ gs) r h =
    let (q, s) = same_heads r in
    (ap (λ (z : List ℕ × Range ℕ). z.0) q ∙ (ap name_of h.0 ∙ ap (λ (z : List ℕ × Range ℕ). name_of (slice source z.1)) (sym q)), all_named source es gs s h.1)
